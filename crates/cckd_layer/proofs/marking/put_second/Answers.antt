use Rattle.cckd_shelf.specs.Seen.{seen}
use Rattle.cckd_shelf.proofs.FrameLemmas.{only_wrote, only_synced, only_twice}
use Rattle.cckd_layer.proofs.RemarkLemmas.{remark_stopped, remark_synced, remark_alone}
use Rattle.cckd_layer.proofs.marking.put_second.Goals as goal

pub returns-in_default-clause-others : goal.returns-in_default-clause-others
returns-in_default-clause-others g c =
    only_wrote c.args.slot 512 c.args.bytes.now (seen g.S.Shows c.args.shelf.now) (seen g.S.Shows c.write.new.self) c.write.result c.write.ensures.written c.write.ensures.torn

pub returns-in_default-clause-stopped : goal.returns-in_default-clause-stopped
returns-in_default-clause-stopped g c =
    remark_stopped c.args.slot c.args.bytes.now (seen g.S.Shows c.args.shelf.now) (seen g.S.Shows c.write.new.self) c.write.result c.requires c.write.ensures.written c.write.ensures.torn

pub returns-in_default-synced-clause-others : goal.returns-in_default-synced-clause-others
returns-in_default-synced-clause-others g c =
    only_twice c.args.slot (seen g.S.Shows c.args.shelf.now) (seen g.S.Shows c.write.new.self) (seen g.S.Shows c.sync-synced.new.self) (λ told. told)
    (only_wrote c.args.slot 512 c.args.bytes.now (seen g.S.Shows c.args.shelf.now) (seen g.S.Shows c.write.new.self) c.write.result c.write.ensures.written c.write.ensures.torn)
    (only_synced c.args.slot c.args.slot (seen g.S.Shows c.write.new.self) (seen g.S.Shows c.sync-synced.new.self) c.sync-synced.result c.sync-synced.ensures.synced c.sync-synced.ensures.kept)

pub returns-in_default-synced-clause-stopped : goal.returns-in_default-synced-clause-stopped
returns-in_default-synced-clause-stopped g c =
    remark_synced c.args.slot c.args.bytes.now (seen g.S.Shows c.args.shelf.now) (seen g.S.Shows c.write.new.self) (seen g.S.Shows c.sync-synced.new.self) c.write.result c.sync-synced.result (λ told. told) c.requires
    c.write.ensures.written c.write.ensures.torn c.sync-synced.ensures.synced c.sync-synced.ensures.kept

pub returns-clause-others : goal.returns-clause-others
returns-clause-others g c =
    only_twice c.args.slot (seen g.S.Shows c.args.shelf.now) (seen g.S.Shows c.write.new.self) (seen g.S.Shows c.sync-synced.new.self) (λ told. told)
    (only_wrote c.args.slot 512 c.args.bytes.now (seen g.S.Shows c.args.shelf.now) (seen g.S.Shows c.write.new.self) c.write.result c.write.ensures.written c.write.ensures.torn)
    (only_synced c.args.slot c.args.slot (seen g.S.Shows c.write.new.self) (seen g.S.Shows c.sync-synced.new.self) c.sync-synced.result c.sync-synced.ensures.synced c.sync-synced.ensures.kept)

pub returns-clause-stopped : goal.returns-clause-stopped
returns-clause-stopped g c =
    remark_synced c.args.slot c.args.bytes.now (seen g.S.Shows c.args.shelf.now) (seen g.S.Shows c.write.new.self) (seen g.S.Shows c.sync-synced.new.self) c.write.result c.sync-synced.result (λ told. told) c.requires
    c.write.ensures.written c.write.ensures.torn c.sync-synced.ensures.synced c.sync-synced.ensures.kept

pub returns-clause-alone : goal.returns-clause-alone
returns-clause-alone g c = λ told sure.
    remark_alone c.args.slot c.args.bytes.now (seen g.S.Shows c.args.shelf.now) (seen g.S.Shows c.write.new.self) (seen g.S.Shows c.sync-synced.new.self)
    (c.in-Ok.ensures.written told) (c.in-Ok-synced.ensures.synced told) sure

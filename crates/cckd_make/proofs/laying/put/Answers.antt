use Rattle.cckd_shelf.specs.Seen.{seen}
use Rattle.cckd_shelf.proofs.FrameLemmas.{only_wrote, only_synced, only_twice}
use Rattle.cckd_make.proofs.LayLemmas.{put_stopped, put_synced, put_left}
use Rattle.cckd_make.proofs.laying.put.Goals as goal

pub returns-in_default-clause-others : goal.returns-in_default-clause-others
returns-in_default-clause-others g c =
    only_wrote c.args.slot c.args.position c.args.bytes.now (seen g.S.Shows c.args.shelf.now) (seen g.S.Shows c.write.new.self) c.write.result c.write.ensures.written c.write.ensures.torn

pub returns-in_default-clause-stopped : goal.returns-in_default-clause-stopped
returns-in_default-clause-stopped g c =
    put_stopped c.args.slot c.args.position c.args.bytes.now (seen g.S.Shows c.args.shelf.now) (seen g.S.Shows c.write.new.self) c.write.result c.write.ensures.written c.write.ensures.torn

pub returns-in_default-synced-clause-others : goal.returns-in_default-synced-clause-others
returns-in_default-synced-clause-others g c =
    only_twice c.args.slot (seen g.S.Shows c.args.shelf.now) (seen g.S.Shows c.write.new.self) (seen g.S.Shows c.sync-synced.new.self) (λ told. told)
    (only_wrote c.args.slot c.args.position c.args.bytes.now (seen g.S.Shows c.args.shelf.now) (seen g.S.Shows c.write.new.self) c.write.result c.write.ensures.written c.write.ensures.torn)
    (only_synced c.args.slot c.args.slot (seen g.S.Shows c.write.new.self) (seen g.S.Shows c.sync-synced.new.self) c.sync-synced.result c.sync-synced.ensures.synced c.sync-synced.ensures.kept)

pub returns-in_default-synced-clause-stopped : goal.returns-in_default-synced-clause-stopped
returns-in_default-synced-clause-stopped g c =
    put_synced c.args.slot c.args.position c.args.bytes.now (seen g.S.Shows c.args.shelf.now) (seen g.S.Shows c.write.new.self) (seen g.S.Shows c.sync-synced.new.self) c.write.result c.sync-synced.result (λ told. told)
    c.write.ensures.written c.write.ensures.torn c.sync-synced.ensures.synced c.sync-synced.ensures.kept

pub returns-clause-others : goal.returns-clause-others
returns-clause-others g c =
    only_twice c.args.slot (seen g.S.Shows c.args.shelf.now) (seen g.S.Shows c.write.new.self) (seen g.S.Shows c.sync-synced.new.self) (λ told. told)
    (only_wrote c.args.slot c.args.position c.args.bytes.now (seen g.S.Shows c.args.shelf.now) (seen g.S.Shows c.write.new.self) c.write.result c.write.ensures.written c.write.ensures.torn)
    (only_synced c.args.slot c.args.slot (seen g.S.Shows c.write.new.self) (seen g.S.Shows c.sync-synced.new.self) c.sync-synced.result c.sync-synced.ensures.synced c.sync-synced.ensures.kept)

pub returns-clause-stopped : goal.returns-clause-stopped
returns-clause-stopped g c =
    put_synced c.args.slot c.args.position c.args.bytes.now (seen g.S.Shows c.args.shelf.now) (seen g.S.Shows c.write.new.self) (seen g.S.Shows c.sync-synced.new.self) c.write.result c.sync-synced.result (λ told. told)
    c.write.ensures.written c.write.ensures.torn c.sync-synced.ensures.synced c.sync-synced.ensures.kept

pub returns-clause-left : goal.returns-clause-left
returns-clause-left g c =
    put_left c.args.slot c.args.position c.args.bytes.now (seen g.S.Shows c.args.shelf.now) (seen g.S.Shows c.write.new.self) (seen g.S.Shows c.sync-synced.new.self) (λ told. told)
    c.in-Ok.ensures.written c.in-Ok-synced.ensures.synced

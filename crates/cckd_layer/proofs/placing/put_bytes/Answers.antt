use Rattle.cckd_shelf.specs.Seen.{seen}
use Rattle.cckd_shelf.proofs.FrameLemmas.{only_wrote}
use Rattle.cckd_layer.proofs.PutLemmas.{put_stopped, torn_at}
use Rattle.cckd_layer.proofs.placing.put_bytes.Goals as goal

pub returns-in_default-clause-made : goal.returns-in_default-clause-made
returns-in_default-clause-made g c =
    torn_at c.args.slot _ c.in-Ok.pos c.args.bytes.now (seen g.S.Shows c.args.shelf.now) (seen g.S.Shows c.write.new.self) c.in-Ok.ensures.placed c.in_default.ensures.torn

pub returns-in_default-clause-others : goal.returns-in_default-clause-others
returns-in_default-clause-others g c =
    only_wrote c.args.slot c.in-Ok.pos c.args.bytes.now (seen g.S.Shows c.args.shelf.now) (seen g.S.Shows c.write.new.self) c.write.result c.write.ensures.written c.write.ensures.torn

pub returns-in_default-clause-stopped : goal.returns-in_default-clause-stopped
returns-in_default-clause-stopped g c =
    put_stopped c.args.slot _ c.in-Ok.pos c.args.bytes.now (seen g.S.Shows c.args.shelf.now) (seen g.S.Shows c.write.new.self) c.write.result c.in-Ok.ensures.placed c.write.ensures.written c.write.ensures.torn

pub returns-clause-others : goal.returns-clause-others
returns-clause-others g c =
    only_wrote c.args.slot c.in-Ok.pos c.args.bytes.now (seen g.S.Shows c.args.shelf.now) (seen g.S.Shows c.write.new.self) c.write.result c.write.ensures.written c.write.ensures.torn

pub returns-clause-stopped : goal.returns-clause-stopped
returns-clause-stopped g c =
    put_stopped c.args.slot _ c.in-Ok.pos c.args.bytes.now (seen g.S.Shows c.args.shelf.now) (seen g.S.Shows c.write.new.self) c.write.result c.in-Ok.ensures.placed c.write.ensures.written c.write.ensures.torn

use Rattle.cckd_shelf.specs.World.{file_of}
use Rattle.cckd_check.proofs.FaultyLemmas.{too_long}
use Rattle.cckd_check.proofs.tracking.track_fault_in.Goals as goal

pub returns-then-max-space-clause-fault : goal.returns-then-max-space-clause-fault
returns-then-max-space-clause-fault g c = λ told sure.
    too_long c.args.geo.now c.args.t.0 (file_of (g.T.Shows.world c.args.stage.now) c.args.slot) c.args.space.now.pos c.args.space.now.len
    c.if-max-space.true (c.requires.bytes told sure)

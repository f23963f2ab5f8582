use Rattle.std.proofs.Common.{take, ◌∙◌}
use Rattle.cckd_shelf.specs.World.{file_of}
use Rattle.cckd_base.specs.Track.{home_fault}
use Rattle.cckd_check.proofs.FaultyLemmas.{home_read, told_is}
use Rattle.cckd_check.proofs.tracking.home_fault_in.Goals as goal

pub returns-in-Ok-clause-fault : goal.returns-in-Ok-clause-fault
returns-in-Ok-clause-fault g c = λ told sure.
    let front = take c.min-len.result c.read_front.new.buffer in
    home_read c.args.geo.now c.args.t.0 (file_of (g.T.Shows.world c.args.stage.now) c.args.slot) front c.args.space.now.pos c.args.space.now.len c.min-len.result
    c.fault_told.result c.min-len.ensures (c.in-Ok.ensures.bytes told sure)
    (c.fault_told.ensures ∙ told_is c.check_home.result (home_fault c.args.geo.now c.args.t.0 front) c.check_home.ensures)

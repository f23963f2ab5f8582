use Rattle.std.proofs.Common.{ap, length, arith}
use Rattle.cckd_layer.proofs.PieceLemmas.{no_fewer}
use Rattle.cckd_layer.proofs.mounting.plan.Goals as goal

pub returns-in-Ok-clause-room : goal.returns-in-Ok-clause-room
returns-in-Ok-clause-room c =
    let fewer = no_fewer 0 c.args.used.now c.args.size in
    let pieces = ap length c.in-Ok.ensures.plan.pieces in
    omega (arith, fewer, pieces, c.in-Ok.ensures.plan.spare_is, c.saturating_sub-spare.ensures, c.reserve.ensures)

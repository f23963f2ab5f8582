use Rattle.std.proofs.Common.{◌≤◌, max, drop}
use Rattle.cckd_space.specs.Pieces.{largest}
use Rattle.cckd_space.specs.Blocks.{whole}
use Rattle.cckd_space.proofs.order.bound_in.Given as goal

abbrev pub invariant-loop-block : goal.invariant-loop-block
invariant-loop-block l = largest (whole l.blocks) ≤ max l.most (largest (whole (drop l.block-index l.blocks)))

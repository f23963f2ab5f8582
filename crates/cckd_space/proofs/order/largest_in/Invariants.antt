use Rattle.std.proofs.Common.{◌≡◌, max, drop}
use Rattle.cckd_space.specs.Pieces.{largest}
use Rattle.cckd_space.specs.Blocks.{whole}
use Rattle.cckd_space.proofs.order.largest_in.Given as goal

abbrev pub invariant-loop-block : goal.invariant-loop-block
invariant-loop-block l = max l.most (largest (whole (drop l.block-index l.blocks))) ≡ largest (whole l.blocks)

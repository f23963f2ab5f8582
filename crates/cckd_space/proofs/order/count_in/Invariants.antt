use Rattle.std.proofs.Common.{◌≡◌, ◌+◌, length, drop}
use Rattle.cckd_space.specs.Blocks.{whole}
use Rattle.cckd_space.proofs.order.count_in.Given as goal

abbrev pub invariant-loop-block : goal.invariant-loop-block
invariant-loop-block l = l.count + length (whole (drop l.block-index l.blocks)) ≡ length (whole l.blocks)

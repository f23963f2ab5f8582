use Rattle.std.proofs.Common.{◌≡◌, drop}
use Rattle.cckd_space.specs.Pieces.{first, is_roomy_from}
use Rattle.cckd_space.specs.Blocks.{whole}
use Rattle.cckd_space.proofs.order.first_roomy.Given as goal

abbrev pub invariant-loop-block : goal.invariant-loop-block
invariant-loop-block l = first (is_roomy_from l.from) (whole (drop l.block-index l.blocks)) ≡ first (is_roomy_from l.from) (whole l.blocks)

use Rattle.std.proofs.Common.{◌≡◌, ◌<◌, length, drop}
use Rattle.std.specs.Prelude.{slice_get}
use Rattle.cckd_space.specs.Blocks.{whole}
use Rattle.cckd_space.proofs.order.piece_in.Given as goal

abbrev pub invariant-loop-block : goal.invariant-loop-block
invariant-loop-block l = record {
  within : l.left < length (whole (drop l.block-index l.blocks));
  same : slice_get (whole l.blocks) l.number ≡ slice_get (whole (drop l.block-index l.blocks)) l.left;
}

use Rattle.std.proofs.Common.{◌≡◌, ◌+◌, max, drop}
use Rattle.cckd_space.specs.Pieces.{counted, greatest, is_roomy, roomy_len, summed, used_len}
use Rattle.cckd_space.specs.Blocks.{whole}
use Rattle.cckd_space.proofs.order.add_up_in.Given as goal

abbrev pub invariant-loop-block : goal.invariant-loop-block
invariant-loop-block l = record {
  used : l.sums.used + summed used_len (whole (drop l.block-index l.blocks)) ≡ summed used_len (whole l.blocks);
  total : l.sums.total + summed roomy_len (whole (drop l.block-index l.blocks)) ≡ summed roomy_len (whole l.blocks);
  largest : max l.sums.largest (greatest roomy_len (whole (drop l.block-index l.blocks))) ≡ greatest roomy_len (whole l.blocks);
  number : l.sums.number + counted is_roomy (whole (drop l.block-index l.blocks)) ≡ counted is_roomy (whole l.blocks);
}

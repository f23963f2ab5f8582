use Rattle.std.proofs.Common.{◌≡◌, ◌≤◌, length, vec_capacity}
use Rattle.cckd_shelf.specs.Seen.{seen}
use Rattle.cckd_stack.specs.Mounting.{HasMounted}
use Rattle.cckd_stack.proofs.mounting.mount_layers.Given as goal

abbrev pub invariant-loop-number : goal.invariant-loop-number
invariant-loop-number g l = record {
  long : length l.layers.items ≡ l.number;
  room : 9 ≤ vec_capacity l.layers;
  mounted : HasMounted l.limit l.shape (seen g.T.Shows l.fn.stage) (seen g.T.Shows l.stage) l.layers.items;
}

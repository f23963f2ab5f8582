use Rattle.std.proofs.Common.{◌≡◌, length}
use Rattle.cckd_frames.specs.Placed.{AreNumbered}
use Rattle.cckd_frames.proofs.nodes.Nodes.new.Given as goal

abbrev pub invariant-loop-number : goal.invariant-loop-number
invariant-loop-number l = record {
  at : l.row.at ≡ l.first.ptr;
  room : l.row.room ≡ l.fn.size;
  count : length l.row.items ≡ l.number;
  numbered : AreNumbered l.first l.number l.row.items;
}

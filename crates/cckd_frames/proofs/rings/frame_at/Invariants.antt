use Rattle.std.proofs.Common.{◌≡◌, ◌+◌, ◌*◌}
use Rattle.cckd_frames.specs.Placed.{IsNode, number_of}
use Rattle.cckd_frames.specs.Table.{nth_after}
use Rattle.cckd_frames.proofs.rings.frame_at.Given as goal

abbrev pub invariant-loop-left : goal.invariant-loop-left
invariant-loop-left l = record {
  node : IsNode l.nodes l.node.ptr;
  rest : nth_after l.nodes.words 0 (number_of l.nodes l.node.ptr) l.left ≡ nth_after l.nodes.words 0 (2 * l.count) (l.fn.place + 1);
}

abbrev pub decreases-loop-left : goal.decreases-loop-left
decreases-loop-left l = l.left

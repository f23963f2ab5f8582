use Rattle.std.proofs.Common.{◌≡◌}
use Rattle.cckd_frames.specs.Nodes.{word, trail}
use Rattle.cckd_frames.specs.Placed.{IsNode, number_of}
use Rattle.cckd_frames.specs.Table.{node_with}
use Rattle.cckd_frames.proofs.rings.search.Given as goal

abbrev pub invariant-loop-left : goal.invariant-loop-left
invariant-loop-left l = record {
  node : IsNode l.nodes l.node.ptr;
  rest : node_with l.nodes.words l.key (trail l.nodes.words 2 (number_of l.nodes l.node.ptr) l.left)
      ≡ node_with l.nodes.words l.key (trail l.nodes.words 2 (number_of l.nodes l.fn.bucket.ptr) (word l.nodes.words 5 (number_of l.nodes l.fn.bucket.ptr)));
}

abbrev pub decreases-loop-left : goal.decreases-loop-left
decreases-loop-left l = l.left

use Rattle.cckd_space.proofs.MergeLemmas.{IsMerging}
use Rattle.cckd_space.proofs.editing.merge_slice.Given as goal

abbrev pub invariant-loop-at : goal.invariant-loop-at
invariant-loop-at l = IsMerging l.initial.pieces l.pieces l.at l.kept

abbrev pub decreases-loop-at : goal.decreases-loop-at
decreases-loop-at l = l.at

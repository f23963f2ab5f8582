use Rattle.cckd_shelf.specs.Seen.{seen}
use Rattle.cckd_stack.proofs.RowLemmas.{HasLooked}
use Rattle.cckd_stack.proofs.presence.row_above.Given as goal

abbrev pub invariant-loop-number : goal.invariant-loop-number
invariant-loop-number g l = HasLooked (seen g.T.Shows l.fn.stage) (seen g.T.Shows l.stage) l.number l.count

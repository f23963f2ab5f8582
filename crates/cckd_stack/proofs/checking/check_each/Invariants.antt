use Rattle.cckd_shelf.specs.Seen.{seen}
use Rattle.cckd_stack.proofs.CheckLemmas.{HasChecked}
use Rattle.cckd_stack.proofs.checking.check_each.Given as goal

abbrev pub invariant-loop-number : goal.invariant-loop-number
invariant-loop-number g l = HasChecked l.level l.geo l.fn.layers l.layers (seen g.T.Shows l.fn.stage) (seen g.T.Shows l.stage) l.bad l.number

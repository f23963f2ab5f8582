use Rattle.cckd_shelf.specs.Seen.{seen}
use Rattle.cckd_stack.proofs.CheckLemmas.{HasSifted}
use Rattle.cckd_stack.proofs.checking.check_layer.Given as goal

abbrev pub invariant-loop-number : goal.invariant-loop-number
invariant-loop-number g l = HasSifted l.level l.geo l.fn.layer l.layer (seen g.T.Shows l.fn.stage) (seen g.T.Shows l.stage) l.bad l.number

use Rattle.cckd_shelf.specs.Seen.{seen}
use Rattle.cckd_stack.proofs.CountedLemmas.{HasCounted}
use Rattle.cckd_stack.proofs.showing.count_each.Given as goal

abbrev pub invariant-loop-number : goal.invariant-loop-number
invariant-loop-number g l =
    HasCounted g.U.Unit.null_bytes l.geo l.fn.layers l.layers (seen g.T.Shows l.fn.stage) (seen g.T.Shows l.stage) l.counts l.number

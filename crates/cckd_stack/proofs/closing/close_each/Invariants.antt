use Rattle.std.proofs.Common.{◌-◌, length}
use Rattle.cckd_shelf.specs.Seen.{seen}
use Rattle.cckd_stack.proofs.CloseLemmas.{HasClosed}
use Rattle.cckd_stack.proofs.closing.close_each.Given as goal

abbrev pub invariant-loop-done : goal.invariant-loop-done
invariant-loop-done g l =
    HasClosed g.U.Unit.null_bytes l.geo l.fn.layers l.layers (seen g.T.Shows l.fn.stage) (seen g.T.Shows l.stage) (length l.fn.layers - l.done)

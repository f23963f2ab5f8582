use Rattle.std.proofs.Common.{◌-◌, length}
use Rattle.cckd_shelf.specs.Seen.{seen}
use Rattle.cckd_stack.proofs.DownLemmas.{HasAsked}
use Rattle.cckd_stack.proofs.reading.read_down.Given as goal

abbrev pub invariant-loop-done : goal.invariant-loop-done
invariant-loop-done g l =
    HasAsked g.U.Unit.null_bytes l.t.0 l.fn.layers l.layers (seen g.T.Shows l.fn.stage) (seen g.T.Shows l.stage) l.fn.out l.out (length l.fn.layers - l.done)

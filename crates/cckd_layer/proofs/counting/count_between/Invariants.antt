use Rattle.std.proofs.Common.{ℕ, List}
use Rattle.cckd_shelf.specs.Seen.{seen}
use Rattle.cckd_layer.specs.Held.{held}
use Rattle.cckd_layer.proofs.CountLemmas.{HasCounted}
use Rattle.cckd_layer.proofs.counting.count_between.Given as goal

abbrev pub invariant-loop-number : goal.invariant-loop-number
invariant-loop-number g l =
    HasCounted (λ (file : List ℕ). held g.U.Unit.null_bytes l.fn.tables.layout l.fn.tables.stages file) l.slot l.from l.fn.tables l.tables
    (seen g.T.Shows l.fn.stage) (seen g.T.Shows l.stage) l.number l.count

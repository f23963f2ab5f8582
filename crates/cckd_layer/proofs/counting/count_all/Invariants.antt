use Rattle.std.proofs.Common.{ℕ, List}
use Rattle.cckd_shelf.specs.Seen.{seen}
use Rattle.cckd_base.specs.Geometry.{track_count}
use Rattle.cckd_layer.specs.Held.{held}
use Rattle.cckd_layer.proofs.CountLemmas.{HasSummed}
use Rattle.cckd_layer.proofs.counting.count_all.Given as goal

abbrev pub invariant-loop-group : goal.invariant-loop-group
invariant-loop-group g l =
    HasSummed (λ (file : List ℕ). held g.U.Unit.null_bytes l.fn.tables.layout l.fn.tables.stages file) l.slot (track_count l.fn.tables.layout.geo) l.fn.tables l.tables
    (seen g.T.Shows l.fn.stage) (seen g.T.Shows l.stage) l.group l.count

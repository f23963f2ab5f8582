use Rattle.std.specs.Prelude.{T}
use Rattle.std.proofs.Common.{◌≡◌, length}
use Rattle.cckd_lines.proofs.FillLemmas.{IsPassing}
use Rattle.cckd_lines.proofs.lines.pass_line.Given as goal

abbrev pub invariant-loop-taken : goal.invariant-loop-taken
invariant-loop-taken g l =
    IsPassing (T g.T.Shows.tells) (g.T.Shows.world l.initial.stage) (g.T.Shows.world l.stage) (g.T.Shows.faults l.initial.stage)
    (g.T.Shows.faults l.stage) l.initial.place l.place × (length l.room ≡ length l.initial.room)

abbrev pub decreases-loop-taken : goal.decreases-loop-taken
decreases-loop-taken g l = l.place.left

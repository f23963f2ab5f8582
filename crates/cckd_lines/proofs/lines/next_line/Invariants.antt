use Rattle.std.specs.Prelude.{T}
use Rattle.std.proofs.Common.{◌≤◌, ◌+◌, ◌-◌, cond, take}
use Rattle.cckd_script.specs.Lines.{HasNoFeed}
use Rattle.cckd_lines.specs.Lines.{pending}
use Rattle.cckd_lines.proofs.FindLemmas.{IsFilling}
use Rattle.cckd_lines.proofs.lines.next_line.Given as goal

abbrev pub invariant-loop-at : goal.invariant-loop-at
invariant-loop-at g l =
    IsFilling (T g.T.Shows.tells) (g.T.Shows.world l.initial.stage) (g.T.Shows.world l.stage) (g.T.Shows.faults l.initial.stage)
    (g.T.Shows.faults l.stage) l.initial.place l.place l.initial.room l.room
    × (l.seen ≤ l.place.end - l.place.start) × HasNoFeed (take l.seen (pending l.room l.place))

abbrev pub decreases-loop-at : goal.decreases-loop-at
decreases-loop-at g l = l.place.left + cond l.place.ended 0 1

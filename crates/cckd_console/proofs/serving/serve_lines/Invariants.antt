use Rattle.cckd_lines.specs.Lines.{allowance}
use Rattle.cckd_console.proofs.ScriptSteps.{KeepsServed}
use Rattle.cckd_console.proofs.serving.serve_lines.Given as goal

abbrev pub invariant-loop-found : goal.invariant-loop-found
invariant-loop-found g l =
    KeepsServed g.T.Shows g.D.Disk l.limit l.fn.engine l.engine l.rooms.script l.place l.worst

abbrev pub decreases-loop-found : goal.decreases-loop-found
decreases-loop-found g l = allowance l.place

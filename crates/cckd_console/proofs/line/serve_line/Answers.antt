use Rattle.cckd_console.proofs.LineLemmas.{none_served}
use Rattle.cckd_console.proofs.line.serve_line.Goals as goal

pub returns-in-Ok-Nothing-clause-serves : goal.returns-in-Ok-Nothing-clause-serves
returns-in-Ok-Nothing-clause-serves g c =
    none_served g.T.Shows g.D.Disk c.args.engine.now _ 1 (rw c.in-Ok-Nothing.field-0-is at c.in-Ok-Nothing.ensures.asks) c.requires.heard

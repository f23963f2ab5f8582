use Rattle.std.proofs.Common.{ap}
use Rattle.cckd_console.specs.Script.{items_of_next}
use Rattle.cckd_console.proofs.LineLemmas.{none_served}
use Rattle.cckd_console.proofs.line.serve_next.Goals as goal

-- where a script ends nothing is served
pub returns-in-End-clause-serves : goal.returns-in-End-clause-serves
returns-in-End-clause-serves g c =
    none_served g.T.Shows g.D.Disk c.args.engine.now _ _ (ap (items_of_next c.args.script.now) c.in-End.is) c.requires.heard

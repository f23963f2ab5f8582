use Rattle.cckd_top.proofs.ServedLemmas.{run_served, run_short, run_stored}
use Rattle.cckd_top.proofs.OnlyLemmas.{run_only}
use Rattle.cckd_top.proofs.laws.runs_are_served.Goals as goal

pub returns-clause-served : goal.returns-clause-served
returns-clause-served c = run_served

pub returns-clause-short_of_memory : goal.returns-clause-short_of_memory
returns-clause-short_of_memory c = run_short

pub returns-clause-stored : goal.returns-clause-stored
returns-clause-stored c = run_stored

pub returns-clause-only : goal.returns-clause-only
returns-clause-only c = run_only

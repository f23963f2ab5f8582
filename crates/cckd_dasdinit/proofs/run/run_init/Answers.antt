use Rattle.cckd_dasdinit.proofs.ExplainedLemmas.{named_ends, wrong_ends}
use Rattle.cckd_dasdinit.proofs.run.run_init.Goals as goal

pub returns-in-Ok : goal.returns-in-Ok
returns-in-Ok g c = named_ends _ _ _ _ _ c.in-Ok.ensures.base c.make_named-status.ensures

pub returns-in-Err : goal.returns-in-Err
returns-in-Err g c = wrong_ends _ _ _ _ _ c.in-Err.ensures.base c.end_wrong-status.ensures.said c.end_wrong-status.ensures.puts

use Rattle.cckd_tables.proofs.PutRunLemmas.{IsRunPut}
use Rattle.cckd_tables.proofs.table.put_run.Given as goal

abbrev pub invariant-loop-staged : goal.invariant-loop-staged
invariant-loop-staged l = IsRunPut l.order l.run l.staged-index l.end l.into

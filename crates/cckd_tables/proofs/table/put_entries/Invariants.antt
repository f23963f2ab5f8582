use Rattle.cckd_tables.proofs.TableLemmas.{ArePut}
use Rattle.cckd_tables.proofs.table.put_entries.Given as goal

abbrev pub invariant-loop-staged : goal.invariant-loop-staged
invariant-loop-staged l = ArePut l.order l.group l.entries l.staged-index l.fn.table l.table

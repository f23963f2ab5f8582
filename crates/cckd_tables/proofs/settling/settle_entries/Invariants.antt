use Rattle.std.proofs.Common.{take}
use Rattle.cckd_tables.specs.Cached.{IsCache, tables_in}
use Rattle.cckd_tables.specs.Settling.{AreAllPutOver}
use Rattle.cckd_tables.proofs.settling.settle_entries.Given as goal

abbrev pub invariant-loop-staged : goal.invariant-loop-staged
invariant-loop-staged l = record {
  cache : IsCache l.cache;
  put : AreAllPutOver l.order (take l.staged-index l.entries) (tables_in l.fn.cache.entries) (tables_in l.cache.entries);
}

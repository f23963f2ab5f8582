use Rattle.std.proofs.Common.{sym}
use Rattle.cckd_memory.proofs.HistoryLemmas.{ops_kept}
use Rattle.cckd_memory.proofs.history.History.ops.Goals as goal

pub returns : goal.returns
returns c = rw (c.as_slice.ensures.value, ← c.self.view_is) (sym (ops_kept c.self.inside.notes.items c.self.inside.ops.items c.self.invariant.noted))

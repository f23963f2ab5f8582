use Rattle.cckd_memory.proofs.HistoryLemmas.{written_quiet, events_op}
use Rattle.cckd_memory.proofs.history.History.add.Goals as goal

pub invariant_of-self-2 : goal.invariant_of-self-2
invariant_of-self-2 c = rw (c.in_ok-push_both.ensures.notes, c.in_ok-push_both.ensures.ops) (written_quiet _ _ _ _ c.self.invariant c.requires)

pub returns-clause-added : goal.returns-clause-added
returns-clause-added c = rw (c.in_ok-push_both.ensures.notes, c.in_ok-push_both.ensures.ops, ← c.self.view_is) (events_op c.self.inside.notes.items c.self.inside.ops.items c.args.op c.self.invariant.noted)

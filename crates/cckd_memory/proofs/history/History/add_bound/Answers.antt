use Rattle.cckd_memory.proofs.HistoryLemmas.{written_bound, events_bound}
use Rattle.cckd_memory.proofs.history.History.add_bound.Goals as goal

pub invariant_of-self-2 : goal.invariant_of-self-2
invariant_of-self-2 c = rw c.in_ok-push.ensures.items (written_bound _ _ _ _ _ _ c.self.invariant)

pub returns-clause-added : goal.returns-clause-added
returns-clause-added c = rw (c.in_ok-push.ensures.items, ← c.self.view_is) (events_bound c.self.inside.notes.items c.self.inside.ops.items c.args.slot c.args.name c.args.bytes c.self.invariant.noted)

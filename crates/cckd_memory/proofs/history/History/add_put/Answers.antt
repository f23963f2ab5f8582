use Rattle.cckd_memory.specs.declared.op.Op.TheVariants.{Put}
use Rattle.cckd_memory.proofs.HistoryLemmas.{written_op, events_op}
use Rattle.cckd_memory.proofs.history.History.add_put.Goals as goal

pub invariant_of-self-in-Ok : goal.invariant_of-self-in-Ok
invariant_of-self-in-Ok c = rw (c.in-Ok.ensures.notes, c.in-Ok.ensures.ops, c.in_ok-add.ensures.added, c.get.ensures) (written_op _ _ _ (Put c.args.bytes) c.self.invariant)

pub returns-clause-added : goal.returns-clause-added
returns-clause-added c = rw (c.in-Ok.ensures.notes, c.in-Ok.ensures.ops, ← c.self.view_is) (events_op c.self.inside.notes.items c.self.inside.ops.items (Put c.args.bytes) c.self.invariant.noted)

use Rattle.cckd_memory.proofs.HistoryLemmas.{back_op, back_bound}
use Rattle.cckd_memory.proofs.pairs.pop_both.Goals as goal

pub returns-in-Some-Op : goal.returns-in-Some-Op
returns-in-Some-Op c = back_op _ _ _ _ c.pop-in-Some-Op.result _ c.args.ops.now.ok.0 c.requires (rw c.in-Some-Op.field-0-is at c.in-Some-Op.ensures.items) c.pop-in-Some-Op.ensures.items c.pop-in-Some-Op.ensures.variant

pub returns-in-Some-Bound : goal.returns-in-Some-Bound
returns-in-Some-Bound c = back_bound _ _ _ _ _ _ c.requires (rw c.in-Some-Bound.field-0-is at c.in-Some-Bound.ensures.items)

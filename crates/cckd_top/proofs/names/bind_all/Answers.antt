use Rattle.cckd_top.proofs.BindLemmas.{bound_none, bound_more, slot_is}
use Rattle.cckd_top.proofs.names.bind_all.Goals as goal

pub loop-number-init : goal.loop-number-init
loop-number-init g c = bound_none _ _ _ _

pub loop-number-preserved : goal.loop-number-preserved
loop-number-preserved g c =
    bound_more _ _ (g.T.Shows.world c.loop-number.stage) _ _ (g.T.Shows.faults c.loop-number.stage) _ _ c.loop-number.number c.unwrap-slot.result
    c.loop-number.invariant (slot_is c.new.result c.unwrap-slot.result _ c.new.ensures c.unwrap-slot.ensures)
    c.in_ok-bind.ensures.bound c.in_ok-bind.ensures.fails.still

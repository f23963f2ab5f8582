use Rattle.std.proofs.Common.{arith}
use Rattle.cckd_memory.proofs.ImageLemmas.{chosen_more, chosen_outcome}
use Rattle.cckd_memory.proofs.image.image_of.Goals as goal

pub loop-op-preserved : goal.loop-op-preserved
loop-op-preserved c =
    chosen_more c.args.choices.now c.get-at.result c.args.start.now c.args.ops.now c.loop-op.op-index c.op-item.result c.loop-op.held c.loop-op.left c.loop-op.rest.now
    c.hold.new.held c.leave.new.left c.rest_after-rest.result.now c.first_of-choice.result c.loop-op.invariant c.loop-op-test.true c.op-item.is
    c.first_of-choice.ensures c.in_ok-hold.ensures c.in_ok-leave.ensures c.rest_after-rest.ensures

pub returns-clause-outcome : goal.returns-clause-outcome
returns-clause-outcome c = rw c.into_vec.ensures
    (chosen_outcome c.args.choices.now c.args.slot c.get-at.result c.args.start.now c.args.ops.now c.loop-op.op-index c.loop-op.held c.loop-op.left c.loop-op.rest.now
    c.loop-op.invariant (omega (arith, c.loop-op-test.false)) c.get-at.ensures.value)

use Rattle.std.proofs.Common.{◌-◌, arith}
use Rattle.cckd_space.proofs.MergeLemmas.{small, step}
use Rattle.cckd_space.proofs.editing.merge_slice.Goals as goal

pub join_at-kept-requires-clause-sizes : goal.join_at-kept-requires-clause-sizes
join_at-kept-requires-clause-sizes c = λ d h.
    small c.args.pieces.now c.loop-at.pieces (c.loop-at.at - 1) c.loop-at.at c.loop-at.kept d c.loop-at.invariant (omega arith) h c.requires

pub loop-at-preserved : goal.loop-at-preserved
loop-at-preserved c =
    step c.args.pieces.now c.loop-at.pieces c.join_at-kept.new.pieces (c.loop-at.at - 1) c.loop-at.at c.loop-at.kept c.join_at-kept.result
    c.loop-at.invariant (omega arith) c.join_at-kept.ensures.begins c.join_at-kept.ensures.within (omega arith) c.join_at-kept.ensures.front c.join_at-kept.ensures.joined

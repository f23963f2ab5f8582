use Rattle.std.proofs.Common.{◌∙◌, ap, arith}
use Rattle.cckd_space.specs.Inside.{size_of}
use Rattle.cckd_space.specs.Blocks.{whole}
use Rattle.cckd_space.proofs.MergeLemmas.{size_of-merged}
use Rattle.cckd_space.proofs.BlockLemmas.{whole_merged}
use Rattle.cckd_space.proofs.border.merge_borders.Goals as goal

pub loop-at-smaller : goal.loop-at-smaller
loop-at-smaller c =
    let f = c.merge_border.ensures.fewer c.if-not-merge_border.false in
    omega (arith, f, c.merge_border.ensures.len, c.merge_border.ensures.within, c.loop-at.invariant.within)

pub loop-at-preserved : goal.loop-at-preserved
loop-at-preserved c =
    let a = size_of-merged (whole c.merge_border.new.blocks.items) in
    let b = size_of-merged (whole c.loop-at.blocks.items) in
    record {
      same = c.merge_border.ensures.same ∙ c.loop-at.invariant.same;
      sizes = omega (arith, a, b, ap size_of c.merge_border.ensures.same, c.loop-at.invariant.sizes);
      tidy = c.merge_border.ensures.tidy;
      within = omega (arith, c.merge_border.ensures.within);
      closed = c.merge_border.ensures.closed;
      total = omega (arith, c.merge_border.ensures.total, c.loop-at.invariant.total);
      room = c.merge_border.ensures.room;
      fit = λ full f. c.merge_border.ensures.fit full (c.loop-at.invariant.fit full f);
    }

pub loop-at-preserved-then-not-merge_border : goal.loop-at-preserved-then-not-merge_border
loop-at-preserved-then-not-merge_border c =
    let a = size_of-merged (whole c.merge_border.new.blocks.items) in
    let b = size_of-merged (whole c.loop-at.blocks.items) in
    record {
      same = c.merge_border.ensures.same ∙ c.loop-at.invariant.same;
      sizes = omega (arith, a, b, ap size_of c.merge_border.ensures.same, c.loop-at.invariant.sizes);
      tidy = c.merge_border.ensures.tidy;
      within = omega (arith, c.merge_border.ensures.within);
      closed = c.merge_border.ensures.more c.if-not-merge_border.true;
      total = omega (arith, c.merge_border.ensures.total, c.loop-at.invariant.total);
      room = c.merge_border.ensures.room;
      fit = λ full f. c.merge_border.ensures.fit full (c.loop-at.invariant.fit full f);
    }

pub returns-clause-items : goal.returns-clause-items
returns-clause-items c = whole_merged c.loop-at.blocks.items (whole c.args.blocks.now.items) c.loop-at.invariant.tidy (λ i l. c.loop-at.invariant.closed i (omega arith)) c.loop-at.invariant.same

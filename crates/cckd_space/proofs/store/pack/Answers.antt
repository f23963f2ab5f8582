use Rattle.std.proofs.Common.{◌+◌, ◌<◌, ◌≤◌, ◌++◌, [], ℕ, suc, List, length, slice_set, sym, ◌∙◌, ap, subst, arith, add-one}
use Rattle.std.specs.List.{remove}
use Rattle.std.proofs.lemmas.List.{get_or_read}
use Rattle.cckd_space.specs.declared.piece.Piece.{Piece}
use Rattle.cckd_space.specs.Blocks.{AreFit, block_at, IsDense, whole}
use Rattle.cckd_space.proofs.BlockLemmas.{dense_united, whole_united_at}
use Rattle.cckd_space.proofs.FitLemmas.{fit_united}
use Rattle.cckd_space.proofs.store.pack.Goals as goal

pub loop-at-preserved-then-count-full : goal.loop-at-preserved-then-count-full
loop-at-preserved-then-count-full c =
    let old = c.loop-at.blocks.items in
    let at = c.loop-at.at in
    let w : at + 1 < length old = omega arith in
    let a = ap length (get_or_read old at c.index.result.now (omega (arith, w)) c.index.ensures []) in
    let b = ap length (get_or_read old (at + 1) c.index-in-loop-at.result.now w c.index-in-loop-at.ensures []) in
    let n = c.count.ensures.count in
    let m = c.count-in-loop-at.ensures.count in
    let next = add-one at in
    let both : length (block_at old at) + length (block_at old (suc at)) ≤ c.args.full = subst (λ (k : ℕ). length (block_at old at) + length (block_at old k) ≤ c.args.full) next (omega (arith, a, b, n, m, c.if-count-full.true)) in
    let fit = fit_united c.args.full old at (omega (arith, w)) both c.loop-at.invariant.fit in
    record {
      same = ap whole c.unite.ensures.items ∙ (whole_united_at old at w ∙ c.loop-at.invariant.same);
      fit = subst (AreFit c.args.full) (sym (c.unite.ensures.items ∙ ap (λ (k : ℕ). slice_set (remove old k) at (block_at old at ++ block_at old k)) next)) fit;
      total = omega (arith, c.loop-at.invariant.total, c.unite.ensures.len, c.unite.ensures.store);
      room = c.unite.ensures.room;
      dense = subst (λ (bs : List (List Piece)). IsDense c.args.full at bs) (sym c.unite.ensures.items) (dense_united c.args.full old at w c.loop-at.invariant.dense);
    }

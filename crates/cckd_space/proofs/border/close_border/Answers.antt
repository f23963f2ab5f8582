use Rattle.std.proofs.Common.{◌≡◌, ℕ, suc, ◌+◌, ◌≤◌, [], List, drop, slice_set, sym, ◌∙◌, ap, subst, arith}
use Rattle.std.proofs.lemmas.List.{get_or_read, get_or-set_other, length-set}
use Rattle.cckd_space.specs.declared.piece.Piece.{Piece}
use Rattle.cckd_space.specs.Inside.{size_of}
use Rattle.cckd_space.specs.Blocks.{whole, block_at, ends_free, starts_free, first_size, grown}
use Rattle.cckd_space.proofs.BlockLemmas.{two_blocks_fit, border_closed}
use Rattle.cckd_space.proofs.border.close_border.Goals as goal

pub grow_end-requires-clause-sizes : goal.grow_end-requires-clause-sizes
grow_end-requires-clause-sizes c =
    let bs = c.args.blocks.now.items in
    let at = c.args.at in
    let a = get_or_read bs at c.index_mut.result.now (omega (arith, c.requires.within)) c.index_mut.ensures.value [] in
    let b = get_or_read bs (at + 1) c.index-2.result.now (omega (arith, c.requires.within)) c.index-2.ensures [] in
    let fit : size_of (block_at bs at) + first_size (block_at bs (at + 1)) ≤ size_of (whole bs) =
    let e : suc at ≡ at + 1 = omega arith in
    subst (λ (k : ℕ). size_of (block_at bs at) + first_size (block_at bs k) ≤ size_of (whole bs)) e (two_blocks_fit bs at (omega (arith, c.requires.within))) in
    let m = c.in-Some.ensures.some.1 in
    omega (arith, fit, ap size_of a, ap first_size b, m, c.requires.sizes)

pub returns-clause-same : goal.returns-clause-same
returns-clause-same c =
    let bs = c.args.blocks.now.items in
    let at = c.args.at in
    let a0 = get_or_read bs at c.index.result.now (omega (arith, c.requires.within)) c.index.ensures [] in
    let a = get_or_read bs at c.index_mut.result.now (omega (arith, c.requires.within)) c.index_mut.ensures.value [] in
    let b = get_or_read bs (at + 1) c.index-2.result.now (omega (arith, c.requires.within)) c.index-2.ensures [] in
    let cut = slice_set bs at c.grow_end.new.self in
    let n = length-set bs at c.grow_end.new.self in
    let b2 = get_or_read cut (at + 1) c.index_mut-2.result.now (omega (arith, n, c.requires.within)) c.index_mut-2.ensures.value [] ∙ get_or-set_other bs at (at + 1) c.grow_end.new.self [] (λ e. omega (arith, e)) in
    border_closed bs at c.in-Some.more c.grow_end.new.self c.drop_first.new.self (omega (arith, c.requires.within))
    (ap ends_free (sym a0) ∙ (sym c.ends_free.ensures ∙ c.if-not-ends_free.false))
    (ap starts_free (sym b) ∙ c.in-Some.ensures.some.0)
    (c.in-Some.ensures.some.1 ∙ ap first_size b)
    (c.grow_end.ensures ∙ ap (grown c.in-Some.more) a)
    (c.drop_first.ensures ∙ ap (drop 1) b2)

pub returns-clause-items : goal.returns-clause-items
returns-clause-items c =
    let bs = c.args.blocks.now.items in
    let at = c.args.at in
    let a = get_or_read bs at c.index_mut.result.now (omega (arith, c.requires.within)) c.index_mut.ensures.value [] in
    let b = get_or_read bs (at + 1) c.index-2.result.now (omega (arith, c.requires.within)) c.index-2.ensures [] in
    let cut = slice_set bs at c.grow_end.new.self in
    let n = length-set bs at c.grow_end.new.self in
    let b2 = get_or_read cut (at + 1) c.index_mut-2.result.now (omega (arith, n, c.requires.within)) c.index_mut-2.ensures.value [] ∙ get_or-set_other bs at (at + 1) c.grow_end.new.self [] (λ e. omega (arith, e)) in
    let p = c.grow_end.ensures ∙ (ap (grown c.in-Some.more) a ∙ ap (λ (m : ℕ). grown m (block_at bs at)) (c.in-Some.ensures.some.1 ∙ ap first_size b)) in
    let q = c.drop_first.ensures ∙ ap (drop 1) b2 in
    λ e. ap (λ (l : List Piece). slice_set (slice_set bs at l) (at + 1) c.drop_first.new.self) p
    ∙ ap (λ (l : List Piece). slice_set (slice_set bs at (grown (first_size (block_at bs (at + 1))) (block_at bs at))) (at + 1) l) q

use Rattle.std.proofs.Common.{◌≡◌, ℕ, List, [], ◌∷◌, length, sym, ◌∙◌, ap, subst, arith, IsSome, slice_set}
use Rattle.std.proofs.lemmas.List.{get_or_read}
use Rattle.cckd_space.specs.declared.piece.Piece.{Piece}
use Rattle.cckd_space.specs.Pieces.{first, is_used_at, left, replaced}
use Rattle.cckd_space.specs.Inside.{IsInOrder}
use Rattle.cckd_space.specs.Blocks.{IsFoundIn, StandsIn, block_at, whole}
use Rattle.cckd_space.proofs.SearchLemmas.{used_there}
use Rattle.cckd_space.proofs.BlockLemmas.{replaced_in}
use Rattle.cckd_space.proofs.OrderLemmas.{edited, found_stands, order_block, order_by_index, some_block, swapped_len}
use Rattle.cckd_space.proofs.FitLemmas.{fit_even}
use Rattle.cckd_space.proofs.order.leave_in.Goals as goal

found_is : (pos : ℕ) (bs l : List (List Piece)) (at : ℕ) → l ≡ bs → StandsIn pos l at → IsSome (first (is_used_at pos) (whole bs)) → IsFoundIn (is_used_at pos) bs at
found_is pos bs l at e s h = found_stands (is_used_at pos) pos (used_there pos) bs at (subst (λ (m : List (List Piece)). StandsIn pos m at) e s) h

pub block_index-at-requires-clause-some : goal.block_index-at-requires-clause-some
block_index-at-requires-clause-some c = let l = some_block (is_used_at c.args.pos) c.args.blocks.now.items c.requires.there in omega (arith, l)

pub leave-requires-clause-there : goal.leave-requires-clause-there
leave-requires-clause-there c =
    let test = is_used_at c.args.pos in
    let bs = c.args.blocks.now.items in
    let at = c.block_index-at.result in
    let f = found_is c.args.pos bs c.deref.result.now at c.deref.ensures.value c.block_index-at.ensures c.requires.there in
    let here = get_or_read bs at c.index_mut.result.now f.within c.index_mut.ensures.value [] in
    subst (λ (l : List Piece). IsSome (first test l)) (sym here) f.here

pub leave-requires-clause-order : goal.leave-requires-clause-order
leave-requires-clause-order c =
    let test = is_used_at c.args.pos in
    let bs = c.args.blocks.now.items in
    let at = c.block_index-at.result in
    let f = found_is c.args.pos bs c.deref.result.now at c.deref.ensures.value c.block_index-at.ensures c.requires.there in
    let here = get_or_read bs at c.index_mut.result.now f.within c.index_mut.ensures.value [] in
    subst IsInOrder (sym here) (order_by_index (block_at bs at) (order_block bs at f.within c.requires.order))

pub returns-clause-items : goal.returns-clause-items
returns-clause-items c =
    let test = is_used_at c.args.pos in
    let bs = c.args.blocks.now.items in
    let at = c.block_index-at.result in
    let f = found_is c.args.pos bs c.deref.result.now at c.deref.ensures.value c.block_index-at.ensures c.requires.there in
    let now = edited (replaced test (λ p. left p ∷ [])) bs at c.index_mut.result.now c.leave.new.self f.within c.index_mut.ensures.value c.leave.ensures in
    ap (λ (b : List Piece). whole (slice_set bs at b)) now ∙ replaced_in test (λ p. left p ∷ []) bs at f

pub returns-clause-fit : goal.returns-clause-fit
returns-clause-fit c =
    let test = is_used_at c.args.pos in
    let bs = c.args.blocks.now.items in
    let at = c.block_index-at.result in
    let f = found_is c.args.pos bs c.deref.result.now at c.deref.ensures.value c.block_index-at.ensures c.requires.there in
    let now = edited (replaced test (λ p. left p ∷ [])) bs at c.index_mut.result.now c.leave.new.self f.within c.index_mut.ensures.value c.leave.ensures in
    let long = swapped_len test (left) (block_at bs at) in
    fit_even bs at c.leave.new.self f.within (ap length now ∙ long)

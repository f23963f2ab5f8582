use Rattle.std.proofs.Common.{◌≡◌, ℕ, List, [], ◌∷◌, length, sym, ◌∙◌, ap, subst, arith, IsSome, slice_set}
use Rattle.std.proofs.lemmas.List.{get_or_read}
use Rattle.cckd_space.specs.declared.piece.Piece.{Piece}
use Rattle.cckd_space.specs.Pieces.{first, is_reserved_at, settled, replaced}
use Rattle.cckd_space.specs.Inside.{IsInOrder}
use Rattle.cckd_space.specs.Blocks.{IsFoundIn, StandsIn, block_at, whole}
use Rattle.cckd_space.proofs.SearchLemmas.{reserved_there}
use Rattle.cckd_space.proofs.BlockLemmas.{replaced_in}
use Rattle.cckd_space.proofs.OrderLemmas.{edited, found_stands, order_block, order_by_index, some_block, swapped_len}
use Rattle.cckd_space.proofs.FitLemmas.{fit_even}
use Rattle.cckd_space.proofs.order.settle_in.Goals as goal

found_is : (pos : ℕ) (bs l : List (List Piece)) (at : ℕ) → l ≡ bs → StandsIn pos l at → IsSome (first (is_reserved_at pos) (whole bs)) → IsFoundIn (is_reserved_at pos) bs at
found_is pos bs l at e s h = found_stands (is_reserved_at pos) pos (reserved_there pos) bs at (subst (λ (m : List (List Piece)). StandsIn pos m at) e s) h

pub block_index-at-requires-clause-some : goal.block_index-at-requires-clause-some
block_index-at-requires-clause-some c = let l = some_block (is_reserved_at c.args.pos) c.args.blocks.now.items c.requires.there in omega (arith, l)

pub settle-requires-clause-there : goal.settle-requires-clause-there
settle-requires-clause-there c =
    let test = is_reserved_at c.args.pos in
    let bs = c.args.blocks.now.items in
    let at = c.block_index-at.result in
    let f = found_is c.args.pos bs c.deref.result.now at c.deref.ensures.value c.block_index-at.ensures c.requires.there in
    let here = get_or_read bs at c.index_mut.result.now f.within c.index_mut.ensures.value [] in
    subst (λ (l : List Piece). IsSome (first test l)) (sym here) f.here

pub settle-requires-clause-order : goal.settle-requires-clause-order
settle-requires-clause-order c =
    let test = is_reserved_at c.args.pos in
    let bs = c.args.blocks.now.items in
    let at = c.block_index-at.result in
    let f = found_is c.args.pos bs c.deref.result.now at c.deref.ensures.value c.block_index-at.ensures c.requires.there in
    let here = get_or_read bs at c.index_mut.result.now f.within c.index_mut.ensures.value [] in
    subst IsInOrder (sym here) (order_by_index (block_at bs at) (order_block bs at f.within c.requires.order))

pub returns-clause-items : goal.returns-clause-items
returns-clause-items c =
    let test = is_reserved_at c.args.pos in
    let bs = c.args.blocks.now.items in
    let at = c.block_index-at.result in
    let f = found_is c.args.pos bs c.deref.result.now at c.deref.ensures.value c.block_index-at.ensures c.requires.there in
    let now = edited (replaced test (λ p. settled c.args.len c.args.owner p ∷ [])) bs at c.index_mut.result.now c.settle.new.self f.within c.index_mut.ensures.value c.settle.ensures in
    ap (λ (b : List Piece). whole (slice_set bs at b)) now ∙ replaced_in test (λ p. settled c.args.len c.args.owner p ∷ []) bs at f

pub returns-clause-fit : goal.returns-clause-fit
returns-clause-fit c =
    let test = is_reserved_at c.args.pos in
    let bs = c.args.blocks.now.items in
    let at = c.block_index-at.result in
    let f = found_is c.args.pos bs c.deref.result.now at c.deref.ensures.value c.block_index-at.ensures c.requires.there in
    let now = edited (replaced test (λ p. settled c.args.len c.args.owner p ∷ [])) bs at c.index_mut.result.now c.settle.new.self f.within c.index_mut.ensures.value c.settle.ensures in
    let long = swapped_len test (settled c.args.len c.args.owner) (block_at bs at) in
    fit_even bs at c.settle.new.self f.within (ap length now ∙ long)

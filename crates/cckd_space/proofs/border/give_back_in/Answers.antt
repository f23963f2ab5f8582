use Rattle.std.proofs.Common.{◌≡◌, ◌≤◌, ◌∷◌, [], ℕ, suc, IsSome, List, length, take, drop, slice_set, sym, ◌∙◌, ap, subst, arith}
use Rattle.std.proofs.lemmas.List.{get_or_read, length-take, length-take-le, take-set}
use Rattle.cckd_space.specs.declared.piece.Piece.{Piece}
use Rattle.cckd_space.specs.Pieces.{first, freed, is_reserved_at, largest, merged, replaced}
use Rattle.cckd_space.specs.Inside.{AreMerged, IsInOrder, size_of}
use Rattle.cckd_space.specs.Blocks.{IsFoundIn, StandsIn, block_at, knit, whole}
use Rattle.cckd_space.proofs.SearchLemmas.{reserved_there}
use Rattle.cckd_space.proofs.BlockLemmas.{merged_is_merged, size_at}
use Rattle.cckd_space.proofs.OrderLemmas.{edited, filled_at, found_stands, order_block, order_by_index, some_block}
use Rattle.cckd_space.proofs.FitLemmas.{stay_filled}
use Rattle.cckd_space.proofs.BackLemmas.{apart_behind, apart_here, before_joined, behind_joined, first_joined, freed_whole, given_fit, given_size, given_some, largest_set, size_joined, size_set}
use Rattle.cckd_space.proofs.border.give_back_in.Goals as goal

found_is : (pos : ℕ) (bs l : List (List Piece)) (at : ℕ) → l ≡ bs → StandsIn pos l at → IsSome (first (is_reserved_at pos) (whole bs)) → IsFoundIn (is_reserved_at pos) bs at
found_is pos bs l at e s h = found_stands (is_reserved_at pos) pos (reserved_there pos) bs at (subst (λ (m : List (List Piece)). StandsIn pos m at) e s) h

pub block_index-at-requires-clause-some : goal.block_index-at-requires-clause-some
block_index-at-requires-clause-some c = let l = some_block (is_reserved_at c.args.pos) c.args.blocks.now.items c.requires.there in omega (arith, l)

pub give_back-here-requires-clause-there : goal.give_back-here-requires-clause-there
give_back-here-requires-clause-there c =
    let test = is_reserved_at c.args.pos in
    let bs = c.args.blocks.now.items in
    let at = c.block_index-at.result in
    let f = found_is c.args.pos bs c.deref.result.now at c.deref.ensures.value c.block_index-at.ensures c.requires.there in
    let here = get_or_read bs at c.index_mut.result.now f.within c.index_mut.ensures.value [] in
    subst (λ (l : List Piece). IsSome (first test l)) (sym here) f.here

pub give_back-here-requires-clause-order : goal.give_back-here-requires-clause-order
give_back-here-requires-clause-order c =
    let test = is_reserved_at c.args.pos in
    let bs = c.args.blocks.now.items in
    let at = c.block_index-at.result in
    let f = found_is c.args.pos bs c.deref.result.now at c.deref.ensures.value c.block_index-at.ensures c.requires.there in
    let here = get_or_read bs at c.index_mut.result.now f.within c.index_mut.ensures.value [] in
    subst IsInOrder (sym here) (order_by_index (block_at bs at) (order_block bs at f.within c.requires.order))

pub give_back-here-requires-clause-apart : goal.give_back-here-requires-clause-apart
give_back-here-requires-clause-apart c =
    let test = is_reserved_at c.args.pos in
    let bs = c.args.blocks.now.items in
    let at = c.block_index-at.result in
    let f = found_is c.args.pos bs c.deref.result.now at c.deref.ensures.value c.block_index-at.ensures c.requires.there in
    let here = get_or_read bs at c.index_mut.result.now f.within c.index_mut.ensures.value [] in
    subst AreMerged (sym here) (apart_here bs at f.within c.requires.apart)

pub give_back-here-requires-clause-sizes : goal.give_back-here-requires-clause-sizes
give_back-here-requires-clause-sizes c =
    let test = is_reserved_at c.args.pos in
    let bs = c.args.blocks.now.items in
    let at = c.block_index-at.result in
    let f = found_is c.args.pos bs c.deref.result.now at c.deref.ensures.value c.block_index-at.ensures c.requires.there in
    let here = get_or_read bs at c.index_mut.result.now f.within c.index_mut.ensures.value [] in
    let s = size_at bs at [] f.within in
    omega (arith, s, ap size_of here, c.requires.sizes)

pub join_border-behind-requires-clause-filled : goal.join_border-behind-requires-clause-filled
join_border-behind-requires-clause-filled c =
    let test = is_reserved_at c.args.pos in
    let bs = c.args.blocks.now.items in
    let at = c.block_index-at.result in
    let f = found_is c.args.pos bs c.deref.result.now at c.deref.ensures.value c.block_index-at.ensures c.requires.there in
    let here = get_or_read bs at c.index_mut.result.now f.within c.index_mut.ensures.value [] in
    let b = c.give_back-here.new.self in
    let now = edited (λ (l : List Piece). merged (replaced test (λ p. freed p ∷ []) l)) bs at c.index_mut.result.now b f.within c.index_mut.ensures.value c.give_back-here.ensures.items in
    let some = given_some test (block_at bs at) (filled_at bs at [] c.requires.filled f.within) in
    let fit = given_fit bs at b f.within (omega (arith, some, ap length now)) (omega (arith, ap length here, c.give_back-here.ensures.len)) in
    stay_filled bs (slice_set bs at b) fit c.requires.filled

pub join_border-behind-requires-clause-sizes : goal.join_border-behind-requires-clause-sizes
join_border-behind-requires-clause-sizes c =
    let test = is_reserved_at c.args.pos in
    let bs = c.args.blocks.now.items in
    let at = c.block_index-at.result in
    let f = found_is c.args.pos bs c.deref.result.now at c.deref.ensures.value c.block_index-at.ensures c.requires.there in
    let here = get_or_read bs at c.index_mut.result.now f.within c.index_mut.ensures.value [] in
    let b = c.give_back-here.new.self in
    let now = edited (λ (l : List Piece). merged (replaced test (λ p. freed p ∷ []) l)) bs at c.index_mut.result.now b f.within c.index_mut.ensures.value c.give_back-here.ensures.items in
    let s = size_set bs at b f.within (ap size_of now ∙ given_size test (block_at bs at)) in
    omega (arith, s, c.requires.sizes)

pub returns-then-at-eq0-clause-items : goal.returns-then-at-eq0-clause-items
returns-then-at-eq0-clause-items c =
    let test = is_reserved_at c.args.pos in
    let bs = c.args.blocks.now.items in
    let at = c.block_index-at.result in
    let f = found_is c.args.pos bs c.deref.result.now at c.deref.ensures.value c.block_index-at.ensures c.requires.there in
    let here = get_or_read bs at c.index_mut.result.now f.within c.index_mut.ensures.value [] in
    let b = c.give_back-here.new.self in
    let now = edited (λ (l : List Piece). merged (replaced test (λ p. freed p ∷ []) l)) bs at c.index_mut.result.now b f.within c.index_mut.ensures.value c.give_back-here.ensures.items in
    let rest = whole (drop (suc at) bs) in
    c.join_border-behind.ensures.items
    ∙ (behind_joined bs at b f.within
    ∙ (first_joined bs at (knit b rest) c.if-at-eq0.true
    ∙ (ap (λ (l : List Piece). knit (whole (take at bs)) (knit l rest)) now ∙ sym (freed_whole test bs at f c.requires.apart))))

pub returns-then-at-eq0-clause-fit : goal.returns-then-at-eq0-clause-fit
returns-then-at-eq0-clause-fit c =
    let test = is_reserved_at c.args.pos in
    let bs = c.args.blocks.now.items in
    let at = c.block_index-at.result in
    let f = found_is c.args.pos bs c.deref.result.now at c.deref.ensures.value c.block_index-at.ensures c.requires.there in
    let here = get_or_read bs at c.index_mut.result.now f.within c.index_mut.ensures.value [] in
    let b = c.give_back-here.new.self in
    let now = edited (λ (l : List Piece). merged (replaced test (λ p. freed p ∷ []) l)) bs at c.index_mut.result.now b f.within c.index_mut.ensures.value c.give_back-here.ensures.items in
    let some = given_some test (block_at bs at) (filled_at bs at [] c.requires.filled f.within) in
    let fit = given_fit bs at b f.within (omega (arith, some, ap length now)) (omega (arith, ap length here, c.give_back-here.ensures.len)) in
    λ full g. c.join_border-behind.ensures.fit full (fit full g)

pub returns-then-at-eq0-clause-offers : goal.returns-then-at-eq0-clause-offers
returns-then-at-eq0-clause-offers c =
    let test = is_reserved_at c.args.pos in
    let bs = c.args.blocks.now.items in
    let at = c.block_index-at.result in
    let f = found_is c.args.pos bs c.deref.result.now at c.deref.ensures.value c.block_index-at.ensures c.requires.there in
    let here = get_or_read bs at c.index_mut.result.now f.within c.index_mut.ensures.value [] in
    let b = c.give_back-here.new.self in
    let now = edited (λ (l : List Piece). merged (replaced test (λ p. freed p ∷ []) l)) bs at c.index_mut.result.now b f.within c.index_mut.ensures.value c.give_back-here.ensures.items in
    let a = largest_set bs at b c.give_back-here.result f.within (omega (arith, ap largest here, c.give_back-here.ensures.offers)) in
    omega (arith, a, c.join_border-behind.ensures.offers, c.max.ensures)

pub join_border-before-requires-clause-filled : goal.join_border-before-requires-clause-filled
join_border-before-requires-clause-filled c =
    let test = is_reserved_at c.args.pos in
    let bs = c.args.blocks.now.items in
    let at = c.block_index-at.result in
    let f = found_is c.args.pos bs c.deref.result.now at c.deref.ensures.value c.block_index-at.ensures c.requires.there in
    let here = get_or_read bs at c.index_mut.result.now f.within c.index_mut.ensures.value [] in
    let b = c.give_back-here.new.self in
    let now = edited (λ (l : List Piece). merged (replaced test (λ p. freed p ∷ []) l)) bs at c.index_mut.result.now b f.within c.index_mut.ensures.value c.give_back-here.ensures.items in
    let some = given_some test (block_at bs at) (filled_at bs at [] c.requires.filled f.within) in
    let fit = given_fit bs at b f.within (omega (arith, some, ap length now)) (omega (arith, ap length here, c.give_back-here.ensures.len)) in
    stay_filled (slice_set bs at b) c.join_border-behind.new.blocks.items c.join_border-behind.ensures.fit (stay_filled bs (slice_set bs at b) fit c.requires.filled)

pub join_border-before-requires-clause-sizes : goal.join_border-before-requires-clause-sizes
join_border-before-requires-clause-sizes c =
    let test = is_reserved_at c.args.pos in
    let bs = c.args.blocks.now.items in
    let at = c.block_index-at.result in
    let f = found_is c.args.pos bs c.deref.result.now at c.deref.ensures.value c.block_index-at.ensures c.requires.there in
    let here = get_or_read bs at c.index_mut.result.now f.within c.index_mut.ensures.value [] in
    let b = c.give_back-here.new.self in
    let now = edited (λ (l : List Piece). merged (replaced test (λ p. freed p ∷ []) l)) bs at c.index_mut.result.now b f.within c.index_mut.ensures.value c.give_back-here.ensures.items in
    let merged_now : AreMerged b = subst AreMerged (sym now) (merged_is_merged (replaced test (λ p. freed p ∷ []) (block_at bs at))) in
    let s = size_joined bs at b (whole c.join_border-behind.new.blocks.items) f.within merged_now (apart_behind bs at f.within c.requires.apart) (ap size_of now ∙ given_size test (block_at bs at))
    (c.join_border-behind.ensures.items ∙ behind_joined bs at b f.within) in
    omega (arith, s, c.requires.sizes)

pub returns-clause-items : goal.returns-clause-items
returns-clause-items c =
    let test = is_reserved_at c.args.pos in
    let bs = c.args.blocks.now.items in
    let at = c.block_index-at.result in
    let f = found_is c.args.pos bs c.deref.result.now at c.deref.ensures.value c.block_index-at.ensures c.requires.there in
    let here = get_or_read bs at c.index_mut.result.now f.within c.index_mut.ensures.value [] in
    let b = c.give_back-here.new.self in
    let now = edited (λ (l : List Piece). merged (replaced test (λ p. freed p ∷ []) l)) bs at c.index_mut.result.now b f.within c.index_mut.ensures.value c.give_back-here.ensures.items in
    let some = given_some test (block_at bs at) (filled_at bs at [] c.requires.filled f.within) in
    let fit = given_fit bs at b f.within (omega (arith, some, ap length now)) (omega (arith, ap length here, c.give_back-here.ensures.len)) in
    let rest = whole (drop (suc at) bs) in
    let two = c.join_border-behind.new.blocks.items in
    let filled = stay_filled (slice_set bs at b) two c.join_border-behind.ensures.fit (stay_filled bs (slice_set bs at b) fit c.requires.filled) in
    let front = ap length (c.join_border-behind.ensures.front ∙ take-set bs at b) in
    let long : at ≤ length two = omega (arith, front, length-take at two, length-take-le at bs (omega (arith, f.within))) in
    c.join_border-before.ensures.items
    ∙ (before_joined bs two at (knit b rest) (omega (arith, c.if-at-eq0.false)) long filled (c.join_border-behind.ensures.front ∙ take-set bs at b) (c.join_border-behind.ensures.items ∙ behind_joined bs at b f.within)
    ∙ (ap (λ (l : List Piece). knit (whole (take at bs)) (knit l rest)) now ∙ sym (freed_whole test bs at f c.requires.apart)))

pub returns-clause-fit : goal.returns-clause-fit
returns-clause-fit c =
    let test = is_reserved_at c.args.pos in
    let bs = c.args.blocks.now.items in
    let at = c.block_index-at.result in
    let f = found_is c.args.pos bs c.deref.result.now at c.deref.ensures.value c.block_index-at.ensures c.requires.there in
    let here = get_or_read bs at c.index_mut.result.now f.within c.index_mut.ensures.value [] in
    let b = c.give_back-here.new.self in
    let now = edited (λ (l : List Piece). merged (replaced test (λ p. freed p ∷ []) l)) bs at c.index_mut.result.now b f.within c.index_mut.ensures.value c.give_back-here.ensures.items in
    let some = given_some test (block_at bs at) (filled_at bs at [] c.requires.filled f.within) in
    let fit = given_fit bs at b f.within (omega (arith, some, ap length now)) (omega (arith, ap length here, c.give_back-here.ensures.len)) in
    λ full g. c.join_border-before.ensures.fit full (c.join_border-behind.ensures.fit full (fit full g))

pub returns-clause-offers : goal.returns-clause-offers
returns-clause-offers c =
    let test = is_reserved_at c.args.pos in
    let bs = c.args.blocks.now.items in
    let at = c.block_index-at.result in
    let f = found_is c.args.pos bs c.deref.result.now at c.deref.ensures.value c.block_index-at.ensures c.requires.there in
    let here = get_or_read bs at c.index_mut.result.now f.within c.index_mut.ensures.value [] in
    let b = c.give_back-here.new.self in
    let now = edited (λ (l : List Piece). merged (replaced test (λ p. freed p ∷ []) l)) bs at c.index_mut.result.now b f.within c.index_mut.ensures.value c.give_back-here.ensures.items in
    let a = largest_set bs at b c.give_back-here.result f.within (omega (arith, ap largest here, c.give_back-here.ensures.offers)) in
    omega (arith, a, c.join_border-behind.ensures.offers, c.join_border-before.ensures.offers, c.max-2.ensures, c.max-3.ensures)

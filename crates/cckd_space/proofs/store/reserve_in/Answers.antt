use Rattle.std.proofs.Common.{◌+◌, ◌^◌, [], Option, List, length, slice_set, sym, ◌∙◌, ap, subst, arith}
use Rattle.std.specs.Option.{option_map}
use Rattle.std.proofs.lemmas.List.{get_or_read}
use Rattle.cckd_space.specs.declared.piece.Piece.{Piece}
use Rattle.cckd_space.specs.Pieces.{aligned_up, first, has_room, replaced, reserved_in}
use Rattle.cckd_space.specs.Inside.{EndsBelow}
use Rattle.cckd_space.specs.Blocks.{block_at, whole}
use Rattle.cckd_space.proofs.BlockLemmas.{ends_in, first_in, replaced_in}
use Rattle.cckd_space.proofs.OrderLemmas.{edited}
use Rattle.cckd_space.proofs.FitLemmas.{fit_at, fit_but, replaced_some}
use Rattle.cckd_space.proofs.store.reserve_in.Goals as goal

pub reserve-place-requires-clause-room : goal.reserve-place-requires-clause-room
reserve-place-requires-clause-room c =
    let bs = c.args.blocks.now.items in
    let same = ap length (get_or_read bs c.args.at c.index_mut.result.now c.requires.found.within c.index_mut.ensures.value []) in
    let few = (fit_at c.args.full bs c.args.at c.requires.found.within c.requires.fit).1 in
    omega (arith, same, few, c.requires.full)

pub reserve-place-requires-clause-ends : goal.reserve-place-requires-clause-ends
reserve-place-requires-clause-ends c =
    let bs = c.args.blocks.now.items in
    let same = get_or_read bs c.args.at c.index_mut.result.now c.requires.found.within c.index_mut.ensures.value [] in
    subst (λ (ps : List Piece). EndsBelow ps (2 ^ 32)) (sym same) (ends_in bs c.args.at (2 ^ 32) c.requires.found.within c.requires.ends)

pub cut_crowded-requires-clause-fit : goal.cut_crowded-requires-clause-fit
cut_crowded-requires-clause-fit c =
    let bs = c.args.blocks.now.items in
    let same = ap length (get_or_read bs c.args.at c.index_mut.result.now c.requires.found.within c.index_mut.ensures.value []) in
    let few = (fit_at c.args.full bs c.args.at c.requires.found.within c.requires.fit).1 in
    let some = replaced_some (has_room c.args.need) c.args.need (λ p e. e) (block_at bs c.args.at) (fit_at c.args.full bs c.args.at c.requires.found.within c.requires.fit).0 in
    let now = edited (replaced (has_room c.args.need) (reserved_in c.args.need)) c.args.blocks.now.items c.args.at c.index_mut.result.now c.reserve-place.new.self c.requires.found.within c.index_mut.ensures.value c.reserve-place.ensures.items in
    let long = ap length now in
    fit_but c.args.full 1 (c.args.full + 2) bs c.args.at c.reserve-place.new.self (omega (arith, some, long)) (omega (arith, same, few, c.reserve-place.ensures.len)) c.requires.fit

pub returns-clause-place : goal.returns-clause-place
returns-clause-place c =
    let test = has_room c.args.need in
    let bs = c.args.blocks.now.items in
    let same = get_or_read bs c.args.at c.index_mut.result.now c.requires.found.within c.index_mut.ensures.value [] in
    c.reserve-place.ensures.place ∙ ap (λ (o : Option Piece). option_map (λ p. aligned_up p.pos) o) (ap (first test) same ∙ sym (first_in test bs c.args.at c.requires.found))

pub returns-clause-items : goal.returns-clause-items
returns-clause-items c =
    let bs = c.args.blocks.now.items in
    let now = edited (replaced (has_room c.args.need) (reserved_in c.args.need)) c.args.blocks.now.items c.args.at c.index_mut.result.now c.reserve-place.new.self c.requires.found.within c.index_mut.ensures.value c.reserve-place.ensures.items in
    c.cut_crowded.ensures.same ∙ (ap (λ (b : List Piece). whole (slice_set bs c.args.at b)) now ∙ replaced_in (has_room c.args.need) (reserved_in c.args.need) bs c.args.at c.requires.found)

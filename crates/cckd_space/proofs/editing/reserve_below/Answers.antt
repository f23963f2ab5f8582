use Rattle.std.proofs.Common.{ℕ, Some, None, sym, ◌∙◌, ap, get_or}
use Rattle.cckd_base.specs.declared.space.Owner.TheVariants.{Nobody}
use Rattle.cckd_space.specs.declared.piece.Kind.TheVariants.{Used}
use Rattle.cckd_space.specs.declared.piece.Piece.{Piece}
use Rattle.cckd_space.specs.Pieces.{has_room_below, reserved_in, aligned_up}
use Rattle.cckd_space.proofs.FirstLemmas.{is_first, mapped_first, mapped_none, none_passes, replaced_none, replaced_items, position_now}
use Rattle.cckd_space.proofs.LaidLemmas.{below_room}
use Rattle.cckd_space.proofs.editing.reserve_below.Goals as goal

pub returns-in_default-clause-place : goal.returns-in_default-clause-place
returns-in_default-clause-place c = sym (mapped_none (has_room_below c.args.need c.args.before) (λ p. aligned_up p.pos) c.args.pieces.now.items (position_now (has_room_below c.args.need c.args.before) c.args.pieces.now.items c.as_slice.result.now c.first_room_below.result None c.as_slice.ensures.value c.first_room_below.ensures c.in_default.is))

pub returns-in_default-clause-items : goal.returns-in_default-clause-items
returns-in_default-clause-items c =
    let test = has_room_below c.args.need c.args.before in
    sym (replaced_none test (reserved_in c.args.need) c.args.pieces.now.items (none_passes test c.args.pieces.now.items (position_now (has_room_below c.args.need c.args.before) c.args.pieces.now.items c.as_slice.result.now c.first_room_below.result None c.as_slice.ensures.value c.first_room_below.ensures c.in_default.is)))

pub reserve_at-requires-clause-fits : goal.reserve_at-requires-clause-fits
reserve_at-requires-clause-fits c = λ d.
    below_room c.args.need c.args.before (get_or c.args.pieces.now.items c.in-Some.at d) (is_first (has_room_below c.args.need c.args.before) c.args.pieces.now.items c.in-Some.at d (position_now (has_room_below c.args.need c.args.before) c.args.pieces.now.items c.as_slice.result.now c.first_room_below.result (Some c.in-Some.at) c.as_slice.ensures.value c.first_room_below.ensures c.in-Some.is)).here

pub returns-clause-place : goal.returns-clause-place
returns-clause-place c =
    let d : Piece = record { pos = 0; len = 0; size = 0; kind = Used; owner = Nobody } in
    ap (λ (n : ℕ). Some n) (c.reserve_at.ensures.place d)
    ∙ sym (mapped_first (has_room_below c.args.need c.args.before) (λ p. aligned_up p.pos) c.args.pieces.now.items c.in-Some.at d (position_now (has_room_below c.args.need c.args.before) c.args.pieces.now.items c.as_slice.result.now c.first_room_below.result (Some c.in-Some.at) c.as_slice.ensures.value c.first_room_below.ensures c.in-Some.is))

pub returns-clause-items : goal.returns-clause-items
returns-clause-items c =
    let d : Piece = record { pos = 0; len = 0; size = 0; kind = Used; owner = Nobody } in
    replaced_items (has_room_below c.args.need c.args.before) (reserved_in c.args.need) c.args.pieces.now.items c.reserve_at.new.pieces.items c.in-Some.at d (position_now (has_room_below c.args.need c.args.before) c.args.pieces.now.items c.as_slice.result.now c.first_room_below.result (Some c.in-Some.at) c.as_slice.ensures.value c.first_room_below.ensures c.in-Some.is) (c.reserve_at.ensures.items d)

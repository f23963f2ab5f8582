use Rattle.std.proofs.Common.{ℕ, ◌+◌, nat_le, get_or, Some, sym, ◌∙◌, ap, arith}
use Rattle.std.proofs.lemmas.Bool.{and_parts, leb-true}
use Rattle.cckd_base.specs.declared.space.Owner.TheVariants.{Nobody}
use Rattle.cckd_space.specs.declared.piece.Kind.TheVariants.{Used}
use Rattle.cckd_space.specs.declared.piece.Piece.{Piece}
use Rattle.cckd_space.specs.Pieces.{aligned_up, has_room, has_room_below}
use Rattle.cckd_space.proofs.FirstLemmas.{is_first, mapped_first, mapped_none}
use Rattle.cckd_space.proofs.finding.place_below.Goals as goal

pub returns-in_default : goal.returns-in_default
returns-in_default c =
    sym (mapped_none (has_room_below c.args.need c.args.before) (λ p. aligned_up p.pos) c.args.pieces.now (sym c.first_room_below.ensures ∙ c.in_default.is))

pub overflow_cast-result : goal.overflow_cast-result
overflow_cast-result c =
    let d : Piece = record { pos = 0; len = 0; size = 0; kind = Used; owner = Nobody } in
    let f = is_first (has_room_below c.args.need c.args.before) c.args.pieces.now c.in-Some.at d (sym c.first_room_below.ensures ∙ c.in-Some.is) in
    let p = get_or c.args.pieces.now c.in-Some.at d in
    let b = leb-true (aligned_up p.pos + c.args.need) c.args.before (and_parts (has_room c.args.need p) (nat_le (aligned_up p.pos + c.args.need) c.args.before) f.here).1 in
    omega (arith, b, c.align.ensures)

pub returns : goal.returns
returns c =
    let d : Piece = record { pos = 0; len = 0; size = 0; kind = Used; owner = Nobody } in
    ap (λ (n : ℕ). Some n) c.align.ensures ∙ sym (mapped_first (has_room_below c.args.need c.args.before) (λ p. aligned_up p.pos) c.args.pieces.now c.in-Some.at d (sym c.first_room_below.ensures ∙ c.in-Some.is))

use Rattle.std.proofs.Common.{ℕ, Some, sym, ◌∙◌, ap}
use Rattle.cckd_base.specs.declared.space.Owner.TheVariants.{Nobody}
use Rattle.cckd_space.specs.declared.piece.Kind.TheVariants.{Used}
use Rattle.cckd_space.specs.declared.piece.Piece.{Piece}
use Rattle.cckd_space.specs.Pieces.{has_room, reserved_in, aligned_up}
use Rattle.cckd_space.proofs.FirstLemmas.{is_first, mapped_first, replaced_items}
use Rattle.cckd_space.proofs.editing.reserve_found.Goals as goal

pub reserve_at-requires-clause-fits : goal.reserve_at-requires-clause-fits
reserve_at-requires-clause-fits c = λ d. (is_first (has_room c.args.need) c.args.pieces.now.items c.args.at d c.requires.found).here

pub returns-clause-place : goal.returns-clause-place
returns-clause-place c =
    let d : Piece = record { pos = 0; len = 0; size = 0; kind = Used; owner = Nobody } in
    ap (λ (n : ℕ). Some n) (c.reserve_at.ensures.place d)
    ∙ sym (mapped_first (has_room c.args.need) (λ p. aligned_up p.pos) c.args.pieces.now.items c.args.at d c.requires.found)

pub returns-clause-items : goal.returns-clause-items
returns-clause-items c =
    let d : Piece = record { pos = 0; len = 0; size = 0; kind = Used; owner = Nobody } in
    replaced_items (has_room c.args.need) (reserved_in c.args.need) c.args.pieces.now.items c.reserve_at.new.pieces.items c.args.at d c.requires.found (c.reserve_at.ensures.items d)

use Rattle.std.proofs.Common.{sym, ◌∙◌, arith}
use Rattle.cckd_base.specs.declared.space.Owner.TheVariants.{Nobody}
use Rattle.cckd_space.specs.declared.piece.Kind.TheVariants.{Used}
use Rattle.cckd_space.specs.declared.piece.Piece.{Piece}
use Rattle.cckd_space.specs.Pieces.{is_reserved_at}
use Rattle.cckd_space.proofs.SearchLemmas.{first_there, none_there, reserved_there}
use Rattle.cckd_space.proofs.finding.reserved_at.Goals as goal

pub returns-then-at-pieces : goal.returns-then-at-pieces
returns-then-at-pieces c =
    let d : Piece = record { pos = 0; len = 0; size = 0; kind = Used; owner = Nobody } in
    sym (none_there (is_reserved_at c.args.pos) c.args.pos c.args.pieces.now c.start_index-at.result d (reserved_there c.args.pos) c.requires c.start_index-at.ensures (λ l. absurd (omega arith)))

pub returns-then-is_reserved_at : goal.returns-then-is_reserved_at
returns-then-is_reserved_at c =
    let d : Piece = record { pos = 0; len = 0; size = 0; kind = Used; owner = Nobody } in
    sym (first_there (is_reserved_at c.args.pos) c.args.pos c.args.pieces.now c.start_index-at.result d (reserved_there c.args.pos) c.start_index-at.ensures (omega (arith, c.start_index-at.ensures.within)) (sym c.is_reserved_at.ensures ∙ c.if-is_reserved_at.true))

pub returns-else-is_reserved_at : goal.returns-else-is_reserved_at
returns-else-is_reserved_at c =
    let d : Piece = record { pos = 0; len = 0; size = 0; kind = Used; owner = Nobody } in
    sym (none_there (is_reserved_at c.args.pos) c.args.pos c.args.pieces.now c.start_index-at.result d (reserved_there c.args.pos) c.requires c.start_index-at.ensures (λ l. sym c.is_reserved_at.ensures ∙ c.if-is_reserved_at.false))

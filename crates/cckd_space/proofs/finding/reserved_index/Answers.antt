use Rattle.cckd_base.specs.declared.space.Owner.TheVariants.{Nobody}
use Rattle.cckd_space.specs.declared.piece.Kind.TheVariants.{Used}
use Rattle.cckd_space.specs.declared.piece.Piece.{Piece}
use Rattle.cckd_space.specs.Pieces.{is_reserved_at}
use Rattle.cckd_space.proofs.SearchLemmas.{at_position, found_at, reserved_there}
use Rattle.cckd_space.proofs.finding.reserved_index.Goals as goal

pub returns : goal.returns
returns c =
    let d : Piece = record { pos = 0; len = 0; size = 0; kind = Used; owner = Nobody } in
    at_position (is_reserved_at c.args.pos) c.args.pieces.now c.start_index.result d
    (found_at (is_reserved_at c.args.pos) c.args.pos c.args.pieces.now c.start_index.result d (reserved_there c.args.pos) c.requires.order c.start_index.ensures c.requires.there)

use Rattle.cckd_base.specs.declared.space.Owner.TheVariants.{Nobody}
use Rattle.cckd_space.specs.declared.piece.Kind.TheVariants.{Used}
use Rattle.cckd_space.specs.declared.piece.Piece.{Piece}
use Rattle.cckd_space.specs.Pieces.{is_used_at}
use Rattle.cckd_space.proofs.SearchLemmas.{at_position, found_at, used_there}
use Rattle.cckd_space.proofs.finding.used_index.Goals as goal

pub returns : goal.returns
returns c =
    let d : Piece = record { pos = 0; len = 0; size = 0; kind = Used; owner = Nobody } in
    at_position (is_used_at c.args.pos) c.args.pieces.now c.start_index.result d
    (found_at (is_used_at c.args.pos) c.args.pos c.args.pieces.now c.start_index.result d (used_there c.args.pos) c.requires.order c.start_index.ensures c.requires.there)

use Rattle.cckd_space.specs.Pieces.{is_reserved_at, settled}
use Rattle.cckd_space.proofs.FirstLemmas.{replaced_read}
use Rattle.cckd_space.proofs.editing.settle_piece.Goals as goal

pub returns-clause-items : goal.returns-clause-items
returns-clause-items c =
    replaced_read (is_reserved_at c.args.pos) (settled c.args.len c.args.owner) c.args.pieces.now.items c.as_slice.result.now c.reserved_index-at.result c.index.result.now c.settled.result
    c.reserved_index-at.ensures c.as_slice.ensures.value c.index.ensures c.settled.ensures

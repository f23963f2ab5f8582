use Rattle.cckd_space.specs.Pieces.{is_used_at, left}
use Rattle.cckd_space.proofs.FirstLemmas.{replaced_read}
use Rattle.cckd_space.proofs.editing.leave_piece.Goals as goal

pub returns-clause-items : goal.returns-clause-items
returns-clause-items c =
    replaced_read (is_used_at c.args.pos) left c.args.pieces.now.items c.as_slice.result.now c.used_index-at.result c.index.result.now c.left.result
    c.used_index-at.ensures c.as_slice.ensures.value c.index.ensures c.left.ensures

use Rattle.std.proofs.Common.{List, false, sym, subst, arith}
use Rattle.cckd_space.specs.declared.piece.Piece.{Piece}
use Rattle.cckd_space.specs.Pieces.{IsLaid}
use Rattle.cckd_space.specs.Inside.{IsMarked}
use Rattle.cckd_space.proofs.LaidLemmas.{laid_pieces_of}
use Rattle.cckd_space.proofs.MarkLemmas.{marked_used}
use Rattle.cckd_space.proofs.NumberLemmas.{largest_fits}
use Rattle.cckd_space.proofs.space.Space.in_blocks.Goals as goal

pub invariant_of-result : goal.invariant_of-result
invariant_of-result c =
    let laid : IsLaid 0 c.in_ok-pieces.pieces.pieces c.args.size =
    subst (λ (l : List Piece). IsLaid 0 l c.args.size) (sym c.in_ok-pieces.ensures.pieces) (laid_pieces_of 0 c.args.used.now c.args.size c.requires.used) in
    record {
      laid = laid;
      offers = largest_fits 0 c.in_ok-pieces.pieces.pieces c.args.size laid;
      marked = subst (λ (l : List Piece). IsMarked l false false) (sym c.in_ok-pieces.ensures.pieces) (marked_used c.args.used.now c.args.size);
      few = omega arith;
    }

pub returns-clause-sound : goal.returns-clause-sound
returns-clause-sound c = record {
  laid = subst (λ (l : List Piece). IsLaid 0 l c.args.size) (sym c.in_ok-pieces.ensures.pieces) (laid_pieces_of 0 c.args.used.now c.args.size c.requires.used);
}

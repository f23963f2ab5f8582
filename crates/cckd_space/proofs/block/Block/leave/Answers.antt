use Rattle.std.proofs.Common.{◌∙◌, List, true, refl, sym, ap, subst, arith}
use Rattle.cckd_space.specs.declared.piece.Piece.{Piece}
use Rattle.cckd_space.specs.Pieces.{is_used_at, largest, left}
use Rattle.cckd_space.specs.Blocks.{AreMarked}
use Rattle.cckd_space.proofs.KeptLemmas.{largest_swapped}
use Rattle.cckd_space.proofs.BlockMarkLemmas.{block_left}
use Rattle.cckd_space.proofs.block.Block.leave.Goals as goal

pub invariant_of-self : goal.invariant_of-self
invariant_of-self c =
    let old = c.self.inside.pieces.items in
    let less = largest_swapped (is_used_at c.args.pos) left (λ p. refl) old in
    record {
      few = omega (arith, c.self.invariant.few, c.leave_piece.ensures.len);
      room = omega (arith, c.self.invariant.room, c.leave_piece.ensures.capacity);
      offers = omega (arith, less, ap largest c.leave_piece.ensures.items, c.self.invariant.offers);
      marked = subst (λ (l : List Piece). AreMarked l true c.self.inside.pending) (sym c.leave_piece.ensures.items) (block_left c.args.pos old c.self.inside.leaving c.self.inside.pending c.self.invariant.marked);
      end = λ e. sym c.ends_open-self-inside.ensures ∙ e;
      start = λ e. sym c.starts_open-self-inside.ensures ∙ e;
    }

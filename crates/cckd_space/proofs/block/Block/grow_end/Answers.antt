use Rattle.std.proofs.Common.{◌∙◌, List, sym, ap, subst, arith}
use Rattle.cckd_space.specs.declared.piece.Piece.{Piece}
use Rattle.cckd_space.specs.Pieces.{largest}
use Rattle.cckd_space.specs.Blocks.{AreMarked}
use Rattle.cckd_space.proofs.BlockLemmas.{marked_grown}
use Rattle.cckd_space.proofs.block.Block.grow_end.Goals as goal

pub invariant_of-self : goal.invariant_of-self
invariant_of-self c =
    let old = c.self.inside.pieces.items in
    record {
      few = omega (arith, c.self.invariant.few, c.grow_last.ensures.len);
      room = omega (arith, c.self.invariant.room, c.grow_last.ensures.capacity);
      offers = omega (arith, c.largest_offer-self-inside.ensures, ap largest c.as_slice.ensures.value);
      marked = subst (λ (l : List Piece). AreMarked l c.self.inside.leaving c.self.inside.pending) (sym c.grow_last.ensures.items) (marked_grown c.args.more old c.self.inside.leaving c.self.inside.pending c.self.invariant.marked);
      end = λ e. sym c.ends_open-self-inside.ensures ∙ e;
      start = λ e. sym c.starts_open-self-inside.ensures ∙ e;
    }

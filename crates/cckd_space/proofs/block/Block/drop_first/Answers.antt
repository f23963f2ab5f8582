use Rattle.std.proofs.Common.{List, length, sym, ◌∙◌, ap, subst, arith}
use Rattle.std.proofs.lemmas.List.{length-drop}
use Rattle.cckd_space.specs.declared.piece.Piece.{Piece}
use Rattle.cckd_space.specs.Pieces.{largest}
use Rattle.cckd_space.specs.Blocks.{AreMarked}
use Rattle.cckd_space.proofs.BlockMarkLemmas.{block_rest}
use Rattle.cckd_space.proofs.block.Block.drop_first.Goals as goal

pub invariant_of-self : goal.invariant_of-self
invariant_of-self c =
    let old = c.self.inside.pieces.items in
    let now = c.remove_first.ensures.items in
    record {
      few = omega (arith, c.self.invariant.few, ap length now, length-drop 1 old);
      room = omega (arith, c.self.invariant.room, c.remove_first.ensures.capacity);
      offers = omega (arith, c.largest_offer-self-inside.ensures, ap largest c.as_slice.ensures.value);
      marked = subst (λ (l : List Piece). AreMarked l c.self.inside.leaving c.self.inside.pending) (sym now) (block_rest old c.self.inside.leaving c.self.inside.pending c.self.invariant.marked);
      end = λ e. sym c.ends_open-self-inside.ensures ∙ e;
      start = λ e. sym c.starts_open-self-inside.ensures ∙ e;
    }

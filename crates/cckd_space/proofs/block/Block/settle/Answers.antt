use Rattle.std.proofs.Common.{◌∙◌, List, refl, sym, ap, subst, arith}
use Rattle.cckd_space.specs.declared.piece.Piece.{Piece}
use Rattle.cckd_space.specs.Pieces.{is_reserved_at, largest, settled}
use Rattle.cckd_space.specs.Blocks.{AreMarked}
use Rattle.cckd_space.proofs.KeptLemmas.{largest_swapped}
use Rattle.cckd_space.proofs.BlockMarkLemmas.{block_settled}
use Rattle.cckd_space.proofs.block.Block.settle.Goals as goal

pub invariant_of-self : goal.invariant_of-self
invariant_of-self c =
    let old = c.self.inside.pieces.items in
    let less = largest_swapped (is_reserved_at c.args.pos) (settled c.args.len c.args.owner) (λ p. refl) old in
    record {
      few = omega (arith, c.self.invariant.few, c.settle_piece.ensures.len);
      room = omega (arith, c.self.invariant.room, c.settle_piece.ensures.capacity);
      offers = omega (arith, less, ap largest c.settle_piece.ensures.items, c.self.invariant.offers);
      marked = subst (λ (l : List Piece). AreMarked l c.self.inside.leaving c.self.inside.pending) (sym c.settle_piece.ensures.items) (block_settled c.args.pos (settled c.args.len c.args.owner) (λ p. refl) (λ p. refl) old c.self.inside.leaving c.self.inside.pending c.self.invariant.marked);
      end = λ e. sym c.ends_open-self-inside.ensures ∙ e;
      start = λ e. sym c.starts_open-self-inside.ensures ∙ e;
    }

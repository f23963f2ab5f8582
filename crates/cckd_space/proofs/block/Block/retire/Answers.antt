use Rattle.std.proofs.Common.{◌∙◌, ◌≡◌, map, true, false, List, sym, ap, subst, arith}
use Rattle.cckd_space.specs.declared.piece.Piece.{Piece}
use Rattle.cckd_space.specs.Pieces.{retired, largest}
use Rattle.cckd_space.specs.Blocks.{AreMarked}
use Rattle.cckd_space.proofs.BlockMarkLemmas.{block_retired}
use Rattle.cckd_space.proofs.MarkLemmas.{retired_none}
use Rattle.cckd_space.proofs.KeptLemmas.{largest_retired}
use Rattle.cckd_space.proofs.block.Block.retire.Goals as goal

pub returns-then-not-self : goal.returns-then-not-self
returns-then-not-self c =
    subst (λ (l : List Piece). l ≡ map retired l) c.self.view_is (sym (retired_none c.self.inside.pieces.items (c.self.invariant.marked.none_leaving c.if-not-self.true)))

pub invariant_of-self : goal.invariant_of-self
invariant_of-self c =
    let old = c.self.inside.pieces.items in
    let less = largest_retired old in
    record {
      few = omega (arith, c.self.invariant.few, c.retire_pieces.ensures.len);
      room = omega (arith, c.self.invariant.room, c.retire_pieces.ensures.capacity);
      offers = omega (arith, less, ap largest c.retire_pieces.ensures.items, c.self.invariant.offers);
      marked = subst (λ (l : List Piece). AreMarked l false true) (sym c.retire_pieces.ensures.items) (block_retired old);
      end = λ e. sym c.ends_open-self-inside.ensures ∙ e;
      start = λ e. sym c.starts_open-self-inside.ensures ∙ e;
    }

use Rattle.std.proofs.Common.{◌∙◌, ◌^◌, List, length, sym, ap, subst, arith}
use Rattle.cckd_space.specs.declared.piece.Piece.{Piece}
use Rattle.cckd_space.specs.Pieces.{has_room_below, largest}
use Rattle.cckd_space.specs.Inside.{EndsBelow}
use Rattle.cckd_space.specs.Blocks.{AreMarked}
use Rattle.cckd_space.proofs.LaidLemmas.{below_room}
use Rattle.cckd_space.proofs.BlockMarkLemmas.{block_filled}
use Rattle.cckd_space.proofs.block.Block.reserve_below.Goals as goal

pub reserve_below-place-requires-clause-ends : goal.reserve_below-place-requires-clause-ends
reserve_below-place-requires-clause-ends c = subst (λ (l : List Piece). EndsBelow l (2 ^ 32)) (sym c.self.view_is) c.requires.ends

pub invariant_of-self : goal.invariant_of-self
invariant_of-self c =
    let old = c.self.inside.pieces.items in
    let same = ap length c.self.view_is in
    record {
      few = omega (arith, same, c.requires.room, c.reserve_below-place.ensures.len);
      room = omega (arith, c.self.invariant.room, c.reserve_below-place.ensures.capacity);
      offers = omega (arith, c.largest_offer-self-inside.ensures, ap largest c.as_slice.ensures.value);
      marked = subst (λ (l : List Piece). AreMarked l c.self.inside.leaving c.self.inside.pending) (sym c.reserve_below-place.ensures.items) (block_filled (has_room_below c.args.need c.args.before) c.args.need (below_room c.args.need c.args.before) old c.self.inside.leaving c.self.inside.pending c.self.invariant.marked);
      end = λ e. sym c.ends_open-self-inside.ensures ∙ e;
      start = λ e. sym c.starts_open-self-inside.ensures ∙ e;
    }

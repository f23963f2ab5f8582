use Rattle.std.proofs.Common.{◌≡◌, length, IsSome, None, true, false, position, List, Option, sym, ◌∙◌, ap, subst, arith}
use Rattle.cckd_space.specs.declared.piece.Piece.{Piece}
use Rattle.cckd_space.specs.Pieces.{has_room, largest}
use Rattle.cckd_space.specs.Blocks.{AreMarked}
use Rattle.cckd_space.proofs.FirstLemmas.{none_passes}
use Rattle.cckd_space.proofs.BlockMarkLemmas.{block_filled}
use Rattle.cckd_space.proofs.block.Block.reserve.Goals as goal

pub unreachable-requires : goal.unreachable-requires
unreachable-requires c =
    let test = has_room c.args.need in
    let none : position test c.args.self.now ≡ None = ap (position test) (sym c.self.view_is) ∙ (ap (position test) (sym c.as_slice.ensures.value) ∙ (sym c.first_room.ensures ∙ c.in_default.is)) in
    let g : false ≡ true = subst (λ (o : Option Piece). IsSome o) (none_passes test c.args.self.now none) c.requires.there in
    absurd cc

pub invariant_of-self : goal.invariant_of-self
invariant_of-self c =
    let old = c.self.inside.pieces.items in
    let same = ap length c.self.view_is in
    record {
      few = omega (arith, same, c.requires.room, c.reserve_found-place.ensures.len);
      room = omega (arith, c.self.invariant.room, c.reserve_found-place.ensures.capacity);
      offers = omega (arith, c.largest_offer-self-inside.ensures, ap largest c.as_slice-2.ensures.value);
      marked = subst (λ (l : List Piece). AreMarked l c.self.inside.leaving c.self.inside.pending) (sym c.reserve_found-place.ensures.items) (block_filled (has_room c.args.need) c.args.need (λ p e. e) old c.self.inside.leaving c.self.inside.pending c.self.invariant.marked);
      end = λ e. sym c.ends_open-self-inside.ensures ∙ e;
      start = λ e. sym c.starts_open-self-inside.ensures ∙ e;
    }

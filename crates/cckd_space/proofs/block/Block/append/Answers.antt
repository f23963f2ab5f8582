use Rattle.std.proofs.Common.{◌≡◌, ◌++◌, ◌||◌, Bool, List, length, sym, ◌∙◌, ap, subst, arith}
use Rattle.std.proofs.lemmas.List.{length-append}
use Rattle.cckd_space.specs.declared.piece.Piece.{Piece}
use Rattle.cckd_space.specs.Pieces.{largest}
use Rattle.cckd_space.specs.Blocks.{AreMarked}
use Rattle.cckd_space.proofs.BlockLemmas.{largest_append, marked_both}
use Rattle.cckd_space.proofs.block.Block.append.Goals as goal

pub invariant_of-self : goal.invariant_of-self
invariant_of-self c =
    let old = c.self.inside.pieces.items in
    let more = c.next.inside.pieces.items in
    let items : c.extend_from_slice.new.self.items ≡ old ++ more = c.in-Ok.ensures.items ∙ ap (λ (l : List Piece). old ++ l) c.as_slice.ensures.value in
    let n = length-append old more in
    let most = largest_append old more in
    let a = ap length c.self.view_is in
    let b = ap length c.next.view_is in
    record {
      few = omega (arith, ap length items, n, a, b, c.requires);
      room = omega (arith, c.self.invariant.room, c.in-Ok.ensures.capacity);
      offers = omega (arith, ap largest items, most, c.self.invariant.offers, c.next.invariant.offers, c.max-self-inside.ensures);
      marked = subst (λ (l : List Piece). AreMarked l c.either-self-inside.result c.either-self-inside-2.result) (sym items)
          (subst (λ (x : Bool). AreMarked (old ++ more) x c.either-self-inside-2.result) (sym c.either-self-inside.ensures)
          (subst (λ (x : Bool). AreMarked (old ++ more) (c.self.inside.leaving || c.next.inside.leaving) x) (sym c.either-self-inside-2.ensures)
          (marked_both old more c.self.inside.leaving c.self.inside.pending c.next.inside.leaving c.next.inside.pending c.self.invariant.marked c.next.invariant.marked)));
      end = λ e. sym c.ends_open-self-inside.ensures ∙ e;
      start = λ e. sym c.starts_open-self-inside.ensures ∙ e;
    }

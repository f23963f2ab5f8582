use Rattle.std.proofs.Common.{◌++◌, List, drop, sym, ◌∙◌, ap, arith}
use Rattle.std.proofs.lemmas.List.{take-append-drop}
use Rattle.cckd_space.specs.declared.piece.Piece.{Piece}
use Rattle.cckd_space.specs.Pieces.{largest}
use Rattle.cckd_space.proofs.BlockLemmas.{marked_front, marked_rest}
use Rattle.cckd_space.proofs.block.Block.halve.Goals as goal

pub invariant_of-self : goal.invariant_of-self
invariant_of-self c =
    let old = c.self.inside.pieces.items in
    let both = sym (take-append-drop c.args.at old) ∙ (ap (λ (l : List Piece). l ++ drop c.args.at old) (sym c.move_rest.ensures.front) ∙ ap (λ (l : List Piece). c.move_rest.new.pieces.items ++ l) (sym c.move_rest.ensures.rest)) in
    record {
      few = omega (arith, c.self.invariant.few, c.move_rest.ensures.len);
      room = omega (arith, c.self.invariant.room, c.move_rest.ensures.capacity);
      offers = omega (arith, c.largest_offer-self-inside.ensures, ap largest c.as_slice.ensures.value);
      marked = marked_front old c.move_rest.new.pieces.items c.move_rest.new.other.items c.self.inside.leaving c.self.inside.pending both c.self.invariant.marked;
      end = λ e. sym c.ends_open-self-inside.ensures ∙ e;
      start = λ e. sym c.starts_open-self-inside.ensures ∙ e;
    }

pub invariant_of-other : goal.invariant_of-other
invariant_of-other c =
    let old = c.self.inside.pieces.items in
    let both = sym (take-append-drop c.args.at old) ∙ (ap (λ (l : List Piece). l ++ drop c.args.at old) (sym c.move_rest.ensures.front) ∙ ap (λ (l : List Piece). c.move_rest.new.pieces.items ++ l) (sym c.move_rest.ensures.rest)) in
    record {
      few = omega (arith, c.self.invariant.few, c.move_rest.ensures.fewer);
      room = omega (arith, c.other.invariant.room, c.move_rest.ensures.room);
      offers = omega (arith, c.largest_offer-other-inside.ensures, ap largest c.as_slice-2.ensures.value);
      marked = marked_rest old c.move_rest.new.pieces.items c.move_rest.new.other.items c.self.inside.leaving c.self.inside.pending both c.self.invariant.marked;
      end = λ e. sym c.ends_open-other-inside.ensures ∙ e;
      start = λ e. sym c.starts_open-other-inside.ensures ∙ e;
    }

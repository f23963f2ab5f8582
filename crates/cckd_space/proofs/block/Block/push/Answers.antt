use Rattle.std.proofs.Common.{◌++◌, ◌∷◌, ◌||◌, [], Bool, List, length, sym, ◌∙◌, ap, subst, arith}
use Rattle.cckd_space.specs.declared.piece.Piece.{Piece}
use Rattle.cckd_space.specs.Pieces.{is_leaving, is_pending, largest}
use Rattle.cckd_space.specs.Blocks.{AreMarked}
use Rattle.cckd_space.proofs.BlockLemmas.{largest_append, marked_both}
use Rattle.cckd_space.proofs.BlockMarkLemmas.{marked_one}
use Rattle.cckd_space.proofs.block.Block.push.Goals as goal

pub invariant_of-self : goal.invariant_of-self
invariant_of-self c =
    let old = c.self.inside.pieces.items in
    let p = c.args.piece in
    let items = c.push_piece.ensures.items in
    let most = largest_append old (p ∷ []) in
    record {
      few = omega (arith, c.push_piece.ensures.len, ap length c.self.view_is, c.requires);
      room = omega (arith, c.self.invariant.room, c.push_piece.ensures.capacity);
      offers = omega (arith, ap largest items, most, c.self.invariant.offers, c.offer.ensures, c.max-self-inside.ensures);
      marked = subst (λ (l : List Piece). AreMarked l c.either-self-inside.result c.either-self-inside-2.result) (sym items)
          (subst (λ (x : Bool). AreMarked (old ++ p ∷ []) x c.either-self-inside-2.result) (sym (c.either-self-inside.ensures ∙ ap (λ (x : Bool). c.self.inside.leaving || x) c.is_leaving.ensures))
          (subst (λ (x : Bool). AreMarked (old ++ p ∷ []) (c.self.inside.leaving || is_leaving p) x) (sym (c.either-self-inside-2.ensures ∙ ap (λ (x : Bool). c.self.inside.pending || x) c.is_pending.ensures))
          (marked_both old (p ∷ []) c.self.inside.leaving c.self.inside.pending (is_leaving p) (is_pending p) c.self.invariant.marked (marked_one p))));
      end = λ e. sym c.ends_open-self-inside.ensures ∙ e;
      start = λ e. sym c.starts_open-self-inside.ensures ∙ e;
    }

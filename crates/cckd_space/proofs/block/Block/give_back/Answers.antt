use Rattle.std.proofs.Common.{◌∷◌, [], List, sym, ◌∙◌, ap, subst, arith}
use Rattle.cckd_space.specs.declared.piece.Piece.{Piece}
use Rattle.cckd_space.specs.Pieces.{freed, is_reserved_at, merged, replaced}
use Rattle.cckd_space.specs.Blocks.{AreMarked}
use Rattle.cckd_space.proofs.MergeLemmas.{given_back}
use Rattle.cckd_space.proofs.BlockMarkLemmas.{block_given_back}
use Rattle.cckd_space.proofs.block.Block.give_back.Goals as goal

pub invariant_of-self : goal.invariant_of-self
invariant_of-self c =
    let old = c.self.inside.pieces.items in
    let now = given_back c.args.pos c.reserved_index-at.result old c.as_slice.result.now c.free_at-offered.new.pieces.items c.as_slice.ensures.value c.reserved_index-at.ensures c.free_at-offered.ensures.items in
    record {
      few = omega (arith, c.self.invariant.few, c.free_at-offered.ensures.len);
      room = omega (arith, c.self.invariant.room, c.free_at-offered.ensures.capacity);
      offers = omega (arith, c.free_at-offered.ensures.offers, c.max-self-inside.ensures, c.self.invariant.offers);
      marked = subst (λ (l : List Piece). AreMarked l c.self.inside.leaving c.self.inside.pending) (sym now) (block_given_back c.args.pos old c.self.inside.leaving c.self.inside.pending c.self.invariant.marked);
      end = λ e. sym c.ends_open-self-inside.ensures ∙ e;
      start = λ e. sym c.starts_open-self-inside.ensures ∙ e;
    }

pub returns-clause-items : goal.returns-clause-items
returns-clause-items c =
    let old = c.self.inside.pieces.items in
    given_back c.args.pos c.reserved_index-at.result old c.as_slice.result.now c.free_at-offered.new.pieces.items c.as_slice.ensures.value c.reserved_index-at.ensures c.free_at-offered.ensures.items
    ∙ ap (λ (l : List Piece). merged (replaced (is_reserved_at c.args.pos) (λ p. freed p ∷ []) l)) c.self.view_is

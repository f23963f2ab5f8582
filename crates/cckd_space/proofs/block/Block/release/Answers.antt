use Rattle.std.proofs.Common.{false, ◌≡◌, List, map, sym, ap, subst, arith, ◌∙◌}
use Rattle.cckd_space.specs.declared.piece.Piece.{Piece}
use Rattle.cckd_space.specs.Pieces.{released, merged, largest}
use Rattle.cckd_space.specs.Inside.{AreMerged, size_of}
use Rattle.cckd_space.specs.Blocks.{AreMarked}
use Rattle.cckd_space.proofs.BlockMarkLemmas.{block_released}
use Rattle.cckd_space.proofs.MarkLemmas.{released_none}
use Rattle.cckd_space.proofs.BlockLemmas.{size_of-released}
use Rattle.cckd_space.proofs.block.Block.release.Goals as goal

pub returns-then-not-self : goal.returns-then-not-self
returns-then-not-self c =
    let apart : AreMerged c.self.inside.pieces.items = subst (λ (l : List Piece). AreMerged l) (sym c.self.view_is) c.requires.apart in
    subst (λ (l : List Piece). l ≡ merged (map released l)) c.self.view_is (sym (released_none c.self.inside.pieces.items apart (c.self.invariant.marked.none_pending c.if-not-self.true)))

pub merge-requires : goal.merge-requires
merge-requires c =
    let same = ap size_of c.self.view_is in
    let e = size_of-released c.self.inside.pieces.items in
    let n = ap size_of c.release_pieces.ensures.items in
    omega (arith, same, e, n, c.requires.sizes)

pub invariant_of-self : goal.invariant_of-self
invariant_of-self c =
    let old = c.self.inside.pieces.items in
    let both = c.merge.ensures.items ∙ ap merged c.release_pieces.ensures.items in
    record {
      few = omega (arith, c.self.invariant.few, c.release_pieces.ensures.len, c.merge.ensures.len);
      room = omega (arith, c.self.invariant.room, c.release_pieces.ensures.capacity, c.merge.ensures.capacity);
      offers = omega (arith, c.largest_offer-self-inside.ensures, ap largest c.as_slice.ensures.value);
      marked = subst (λ (l : List Piece). AreMarked l c.self.inside.leaving false) (sym both) (block_released old c.self.inside.leaving c.self.inside.pending c.self.invariant.marked);
      end = λ e. sym c.ends_open-self-inside.ensures ∙ e;
      start = λ e. sym c.starts_open-self-inside.ensures ∙ e;
    }

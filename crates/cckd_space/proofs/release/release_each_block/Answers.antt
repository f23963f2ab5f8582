use Rattle.std.proofs.Common.{◌<◌, List, length, map, slice_set, sym, ◌∙◌, ap, subst, arith}
use Rattle.std.proofs.lemmas.List.Edits.{map_over_more}
use Rattle.cckd_space.specs.declared.piece.Piece.{Piece}
use Rattle.cckd_space.specs.Pieces.{merged, released}
use Rattle.cckd_space.specs.Inside.{AreMerged, size_of}
use Rattle.cckd_space.proofs.BlockLemmas.{tidy_at, size_at, at_rest}
use Rattle.cckd_space.proofs.release.release_each_block.Goals as goal

pub release-requires-clause-apart : goal.release-requires-clause-apart
release-requires-clause-apart c =
    let f = λ (b : List Piece). merged (map released b) in
    let l : c.loop-block.block-index < length c.args.blocks.now = omega (arith, c.loop-block-test.true) in
    subst (λ (b : List Piece). AreMerged b) (sym (at_rest f c.args.blocks.now c.loop-block.blocks c.loop-block.block-index c.block-item.result l c.loop-block.invariant)) (tidy_at c.args.blocks.now c.loop-block.block-index c.block-item.result l c.requires.tidy)

pub release-requires-clause-sizes : goal.release-requires-clause-sizes
release-requires-clause-sizes c =
    let f = λ (b : List Piece). merged (map released b) in
    let l : c.loop-block.block-index < length c.args.blocks.now = omega (arith, c.loop-block-test.true) in
    let e = ap size_of (at_rest f c.args.blocks.now c.loop-block.blocks c.loop-block.block-index c.block-item.result l c.loop-block.invariant) in
    let s = size_at c.args.blocks.now c.loop-block.block-index c.block-item.result l in
    omega (arith, e, s, c.requires.sizes)

pub loop-block-preserved : goal.loop-block-preserved
loop-block-preserved c =
    let f = λ (b : List Piece). merged (map released b) in
    let l : c.loop-block.block-index < length c.args.blocks.now = omega (arith, c.loop-block-test.true) in
    ap (λ (b : List Piece). slice_set c.loop-block.blocks c.loop-block.block-index b) (c.release.ensures ∙ ap f (sym c.block-item.is))
    ∙ map_over_more f c.args.blocks.now c.loop-block.blocks c.loop-block.block-index c.block-item.result l c.loop-block.invariant c.block-item.is

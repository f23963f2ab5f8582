use Rattle.std.proofs.Common.{◌≡◌, List, length, map, sym, ◌∙◌, ap, subst, arith}
use Rattle.std.proofs.lemmas.List.{length-map}
use Rattle.cckd_space.specs.declared.piece.Piece.{Piece}
use Rattle.cckd_space.specs.Pieces.{merged, released}
use Rattle.cckd_space.specs.Inside.{size_of}
use Rattle.cckd_space.specs.Blocks.{whole, AreFit, AreTidy}
use Rattle.cckd_space.proofs.MergeLemmas.{size_of-merged}
use Rattle.cckd_space.proofs.BlockLemmas.{tidy_released, released_blocks, size_of-released}
use Rattle.cckd_space.proofs.FitLemmas.{fit_mapped}
use Rattle.cckd_space.proofs.BlockLemmas.{merged_some}
use Rattle.cckd_space.proofs.MergeLemmas.{merged_fewer}
use Rattle.cckd_space.proofs.release.release_blocks.Goals as goal

pub merge_borders-requires-clause-sizes : goal.merge_borders-requires-clause-sizes
merge_borders-requires-clause-sizes c =
    let old = c.args.blocks.now.items in
    let new = whole c.release_every.new.blocks.items in
    let a = size_of-merged new in
    let e = ap (λ (bs : List (List Piece)). size_of (merged (whole bs))) c.release_every.ensures.items in
    let b = ap size_of (released_blocks old) in
    let d = size_of-merged (map released (whole old)) in
    let r = size_of-released (whole old) in
    omega (arith, a, e, b, d, r, c.requires.sizes)

pub merge_borders-requires-clause-tidy : goal.merge_borders-requires-clause-tidy
merge_borders-requires-clause-tidy c = subst (λ (bs : List (List Piece)). AreTidy bs) (sym c.release_every.ensures.items) (tidy_released c.args.blocks.now.items c.requires.tidy)

pub returns-clause-items : goal.returns-clause-items
returns-clause-items c = c.merge_borders.ensures.items ∙ (ap (λ (bs : List (List Piece)). merged (whole bs)) c.release_every.ensures.items ∙ released_blocks c.args.blocks.now.items)

pub returns-clause-fit : goal.returns-clause-fit
returns-clause-fit c = λ full f.
    let long : (b : List Piece) → length (map released b) ≡ length b = λ b. length-map b released in
    let stay = fit_mapped (λ (b : List Piece). merged (map released b)) (λ b l. merged_some (map released b) (let n = long b in omega (arith, n, l))) (λ b. let n = long b in let m = merged_fewer (map released b) in omega (arith, n, m)) c.args.blocks.now.items in
    c.merge_borders.ensures.fit full (subst (AreFit full) (sym c.release_every.ensures.items) (stay full f))

use Rattle.std.proofs.Common.{◌+◌, ◌∷◌, List, drop, get_or, subst, arith}
use Rattle.std.proofs.lemmas.List.{drop_more}
use Rattle.cckd_base.specs.declared.space.Owner.TheVariants.{Nobody}
use Rattle.cckd_base.specs.declared.space.Extent.{Extent}
use Rattle.cckd_base.specs.Survey.{StandApart}
use Rattle.cckd_space.specs.Pieces.{pieces_of}
use Rattle.cckd_space.proofs.LaidLemmas.{laid_long, laid_pieces_of, used_le}
use Rattle.cckd_space.proofs.EndLemmas.{run_one}
use Rattle.cckd_space.proofs.making.count_pieces.Goals as goal

pub overflow_add-at : goal.overflow_add-at
overflow_add-at c =
    let blank : Extent = record { pos = 0; len = 0; size = 0; owner = Nobody } in
    let this : Extent = get_or c.args.extents.now c.loop-extent.extent-index blank in
    let rest : List Extent = drop (c.loop-extent.extent-index + 1) c.args.extents.now in
    let h : StandApart c.loop-extent.at (this ∷ rest) c.args.size =
    subst (λ (es : List Extent). StandApart c.loop-extent.at es c.args.size) (drop_more c.args.extents.now c.loop-extent.extent-index blank c.loop-extent-test.true) c.loop-extent.invariant.used in
    let r = used_le (this.pos + this.size) rest c.args.size h.3 in
    omega (arith, r)

pub overflow_add-count-in-loop-extent : goal.overflow_add-count-in-loop-extent
overflow_add-count-in-loop-extent c =
    let blank : Extent = record { pos = 0; len = 0; size = 0; owner = Nobody } in
    let n = laid_long 0 (pieces_of 0 c.args.extents.now c.args.size) c.args.size (laid_pieces_of 0 c.args.extents.now c.args.size c.requires) in
    let r = run_one c.loop-extent.at (get_or c.args.extents.now c.loop-extent.extent-index blank).pos in
    omega (arith, n, r, c.loop-extent.invariant.count, c.run_count.ensures)

pub overflow_add-result : goal.overflow_add-result
overflow_add-result c =
    let n = laid_long 0 (pieces_of 0 c.args.extents.now c.args.size) c.args.size (laid_pieces_of 0 c.args.extents.now c.args.size c.requires) in
    let r = run_one c.loop-extent.at c.args.size in
    omega (arith, n, r, c.loop-extent.invariant.count, c.run_count-2.ensures)

use Rattle.std.proofs.Common.{◌+◌, List, ℕ, take, get_or, refl, sym, subst}
use Rattle.cckd_base.specs.declared.space.Extent.{Extent}
use Rattle.cckd_base.specs.declared.space.Owner.TheVariants.{Nobody}
use Rattle.cckd_check.specs.Inside.{AreNoted}
use Rattle.cckd_check.proofs.NotedLemmas.{one_noted}
use Rattle.cckd_check.proofs.tracking.note_places.Goals as goal

pub loop-index-preserved : goal.loop-index-preserved
loop-index-preserved c =
    let spaces = c.args.spaces.now in
    let i = c.loop-index.index in
    let d : Extent = record { pos = 0; len = 0; size = 0; owner = Nobody } in
    subst (λ (places : List ℕ). AreNoted spaces (take (i + 1) spaces) places) (sym c.note_place.ensures)
    (one_noted spaces i (get_or spaces i d) d (i + 1) c.loop-index.places c.loop-index-test.true refl refl c.loop-index.invariant)

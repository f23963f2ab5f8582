-- Bytes that are put to a free place: at each operation, and once they are there.
use Rattle.std.proofs.Common.{◌≡◌, ℕ, List, length, Result, OnOk, OnErr, subst}
use Rattle.cckd_shelf.specs.declared.fault.Failed.{Failed}
use Rattle.cckd_shelf.specs.World.{after_write, after_torn}
use Rattle.cckd_shelf.specs.Seen.{Seen, Makes, MayMake}
use Rattle.cckd_shelf.specs.Outcomes.{IsOutcome}
use Rattle.cckd_shelf.specs.Stops.{StopsLeave}
use Rattle.cckd_shelf.proofs.MomentLemmas.{wrote}
use Rattle.cckd_layer.specs.Changes.{Fills, IsFilled}
use Rattle.cckd_layer.proofs.FillLemmas.{write_fills, fills_nothing}

-- each operation leaves what could be left before, but for the bytes
pub put_stopped : (slot at pos : ℕ) (bytes : List ℕ) (old new : Seen) (result : Result (Unit {0}) Failed) → pos ≡ at
    → OnOk result (Makes (after_write slot pos bytes) old new) → OnErr result (MayMake (after_torn slot pos bytes) old new)
    → StopsLeave slot (IsFilled old.world.events slot at (length bytes)) old new
put_stopped slot at pos bytes old new result same ok err told =
    wrote (IsOutcome old.world.events slot) (IsFilled old.world.events slot at (length bytes)) slot pos bytes old new result ok err told
    (λ file h. h) (λ was h. (was, h, fills_nothing at (length bytes) was))
    (λ was file h leaves. (was, h, subst (λ (n : ℕ). Fills n (length bytes) was file) same (write_fills pos bytes was file leaves)))

pub torn_at : (slot at pos : ℕ) (bytes : List ℕ) (old new : Seen) → pos ≡ at → MayMake (after_torn slot pos bytes) old new → MayMake (after_torn slot at bytes) old new
torn_at slot at pos bytes old new same h = subst (λ (n : ℕ). MayMake (after_torn slot n bytes) old new) same h

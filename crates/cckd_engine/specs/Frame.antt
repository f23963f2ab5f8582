-- The slots whose files a disk leaves alone.
use Rattle.std.specs.Prelude.{ℕ, ◌≡◌, ◌-◌, List, length, Some}
use Rattle.cckd_shelf.specs.Events.{Event, name_of}
use Rattle.cckd_shelf.specs.World.{World, file_of}
use Rattle.cckd_shelf.specs.Outcomes.{IsOutcome, EachOutcome, AtEach}
use Rattle.cckd_shelf.specs.Frame.{KeepNames}
use Rattle.cckd_shelf.specs.Seen.{Seen, Tells}
use Rattle.cckd_stack.specs.Stacked.{StackState}
use Rattle.cckd_stack.specs.Writes.{HasNoChange}

-- each outcome of these slots was one before
abbrev pub AreStill : (ℕ → Type 0) → List Event → List Event → Type 0
AreStill P old new = (slot : ℕ) → P slot → EachOutcome slot (IsOutcome old slot) new

-- At each operation every outcome of these slots was one before, and each slot has its name. These ones keep their files, and each
-- name that no other slot has what it holds, if it holds anything.
pub record LeavesSlots (P : ℕ → Type 0) (old new : World) : Type 0 where
  pub others : AtEach old.events new.events (AreStill P old.events)
  pub named : AtEach old.events new.events (KeepNames old.events)
  pub held : (name : List ℕ) → ((slot : ℕ) → name_of old.events slot ≡ Some name → P slot) → new.files name ≡ old.files name
  pub files : (slot : ℕ) → P slot → file_of new slot ≡ file_of old slot

-- a slot that was left alone is left alone on, and so were the files of those that were
pub record Spares (P Q : ℕ → Type 0) (old new : Seen) : Type 0 where
  pub again : (slot : ℕ) → P slot → Q slot
  pub leaves : Tells old → LeavesSlots P old.world new.world

-- calls of a stack leave a slot's file alone that isn't the last layer's, and whose layer, if it has one, wasn't changed
pub record IsLower (s : StackState) (slot : ℕ) : Type 0 where
  pub apart : length s.layers - 1 ≡ slot → ⊥
  pub calm : HasNoChange s.layers slot

-- A file that stays as it is, and what a refused write leaves of a layer that had nothing under way.
use Rattle.std.specs.Prelude.{ℕ, ◌≡◌, true, List}
use Rattle.cckd_shelf.specs.Events.{Event, file_now}
use Rattle.cckd_shelf.specs.Outcomes.{EachOutcome, AtEach}
use Rattle.cckd_shelf.specs.Seen.{Seen, Tells}
use Rattle.cckd_layer.specs.Mounted.{LayerState}
use Rattle.cckd_layer.specs.Writes.{Agrees}

-- At each operation a stop leaves of a slot's file what it was before, and it is that at the end.
pub record StaysAs (slot : ℕ) (old new : List Event) : Type 0 where
  pub each : AtEach old new (EachOutcome slot (λ file. file ≡ file_now old slot))
  pub now : file_now new slot ≡ file_now old slot

-- the file stays as it was, where the layer agreed with it and was hardened
abbrev pub LeavesFile : LayerState → Seen → Seen → Type 0
LeavesFile s old new = Tells old → Agrees s old.world → s.hardened ≡ true → StaysAs s.slot old.world.events new.world.events

-- the layer counts as changed where it did before; and where it was hardened it still is, and its file stays as it was
pub record IsUnharmed (s next : LayerState) (old new : Seen) : Type 0 where
  pub marked : next.marked ≡ s.marked
  pub hardened : s.hardened ≡ true → next.hardened ≡ true
  pub file : s.hardened ≡ true → StaysAs s.slot old.world.events new.world.events

-- so it is where the layer agreed with its file
abbrev pub KeepsUnharmed : LayerState → LayerState → Seen → Seen → Type 0
KeepsUnharmed s next old new = Tells old → Agrees s old.world → IsUnharmed s next old new

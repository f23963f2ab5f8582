-- What the marks of layers say of their files: what was changed since, and what was closed.
use Rattle.std.specs.Prelude.{ℕ, ◌≡◌, ◌⊎◌, ◌≤◌, true, false, List, length}
use Rattle.std.specs.List.{AllByRecursion}
use Rattle.cckd_base.specs.declared.geometry.Layout.{Layout}
use Rattle.cckd_base.specs.Header.{is_present}
use Rattle.cckd_shelf.specs.Events.{Event, file_now}
use Rattle.cckd_shelf.specs.Seen.{Seen, Tells}
use Rattle.cckd_layer.specs.Mounted.{LayerState}
use Rattle.cckd_layer.specs.Writes.{Agrees, StaysClosed}
use Rattle.cckd_layer.specs.Calm.{StaysAs}
use Rattle.cckd_stack.specs.Stacked.{StackState, AreLayersFrom}
use Rattle.cckd_stack.specs.Writes.{IsUnchanged, AgreeAll}
use Rattle.cckd_stack.specs.Called.{only_events}

-- a slot's file stayed as it was at these earlier events, or it is that of a closed image and a stop leaves it as it is
abbrev pub IsLeftOrClosed : Layout → ℕ → List Event → List Event → Type 0
IsLeftOrClosed l slot base now = StaysAs slot base now ⊎ StaysClosed l slot (only_events now)

-- The mark of a layer says what was done to its file since these earlier events: where it has none, the file was left, or is closed.
abbrev pub MarksChanges : List Event → List Event → LayerState → Type 0
MarksChanges base now s = (s.marked ≡ true) ⊎ (IsUnchanged s × IsLeftOrClosed s.tables.layout s.slot base now)

-- so do the marks of all layers
abbrev pub MarkChanges : List Event → List Event → List LayerState → Type 0
MarkChanges base now layers = AllByRecursion (MarksChanges base now) layers

-- they do again, where they did and the layers agreed with their files
abbrev pub KeepMarks : List LayerState → List LayerState → Seen → Seen → Type 0
KeepMarks layers next old new =
    (base : List Event) → Tells old → AgreeAll layers old.world → MarkChanges base old.world.events layers → MarkChanges base new.world.events next

-- the same of one layer
abbrev pub KeepsMark : LayerState → LayerState → Seen → Seen → Type 0
KeepsMark s next old new =
    (base : List Event) → Tells old → Agrees s old.world → MarksChanges base old.world.events s → MarksChanges base new.world.events next

-- The marks of a stack's layers say what was done to the files since these earlier events, when no file stood above its layers.
pub record MarksSince (s : StackState) (base now : List Event) : Type 0 where
  pub layers : AreLayersFrom s.geometry 0 s.layers
  pub marks : MarkChanges base now s.layers
  pub above : (slot : ℕ) → length s.layers ≤ slot → slot ≤ 8 → is_present (file_now base slot) ≡ false

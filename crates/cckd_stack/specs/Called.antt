-- A stack on the files of its slots, as calls find it.
use Rattle.std.specs.Prelude.{ℕ, ◌≡◌, ◌≤◌, true, false, List, [], None}
use Rattle.cckd_base.specs.Header.{headers_of, layout_of, is_present}
use Rattle.cckd_base.specs.Image.{IsSnug}
use Rattle.cckd_base.specs.Track.{null_track}
use Rattle.cckd_shelf.specs.Events.{Event, file_now}
use Rattle.cckd_shelf.specs.World.{World, IsSure, file_of}
use Rattle.cckd_shelf.specs.Outcomes.{EachOutcome}
use Rattle.cckd_shelf.specs.Seen.{Seen, Tells}
use Rattle.cckd_stack.specs.Layers.{Stack}
use Rattle.cckd_stack.specs.Stacked.{StackState, stack_of}
use Rattle.cckd_stack.specs.Writes.{AgreeAll, AreTied}

-- the stack of CKD tracks that the layers are, where these events have happened
abbrev pub stack_in : StackState → List Event → Stack
stack_in s events = stack_of null_track s.layers (file_now events)

-- it can make calls: it isn't broken, and each layer is tied to the file of its slot, as far as that is told and no operation failed half way
pub record CanCall (s : StackState) (now : Seen) : Type 0 where
  pub whole : s.broken ≡ false
  pub tied : Tells now → IsSure now.world → AreTied s.layers now.world

-- the files that are there are snug
abbrev pub AreSnug : (ℕ → List ℕ) → Type 0
AreSnug files = (slot : ℕ) → slot ≤ 8 → is_present (files slot) ≡ true → IsSnug (layout_of (headers_of (files slot))) (files slot)

-- a slot that isn't there isn't there whatever a stop leaves
abbrev pub StayAbsent : World → Type 0
StayAbsent w = (slot : ℕ) → slot ≤ 8 → is_present (file_of w slot) ≡ false → EachOutcome slot (λ file. is_present file ≡ false) w.events

-- a world of which only what happened is told
abbrev pub only_events : List Event → World
only_events events = record { files = λ name. None; events = events; script = [] }

-- each layer agrees with its file, where these events have happened
abbrev pub AgreesAfter : StackState → List Event → Type 0
AgreesAfter s events = AgreeAll s.layers (only_events events)

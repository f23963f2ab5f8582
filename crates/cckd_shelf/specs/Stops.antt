-- What stops leave of a slot, said of what a stage shows.
use Rattle.std.specs.Prelude.{ℕ, List}
use Rattle.cckd_shelf.specs.Seen.{Seen, Tells}
use Rattle.cckd_shelf.specs.Outcomes.{EachOutcome, MayHold, AtEach}

-- P holds of whatever a stop now leaves of the slot
abbrev pub StopLeaves : ℕ → (List ℕ → Type 0) → Seen → Type 0
StopLeaves slot P s = Tells s → EachOutcome slot P s.world.events

-- P holds of whatever a stop leaves of it, at each operation from the old state to the new one
abbrev pub StopsLeave : ℕ → (List ℕ → Type 0) → Seen → Seen → Type 0
StopsLeave slot P old new = Tells old → AtEach old.world.events new.world.events (EachOutcome slot P)

-- what the slot could hold before is all that a stop leaves of it now
abbrev pub StopLeavesHeld : ℕ → Seen → Seen → Type 0
StopLeavesHeld slot old new = Tells old → EachOutcome slot (MayHold old.world.events slot) new.world.events

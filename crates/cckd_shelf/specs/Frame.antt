-- What a call leaves as it is that works on one slot, or that only puts.
use Rattle.std.specs.Prelude.{ℕ, ◌≡◌, ◌≤◌, List, [], ◌∷◌, ◌++◌, length, take, Some}
use Rattle.cckd_shelf.specs.Events.{Event, Put, name_of, output_of}
use Rattle.cckd_shelf.specs.World.{World, file_of}
use Rattle.cckd_shelf.specs.Seen.{Seen, Tells}
use Rattle.cckd_shelf.specs.Outcomes.{OthersStill, AtEach}

-- each slot has the name that it had
abbrev pub KeepNames : List Event → List Event → Type 0
KeepNames old new = (slot : ℕ) → name_of new slot ≡ name_of old slot

-- Nothing is done but to this slot's file: at each operation every outcome of another slot was one before, and each slot has its
-- name. Each other one keeps its file, and each other name what it holds, if it holds anything; nothing is taken and nothing is put.
pub record SparesOthers (slot : ℕ) (old new : World) : Type 0 where
  pub others : AtEach old.events new.events (OthersStill slot old.events)
  pub named : AtEach old.events new.events (KeepNames old.events)
  pub names : KeepNames old.events new.events
  pub held : (name : List ℕ) → (name_of old.events slot ≡ Some name → ⊥) → new.files name ≡ old.files name
  pub files : (other : ℕ) → (slot ≡ other → ⊥) → file_of new other ≡ file_of old other
  pub script : new.script ≡ old.script
  pub output : output_of new.events ≡ output_of old.events

-- the same of what is shown
abbrev pub OnlyIn : ℕ → Seen → Seen → Type 0
OnlyIn slot old new = Tells old → SparesOthers slot old.world new.world

-- these pieces were put, the last one first
abbrev pub puts : List (List ℕ) → List Event
puts [] = []
puts (piece ∷ earlier) = Put piece ∷ puts earlier

-- their bytes, in the order in which they were put
abbrev pub joined : List (List ℕ) → List ℕ
joined [] = []
joined (piece ∷ earlier) = joined earlier ++ piece

-- this text was put, piece by piece, and nothing else happened
pub record OnlyPuts (text : List ℕ) (old new : World) : Type 0 where
  pub pieces : List (List ℕ)
  pub events : new.events ≡ puts pieces ++ old.events
  pub text_is : joined pieces ≡ text
  pub files : new.files ≡ old.files
  pub script : new.script ≡ old.script

-- a front of the text was put, and nothing else happened
pub record PutsFront (text : List ℕ) (old new : World) : Type 0 where
  pub count : ℕ
  pub within : count ≤ length text
  pub put : OnlyPuts (take count text) old new

-- the same of what is shown
abbrev pub PutsAll : List ℕ → Seen → Seen → Type 0
PutsAll text old new = Tells old → OnlyPuts text old.world new.world

abbrev pub PutsSome : List ℕ → Seen → Seen → Type 0
PutsSome text old new = Tells old → PutsFront text old.world new.world

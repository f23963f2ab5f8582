-- What a stage shows, and what a call does to it.
use Rattle.std.specs.Prelude.{ℕ, ◌≡◌, ◌⊎◌, ◌+◌, ◌≤◌, Bool, T, List, [], length, take, Result, OnOk, OnErr}
use Rattle.cckd_shelf.specs.declared.fault.Failed.{Failed}
use Rattle.cckd_shelf.specs.declared.fault.Faults.{Faults}
use Rattle.cckd_shelf.specs.declared.shows.Shows.{Ghosts}
use Rattle.cckd_shelf.specs.Faults.{Kind, Raises}
use Rattle.cckd_shelf.specs.Files.{bytes_at}
use Rattle.cckd_shelf.specs.World.{World, IsSure, file_of}

-- what a stage shows: whether it tells what it holds, that, and how often calls failed and were made
pub record Seen : Type 0 where
  pub tells : Bool
  pub world : World
  pub faults : Faults
  pub calls : ℕ

-- what a stage of a type shows; whether it tells is a fact of the type
abbrev pub seen : {S : Type 0} → Ghosts S → S → Seen
seen shows stage = record { tells = shows.tells; world = shows.world stage; faults = shows.faults stage; calls = shows.calls stage }

-- it tells what it holds
abbrev pub Tells : Seen → Type 0
Tells s = T s.tells

-- nothing is changed of what it holds
abbrev pub Stays : Seen → Seen → Type 0
Stays old new = Tells old → new.world ≡ old.world

-- what it holds is changed so
abbrev pub Makes : (World → World) → Seen → Seen → Type 0
Makes change old new = Tells old → new.world ≡ change old.world

-- it is changed so, or not at all
abbrev pub MayMake : (World → World) → Seen → Seen → Type 0
MayMake change old new = Tells old → (new.world ≡ change old.world) ⊎ (new.world ≡ old.world)

-- What a call of this kind does to the counts of faults: one that was Ok leaves them, and one that failed raises
-- its own, and no other.
pub record Fails {A : Type 0} (kind : Kind) (result : Result A Failed) (old new : Seen) : Type 0 where
  pub still : OnOk result (new.faults ≡ old.faults)
  pub rose : OnErr result (Raises kind old.faults new.faults)

-- the count of calls rose by at most one
pub record Called (old new : Seen) : Type 0 where
  pub fell : old.calls ≤ new.calls
  pub once : new.calls ≤ old.calls + 1

-- the file of a slot, as far as it is told, is this long
abbrev pub IsLength : ℕ → ℕ → Seen → Type 0
IsLength slot n s = Tells s → IsSure s.world → n ≡ length (file_of s.world slot)

-- it is no shorter
abbrev pub HasBytes : ℕ → ℕ → Seen → Type 0
HasBytes slot n s = Tells s → IsSure s.world → n ≤ length (file_of s.world slot)

-- it has these bytes at a position
abbrev pub IsPart : ℕ → ℕ → ℕ → List ℕ → Seen → Type 0
IsPart slot position n bytes s = Tells s → IsSure s.world → bytes ≡ bytes_at (file_of s.world slot) position n

-- n bytes from the front of the script, of which there are some until its end
pub record IsFront (n : ℕ) (bytes script : List ℕ) : Type 0 where
  pub bytes_are : take n bytes ≡ take n script
  pub within : n ≤ length script
  pub end : n ≡ 0 → script ≡ []

-- they are the next bytes of the script, as far as it is told
abbrev pub AreNext : ℕ → List ℕ → Seen → Type 0
AreNext n bytes s = Tells s → IsFront n bytes s.world.script

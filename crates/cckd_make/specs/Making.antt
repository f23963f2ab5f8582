-- How a file is made in a slot: what is done to it, and what a stop leaves.
use Rattle.std.specs.Prelude.{ℕ, ◌≡◌, ◌⊎◌, false, List, replicate, Result, Ok, Err}
use Rattle.cckd_shelf.specs.declared.fault.Faults.{Faults}
use Rattle.cckd_shelf.specs.declared.fault.Kind.TheVariants.{Writes, Syncs}
use Rattle.cckd_shelf.specs.Faults.{Raises}
use Rattle.cckd_shelf.specs.Events.{Event}
use Rattle.cckd_shelf.specs.Files.{overlaid}
use Rattle.cckd_shelf.specs.World.{World, file_of, after_write, after_cut, after_sync}
use Rattle.cckd_shelf.specs.Seen.{Seen, Tells}
use Rattle.cckd_shelf.specs.Outcomes.{WriteLeaves, MayHold, IsOutcome, EachOutcome, AtEach}
use Rattle.cckd_base.specs.Header.{is_present}
use Rattle.cckd_make.specs.declared.fault.MakeFault.{MakeFault}
use Rattle.cckd_make.specs.declared.fault.MakeFault.TheVariants.{WriteFault, SyncFault, Memory}

-- a slot with this file isn't there
abbrev pub IsAbsent : List ℕ → Type 0
IsAbsent file = is_present file ≡ false

-- it isn't there, or this is the whole file
abbrev pub IsAbsentOr : List ℕ → List ℕ → Type 0
IsAbsentOr whole file = IsAbsent file ⊎ (file ≡ whole)

-- Where no stop could leave the slot there before, none does within.
abbrev pub StopsAbsent : ℕ → Seen → Seen → Type 0
StopsAbsent slot old new =
    Tells old → EachOutcome slot IsAbsent old.world.events → AtEach old.world.events new.world.events (EachOutcome slot IsAbsent)

-- Where no stop could leave the slot there before, each stop within leaves it so, or the whole file in it.
abbrev pub StopsWithout : ℕ → List ℕ → Seen → Seen → Type 0
StopsWithout slot whole old new =
    Tells old → EachOutcome slot IsAbsent old.world.events → AtEach old.world.events new.world.events (EachOutcome slot (IsAbsentOr whole))

-- the slot has exactly this file, and so has whatever a stop leaves
pub record HasOnly (slot : ℕ) (whole : List ℕ) (w : World) : Type 0 where
  pub now : file_of w slot ≡ whole
  pub left : EachOutcome slot (λ file. file ≡ whole) w.events

-- bytes put at a position of a file and made to stay
abbrev pub after_put : ℕ → ℕ → List ℕ → World → World
after_put slot position bytes w = after_sync slot (after_write slot position bytes w)

-- an empty file, then a first sector of zeros, then all behind it, and the first sector at last, each made to stay before the next one
abbrev pub after_laying : ℕ → List ℕ → List ℕ → World → World
after_laying slot front rest w =
    after_put slot 0 front (after_put slot 512 rest (after_put slot 0 (replicate 512 0) (after_cut slot 0 w)))

-- an outcome of earlier events, with such a write made in whole, in part or not
abbrev pub IsWritten : List Event → ℕ → ℕ → List ℕ → List ℕ → Type 0
IsWritten events slot position bytes file = (was : List ℕ) × IsOutcome events slot was × WriteLeaves position bytes was file

-- what the slot could hold before, with the bytes put in
abbrev pub IsPutOver : List Event → ℕ → ℕ → List ℕ → List ℕ → Type 0
IsPutOver events slot position bytes file = (was : List ℕ) × MayHold events slot was × (file ≡ overlaid was position bytes)

-- a fault raised the count of its own kind and no other, and all else left the counts
abbrev pub CountsMaking : {A : Type 0} → Result A MakeFault → Faults → Faults → Type 0
CountsMaking (Ok done) old new = new ≡ old
CountsMaking (Err WriteFault) old new = Raises Writes old new
CountsMaking (Err SyncFault) old new = Raises Syncs old new
CountsMaking (Err Memory) old new = new ≡ old

-- a fault of calls that write and sync
abbrev pub WritesOrSyncs : MakeFault → Type 0
WritesOrSyncs WriteFault = Unit {0}
WritesOrSyncs SyncFault = Unit {0}
WritesOrSyncs Memory = ⊥

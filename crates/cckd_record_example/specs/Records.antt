-- A file whose first eight bytes point to one record.
use Rattle.std.specs.Prelude.{ℕ, ◌≡◌, ◌⊎◌, ◌+◌, ◌≤◌, List, length, take, Some}
use Rattle.std.specs.Int.{w64, to_le_bytes}
use Rattle.cckd_shelf.specs.declared.fault.Kind.TheVariants.{Reads, Writes, Syncs}
use Rattle.cckd_shelf.specs.Events.{name_of}
use Rattle.cckd_shelf.specs.Faults.{Raises}
use Rattle.cckd_shelf.specs.Files.{bytes_at}
use Rattle.cckd_shelf.specs.Seen.{Seen, Tells}

-- a record lies behind the entry, in the file, and has this value
pub record Has (place : ℕ) (value file : List ℕ) : Type 0 where
  pub behind : 8 ≤ place
  pub within : place + 600 ≤ length file
  pub bytes : bytes_at file place 600 ≡ value

-- the file reads as this value: its entry points to this place, and the record there has it
pub record Shows (place : ℕ) (value file : List ℕ) : Type 0 where
  pub points : take 8 file ≡ to_le_bytes w64 place
  pub has : Has place value file

-- it reads as one value, and has another at a place to which nothing points
pub record ShowsBeside (old_place : ℕ) (old : List ℕ) (place : ℕ) (value file : List ℕ) : Type 0 where
  pub shows : Shows old_place old file
  pub beside : Has place value file

-- it reads as the old value or as the new one
abbrev pub ShowsEither : ℕ → List ℕ → ℕ → List ℕ → List ℕ → Type 0
ShowsEither old_place old place value file = Shows old_place old file ⊎ Shows place value file

-- two records don't share a byte
abbrev pub LieApart : ℕ → ℕ → Type 0
LieApart a b = (a + 600 ≤ b) ⊎ (b + 600 ≤ a)

-- one write failed, or one sync, and nothing else did
abbrev pub HasCause : Seen → Seen → Type 0
HasCause old new = Raises Writes old.faults new.faults ⊎ Raises Syncs old.faults new.faults

-- a look-up of the name, a write or a sync failed, and nothing else did
abbrev pub HasStoreCause : Seen → Seen → Type 0
HasStoreCause old new = Raises Reads old.faults new.faults ⊎ HasCause old new

-- no call failed
abbrev pub KeepsCounts : Seen → Seen → Type 0
KeepsCounts old new = new.faults ≡ old.faults

-- a slot has this name
abbrev pub HasName : ℕ → List ℕ → Seen → Type 0
HasName slot name s = Tells s → name_of s.world.events slot ≡ Some name

-- the file begins with these bytes
abbrev pub BeginsWith : List ℕ → List ℕ → Type 0
BeginsWith bytes file = take (length bytes) file ≡ bytes

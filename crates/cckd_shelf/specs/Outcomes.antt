-- What a stop may leave of the files. Each file is by itself, and goes by its name. What was synced stays.
use Rattle.std.specs.Prelude.{ℕ, ◌≡◌, ◌⊎◌, ◌+◌, ◌%◌, ◌<◌, ◌≤◌, if◌then◌else◌, max, List, [], ◌∷◌, ◌++◌, length, take, slice_index, MatchBool, MatchOption}
use Rattle.cckd_shelf.specs.Files.{overlaid}
use Rattle.cckd_shelf.specs.Events.{Event, Written, Torn, Cut, HalfCut, Synced, Put, Bound, Name, goes_by, is_about, begun}

-- the bytes lie inside one sector of 512 bytes
abbrev pub IsInSector : ℕ → ℕ → Type 0
IsInSector position count = position % 512 + count ≤ 512

-- What a write that isn't synced leaves. One that lies inside a sector was made or not. Any other leaves any bytes
-- in its range and in the gap before it, and any length between the old end and the new one.
pub record WriteLeaves (position : ℕ) (bytes old new : List ℕ) : Type 0 where
  pub before : (i : ℕ) → i < length old → i < position → slice_index new i ≡ slice_index old i
  pub behind : (i : ℕ) → i < length old → position + length bytes ≤ i → slice_index new i ≡ slice_index old i
  pub no_shorter : length old ≤ length new
  pub no_longer : length new ≤ max (length old) (position + length bytes)
  pub whole : IsInSector position (length bytes) → (new ≡ old) ⊎ (new ≡ overlaid old position bytes)

-- what a cut that isn't synced leaves
abbrev pub CutLeaves : ℕ → List ℕ → List ℕ → Type 0
CutLeaves len old new = (new ≡ old) ⊎ (new ≡ take len old)

-- The file of a name may hold these bytes while nothing has stopped. Where no operation failed half way, those are
-- the bytes with every operation made.
abbrev pub MayHave : List Event → Name → List ℕ → Type 0
MayHave [] name file = file ≡ []
MayHave (Written slot position bytes ∷ earlier) name file =
    (old : List ℕ) × MayHave earlier name old × (file ≡ (if is_about earlier slot name then overlaid old position bytes else old))
MayHave (Torn slot position bytes ∷ earlier) name file =
    (old : List ℕ) × MayHave earlier name old × MatchBool (is_about earlier slot name) (WriteLeaves position bytes old file) (file ≡ old)
MayHave (Cut slot len ∷ earlier) name file =
    (old : List ℕ) × MayHave earlier name old × (file ≡ (if is_about earlier slot name then take len old else old))
MayHave (HalfCut slot len ∷ earlier) name file =
    (old : List ℕ) × MayHave earlier name old × MatchBool (is_about earlier slot name) (CutLeaves len old file) (file ≡ old)
MayHave (Synced slot ∷ earlier) name file = MayHave earlier name file
MayHave (Put bytes ∷ earlier) name file = MayHave earlier name file
MayHave (Bound slot other bytes ∷ earlier) name file =
    MatchOption (begun earlier other bytes name) (MayHave earlier name file) (λ start. file ≡ start)

-- A stop may leave these bytes of the file of a name: each operation on it since its last sync was made, or not,
-- or, if it was a long write, in part. A bind leaves all that is open as it is.
abbrev pub MayBeLeft : List Event → Name → List ℕ → Type 0
MayBeLeft [] name file = file ≡ []
MayBeLeft (Written slot position bytes ∷ earlier) name file =
    (old : List ℕ) × MayBeLeft earlier name old × MatchBool (is_about earlier slot name) (WriteLeaves position bytes old file) (file ≡ old)
MayBeLeft (Torn slot position bytes ∷ earlier) name file =
    (old : List ℕ) × MayBeLeft earlier name old × MatchBool (is_about earlier slot name) (WriteLeaves position bytes old file) (file ≡ old)
MayBeLeft (Cut slot len ∷ earlier) name file =
    (old : List ℕ) × MayBeLeft earlier name old × MatchBool (is_about earlier slot name) (CutLeaves len old file) (file ≡ old)
MayBeLeft (HalfCut slot len ∷ earlier) name file =
    (old : List ℕ) × MayBeLeft earlier name old × MatchBool (is_about earlier slot name) (CutLeaves len old file) (file ≡ old)
MayBeLeft (Synced slot ∷ earlier) name file = MatchBool (is_about earlier slot name) (MayHave earlier name file) (MayBeLeft earlier name file)
MayBeLeft (Put bytes ∷ earlier) name file = MayBeLeft earlier name file
MayBeLeft (Bound slot other bytes ∷ earlier) name file =
    MatchOption (begun earlier other bytes name) (MayBeLeft earlier name file) (λ start. file ≡ start)

-- the slot may hold this file while nothing has stopped
abbrev pub MayHold : List Event → ℕ → List ℕ → Type 0
MayHold events slot file = MayHave events (goes_by events slot) file

-- the file is one outcome of a stop for this slot: what may be left of the file that it has
abbrev pub IsOutcome : List Event → ℕ → List ℕ → Type 0
IsOutcome events slot file = MayBeLeft events (goes_by events slot) file

-- the files, by slot, are one outcome of a stop
abbrev pub IsCrashImage : List Event → (ℕ → List ℕ) → Type 0
IsCrashImage events files = (slot : ℕ) → IsOutcome events slot (files slot)

-- P holds of each outcome of the slot
abbrev pub EachOutcome : ℕ → (List ℕ → Type 0) → List Event → Type 0
EachOutcome slot P events = (file : List ℕ) → IsOutcome events slot file → P file

-- P holds of the outcomes of all slots together
abbrev pub EachStop : ((ℕ → List ℕ) → Type 0) → List Event → Type 0
EachStop P events = (files : ℕ → List ℕ) → IsCrashImage events files → P files

-- P holds of each file that the slot may hold
abbrev pub EachHeld : ℕ → (List ℕ → Type 0) → List Event → Type 0
EachHeld slot P events = (file : List ℕ) → MayHold events slot file → P file

-- each outcome of every other slot was one before
abbrev pub OthersStill : ℕ → List Event → List Event → Type 0
OthersStill slot old new = (other : ℕ) → (slot ≡ other → ⊥) → EachOutcome other (IsOutcome old other) new

-- Q holds after the older events, and again after each of the newer ones
abbrev pub Along : (List Event → Type 0) → List Event → List Event → Type 0
Along Q [] older = Q older
Along Q (event ∷ newer) older = Along Q newer older × Q (event ∷ newer ++ older)

-- at each operation between the old events and the new ones, the first and the last moment included
pub record AtEach (old new : List Event) (Q : List Event → Type 0) : Type 0 where
  pub newer : List Event
  pub grown : new ≡ newer ++ old
  pub each : Along Q newer old

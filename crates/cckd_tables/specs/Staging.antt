-- What is staged: entries and words that are put over those of a file before they are written.
use Rattle.std.specs.Prelude.{ℕ, ◌==◌, if◌then◌else◌, List, [], ◌∷◌, Option, Some, None, IsSome, unwrap_or}
use Rattle.cckd_base.specs.declared.geometry.Layout.{Layout}
use Rattle.cckd_base.specs.declared.entry.L2Entry.{L2Entry}
use Rattle.cckd_base.specs.Entry.{word_at, entry_at}
use Rattle.cckd_tables.specs.declared.staged.StagedEntry.{StagedEntry}
use Rattle.cckd_tables.specs.declared.staged.StagedWord.{StagedWord}

-- all that is staged: tracks with their new entries, and groups with the places of their new tables
pub record Stages : Type 0 where
  pub entries : List StagedEntry
  pub words : List StagedWord

-- the entry that is staged for a track
abbrev pub entry_for : ℕ → List StagedEntry → Option L2Entry
entry_for t [] = None
entry_for t (s ∷ ss) = if s.track == t then Some s.entry else entry_for t ss

-- the place that is staged for the table of a group
abbrev pub place_for : ℕ → List StagedWord → Option ℕ
place_for g [] = None
place_for g (s ∷ ss) = if s.group == g then Some s.pos else place_for g ss

-- an entry is staged for the track
abbrev pub IsStaged : ℕ → Stages → Type 0
IsStaged t s = IsSome (entry_for t s.entries)

-- the group has, or gets, a new table
abbrev pub IsMoved : ℕ → Stages → Type 0
IsMoved g s = IsSome (place_for g s.words)

-- a track's entry: the staged one, or else the file's
abbrev pub new_entry : Layout → Stages → List ℕ → ℕ → L2Entry
new_entry l s file t = unwrap_or (entry_for t s.entries) (entry_at l file t)

-- a group's word: the staged one, or else the file's
abbrev pub new_word : Layout → Stages → List ℕ → ℕ → ℕ
new_word l s file g = unwrap_or (place_for g s.words) (word_at l file g)

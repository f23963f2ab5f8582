-- What holds of each `Tables`, and what a look-up answers.
use Rattle.std.specs.Prelude.{ℕ, ◌≡◌, ◌⊎◌, ◌<◌, ◌≤◌, ◌/◌, ◌%◌, List, [], length, replicate, slice_index, IsNone, unwrap_or}
use Rattle.std.specs.List.{AllByRecursion}
use Rattle.cckd_base.specs.declared.geometry.Layout.{Layout}
use Rattle.cckd_base.specs.declared.entry.L2Entry.{L2Entry}
use Rattle.cckd_base.specs.Geometry.{track_count, IsLayout}
use Rattle.cckd_base.specs.Image.{IsPlace}
use Rattle.cckd_shelf.specs.Seen.{Seen, Tells}
use Rattle.cckd_shelf.specs.World.{IsSure, file_of}
use Rattle.cckd_tables.specs.Staging.{Stages, IsStaged, IsMoved, entry_for, place_for, new_entry}
use Rattle.cckd_tables.specs.Stages.{AreStaged, none_staged}
use Rattle.cckd_tables.specs.Tables.{CachedTable, TableView, HasWords, AreOf}

-- what is staged is of tracks and groups that there are
pub record AreThere (l : Layout) (s : Stages) : Type 0 where
  pub tracks : AllByRecursion (λ e. e.track < track_count l.geo) s.entries
  pub groups : AllByRecursion (λ w. w.group < l.groups) s.words

-- what holds of each `Tables`
pub record IsTables (v : TableView) : Type 0 where
  pub layout : IsLayout v.layout
  pub words : length v.words ≡ v.layout.groups
  pub staged : AreStaged v.stages
  pub there : AreThere v.layout v.stages
  pub few : length v.cached ≤ 64

-- new ones: no group has a table, and nothing is staged or cached
abbrev pub new_tables : Layout → TableView
new_tables l = record { layout = l; words = replicate l.groups 0; stages = none_staged; cached = [] }

-- the same with other staged entries and words
abbrev pub with_stages : TableView → Stages → TableView
with_stages v s = record v { stages = s }

-- the same with other cached tables
abbrev pub with_cached : TableView → List CachedTable → TableView
with_cached v cached = record v { cached = cached }

-- the level-one word of a group, the staged one or that of the file
abbrev pub word_of : TableView → ℕ → ℕ
word_of v g = unwrap_or (place_for g v.stages.words) (slice_index v.words g)

-- a group has a table at a multiple of 8, or gets one
abbrev pub HasAlignedTable : TableView → ℕ → Type 0
HasAlignedTable v g = IsMoved g v.stages ⊎ (IsPlace (slice_index v.words g) × (slice_index v.words g % 8 ≡ 0))

-- the level-one words of the slot's file are these, as far as it is told
abbrev pub HasWordsOf : Layout → List ℕ → ℕ → Seen → Type 0
HasWordsOf l words slot s = Tells s → IsSure s.world → HasWords l words (file_of s.world slot)

-- the words are those of the slot's file, no table is cached, and all else is as it was
pub record LoadsWords (slot : ℕ) (s : Seen) (old new : TableView) : Type 0 where
  pub words : HasWordsOf old.layout new.words slot s
  pub rest : new ≡ record { layout = old.layout; words = new.words; stages = old.stages; cached = [] }

-- no table is looked at for a track: its entry is staged, or the word of its group names none
abbrev pub NeedsNoTable : ℕ → TableView → Type 0
NeedsNoTable t v = IsStaged t v.stages ⊎ (IsPlace (slice_index v.words (t / 256)) → ⊥)

-- one is
abbrev pub NeedsTable : ℕ → TableView → Type 0
NeedsTable t v = IsNone (entry_for t v.stages.entries) × IsPlace (slice_index v.words (t / 256))

-- the words and the cached tables are those of the slot's file, as far as it is told
abbrev pub IsOfSlot : TableView → ℕ → Seen → Type 0
IsOfSlot v slot s = Tells s → IsSure s.world → AreOf v (file_of s.world slot)

-- this is a track's entry, the staged one or the file's, as far as it is told
abbrev pub IsEntryOf : TableView → ℕ → Seen → ℕ → L2Entry → Type 0
IsEntryOf v slot s t e = Tells s → IsSure s.world → e ≡ new_entry v.layout v.stages (file_of s.world slot) t

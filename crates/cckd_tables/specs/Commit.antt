-- What a commit takes of a file and of what is staged, and what it leaves.
use Rattle.std.specs.Prelude.{◌≡◌, ◌≢◌, ◌⊎◌, ℕ, ◌+◌, ◌*◌, ◌/◌, ◌%◌, ◌<◌, ◌≤◌, List, length, map, slice_index, None, Result, Ok, Err}
use Rattle.std.specs.List.{AllByRecursion}
use Rattle.std.specs.List.Sorted.{IsStrictlyIncreasing}
use Rattle.cckd_base.specs.declared.geometry.Layout.{Layout}
use Rattle.cckd_base.specs.declared.entry.L2Entry.{L2Entry}
use Rattle.cckd_base.specs.Geometry.{track_count, IsLayout}
use Rattle.cckd_base.specs.Numbers.{bytes_at}
use Rattle.cckd_base.specs.Entry.{word_at, entry_at, entry_in_table}
use Rattle.cckd_base.specs.Misfit.{table_misfit, entry_misfit}
use Rattle.cckd_base.specs.Image.{IsPlace, ShareNoByte, IsImage}
use Rattle.cckd_shelf.specs.declared.fault.Faults.{Faults}
use Rattle.cckd_shelf.specs.declared.fault.Kind.TheVariants.{Writes, Syncs}
use Rattle.cckd_shelf.specs.Faults.{Raises}
use Rattle.cckd_shelf.specs.Events.{Event}
use Rattle.cckd_shelf.specs.World.{IsSure, file_of}
use Rattle.cckd_shelf.specs.Outcomes.{IsOutcome, EachOutcome}
use Rattle.cckd_shelf.specs.Seen.{Seen, Tells}
use Rattle.cckd_tables.specs.declared.commit.Commit.{Commit}
use Rattle.cckd_tables.specs.declared.device.Device.{Device}
use Rattle.cckd_tables.specs.declared.device.Device.TheVariants.{Read, Write, Sync}
use Rattle.cckd_tables.specs.declared.staged.StagedEntry.{StagedEntry}
use Rattle.cckd_tables.specs.declared.staged.StagedWord.{StagedWord}
use Rattle.cckd_tables.specs.Staging.{Stages, IsStaged, IsMoved, new_entry, new_word}
use Rattle.cckd_tables.specs.Tables.{HasWords}
use Rattle.cckd_tables.specs.Blend.{Near, HasNewTables, Blend, IsCommitted}

-- the tracks of staged entries
abbrev pub staged_tracks : List StagedEntry → List ℕ
staged_tracks entries = map (λ s. s.track) entries

-- the groups of staged words, and the places that the words name
abbrev pub staged_groups : List StagedWord → List ℕ
staged_groups words = map (λ s. s.group) words

abbrev pub staged_places : List StagedWord → List ℕ
staged_places words = map (λ s. s.pos) words

-- what is staged is of tracks and groups that there are, each once and in their order
pub record AreInOrder (l : Layout) (stages : Stages) : Type 0 where
  pub tracks : IsStrictlyIncreasing (staged_tracks stages.entries)
  pub groups : IsStrictlyIncreasing (staged_groups stages.words)
  pub tracks_there : AllByRecursion (λ s. s.track < track_count l.geo) stages.entries
  pub groups_there : AllByRecursion (λ s. s.group < l.groups) stages.words

-- of 2,048 bytes for each staged word, in their order, each table spells the new entries of the 256 places of its group
abbrev pub AreSpelled : Layout → Stages → List ℕ → List ℕ → Type 0
AreSpelled l stages was tables =
    (i : ℕ) → i < length stages.words → (t : ℕ) → t / 256 ≡ slice_index (staged_groups stages.words) i
    → entry_in_table l tables (2048 * i) t ≡ new_entry l stages was t

-- the spaces of two entries share no byte
abbrev pub AreApart : L2Entry → L2Entry → Type 0
AreApart a b = IsPlace a.pos → IsPlace b.pos → ShareNoByte a.pos a.size b.pos b.size

-- the space of an entry shares no byte with the table at a position
abbrev pub IsBeside : L2Entry → ℕ → Type 0
IsBeside e w = IsPlace e.pos → IsPlace w → ShareNoByte e.pos e.size w 2048

-- the tables at two positions share no byte
abbrev pub AreTablesApart : ℕ → ℕ → Type 0
AreTablesApart v w = IsPlace v → IsPlace w → ShareNoByte v 2048 w 2048

-- the new words and entries can stand in the file, beside the old ones and beside each other
pub record CanMove (l : Layout) (stages : Stages) (file : List ℕ) : Type 0 where
  pub words : (g : ℕ) → g < l.groups → table_misfit l (length file) g (new_word l stages file g) ≡ None
  pub entries : (t : ℕ) → t < track_count l.geo → entry_misfit l (length file) t (new_entry l stages file t) ≡ None
  pub snug : (t : ℕ) → t < track_count l.geo → IsPlace (new_entry l stages file t).pos
      → (new_entry l stages file t).pos + (new_entry l stages file t).size ≤ length file
  pub old_tables : (g h : ℕ) → g < l.groups → h < l.groups → g ≢ h → AreTablesApart (word_at l file g) (new_word l stages file h)
  pub new_tables : (g h : ℕ) → g < l.groups → h < l.groups → g ≢ h → AreTablesApart (new_word l stages file g) (new_word l stages file h)
  pub old_tracks : (t u : ℕ) → t < track_count l.geo → u < track_count l.geo → t ≢ u → AreApart (entry_at l file t) (new_entry l stages file u)
  pub new_tracks : (t u : ℕ) → t < track_count l.geo → u < track_count l.geo → t ≢ u → AreApart (new_entry l stages file t) (new_entry l stages file u)
  pub old_beside_new : (t g : ℕ) → t < track_count l.geo → g < l.groups → IsBeside (entry_at l file t) (new_word l stages file g)
  pub new_beside_old : (t g : ℕ) → t < track_count l.geo → g < l.groups → IsBeside (new_entry l stages file t) (word_at l file g)
  pub new_beside_new : (t g : ℕ) → t < track_count l.geo → g < l.groups → IsBeside (new_entry l stages file t) (new_word l stages file g)

-- Words and entries can be written one by one: the new tables stand in the file beside all tables that there were, and each staged track of
-- another group has a table, whose entries lie in a sector each.
pub record CanBlend (l : Layout) (stages : Stages) (file : List ℕ) : Type 0 where
  pub places : (g : ℕ) → g < l.groups → IsMoved g stages → IsPlace (new_word l stages file g)
  pub apart : (g h : ℕ) → g < l.groups → h < l.groups → IsMoved g stages → IsPlace (word_at l file h)
      → ShareNoByte (new_word l stages file g) 2048 (word_at l file h) 2048
  pub spelled : (t : ℕ) → t < track_count l.geo → IsMoved (t / 256) stages
      → entry_in_table l file (new_word l stages file (t / 256)) t ≡ new_entry l stages file t
  pub tabled : (t : ℕ) → t < track_count l.geo → IsStaged t stages → (IsMoved (t / 256) stages → ⊥)
      → IsPlace (word_at l file (t / 256)) × (word_at l file (t / 256) % 8 ≡ 0)

-- The file at the sync of a commit: the one from before with the new tables, an image over which words and entries can be written.
pub record IsSynced (l : Layout) (stages : Stages) (was mid : List ℕ) : Type 0 where
  pub near : Near stages was mid
  pub has : HasNewTables l stages was mid
  pub image : IsImage l mid
  pub can_move : CanMove l stages mid
  pub can_blend : CanBlend l stages mid
  pub words : (g : ℕ) → g < l.groups → word_at l mid g ≡ word_at l was g
  pub entries : (t : ℕ) → t < track_count l.geo → entry_at l mid t ≡ entry_at l was t
  pub bytes : (t : ℕ) → t < track_count l.geo → IsPlace (new_entry l stages was t).pos
      → bytes_at mid (new_entry l stages was t).pos (new_entry l stages was t).len ≡ bytes_at was (new_entry l stages was t).pos (new_entry l stages was t).len

-- what a commit takes of the file that it finds: wherever the new tables come to stand in it, it can go on
pub record CanCommit (l : Layout) (stages : Stages) (was : List ℕ) : Type 0 where
  pub apart : (g h : ℕ) → IsMoved g stages → IsMoved h stages → g ≢ h → ShareNoByte (new_word l stages was g) 2048 (new_word l stages was h) 2048
  pub synced : (mid : List ℕ) → Near stages was mid → HasNewTables l stages was mid → IsSynced l stages was mid

-- what a commit stages
abbrev pub stages_of : Commit → Stages
stages_of c = record { entries = c.entries.now; words = c.moved.now }

-- what is given to a commit fits together
pub record IsCommit (c : Commit) : Type 0 where
  pub layout : IsLayout c.layout.now
  pub words : length c.words.now ≡ c.layout.now.groups
  pub order : AreInOrder c.layout.now (stages_of c)
  pub tables : length c.tables.now ≡ 2048 * length c.moved.now

-- What a commit takes of what is shown: the level-one words are those of the slot's file, the tables spell the new entries, and the file
-- takes them.
pub record MayCommit (c : Commit) (slot : ℕ) (s : Seen) : Type 0 where
  pub tells : Tells s
  pub sure : IsSure s.world
  pub words : HasWords c.layout.now c.words.now (file_of s.world slot)
  pub spelled : AreSpelled c.layout.now (stages_of c) (file_of s.world slot) c.tables.now
  pub can : CanCommit c.layout.now (stages_of c) (file_of s.world slot)

-- before its sync a commit leaves an outcome from before, but for the places of new tables
abbrev pub IsNearOutcome : Stages → ℕ → List Event → List ℕ → Type 0
IsNearOutcome stages slot events file = (was : List ℕ) × IsOutcome events slot was × Near stages was file

-- behind its sync it leaves some of the words and entries written
abbrev pub IsBlended : Layout → Stages → List ℕ → List ℕ → Type 0
IsBlended l stages was file = (mid : List ℕ) × IsSynced l stages was mid × Blend l mid stages file

-- and at its end all of them
abbrev pub IsCommittedFrom : Layout → Stages → List ℕ → List ℕ → Type 0
IsCommittedFrom l stages was file = (mid : List ℕ) × IsSynced l stages was mid × IsCommitted l mid stages file

-- each table that a file names spells the new entries of the 256 places of its group
abbrev pub SpellsNewEntries : Layout → Stages → List ℕ → List ℕ → Type 0
SpellsNewEntries l stages was file =
    (g t : ℕ) → g < l.groups → IsPlace (word_at l file g) → t / 256 ≡ g → entry_in_table l file (word_at l file g) t ≡ new_entry l stages was t

-- what a stop may leave in a commit that began with these events and this file
abbrev pub MayLeave : Layout → Stages → ℕ → List Event → List ℕ → List ℕ → Type 0
MayLeave l stages slot events was file = IsNearOutcome stages slot events file ⊎ IsBlended l stages was file

-- the file is the one at the sync, and a stop leaves no other
pub record IsSyncedNow (l : Layout) (stages : Stages) (slot : ℕ) (was : List ℕ) (s : Seen) : Type 0 where
  pub sure : IsSure s.world
  pub synced : IsSynced l stages was (file_of s.world slot)
  pub alone : EachOutcome slot (λ file. file ≡ file_of s.world slot) s.world.events

-- A commit reads nothing. A write that failed raised the count of writes, a sync that failed that of syncs, and no other count changed.
abbrev pub CountsCommit : {A : Type 0} → Result A Device → Faults → Faults → Type 0
CountsCommit (Ok done) old new = new ≡ old
CountsCommit (Err Read) old new = ⊥
CountsCommit (Err Write) old new = Raises Writes old new
CountsCommit (Err Sync) old new = Raises Syncs old new

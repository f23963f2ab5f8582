-- What the new tables of a commit are made of, and what they spell.
use Rattle.std.specs.Prelude.{◌≡◌, ℕ, ◌*◌, ◌/◌, ◌<◌, List, [], ◌++◌, length, slice_index, unwrap_or}
use Rattle.std.specs.List.Sorted.{IsStrictlyIncreasing}
use Rattle.cckd_base.specs.declared.geometry.Layout.{Layout}
use Rattle.cckd_base.specs.Geometry.{IsLayout}
use Rattle.cckd_base.specs.Entry.{entry_at, entry_in_table}
use Rattle.cckd_shelf.specs.Seen.{Seen, Tells, Stays}
use Rattle.cckd_shelf.specs.World.{IsSure, file_of}
use Rattle.cckd_tables.specs.declared.making.Making.{Making}
use Rattle.cckd_tables.specs.declared.staged.StagedEntry.{StagedEntry}
use Rattle.cckd_tables.specs.Staging.{Stages, entry_for, new_entry}
use Rattle.cckd_tables.specs.Tables.{TableView}
use Rattle.cckd_tables.specs.Cached.{IsCache, tables_in}
use Rattle.cckd_tables.specs.Commit.{staged_tracks, staged_groups, CanCommit}
use Rattle.cckd_tables.specs.Cells.{entry_among}

-- the tables that new ones are made of
abbrev pub tables_of : Making → TableView
tables_of m = record {
  layout = m.layout.now;
  words = m.words.now;
  stages = record { entries = m.entries.now; words = [] };
  cached = tables_in m.cache.now.entries;
}

-- what is given fits together
pub record IsMaking (m : Making) : Type 0 where
  pub layout : IsLayout m.layout.now
  pub words : length m.words.now ≡ m.layout.now.groups
  pub order : IsStrictlyIncreasing (staged_tracks m.entries.now)
  pub cache : IsCache m.cache.now

-- the old entries of a group, as far as it is told
abbrev pub HasOldEntries : Layout → ℕ → List ℕ → ℕ → Seen → Type 0
HasOldEntries l group table slot s =
    Tells s → IsSure s.world → (t : ℕ) → t / 256 ≡ group → entry_among l.order table t ≡ entry_at l (file_of s.world slot) t

-- the new ones
abbrev pub HasNewEntries : Layout → List StagedEntry → ℕ → List ℕ → ℕ → Seen → Type 0
HasNewEntries l entries group table slot s =
    Tells s → IsSure s.world → (t : ℕ) → t / 256 ≡ group
    → entry_among l.order table t ≡ unwrap_or (entry_for t entries) (entry_at l (file_of s.world slot) t)

-- a table of a group with its new entries was put behind others
pub record AddsTable (l : Layout) (entries : List StagedEntry) (group slot : ℕ) (s : Seen) (old new : List ℕ) : Type 0 where
  pub table : List ℕ
  pub size : length table ≡ 2048
  pub added : new ≡ old ++ table
  pub spelled : HasNewEntries l entries group table slot s

-- of tables one behind the other, the first n spell the new entries of the groups of the first n staged words
abbrev pub AreMade : Layout → Stages → ℕ → List ℕ → ℕ → Seen → Type 0
AreMade l stages n tables slot s =
    Tells s → IsSure s.world → (i : ℕ) → i < n → (t : ℕ) → t / 256 ≡ slice_index (staged_groups stages.words) i
    → entry_in_table l tables (2048 * i) t ≡ new_entry l stages (file_of s.world slot) t

-- nothing was changed, and no fault was counted
pub record Looked (old new : Seen) : Type 0 where
  pub kept : Stays old new
  pub faults : new.faults ≡ old.faults

-- what is shown is told and sure, and the file of the slot takes what is staged
pub record Commits (l : Layout) (stages : Stages) (slot : ℕ) (s : Seen) : Type 0 where
  pub tells : Tells s
  pub sure : IsSure s.world
  pub can : CanCommit l stages (file_of s.world slot)

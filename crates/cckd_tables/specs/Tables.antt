-- What callers see of a `Tables`, and what it has to do with the file of its slot.
use Rattle.std.specs.Prelude.{ℕ, ◌≡◌, ◌+◌, ◌*◌, ◌/◌, ◌%◌, ◌≤◌, ◌<◌, List, length, slice_index}
use Rattle.std.specs.List.{AllByRecursion}
use Rattle.cckd_base.specs.declared.geometry.Layout.{Layout}
use Rattle.cckd_base.specs.Geometry.{area_of}
use Rattle.cckd_base.specs.Numbers.{bytes_at}
use Rattle.cckd_base.specs.Entry.{word_at, entry_of, entry_in_table}
use Rattle.cckd_base.specs.Image.{IsPlace}
use Rattle.cckd_tables.specs.Staging.{Stages}

-- a group's table that is kept in memory
pub record CachedTable : Type 0 where
  pub group : ℕ
  pub bytes : List ℕ

-- the layout, the level-one words as the file has them, what is staged, and the cached tables, most recent first
pub record TableView : Type 0 where
  pub layout : Layout
  pub words : List ℕ
  pub stages : Stages
  pub cached : List CachedTable

-- the file's level-one words are these
abbrev pub HasWords : Layout → List ℕ → List ℕ → Type 0
HasWords l words file = (g : ℕ) → g < l.groups → word_at l file g ≡ slice_index words g

-- each table that a word names ends inside the file
abbrev pub HasTables : Layout → List ℕ → Type 0
HasTables l file = (g : ℕ) → g < l.groups → IsPlace (word_at l file g) → word_at l file g + 2048 ≤ length file

-- a cached table has the entries of the one that the file has for its group, at all 256 places
pub record IsCachedOf (l : Layout) (file : List ℕ) (c : CachedTable) : Type 0 where
  pub group : c.group < l.groups
  pub named : IsPlace (word_at l file c.group)
  pub entries : (t : ℕ) → t / 256 ≡ c.group → entry_of l.order (bytes_at c.bytes (8 * (t % 256)) 8) ≡ entry_in_table l file (word_at l file c.group) t

-- the words and the cached tables are the file's
pub record AreOf (view : TableView) (file : List ℕ) : Type 0 where
  pub area : area_of view.layout.groups ≤ length file
  pub words : HasWords view.layout view.words file
  pub tables : HasTables view.layout file
  pub cached : AllByRecursion (IsCachedOf view.layout file) view.cached

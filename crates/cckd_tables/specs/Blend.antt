-- What writing new tables, and then words and entries one by one, makes of a file.
use Rattle.std.specs.Prelude.{◌≡◌, ◌⊎◌, ℕ, ◌+◌, ◌*◌, ◌/◌, ◌%◌, ◌<◌, ◌≤◌, ◌==◌, if◌then◌else◌, List, [], ◌∷◌, length, slice_index}
use Rattle.std.specs.List.{AllByRecursion}
use Rattle.cckd_shelf.specs.Files.{overlaid}
use Rattle.cckd_base.specs.declared.order.Order.{Order}
use Rattle.cckd_base.specs.declared.geometry.Layout.{Layout}
use Rattle.cckd_base.specs.Numbers.{bytes_at}
use Rattle.cckd_base.specs.Geometry.{track_count}
use Rattle.cckd_base.specs.Entry.{word_at, entry_at, entry_in_table, entry_bytes}
use Rattle.cckd_base.specs.Image.{IsPlace, ShareNoByte}
use Rattle.cckd_tables.specs.declared.staged.StagedEntry.{StagedEntry}
use Rattle.cckd_tables.specs.declared.staged.StagedWord.{StagedWord}
use Rattle.cckd_tables.specs.Staging.{Stages, IsStaged, IsMoved, new_entry, new_word}

-- n bytes from place a on share none with a new table
abbrev pub AreBesideNew : List StagedWord → ℕ → ℕ → Type 0
AreBesideNew words a n = AllByRecursion (λ s. ShareNoByte a n s.pos 2048) words

-- the same outside the places of new tables, no shorter, and no longer than any length that has them all
pub record Near (stages : Stages) (was file : List ℕ) : Type 0 where
  pub outside : (i : ℕ) → i < length was → AreBesideNew stages.words i 1 → slice_index file i ≡ slice_index was i
  pub no_shorter : length was ≤ length file
  pub no_longer : (n : ℕ) → length was ≤ n → AllByRecursion (λ s. s.pos + 2048 ≤ n) stages.words → length file ≤ n

-- each new table ends inside the file, and spells the new entries of the 256 places of its group
pub record HasNewTables (l : Layout) (stages : Stages) (was file : List ℕ) : Type 0 where
  pub within : (g : ℕ) → IsMoved g stages → new_word l stages was g + 2048 ≤ length file
  pub spelled : (t : ℕ) → IsMoved (t / 256) stages → entry_in_table l file (new_word l stages was (t / 256)) t ≡ new_entry l stages was t

-- a byte that is in no word of a moved group, and in no staged entry of a group that isn't moved
pub record IsStill (l : Layout) (was : List ℕ) (stages : Stages) (i : ℕ) : Type 0 where
  pub words : (g : ℕ) → g < l.groups → IsMoved g stages → ShareNoByte i 1 (1024 + 4 * g) 4
  pub entries : (t : ℕ) → t < track_count l.geo → IsStaged t stages → (IsMoved (t / 256) stages → ⊥) → IsPlace (word_at l was (t / 256))
      → ShareNoByte i 1 (word_at l was (t / 256) + 8 * (t % 256)) 8

-- Some staged words and entries are written over those of a file: each word and each entry is the old one or the new one, and all else
-- is as it was.
pub record Blend (l : Layout) (was : List ℕ) (stages : Stages) (file : List ℕ) : Type 0 where
  pub size : length file ≡ length was
  pub still : (i : ℕ) → i < length was → IsStill l was stages i → slice_index file i ≡ slice_index was i
  pub words : (g : ℕ) → g < l.groups → (word_at l file g ≡ word_at l was g) ⊎ (word_at l file g ≡ new_word l stages was g)
  pub entries : (t : ℕ) → t < track_count l.geo → (entry_at l file t ≡ entry_at l was t) ⊎ (entry_at l file t ≡ new_entry l stages was t)

-- the table of a group with a staged entry put over, where the entry is of the group
abbrev pub with_put : Order → ℕ → StagedEntry → List ℕ → List ℕ
with_put order group s table =
    if s.track / 256 == group then overlaid table (8 * (s.track % 256)) (entry_bytes order s.entry) else table

-- the table of a group with staged entries put over
abbrev pub put_over : Order → ℕ → List StagedEntry → List ℕ → List ℕ
put_over order group [] table = table
put_over order group (s ∷ ss) table = put_over order group ss (with_put order group s table)

-- All of them are written. The table of a group that isn't moved has the staged entries put over.
pub record IsCommitted (l : Layout) (was : List ℕ) (stages : Stages) (file : List ℕ) : Type 0 where
  pub blend : Blend l was stages file
  pub words : (g : ℕ) → g < l.groups → word_at l file g ≡ new_word l stages was g
  pub entries : (t : ℕ) → t < track_count l.geo → entry_at l file t ≡ new_entry l stages was t
  pub tables : (g : ℕ) → g < l.groups → (IsMoved g stages → ⊥) → IsPlace (word_at l was g)
      → bytes_at file (word_at l was g) 2048 ≡ put_over l.order g stages.entries (bytes_at was (word_at l was g) 2048)

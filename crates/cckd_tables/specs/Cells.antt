-- What the single steps of a commit take and keep.
use Rattle.std.specs.Prelude.{◌≡◌, ℕ, ◌+◌, ◌*◌, ◌/◌, ◌%◌, ◌<◌, ◌≤◌, List, [], ◌∷◌, ◌++◌, length, take, slice_index, unwrap_or, Some, Result, OnOk, OnErr}
use Rattle.cckd_base.specs.declared.order.Order.{Order}
use Rattle.cckd_base.specs.declared.geometry.Layout.{Layout}
use Rattle.cckd_base.specs.declared.entry.L2Entry.{L2Entry}
use Rattle.cckd_base.specs.Geometry.{track_count, area_of, IsLayout}
use Rattle.cckd_base.specs.Numbers.{bytes_at}
use Rattle.cckd_base.specs.Entry.{word_at, entry_at, entry_of, entry_bytes}
use Rattle.cckd_base.specs.Image.{IsPlace, ShareNoByte, IsImage}
use Rattle.cckd_shelf.specs.declared.fault.Failed.{Failed}
use Rattle.cckd_shelf.specs.declared.fault.Kind.TheVariants.{Writes}
use Rattle.cckd_shelf.specs.World.{after_write, after_torn}
use Rattle.cckd_shelf.specs.Seen.{Seen, Makes, MayMake, Fails}
use Rattle.cckd_tables.specs.declared.staged.StagedEntry.{StagedEntry}
use Rattle.cckd_tables.specs.declared.staged.StagedWord.{StagedWord}
use Rattle.cckd_tables.specs.Staging.{Stages, entry_for, place_for, IsMoved, new_word}
use Rattle.cckd_tables.specs.Blend.{Blend, put_over}
use Rattle.cckd_tables.specs.Commit.{staged_places, CanMove, CanBlend}

-- one call that writes these bytes at a position of a slot
pub record OneWrite (slot position : ℕ) (bytes : List ℕ) (result : Result (Unit {0}) Failed) (old new : Seen) : Type 0 where
  pub written : OnOk result (Makes (after_write slot position bytes) old new)
  pub torn : OnErr result (MayMake (after_torn slot position bytes) old new)
  pub fails : Fails Writes result old new

-- an image over which words and entries can be written
pub record IsReady (l : Layout) (stages : Stages) (was : List ℕ) : Type 0 where
  pub layout : IsLayout l
  pub image : IsImage l was
  pub can_move : CanMove l stages was
  pub can_blend : CanBlend l stages was

-- the new tables of two staged words share no byte
abbrev pub AreDisjoint : List StagedWord → Type 0
AreDisjoint words =
    (i j : ℕ) → i < j → j < length words
    → ShareNoByte (slice_index (staged_places words) i) 2048 (slice_index (staged_places words) j) 2048

-- the tables of the first n staged words stand at their places
pub record AreTablesWritten (words : List StagedWord) (tables : List ℕ) (n : ℕ) (file : List ℕ) : Type 0 where
  pub within : (i : ℕ) → i < n → slice_index (staged_places words) i + 2048 ≤ length file
  pub bytes : (i : ℕ) → i < n → bytes_at file (slice_index (staged_places words) i) 2048 ≡ bytes_at tables (2048 * i) 2048

-- the first n staged words are written
pub record AreWordsWritten (l : Layout) (was : List ℕ) (stages : Stages) (n : ℕ) (file : List ℕ) : Type 0 where
  pub blend : Blend l was stages file
  pub words : (g p : ℕ) → g < l.groups → place_for g (take n stages.words) ≡ Some p → word_at l file g ≡ p
  pub behind : (i : ℕ) → area_of l.groups ≤ i → i < length was → slice_index file i ≡ slice_index was i

-- where the entry of a track stands, by the level-one words
abbrev pub cell : List ℕ → ℕ → ℕ
cell words t = slice_index words (t / 256) + 8 * (t % 256)

-- eight bytes spell an entry
pub record IsEncoded (order : Order) (e : L2Entry) : Type 0 where
  pub size : length (entry_bytes order e) ≡ 8
  pub decoded : entry_of order (entry_bytes order e) ≡ e

-- the bytes of staged entries, one after another
abbrev pub run_bytes : Order → List StagedEntry → List ℕ
run_bytes order [] = []
run_bytes order (s ∷ ss) = entry_bytes order s.entry ++ run_bytes order ss

-- The n staged entries from one on are of neighbouring tracks of one group. Where that one stands at a multiple of 8, they stand in one
-- sector.
pub record IsRun (tracks : List ℕ) (first n at : ℕ) : Type 0 where
  pub some : 0 < n
  pub within : first + n ≤ length tracks
  pub neighbours : (i : ℕ) → i < n → slice_index tracks (first + i) ≡ slice_index tracks first + i
  pub group : slice_index tracks first % 256 + n ≤ 256
  pub few : n ≤ 64
  pub sector : at % 8 ≡ 0 → at % 512 + 8 * n ≤ 512

-- all words are, and the first n staged entries
pub record AreEntriesWritten (l : Layout) (was : List ℕ) (stages : Stages) (n : ℕ) (file : List ℕ) : Type 0 where
  pub blend : Blend l was stages file
  pub words : (g : ℕ) → g < l.groups → word_at l file g ≡ new_word l stages was g
  pub entries : (t : ℕ) (e : L2Entry) → t < track_count l.geo → entry_for t (take n stages.entries) ≡ Some e → entry_at l file t ≡ e
  pub tables : (g : ℕ) → g < l.groups → (IsMoved g stages → ⊥) → IsPlace (word_at l was g)
      → bytes_at file (word_at l was g) 2048 ≡ put_over l.order g (take n stages.entries) (bytes_at was (word_at l was g) 2048)

-- the entry at a place of a table, counted by tracks
abbrev pub entry_among : Order → List ℕ → ℕ → L2Entry
entry_among order table t = entry_of order (bytes_at table (8 * (t % 256)) 8)

-- in a group's table stand the entries of an older one, with these staged ones put over
abbrev pub ArePutOver : Order → ℕ → List StagedEntry → List ℕ → List ℕ → Type 0
ArePutOver order group entries old new = (t : ℕ) → t / 256 ≡ group → entry_among order new t ≡ unwrap_or (entry_for t entries) (entry_among order old t)

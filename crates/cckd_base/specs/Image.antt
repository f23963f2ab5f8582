-- A CCKD image as a whole: sound, snug, and each table and each stored track in a place of its own.
use Rattle.std.specs.Prelude.{◌≡◌, ◌≢◌, ◌⊎◌, ℕ, ◌+◌, ◌<◌, ◌≤◌, List, length, None}
use Rattle.cckd_base.specs.declared.geometry.Layout.{Layout}
use Rattle.cckd_base.specs.Geometry.{track_count, area_of}
use Rattle.cckd_base.specs.Entry.{see_parent, word_at, entry_at}
use Rattle.cckd_base.specs.Header.{headers_of, header_fault, layout_of}
use Rattle.cckd_base.specs.Misfit.{table_misfit, entry_misfit}
use Rattle.cckd_base.specs.Survey.{HasNoMisfit}

-- the headers of a file have no fault where these identifiers are wanted, and say this layout
pub record IsHeaded (identifiers : List (List ℕ)) (l : Layout) (file : List ℕ) : Type 0 where
  pub sound : header_fault identifiers (headers_of file) (length file) ≡ None
  pub says : l ≡ layout_of (headers_of file)

-- a sound image of this layout: its headers have no fault, and its tables no misfit
pub record IsSound (identifiers : List (List ℕ)) (l : Layout) (file : List ℕ) : Type 0 where
  pub headed : IsHeaded identifiers l file
  pub clean : HasNoMisfit l file

-- a position that names a space: it isn't 0, and doesn't send to the file below
abbrev pub IsPlace : ℕ → Type 0
IsPlace pos = (pos ≢ 0) × (pos ≢ see_parent)

-- n bytes from place a on, and m bytes from b on, share none
abbrev pub ShareNoByte : ℕ → ℕ → ℕ → ℕ → Type 0
ShareNoByte a n b m = (a + n ≤ b) ⊎ (b + m ≤ a)

-- the space of each stored track ends inside the file
abbrev pub IsSnug : Layout → List ℕ → Type 0
IsSnug l file =
    (t : ℕ) → t < track_count l.geo → IsPlace (entry_at l file t).pos → (entry_at l file t).pos + (entry_at l file t).size ≤ length file

-- The tables and the stored tracks of an image, pair by pair: each word and each entry can be, each space ends inside the
-- file, and no two of them share a byte.
pub record IsImage (l : Layout) (file : List ℕ) : Type 0 where
  pub area : area_of l.groups ≤ length file
  pub words : (g : ℕ) → g < l.groups → table_misfit l (length file) g (word_at l file g) ≡ None
  pub entries : (t : ℕ) → t < track_count l.geo → entry_misfit l (length file) t (entry_at l file t) ≡ None
  pub snug : IsSnug l file
  pub tables_apart : (g h : ℕ) → g < l.groups → h < l.groups → g ≢ h → IsPlace (word_at l file g) → IsPlace (word_at l file h)
      → ShareNoByte (word_at l file g) 2048 (word_at l file h) 2048
  pub beside : (t g : ℕ) → t < track_count l.geo → g < l.groups → IsPlace (entry_at l file t).pos → IsPlace (word_at l file g)
      → ShareNoByte (entry_at l file t).pos (entry_at l file t).size (word_at l file g) 2048
  pub tracks_apart : (t u : ℕ) → t < track_count l.geo → u < track_count l.geo → t ≢ u → IsPlace (entry_at l file t).pos
      → IsPlace (entry_at l file u).pos → ShareNoByte (entry_at l file t).pos (entry_at l file t).size (entry_at l file u).pos (entry_at l file u).size

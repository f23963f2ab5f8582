-- The map of a layer, from its tracks to their stored bytes, and what a stop may leave of one.
use Rattle.std.specs.Prelude.{ℕ, ◌≡◌, ◌⊎◌, ◌<◌, List, [], ◌∷◌, Option, Some}
use Rattle.cckd_base.specs.declared.geometry.Geometry.{Geometry}
use Rattle.cckd_base.specs.declared.geometry.Layout.{Layout}
use Rattle.cckd_base.specs.Geometry.{track_count}
use Rattle.cckd_base.specs.Entry.{bytes_by_entry, stored_bytes}
use Rattle.cckd_tables.specs.Staging.{Stages, new_entry}
use Rattle.cckd_layer.specs.Sits.{IsWhole}

-- a track's stored bytes, or nothing where the file below is asked
abbrev pub Tracks : Type 0
Tracks = ℕ → Option (List ℕ)

-- the bytes of a null track, by geometry, track and format
abbrev pub NullBytes : Type 0
NullBytes = Geometry → ℕ → ℕ → List ℕ

-- what a file holds
abbrev pub held_in : NullBytes → Layout → List ℕ → Tracks
held_in null l file t = stored_bytes null l file t

-- what a layer holds: the bytes by its file's entries, with the staged ones put over
abbrev pub held : NullBytes → Layout → Stages → List ℕ → Tracks
held null l s file t = bytes_by_entry null l file t (new_entry l s file t)

-- two maps have the same bytes for each of so many tracks
pub record AreSame (count : ℕ) (m k : Tracks) : Type 0 where
  pub each : (t : ℕ) → t < count → m t ≡ k t

-- the map has these bytes for a track, and is as before for the others
pub record Stores (count t : ℕ) (bytes : Option (List ℕ)) (old new : Tracks) : Type 0 where
  pub here : new t ≡ bytes
  pub others : (u : ℕ) → u < count → (t ≡ u → ⊥) → new u ≡ old u

-- a track and bytes that were written to it
pub record Later : Type 0 where
  pub track : ℕ
  pub bytes : List ℕ

-- some of what was written later gives the track these bytes
abbrev pub IsLater : List Later → ℕ → Option (List ℕ) → Type 0
IsLater [] t bytes = ⊥
IsLater (w ∷ ws) t bytes = ((w.track ≡ t) × (bytes ≡ Some w.bytes)) ⊎ IsLater ws t bytes

-- each of so many tracks is as in a map, or has bytes that were written to it later
pub record LiesWithin (count : ℕ) (d : Tracks) (later : List Later) (m : Tracks) : Type 0 where
  pub each : (t : ℕ) → t < count → (m t ≡ d t) ⊎ IsLater later t (m t)

-- a file that a stop may leave: a whole image, whose map lies within
pub record Keeps (null : NullBytes) (l : Layout) (d : Tracks) (later : List Later) (file : List ℕ) : Type 0 where
  pub whole : IsWhole l file
  pub lies : LiesWithin (track_count l.geo) d later (held_in null l file)

-- a whole image that holds exactly a map
pub record Holds (null : NullBytes) (l : Layout) (m : Tracks) (file : List ℕ) : Type 0 where
  pub whole : IsWhole l file
  pub same : AreSame (track_count l.geo) (held_in null l file) m

-- The stack of layers that the files of a disk hold.
use Rattle.std.specs.Prelude.{◌≡◌, ℕ, ◌+◌, ◌<◌, ◌≤◌, nat_le, nat_lt, false, ◌&&◌, if◌then◌else◌, List, [], ◌∷◌, length, None}
use Rattle.cckd_base.specs.declared.geometry.Geometry.{Geometry}
use Rattle.cckd_base.specs.declared.geometry.Layout.{Layout}
use Rattle.cckd_base.specs.Geometry.{track_count}
use Rattle.cckd_base.specs.Header.{is_present, base_identifier, shadow_identifier}
use Rattle.cckd_base.specs.Image.{IsSound}
use Rattle.cckd_base.specs.Entry.{stored_bytes}
use Rattle.cckd_base.specs.Track.{null_track}
use Rattle.cckd_base.specs.Survey.{used_spaces}
use Rattle.cckd_space.specs.declared.piece.Piece.{Piece}
use Rattle.cckd_space.specs.Pieces.{free_runs}
use Rattle.cckd_tables.specs.Kept.{holders}
use Rattle.cckd_stack.specs.Layers.{Layer, Stack, base, shadow, layer_count}

-- the tracks that a file of this layout holds, with their stored bytes
abbrev pub held_tracks : Layout → List ℕ → Layer
held_tracks l file t = if nat_lt t (track_count l.geo) then stored_bytes null_track l file t else None

-- how many of these pieces hold a byte
abbrev pub runs_with : ℕ → List Piece → ℕ
runs_with at [] = 0
runs_with at (p ∷ ps) = (if nat_le p.pos at && nat_lt at (p.pos + p.size) then 1 else 0) + runs_with at ps

-- Each byte of the file lies in one of the spaces in use or in one of the free runs, and in no other of either; and none of
-- them has a byte past its end.
pub record IsCovered (l : Layout) (file : List ℕ) : Type 0 where
  pub inside : (at : ℕ) → at < length file → holders at (used_spaces l file) + runs_with at (free_runs 0 (used_spaces l file) (length file)) ≡ 1
  pub past : (at : ℕ) → length file ≤ at → holders at (used_spaces l file) + runs_with at (free_runs 0 (used_spaces l file) (length file)) ≡ 0

-- a sound image with this identifier and of this geometry, which holds this layer. Its used and free space
-- cover it, each byte once.
pub record HoldsLayer (identifier : List ℕ) (g : Geometry) (file : List ℕ) (layer : Layer) : Type 0 where
  pub layout : Layout
  pub sound : IsSound (identifier ∷ []) layout file
  pub geometry : layout.geo ≡ g
  pub covered : IsCovered layout file
  pub held : layer ≡ held_tracks layout file

-- each layer stands in the file of its slot, the base in slot 0
abbrev pub StandIn : Geometry → (ℕ → List ℕ) → Stack → Type 0
StandIn g files (base layer) = HoldsLayer base_identifier g (files 0) layer
StandIn g files (shadow layer lower) = StandIn g files lower × HoldsLayer shadow_identifier g (files (layer_count lower)) layer

-- the files open to this stack: its layers stand in the slots from 0 on, at most nine of them, and no slot above is there
pub record Opens (g : Geometry) (files : ℕ → List ℕ) (s : Stack) : Type 0 where
  pub stand : StandIn g files s
  pub few : layer_count s ≤ 9
  pub above : (slot : ℕ) → layer_count s ≤ slot → slot ≤ 8 → is_present (files slot) ≡ false

-- they open to a stack of which this holds
pub record OpensTo (g : Geometry) (P : Stack → Type 0) (files : ℕ → List ℕ) : Type 0 where
  pub stack : Stack
  pub opens : Opens g files stack
  pub holds : P stack

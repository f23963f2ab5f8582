-- What always holds of each file that a stop may leave: it is a whole image, and no byte that it needs is free.
use Rattle.std.specs.Prelude.{ℕ, ◌≡◌, ◌+◌, ◌/◌, ◌%◌, ◌<◌, ◌≤◌, Bool, true, false, if◌then◌else◌, List, [], ◌∷◌}
use Rattle.cckd_base.specs.declared.geometry.Layout.{Layout}
use Rattle.cckd_base.specs.Geometry.{track_count, area_of}
use Rattle.cckd_base.specs.Entry.{word_at, entry_at}
use Rattle.cckd_base.specs.Header.{base_identifier, shadow_identifier, headers_of, header_options}
use Rattle.cckd_base.specs.Image.{IsPlace, IsHeaded, IsImage}
use Rattle.cckd_space.specs.declared.piece.Kind.{Kind}
use Rattle.cckd_space.specs.declared.piece.Kind.TheVariants.{Used, Free, Reserved, Leaving, Pending}
use Rattle.cckd_space.specs.declared.piece.Piece.{Piece}
use Rattle.cckd_space.specs.Pieces.{Has, piece_end}

-- what the file of such a layout begins with
abbrev pub identifiers_for : Layout → List (List ℕ)
identifiers_for l = (if l.shadow then shadow_identifier else base_identifier) ∷ []

-- an image of this layout: its headers have no fault and say it, its tables have no misfit, and its spaces end inside it
pub record IsWhole (l : Layout) (file : List ℕ) : Type 0 where
  pub headed : IsHeaded (identifiers_for l) l file
  pub image : IsImage l file

-- its headers say that it was opened and not closed: option bit 128 is on
pub record IsMarked (file : List ℕ) : Type 0 where
  pub on : header_options (headers_of file) / 128 % 2 ≡ 1

-- a kind of piece whose bytes a file may need that a stop leaves
abbrev pub held_kind : Kind → Bool
held_kind Used = true
held_kind Leaving = true
held_kind Pending = true
held_kind Free = false
held_kind Reserved = false

-- so many bytes from a place on lie in one piece of such a kind
pub record IsHeld (ps : List Piece) (pos n : ℕ) : Type 0 where
  pub piece : Piece
  pub there : Has piece ps
  pub kind : held_kind piece.kind ≡ true
  pub low : piece.pos ≤ pos
  pub high : pos + n ≤ piece_end piece

-- so do the header area, the tables and the stored bytes of a file
pub record Rests (l : Layout) (ps : List Piece) (file : List ℕ) : Type 0 where
  pub area : IsHeld ps 0 (area_of l.groups)
  pub tables : (g : ℕ) → g < l.groups → IsPlace (word_at l file g) → IsHeld ps (word_at l file g) 2048
  pub tracks : (t : ℕ) → t < track_count l.geo → IsPlace (entry_at l file t).pos
      → IsHeld ps (entry_at l file t).pos (entry_at l file t).size

-- a whole image that rests in the pieces
pub record Sits (l : Layout) (ps : List Piece) (file : List ℕ) : Type 0 where
  pub whole : IsWhole l file
  pub rests : Rests l ps file

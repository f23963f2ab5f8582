-- What always holds of the fields of a `Space`, and words for its parts.
use Rattle.std.specs.Prelude.{◌≡◌, ℕ, ◌+◌, ◌<◌, ◌≤◌, nat_lt, Bool, List, [], ◌∷◌, ◌++◌, length, slice_index_or}
use Rattle.cckd_space.specs.declared.piece.Piece.{Piece}
use Rattle.cckd_space.specs.Pieces.{NotBothFree, IsLaid, counted, is_leaving, is_pending, largest, piece_end}

-- one mark says whether there is a Leaving piece, the other whether there is a Pending one
pub record IsMarked (pieces : List Piece) (leaving pending : Bool) : Type 0 where
  pub some_leaving : leaving ≡ nat_lt 0 (counted is_leaving pieces)
  pub some_pending : pending ≡ nat_lt 0 (counted is_pending pieces)

-- The pieces cover the file, none offers more than a number, and the marks are true of its Leaving and Pending pieces. No
-- more are said to be spare than there are.
pub record IsKept (pieces : List Piece) (size most : ℕ) (leaving pending : Bool) (least spare : ℕ) : Type 0 where
  pub laid : IsLaid 0 pieces size
  pub offers : largest pieces ≤ most
  pub marked : IsMarked pieces leaving pending
  pub few : least ≤ spare

-- each piece begins before those behind it
pub record IsInOrder (pieces : List Piece) : Type 0 where
  pub each : (i j : ℕ) (d : Piece) → i < j → j < length pieces → (slice_index_or pieces i d).pos < (slice_index_or pieces j d).pos

-- the pieces before an index begin before a place, and the others at it or behind it
pub record StartsAt (pos : ℕ) (pieces : List Piece) (at : ℕ) : Type 0 where
  pub within : at ≤ length pieces
  pub before : (k : ℕ) (d : Piece) → k < at → (slice_index_or pieces k d).pos < pos
  pub behind : (k : ℕ) (d : Piece) → at ≤ k → k < length pieces → pos ≤ (slice_index_or pieces k d).pos

-- no two neighbours are Free
abbrev pub AreMerged : List Piece → Type 0
AreMerged [] = Unit {0}
AreMerged (p ∷ ps) = NotBothFree p ps × AreMerged ps

-- the bytes of all pieces
abbrev pub size_of : List Piece → ℕ
size_of [] = 0
size_of (p ∷ ps) = p.size + size_of ps

-- the last piece ends here
pub record EndsAt (pieces : List Piece) (size : ℕ) : Type 0 where
  pub none : pieces ≡ [] → size ≡ 0
  pub last : (front : List Piece) (p : Piece) → pieces ≡ front ++ p ∷ [] → piece_end p ≡ size

-- each piece ends below a number
pub record EndsBelow (pieces : List Piece) (most : ℕ) : Type 0 where
  pub each : (i : ℕ) (d : Piece) → i < length pieces → piece_end (slice_index_or pieces i d) < most

-- What the writes of a layer may change of a file, whatever stops them.
use Rattle.std.specs.Prelude.{ℕ, ◌≡◌, ◌⊎◌, ◌+◌, ◌<◌, ◌≤◌, max, true, List, length, slice_index}
use Rattle.cckd_shelf.specs.Files.{overlaid}
use Rattle.cckd_shelf.specs.Events.{Event}
use Rattle.cckd_shelf.specs.Outcomes.{IsOutcome}
use Rattle.cckd_space.specs.declared.piece.Piece.{Piece}
use Rattle.cckd_space.specs.Pieces.{Has, is_free, piece_end}

-- so many bytes from a place on were written, in whole or in part or not, and nothing else was
pub record Fills (pos n : ℕ) (was file : List ℕ) : Type 0 where
  pub outside : (i : ℕ) → i < length was → (i < pos) ⊎ (pos + n ≤ i) → slice_index file i ≡ slice_index was i
  pub no_shorter : length was ≤ length file
  pub no_longer : length file ≤ max (length was) (pos + n)

-- an outcome of earlier events, but for such bytes
abbrev pub IsFilled : List Event → ℕ → ℕ → ℕ → List ℕ → Type 0
IsFilled events slot pos n file = (was : List ℕ) × IsOutcome events slot was × Fills pos n was file

-- an outcome of earlier events, with other bytes for its second header or with its own
abbrev pub IsRemarked : List Event → ℕ → List ℕ → List ℕ → Type 0
IsRemarked events slot bytes file =
    (was : List ℕ) × IsOutcome events slot was × ((file ≡ was) ⊎ (file ≡ overlaid was 512 bytes))

-- a byte that lies in no Free piece
abbrev pub IsTaken : List Piece → ℕ → Type 0
IsTaken ps i = (p : Piece) → Has p ps → is_free p ≡ true → (i < p.pos) ⊎ (piece_end p ≤ i)

-- only bytes of Free pieces were written
pub record ChangesFree (ps : List Piece) (size : ℕ) (was file : List ℕ) : Type 0 where
  pub taken : (i : ℕ) → i < length was → IsTaken ps i → slice_index file i ≡ slice_index was i
  pub no_shorter : length was ≤ length file
  pub no_longer : length file ≤ max (length was) size

-- an outcome of earlier events, but for bytes of Free pieces
abbrev pub IsChained : List Event → ℕ → List Piece → ℕ → List ℕ → Type 0
IsChained events slot ps size file = (was : List ℕ) × IsOutcome events slot was × ChangesFree ps size was file

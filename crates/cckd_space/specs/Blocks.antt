-- The pieces of a file as blocks side by side.
use Rattle.std.specs.Prelude.{◌≡◌, ℕ, zero, suc, if◌then◌else◌, ◌+◌, ◌*◌, ◌^◌, min, ◌<◌, ◌≤◌, nat_le, ◌&&◌, Bool, false, List, [], ◌∷◌, ◌++◌, length, take, drop, slice_set, slice_index_or, None, IsSome}
use Rattle.cckd_space.specs.declared.piece.Piece.{Piece}
use Rattle.cckd_space.specs.Pieces.{Has, first, largest, counted, is_free, is_leaving, is_pending, free_piece}
use Rattle.cckd_space.specs.Inside.{AreMerged}

-- the block at an index
abbrev pub block_at : List (List Piece) → ℕ → List Piece
block_at bs i = slice_index_or bs i []

-- the blocks joined
abbrev pub whole : List (List Piece) → List Piece
whole [] = []
whole (b ∷ bs) = b ++ whole bs

-- the first piece that passes a test is in the block at this index
pub record IsFoundIn (test : Piece → Bool) (bs : List (List Piece)) (at : ℕ) : Type 0 where
  pub within : at < length bs
  pub before : first test (whole (take at bs)) ≡ None
  pub here : IsSome (first test (block_at bs at))

-- each of the first blocks has more pieces with the next one than may stand in a block
abbrev pub IsDense : ℕ → ℕ → List (List Piece) → Type 0
IsDense full n bs = (i : ℕ) → i < n → full < length (block_at bs i) + length (block_at bs (i + 1))

-- a list ends with a Free piece
abbrev pub ends_free : List Piece → Bool
ends_free [] = false
ends_free (p ∷ []) = is_free p
ends_free (p ∷ q ∷ ps) = ends_free (q ∷ ps)

-- a list begins with a Free piece
abbrev pub starts_free : List Piece → Bool
starts_free [] = false
starts_free (p ∷ ps) = is_free p

-- so many free bytes more at its end
abbrev pub grown : ℕ → List Piece → List Piece
grown more [] = []
grown more (p ∷ []) = free_piece p.pos (p.size + more) ∷ []
grown more (p ∷ q ∷ ps) = p ∷ grown more (q ∷ ps)

-- the size of the first piece
abbrev pub first_size : List Piece → ℕ
first_size [] = 0
first_size (p ∷ ps) = p.size

-- of the first borders, none has a Free piece on both sides
abbrev pub AreClosed : ℕ → List (List Piece) → Type 0
AreClosed n bs = (i : ℕ) → i < n → (ends_free (block_at bs i) && starts_free (block_at bs (i + 1))) ≡ false

-- no block is empty, and in none two neighbours are Free
abbrev pub AreTidy : List (List Piece) → Type 0
AreTidy [] = Unit {0}
AreTidy (b ∷ bs) = (0 < length b) × AreMerged b × AreTidy bs

-- the blocks with the two Free pieces at a border as one
abbrev pub closed_at : ℕ → List (List Piece) → List (List Piece)
closed_at at bs = slice_set (slice_set bs at (grown (first_size (block_at bs (at + 1))) (block_at bs at))) (at + 1) (drop 1 (block_at bs (at + 1)))

-- where a mark is false, there is no Leaving piece, or no Pending one
pub record AreMarked (pieces : List Piece) (leaving pending : Bool) : Type 0 where
  pub none_leaving : leaving ≡ false → counted is_leaving pieces ≡ 0
  pub none_pending : pending ≡ false → counted is_pending pieces ≡ 0

-- a block has at most 128 pieces and memory for as many, and what it says of them is true
pub record IsBlock (pieces : List Piece) (capacity most : ℕ) (leaving pending tail head : Bool) : Type 0 where
  pub few : length pieces ≤ 128
  pub room : 128 ≤ capacity
  pub offers : largest pieces ≤ most
  pub marked : AreMarked pieces leaving pending
  pub end : tail ≡ false → ends_free pieces ≡ false
  pub start : head ≡ false → starts_free pieces ≡ false

-- no block is empty
abbrev pub AreFilled : List (List Piece) → Type 0
AreFilled [] = Unit {0}
AreFilled (b ∷ bs) = (0 < length b) × AreFilled bs

-- no block is empty, and none has more pieces than may stand in a block
abbrev pub AreFit : ℕ → List (List Piece) → Type 0
AreFit full [] = Unit {0}
AreFit full (b ∷ bs) = (0 < length b) × (length b ≤ full) × AreFit full bs

-- all blocks but the one at an index are so, which has at least and at most so many pieces
abbrev pub AreFitBut : ℕ → ℕ → ℕ → ℕ → List (List Piece) → Type 0
AreFitBut full least most at [] = Unit {0}
AreFitBut full least most zero (b ∷ bs) = (least ≤ length b) × (length b ≤ most) × AreFit full bs
AreFitBut full least most (suc at) (b ∷ bs) = (0 < length b) × (length b ≤ full) × AreFitBut full least most at bs

-- where the blocks were fit they still are
abbrev pub StayFit : List (List Piece) → List (List Piece) → Type 0
StayFit old new = (full : ℕ) → AreFit full old → AreFit full new

-- two lists one behind the other, with the Free pieces at the border as one
abbrev pub knit : List Piece → List Piece → List Piece
knit xs ys = if ends_free xs && starts_free ys then grown (first_size ys) xs ++ drop 1 ys else xs ++ ys

-- each piece begins before those behind it
abbrev pub AreInOrder : List Piece → Type 0
AreInOrder [] = Unit {0}
AreInOrder (p ∷ ps) = ((q : Piece) → Has q ps → p.pos < q.pos) × AreInOrder ps

-- where a list begins
abbrev pub first_pos : List Piece → ℕ
first_pos [] = 0
first_pos (p ∷ ps) = p.pos

-- a list begins at or before a place
abbrev pub starts_by : ℕ → List Piece → Bool
starts_by pos ps = nat_le (first_pos ps) pos

-- what begins at a place is in the block at this index: all before it begins before the place, and all behind it begins behind
pub record StandsIn (pos : ℕ) (bs : List (List Piece)) (at : ℕ) : Type 0 where
  pub within : at < length bs
  pub before : (p : Piece) → Has p (whole (take at bs)) → p.pos < pos
  pub behind : (p : Piece) → Has p (whole (drop (at + 1) bs)) → pos < p.pos

-- blocks whose pieces may be read: none is empty, the pieces are in order, and they can be counted
pub record AreRead (blocks : List (List Piece)) : Type 0 where
  pub filled : AreFilled blocks
  pub order : AreInOrder (whole blocks)
  pub small : length (whole blocks) < 2 ^ 63

-- pieces, and how many may still be added without taking memory
pub record Held : Type 0 where
  pub pieces : List Piece
  pub spare : ℕ

-- the pieces are these now, and the spare ones went where they were used
pub record Holds (old new : Held) (pieces : List Piece) : Type 0 where
  pub now : new.pieces ≡ pieces
  pub spare : new.spare + length pieces ≡ old.spare + length old.pieces

-- the blocks are fit, there are no more pieces than the slots, and there is memory for all blocks on either side;
-- packed blocks of as many pieces as the slots leave one in the store; and the pieces can be counted
pub record AreHeld (blocks : List (List Piece)) (slots full count stored roomb rooms : ℕ) : Type 0 where
  pub least : 4 ≤ full
  pub most : full ≤ 126
  pub fit : AreFit full blocks
  pub fewer : length (whole blocks) ≤ slots
  pub enough : 2 * slots + (full + 1) < (full + 1) * (count + stored)
  pub room : count + stored ≤ min roomb rooms
  pub small : slots < 2 ^ 62

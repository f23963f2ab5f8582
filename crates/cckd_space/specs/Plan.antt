-- What callers see of a `Space`, and what each call makes of it.
use Rattle.std.specs.Prelude.{◌≡◌, ℕ, ◌+◌, ◌-◌, ◌<◌, ◌≤◌, ◌%◌, Bool, false, ◌&&◌, nat_le, nat_lt, length, List, Option, None, Some}
use Rattle.std.specs.Option.{option_map, unwrap_or}
use Rattle.cckd_base.specs.Image.{ShareNoByte}
use Rattle.cckd_base.specs.declared.space.Full.{Full}
use Rattle.cckd_base.specs.declared.space.Extent.{Extent}
use Rattle.cckd_space.specs.declared.piece.Piece.{Piece}
use Rattle.cckd_space.specs.declared.piece.Totals.{Totals}
use Rattle.cckd_space.specs.Pieces.{Has, first, replaced, has_room, has_room_below, reserved_in, appended, end_place, aligned_up, largest, AreUsedOrFree, IsLaid, piece_end, is_free, is_used, is_roomy, is_roomy_from, pieces_of, roomy_len, used_len, greatest, summed, counted}

-- the pieces of a file, its size, the size that it may grow to, and how many pieces may still be added
pub record Plan : Type 0 where
  pub pieces : List Piece
  pub size : ℕ
  pub limit : ℕ
  pub spare : ℕ

-- the pieces cover the file, each byte once, and no two Free ones are neighbours
pub record IsSound (plan : Plan) : Type 0 where
  pub laid : IsLaid 0 plan.pieces plan.size

-- so many bytes from a place share none with a piece that isn't Free
pub record IsClear (pieces : List Piece) (pos need : ℕ) : Type 0 where
  pub each : (p : Piece) → Has p pieces → is_free p ≡ false → ShareNoByte p.pos p.size pos need

-- a byte of the file lies in a piece
abbrev pub has_byte : ℕ → Piece → Bool
has_byte at p = nat_le p.pos at && nat_lt at (piece_end p)

-- a byte of the file lies in a Used piece
abbrev pub has_used_byte : ℕ → Piece → Bool
has_used_byte at p = is_used p && has_byte at p

-- a byte of the file lies in a Free piece
abbrev pub has_free_byte : ℕ → Piece → Bool
has_free_byte at p = is_free p && has_byte at p

-- each byte of the file lies in one piece, none beyond it does, and no byte is both used and free;
-- where every piece is Used or Free, each byte of the file is exactly one of both
pub record CoversBytes (plan : Plan) : Type 0 where
  pub within : (at : ℕ) → at < plan.size → counted (has_byte at) plan.pieces ≡ 1
  pub beyond : (at : ℕ) → plan.size ≤ at → counted (has_byte at) plan.pieces ≡ 0
  pub apart : (at : ℕ) → counted (has_used_byte at) plan.pieces + counted (has_free_byte at) plan.pieces ≤ 1
  pub shared : AreUsedOrFree plan.pieces → (at : ℕ) → at < plan.size → counted (has_used_byte at) plan.pieces + counted (has_free_byte at) plan.pieces ≡ 1

-- the pieces and the size are these now; the rest stays, and the spare pieces went where they were used
pub record Becomes (old new : Plan) (pieces : List Piece) (size : ℕ) : Type 0 where
  pub made : new.pieces ≡ pieces
  pub sized : new.size ≡ size
  pub limit : new.limit ≡ old.limit
  pub spare : new.spare + length pieces ≡ old.spare + length old.pieces

-- how many bytes may still be put to the end of the file
abbrev pub room : Plan → ℕ
room plan = plan.limit - end_place plan.pieces

-- where so many bytes first fit
abbrev pub first_fit : ℕ → List Piece → Option ℕ
first_fit need ps = option_map (λ p. aligned_up p.pos) (first (has_room need) ps)

-- where they first fit and end at or below a place
abbrev pub first_fit_below : ℕ → ℕ → List Piece → Option ℕ
first_fit_below need before ps = option_map (λ p. aligned_up p.pos) (first (has_room_below need before) ps)

-- the first fit, or else the end of the file
abbrev pub place_of : ℕ → List Piece → ℕ
place_of need ps = unwrap_or (first_fit need ps) (end_place ps)

-- the list with so many bytes reserved: where they fit, or else at the end
abbrev pub reserved_by : Option ℕ → ℕ → List Piece → List Piece
reserved_by (Some at) need ps = replaced (has_room need) (reserved_in need) ps
reserved_by None need ps = appended need ps

-- the list with so many bytes reserved at the first fit, or else at the end
abbrev pub with_reserved : ℕ → List Piece → List Piece
with_reserved need ps = reserved_by (first_fit need ps) need ps

-- the size of the file once so many bytes are reserved: it grows where they fit nowhere
abbrev pub size_at : Option ℕ → ℕ → Plan → ℕ
size_at (Some at) need plan = plan.size
size_at None need plan = end_place plan.pieces + need

-- the size of the file once so many bytes are reserved
abbrev pub size_with : ℕ → Plan → ℕ
size_with need plan = size_at (first_fit need plan.pieces) need plan

-- what a refusal tells: the bytes asked for, the greatest offer of a Free piece, and the room at the end
abbrev pub numbers : ℕ → Plan → Full
numbers need plan = record { need = need; largest = largest plan.pieces; room = room plan }

-- the totals of the file
abbrev pub totals_of : Plan → Totals
totals_of plan =
    let used = summed used_len plan.pieces in
    let total = summed roomy_len plan.pieces in
    record {
      size = plan.size;
      used = used;
      free = unwrap_or (option_map (λ p. p.pos) (first is_roomy plan.pieces)) 0;
      free_total = total;
      free_largest = greatest roomy_len plan.pieces;
      free_number = counted is_roomy plan.pieces;
      free_imbed = plan.size - used - total;
    }

-- what may be asked for: a multiple of 8 of at most the size that an entry can hold
pub record IsNeed (need : ℕ) : Type 0 where
  pub multiple : need % 8 ≡ 0
  pub some : 8 ≤ need
  pub most : need ≤ 65528

-- the first free piece of at least 8 bytes that starts at or after a place: where it starts, and its size
abbrev pub free_from : ℕ → List Piece → Option (ℕ × ℕ)
free_from from ps = option_map (λ p. (p.pos, p.size)) (first (is_roomy_from from) ps)

-- the plan of a file of which these spaces are used
pub record IsPlanOf (used : List Extent) (size limit spare : ℕ) (plan : Plan) : Type 0 where
  pub pieces : plan.pieces ≡ pieces_of 0 used size
  pub sized : plan.size ≡ size
  pub limit_is : plan.limit ≡ limit
  pub spare_is : plan.spare ≡ spare

-- only the spare pieces changed
pub record KeepsAllButSpare (old new : Plan) : Type 0 where
  pub pieces : new.pieces ≡ old.pieces
  pub sized : new.size ≡ old.size
  pub limit : new.limit ≡ old.limit
  pub spare : old.spare ≤ new.spare

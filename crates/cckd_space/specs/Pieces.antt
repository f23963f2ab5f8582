-- A file's bytes as a list of pieces in order of position, and what each act makes of the list.
use Rattle.std.specs.Prelude.{◌≡◌, ℕ, ◌+◌, ◌-◌, ◌*◌, ◌/◌, ◌<◌, ◌≤◌, min, max, Bool, true, false, ◌&&◌, ◌||◌, nat_le, nat_lt, ◌==◌, not, ◌⊎◌, if◌then◌else◌, List, [], ◌∷◌, ◌++◌, Option, None, Some}
use Rattle.std.specs.Option.{option_or}
use Rattle.cckd_base.specs.declared.space.Owner.{Owner}
use Rattle.cckd_base.specs.declared.space.Owner.TheVariants.{Nobody}
use Rattle.cckd_base.specs.declared.space.Extent.{Extent}
use Rattle.cckd_space.specs.declared.piece.Kind.{Kind}
use Rattle.cckd_space.specs.declared.piece.Kind.TheVariants.{Used, Free, Reserved, Leaving, Pending}
use Rattle.cckd_space.specs.declared.piece.Piece.{Piece}

-- of the five kinds, the one whose bytes nobody needs
abbrev pub free_kind : Kind → Bool
free_kind Free = true
free_kind Used = false
free_kind Reserved = false
free_kind Leaving = false
free_kind Pending = false

-- the one whose bytes something on the disk names
abbrev pub used_kind : Kind → Bool
used_kind Used = true
used_kind Free = false
used_kind Reserved = false
used_kind Leaving = false
used_kind Pending = false

-- the one whose bytes are placed, and named by nothing yet
abbrev pub reserved_kind : Kind → Bool
reserved_kind Reserved = true
reserved_kind Used = false
reserved_kind Free = false
reserved_kind Leaving = false
reserved_kind Pending = false

-- the one whose replacing entry is staged
abbrev pub leaving_kind : Kind → Bool
leaving_kind Leaving = true
leaving_kind Used = false
leaving_kind Free = false
leaving_kind Reserved = false
leaving_kind Pending = false

-- the one whose replacing entry was written, and isn't synced
abbrev pub pending_kind : Kind → Bool
pending_kind Pending = true
pending_kind Used = false
pending_kind Free = false
pending_kind Reserved = false
pending_kind Leaving = false

-- each but Free
abbrev pub taken_kind : Kind → Bool
taken_kind k = not (free_kind k)

-- a Free piece
abbrev pub is_free : Piece → Bool
is_free p = free_kind p.kind

-- a Used piece
abbrev pub is_used : Piece → Bool
is_used p = used_kind p.kind

-- a Leaving piece
abbrev pub is_leaving : Piece → Bool
is_leaving p = leaving_kind p.kind

-- a Pending piece
abbrev pub is_pending : Piece → Bool
is_pending p = pending_kind p.kind

-- a piece that isn't Free
abbrev pub is_taken : Piece → Bool
is_taken p = taken_kind p.kind

-- a Free piece of at least 8 bytes
abbrev pub is_roomy : Piece → Bool
is_roomy p = is_free p && nat_le 8 p.size

-- a Used piece that begins at a place
abbrev pub is_used_at : ℕ → Piece → Bool
is_used_at pos p = is_used p && (p.pos == pos)

-- a Reserved piece that begins at a place
abbrev pub is_reserved_at : ℕ → Piece → Bool
is_reserved_at pos p = reserved_kind p.kind && (p.pos == pos)

-- the place behind the last byte
abbrev pub piece_end : Piece → ℕ
piece_end p = p.pos + p.size

-- the first multiple of 8 at or after a place
abbrev pub aligned_up : ℕ → ℕ
aligned_up at = (at + 7) / 8 * 8

-- so many free bytes from a place on
abbrev pub free_piece : ℕ → ℕ → Piece
free_piece pos size = record { pos = pos; len = size; size = size; kind = Free; owner = Nobody }

-- so many reserved bytes from a place on
abbrev pub reserved_piece : ℕ → ℕ → Piece
reserved_piece pos size = record { pos = pos; len = size; size = size; kind = Reserved; owner = Nobody }

-- the free bytes from one place up to another, as a piece where there are any
abbrev pub free_run : ℕ → ℕ → List Piece
free_run from to = if nat_lt from to then free_piece from (to - from) ∷ [] else []

-- how many bytes a Free piece offers from its first multiple of 8
abbrev pub offer : Piece → ℕ
offer p = if is_free p then piece_end p - aligned_up p.pos else 0

-- so many bytes fit from the first multiple of 8 of a Free piece
abbrev pub has_room : ℕ → Piece → Bool
has_room need p = is_free p && nat_le (aligned_up p.pos + need) (piece_end p)

-- and they end at or below a place
abbrev pub has_room_below : ℕ → ℕ → Piece → Bool
has_room_below need before p = has_room need p && nat_le (aligned_up p.pos + need) before

-- a piece is in the list
abbrev pub Has : Piece → List Piece → Type 0
Has p [] = ⊥
Has p (q ∷ qs) = (q ≡ p) ⊎ Has p qs

-- a piece begins at or before a place
abbrev pub begins_by : ℕ → Piece → Bool
begins_by pos p = nat_le p.pos pos

-- the last piece that passes a test
abbrev pub last : (Piece → Bool) → List Piece → Option Piece
last test [] = None
last test (p ∷ ps) = option_or (last test ps) (if test p then Some p else None)

-- the first piece that passes a test
abbrev pub first : (Piece → Bool) → List Piece → Option Piece
first test [] = None
first test (p ∷ ps) = if test p then Some p else first test ps

-- the list with other pieces in place of the first that passes a test
abbrev pub replaced : (Piece → Bool) → (Piece → List Piece) → List Piece → List Piece
replaced test news [] = []
replaced test news (p ∷ ps) = if test p then news p ++ ps else p ∷ replaced test news ps

-- the greatest number that a piece has
abbrev pub greatest : (Piece → ℕ) → List Piece → ℕ
greatest number [] = 0
greatest number (p ∷ ps) = max (number p) (greatest number ps)

-- the greatest number of bytes that a Free piece offers
abbrev pub largest : List Piece → ℕ
largest = greatest offer

-- where the file would end without a Free piece at its end
abbrev pub used_end : List Piece → ℕ
used_end [] = 0
used_end (p ∷ []) = if is_free p then p.pos else piece_end p
used_end (p ∷ q ∷ ps) = used_end (q ∷ ps)

-- the list without a Free piece at its end
abbrev pub trimmed : List Piece → List Piece
trimmed [] = []
trimmed (p ∷ []) = if is_free p then [] else p ∷ []
trimmed (p ∷ q ∷ ps) = p ∷ trimmed (q ∷ ps)

-- where a space at the end of the file begins
abbrev pub end_place : List Piece → ℕ
end_place ps = aligned_up (used_end ps)

-- a Free piece with so many bytes reserved from its first multiple of 8
abbrev pub reserved_in : ℕ → Piece → List Piece
reserved_in need p =
    let at = aligned_up p.pos in
    free_run p.pos at ++ reserved_piece at need ∷ free_run (at + need) (piece_end p)

-- the list with so many bytes reserved at its end
abbrev pub appended : ℕ → List Piece → List Piece
appended need ps = trimmed ps ++ (free_run (used_end ps) (end_place ps) ++ reserved_piece (end_place ps) need ∷ [])

-- the list without the free bytes at its end that stand at or past a length
abbrev pub cut : ℕ → ℕ → List Piece → List Piece
cut len size ps = trimmed ps ++ free_run (used_end ps) (min len size)

-- the piece once it holds the first bytes of an owner
abbrev pub settled : ℕ → Owner → Piece → Piece
settled len owner p = record { pos = p.pos; len = len; size = p.size; kind = Used; owner = owner }

-- the piece once its replacing entry is staged
abbrev pub left : Piece → Piece
left p = record { pos = p.pos; len = p.size; size = p.size; kind = Leaving; owner = Nobody }

-- the piece once nobody needs its bytes
abbrev pub freed : Piece → Piece
freed p = free_piece p.pos p.size

-- the piece of a kind once the replacing entries were written: of Leaving, it is Pending
abbrev pub retired_as : Kind → Piece → Piece
retired_as Leaving p = record { pos = p.pos; len = p.size; size = p.size; kind = Pending; owner = Nobody }
retired_as Used p = p
retired_as Free p = p
retired_as Reserved p = p
retired_as Pending p = p

-- Leaving becomes Pending
abbrev pub retired : Piece → Piece
retired p = retired_as p.kind p

-- the piece of a kind once a sync has told: of Pending, it is Free
abbrev pub released_as : Kind → Piece → Piece
released_as Pending p = free_piece p.pos p.size
released_as Used p = p
released_as Free p = p
released_as Reserved p = p
released_as Leaving p = p

-- Pending becomes Free
abbrev pub released : Piece → Piece
released p = released_as p.kind p

-- a piece before a list, as one with the first where both are Free
abbrev pub joined : Piece → List Piece → List Piece
joined p [] = p ∷ []
joined p (q ∷ qs) = if is_free p && is_free q then free_piece p.pos (p.size + q.size) ∷ qs else p ∷ q ∷ qs

-- the list with neighbouring Free pieces as one
abbrev pub merged : List Piece → List Piece
merged [] = []
merged (p ∷ ps) = joined p (merged ps)

-- the sum of the pieces' numbers
abbrev pub summed : (Piece → ℕ) → List Piece → ℕ
summed number [] = 0
summed number (p ∷ ps) = number p + summed number ps

-- how many pieces pass a test
abbrev pub counted : (Piece → Bool) → List Piece → ℕ
counted test [] = 0
counted test (p ∷ ps) = (if test p then 1 else 0) + counted test ps

-- a Free piece of at least 8 bytes that starts at or after a place
abbrev pub is_roomy_from : ℕ → Piece → Bool
is_roomy_from from p = is_roomy p && nat_le from p.pos

-- what a piece adds to the used bytes of the totals
abbrev pub used_len : Piece → ℕ
used_len p = if is_used p then p.len else 0

-- what a piece adds to the free bytes of the totals: its size, from 8 on
abbrev pub roomy_len : Piece → ℕ
roomy_len p = if is_roomy p then p.size else 0

-- a used space as a piece
abbrev pub used_piece : Extent → Piece
used_piece e = record { pos = e.pos; len = e.len; size = e.size; kind = Used; owner = e.owner }

-- the pieces of a file from a place on, of which these spaces are used
abbrev pub pieces_of : ℕ → List Extent → ℕ → List Piece
pieces_of at [] size = free_run at size
pieces_of at (e ∷ es) size = free_run at e.pos ++ used_piece e ∷ pieces_of (e.pos + e.size) es size

-- the free runs of a file from a place on, of which these spaces are used
abbrev pub free_runs : ℕ → List Extent → ℕ → List Piece
free_runs at [] size = free_run at size
free_runs at (e ∷ es) size = free_run at e.pos ++ free_runs (e.pos + e.size) es size

-- a piece of a kind is well formed: a Used one is in use from its first byte on, any other belongs to Nobody and is in use as a whole
abbrev pub IsFormedAs : Kind → Piece → Type 0
IsFormedAs Used p = (1 ≤ p.len) × (p.len ≤ p.size)
IsFormedAs Free p = (p.len ≡ p.size) × (p.owner ≡ Nobody)
IsFormedAs Reserved p = (p.len ≡ p.size) × (p.owner ≡ Nobody)
IsFormedAs Leaving p = (p.len ≡ p.size) × (p.owner ≡ Nobody)
IsFormedAs Pending p = (p.len ≡ p.size) × (p.owner ≡ Nobody)

-- it stands at this place and isn't empty; only a Used piece has an owner, and may be longer than what is in use
pub record IsPieceAt (at : ℕ) (p : Piece) : Type 0 where
  pub place : p.pos ≡ at
  pub some : 0 < p.size
  pub formed : IsFormedAs p.kind p

-- a piece before a list isn't Free beside another Free one
abbrev pub NotBothFree : Piece → List Piece → Type 0
NotBothFree p [] = Unit {0}
NotBothFree p (q ∷ qs) = (is_free p && is_free q) ≡ false

-- each piece is Used or Free, so nothing is under way
abbrev pub AreUsedOrFree : List Piece → Type 0
AreUsedOrFree [] = Unit {0}
AreUsedOrFree (p ∷ ps) = ((is_used p || is_free p) ≡ true) × AreUsedOrFree ps

-- the pieces cover the bytes from one place up to another, each byte once, and no two Free ones are neighbours
abbrev pub IsLaid : ℕ → List Piece → ℕ → Type 0
IsLaid at [] end = at ≡ end
IsLaid at (p ∷ ps) end = IsPieceAt at p × NotBothFree p ps × IsLaid (at + p.size) ps end

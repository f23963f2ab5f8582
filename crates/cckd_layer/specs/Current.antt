-- What the file of a layer, as it is now, and the layer's pieces have to do with each other.
use Rattle.std.specs.Prelude.{ℕ, ◌≡◌, ◌⊎◌, ◌+◌, ◌/◌, ◌%◌, ◌<◌, ◌≤◌, true, List, [], ◌∷◌, length, Some, None}
use Rattle.cckd_base.specs.declared.geometry.Layout.{Layout}
use Rattle.cckd_base.specs.declared.entry.L2Entry.{L2Entry}
use Rattle.cckd_base.specs.declared.space.Extent.{Extent}
use Rattle.cckd_base.specs.declared.space.Owner.TheVariants.{Nobody, Track}
use Rattle.cckd_base.specs.Geometry.{track_count, area_of, format_limit}
use Rattle.cckd_base.specs.Entry.{word_at, entry_at}
use Rattle.cckd_base.specs.Misfit.{entry_misfit}
use Rattle.cckd_base.specs.Survey.{header_space, table_space}
use Rattle.cckd_base.specs.Image.{IsPlace}
use Rattle.cckd_space.specs.declared.piece.Kind.{Kind}
use Rattle.cckd_space.specs.declared.piece.Kind.TheVariants.{Used, Leaving, Reserved}
use Rattle.cckd_space.specs.declared.piece.Piece.{Piece}
use Rattle.cckd_space.specs.Pieces.{Has, piece_end, aligned_up, used_piece, reserved_piece, IsLaid}
use Rattle.cckd_space.specs.Plan.{Plan}
use Rattle.cckd_tables.specs.Staging.{Stages, IsStaged, IsMoved, entry_for, place_for}
use Rattle.cckd_layer.specs.Sits.{held_kind}

-- ---- spaces by name

-- the space of a track's stored bytes
abbrev pub stored_space : ℕ → L2Entry → Extent
stored_space t e = record { pos = e.pos; len = e.len; size = e.size; owner = Track t }

-- a space that is placed, and that nothing staged names: of a table or a track before it is staged, of a move's target
abbrev pub claim : ℕ → ℕ → Extent
claim pos size = record { pos = pos; len = size; size = size; owner = Nobody }

-- the space is that of the table that a file has for a group
pub record IsTableOf (l : Layout) (file : List ℕ) (g : ℕ) (e : Extent) : Type 0 where
  pub low : g < l.groups
  pub place : IsPlace (word_at l file g)
  pub is : e ≡ table_space g (word_at l file g)

-- the space is that of the bytes that a file stores of a track
pub record IsTrackOf (l : Layout) (file : List ℕ) (t : ℕ) (e : Extent) : Type 0 where
  pub low : t < track_count l.geo
  pub place : IsPlace (entry_at l file t).pos
  pub is : e ≡ stored_space t (entry_at l file t)

-- the space is that of a group's new table
pub record IsNewTableOf (s : Stages) (g : ℕ) (e : Extent) : Type 0 where
  pub pos : ℕ
  pub named : place_for g s.words ≡ Some pos
  pub is : e ≡ table_space g pos

-- the space is that of a track's new bytes
pub record IsNewTrackOf (s : Stages) (t : ℕ) (e : Extent) : Type 0 where
  pub entry : L2Entry
  pub named : entry_for t s.entries ≡ Some entry
  pub place : IsPlace entry.pos
  pub is : e ≡ stored_space t entry

-- A space that the file names, and nothing staged replaces: the header area, a table or the stored bytes of a track.
abbrev pub IsInUse : Layout → Stages → List ℕ → Extent → Type 0
IsInUse l s file e =
    (e ≡ header_space l.groups)
    ⊎ (((g : ℕ) × (IsMoved g s → ⊥) × IsTableOf l file g e) ⊎ ((t : ℕ) × (IsStaged t s → ⊥) × IsTrackOf l file t e))

-- a space that the file names, and something staged replaces
abbrev pub IsReplaced : Layout → Stages → List ℕ → Extent → Type 0
IsReplaced l s file e =
    ((g : ℕ) × IsMoved g s × IsTableOf l file g e) ⊎ ((t : ℕ) × IsStaged t s × IsTrackOf l file t e)

-- a space that something staged names
abbrev pub IsNew : Stages → Extent → Type 0
IsNew s e = ((g : ℕ) × IsNewTableOf s g e) ⊎ ((t : ℕ) × IsNewTrackOf s t e)

-- a space of a list
abbrev pub IsAmong : Extent → List Extent → Type 0
IsAmong e [] = ⊥
IsAmong e (c ∷ cs) = (c ≡ e) ⊎ IsAmong e cs

-- a space that is placed: something staged names it, or it is claimed
abbrev pub IsPlaced : Stages → List Extent → Extent → Type 0
IsPlaced s claims e = IsNew s e ⊎ IsAmong e claims

-- claims are claims, each at a place of its own
abbrev pub AreClaims : List Extent → Type 0
AreClaims [] = Unit {0}
AreClaims (c ∷ cs) = (c ≡ claim c.pos c.size) × (IsAmong c cs → ⊥) × AreClaims cs

-- ---- spaces and pieces

-- a space as a Leaving piece
abbrev pub leaving_piece : Extent → Piece
leaving_piece e = record { pos = e.pos; len = e.size; size = e.size; kind = Leaving; owner = Nobody }

-- a space as a Reserved piece
abbrev pub placed_piece : Extent → Piece
placed_piece e = reserved_piece e.pos e.size

-- The pieces of a kind are exactly these spaces: each space is such a piece, and each such piece is one of them, so that
-- none is lost.
pub record AreExactly (kind : Kind) (as_piece : Extent → Piece) (IsOne : Extent → Type 0) (ps : List Piece) : Type 0 where
  pub there : (e : Extent) → IsOne e → Has (as_piece e) ps
  pub named : (p : Piece) → Has p ps → p.kind ≡ kind → (e : Extent) × IsOne e × (p ≡ as_piece e)

-- The pieces are accounted for: the Used ones are exactly these spaces, so are the Leaving and the Reserved ones, and what
-- is Reserved has a place of its own.
pub record Accounts (IsUsed IsLeft IsKept : Extent → Type 0) (ps : List Piece) : Type 0 where
  pub used : AreExactly Used used_piece IsUsed ps
  pub leaving : AreExactly Leaving leaving_piece IsLeft ps
  pub reserved : AreExactly Reserved placed_piece IsKept ps
  pub differ : (a b : Extent) → IsKept a → IsKept b → a.pos ≡ b.pos → a ≡ b

-- a byte lies in a Reserved piece that ends at a multiple of 8
pub record IsReservedAt (ps : List Piece) (at : ℕ) : Type 0 where
  pub pos : ℕ
  pub size : ℕ
  pub there : Has (reserved_piece pos size) ps
  pub low : pos ≤ at
  pub high : at < pos + size
  pub even : (pos + size) % 8 ≡ 0

-- The pieces cover the file, and end with it or with a Reserved one. What a file needs that a stop leaves ends inside the
-- file. Past the file, from a multiple of 8 on, each byte is Reserved: no room is lost there.
pub record Spans (plan : Plan) (file : List ℕ) : Type 0 where
  pub laid : IsLaid 0 plan.pieces plan.size
  pub covers : length file ≤ plan.size
  pub ends : (plan.size ≤ length file) ⊎ ((pos : ℕ) × (n : ℕ) × Has (reserved_piece pos n) plan.pieces × (pos + n ≡ plan.size))
  pub inside : (p : Piece) → Has p plan.pieces → held_kind p.kind ≡ true → piece_end p ≤ length file
  pub tight : (at : ℕ) → aligned_up (length file) ≤ at → at < plan.size → IsReservedAt plan.pieces at
  pub short : plan.size ≤ format_limit
  pub limited : plan.limit ≤ format_limit

-- ---- what is staged

-- a staged entry can be in a file of this length, its space ends inside the file, and there is a table to write it to
pub record CanBeEntry (l : Layout) (s : Stages) (file : List ℕ) (t : ℕ) (e : L2Entry) : Type 0 where
  pub low : t < track_count l.geo
  pub fits : entry_misfit l (length file) t e ≡ None
  pub snug : IsPlace e.pos → e.pos + e.size ≤ length file
  pub tabled : IsMoved (t / 256) s ⊎ (IsPlace (word_at l file (t / 256)) × (word_at l file (t / 256) % 8 ≡ 0))

-- a staged word names a place at a multiple of 8, behind the header area
pub record CanBeWord (l : Layout) (g pos : ℕ) : Type 0 where
  pub low : g < l.groups
  pub place : IsPlace pos
  pub behind : area_of l.groups ≤ pos
  pub aligned : pos % 8 ≡ 0

-- a level-one word names a table at a multiple of 8
abbrev pub NamesAligned : ℕ → Type 0
NamesAligned word = IsPlace word × (word % 8 ≡ 0)

-- The file now, what is staged over it, what is claimed beside, and the pieces: what the file names is Used, or, where
-- something staged replaces it, Leaving; and what is placed is Reserved. A group gets a new table only where it has none at a
-- multiple of 8.
pub record Current (l : Layout) (s : Stages) (claims : List Extent) (plan : Plan) (file : List ℕ) : Type 0 where
  pub spans : Spans plan file
  pub accounts : Accounts (IsInUse l s file) (IsReplaced l s file) (IsPlaced s claims) plan.pieces
  pub claims_are : AreClaims claims
  pub entries : (t : ℕ) (e : L2Entry) → entry_for t s.entries ≡ Some e → CanBeEntry l s file t e
  pub words : (g pos : ℕ) → place_for g s.words ≡ Some pos → CanBeWord l g pos
  pub lacks : (g : ℕ) → IsMoved g s → NamesAligned (word_at l file g) → ⊥

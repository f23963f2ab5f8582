-- What the acts of a layer make of its pieces.
use Rattle.std.specs.Prelude.{ℕ, ◌≡◌, ◌⊎◌, ◌≤◌, ◌==◌, nat_lt, min, max, if◌then◌else◌, List, [], ◌∷◌, ◌++◌, map, Option, Some, None, IsSome}
use Rattle.cckd_base.specs.declared.entry.L2Entry.{L2Entry}
use Rattle.cckd_base.specs.declared.space.Extent.{Extent}
use Rattle.cckd_base.specs.Entry.{see_parent}
use Rattle.cckd_base.specs.Survey.{table_space}
use Rattle.cckd_space.specs.declared.piece.Piece.{Piece}
use Rattle.cckd_space.specs.Pieces.{first, replaced, is_used_at, is_reserved_at, left, freed, settled, retired, merged, used_end, aligned_up, cut}
use Rattle.cckd_space.specs.Plan.{Plan, Becomes}
use Rattle.cckd_tables.specs.declared.staged.StagedEntry.{StagedEntry}
use Rattle.cckd_tables.specs.declared.staged.StagedWord.{StagedWord}
use Rattle.cckd_tables.specs.Staging.{Stages, entry_for, place_for}
use Rattle.cckd_layer.specs.Current.{stored_space}

-- what is staged is as before, but for this entry of this track
pub record StagesEntry (t : ℕ) (e : L2Entry) (old new : Stages) : Type 0 where
  pub here : entry_for t new.entries ≡ Some e
  pub others : (u : ℕ) → (t ≡ u → ⊥) → entry_for u new.entries ≡ entry_for u old.entries
  pub words : (g : ℕ) → place_for g new.words ≡ place_for g old.words

-- what is staged is as before, but for this place of the table of this group
pub record StagesWord (g pos : ℕ) (old new : Stages) : Type 0 where
  pub here : place_for g new.words ≡ Some pos
  pub others : (h : ℕ) → (g ≡ h → ⊥) → place_for h new.words ≡ place_for h old.words
  pub entries : (t : ℕ) → entry_for t new.entries ≡ entry_for t old.entries

-- the pieces once the Used one at a position leaves, where the position names a space
abbrev pub left_at : ℕ → List Piece → List Piece
left_at pos ps =
    if pos == 0 then ps else if pos == see_parent then ps else replaced (is_used_at pos) (λ p. left p ∷ []) ps

-- the pieces once the Reserved one at a position is given back
abbrev pub given_back : ℕ → List Piece → List Piece
given_back pos ps = merged (replaced (is_reserved_at pos) (λ p. freed p ∷ []) ps)

-- A Reserved piece is given back, and a Free piece that ends the pieces then is cut back to a file of this length.
abbrev pub GivesBack : ℕ → ℕ → Plan → Plan → Type 0
GivesBack pos len old new =
    Becomes old new (cut len old.size (given_back pos old.pieces)) (max (used_end (given_back pos old.pieces)) (min len old.size))

-- A space that ends here leaves no room past a file of this length when it is given back: it ends by the file's end, or ends the
-- pieces.
abbrev pub EndsBefore : ℕ → ℕ → Plan → Type 0
EndsBefore end len plan = (end ≤ aligned_up len) ⊎ (end ≡ plan.size)

-- so it is where a Reserved piece stands at the position, and else nothing is done
pub record MayGiveBack (pos len : ℕ) (old new : Plan) : Type 0 where
  pub given : IsSome (first (is_reserved_at pos) old.pieces) → GivesBack pos len old new
  pub kept : first (is_reserved_at pos) old.pieces ≡ None → new ≡ old

-- the pieces once a found Reserved one is settled as a space, where it can hold that
abbrev pub settle_found : Extent → List Piece → Option Piece → List Piece
settle_found x ps None = ps
settle_found x ps (Some p) =
    if x.len == 0 then ps
    else if nat_lt p.size x.len then ps
    else replaced (is_reserved_at x.pos) (λ q. settled x.len x.owner q ∷ []) ps

-- the pieces once the Reserved one of a space is settled
abbrev pub settled_one : Extent → List Piece → List Piece
settled_one x ps = settle_found x ps (first (is_reserved_at x.pos) ps)

-- the pieces once those of these spaces are settled, one after another
abbrev pub settled_all : List Extent → List Piece → List Piece
settled_all [] ps = ps
settled_all (x ∷ xs) ps = settled_all xs (settled_one x ps)

-- a position names no space
abbrev pub names_nothing : ℕ → List Extent → List Extent → List Extent
names_nothing pos here rest = if pos == 0 then rest else if pos == see_parent then rest else here

-- the spaces that staged entries name, in their order
abbrev pub entry_spaces : List StagedEntry → List Extent
entry_spaces [] = []
entry_spaces (s ∷ ss) = names_nothing s.entry.pos (stored_space s.track s.entry ∷ entry_spaces ss) (entry_spaces ss)

-- the spaces of the tables that staged words name, in their order
abbrev pub word_spaces : List StagedWord → List Extent
word_spaces [] = []
word_spaces (s ∷ ss) = table_space s.group s.pos ∷ word_spaces ss

-- the spaces that something staged names: those of entries, and then those of tables
abbrev pub spaces_of : Stages → List Extent
spaces_of s = entry_spaces s.entries ++ word_spaces s.words

-- the pieces behind a commit: what something staged names is settled, and what leaves is retired
abbrev pub committed_pieces : Stages → List Piece → List Piece
committed_pieces s ps = map retired (settled_all (spaces_of s) ps)

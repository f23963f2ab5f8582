-- When want of room is justified, by the file that had none; and what calls make of the room.
use Rattle.cckd_layer.specs.Stands.{nothing_staged}
use Rattle.cckd_base.specs.Survey.{used_spaces}
use Rattle.cckd_layer.specs.Mounted.{LayerState}
use Rattle.cckd_tables.specs.Staging.{IsMoved}
use Rattle.std.specs.Prelude.{ℕ, suc, ◌≡◌, ◌⊎◌, ◌+◌, ◌*◌, ◌%◌, ◌<◌, ◌==◌, Bool, ◌&&◌, not, if◌then◌else◌, List, [], ◌∷◌, length, ◌≤◌, max, true}
use Rattle.cckd_base.specs.declared.geometry.Layout.{Layout}
use Rattle.cckd_base.specs.declared.space.Full.{Full}
use Rattle.cckd_base.specs.Entry.{see_parent, word_at}
use Rattle.cckd_space.specs.Pieces.{aligned_up, largest, pieces_of}

-- whether a level-one word names a table at a multiple of 8
abbrev pub names_aligned : ℕ → Bool
names_aligned word = not (word == 0) && (not (word == see_parent) && (word % 8 == 0))

-- how many of these groups have no table at a multiple of 8, by their words
abbrev pub lacking : (ℕ → ℕ) → List ℕ → ℕ
lacking word [] = 0
lacking word (g ∷ groups) = if names_aligned (word g) then lacking word groups else suc (lacking word groups)

-- a group is one of these
abbrev pub IsOneOf : ℕ → List ℕ → Type 0
IsOneOf g [] = ⊥
IsOneOf g (x ∷ groups) = (x ≡ g) ⊎ IsOneOf g groups

-- A write that finds no room: the limit of its file, how many bytes it gives, the group of its track, the groups that were written
-- to, or tried, since the file was opened, and whether all was hardened before it, with no call behind that but such as look.
pub record Attempt : Type 0 where
  pub limit : ℕ
  pub given : ℕ
  pub group : ℕ
  pub groups : List ℕ
  pub quiet : Bool

-- Its want of room is justified, where this is the file: a table or the track was to be placed; no free piece had room for it, nor
-- had the end; and the file with the bytes that were wanted, and a table for each of the groups that lacks one, comes up to the
-- limit. Behind a hardening, where the group has its table, no free piece of the file itself has room.
pub record IsJustified (a : Attempt) (l : Layout) (file : List ℕ) (full : Full) : Type 0 where
  pub asked : (full.need ≡ 2048) ⊎ (full.need ≡ aligned_up a.given)
  pub no_piece : full.largest < full.need
  pub no_end : full.room < full.need
  pub tight : a.limit < length file + (full.need + 2048 * lacking (word_at l file) a.groups) + 7
  pub none_fits : a.quiet ≡ true → names_aligned (word_at l file a.group) ≡ true → largest (pieces_of 0 (used_spaces l file) (length file)) < full.need

-- New tables are staged for no more groups, and nothing at all where nothing was; and the pieces end within the limit, or where
-- they ended.
pub record StaysInRoom (s next : LayerState) : Type 0 where
  pub tables : (g : ℕ) → IsMoved g next.tables.stages → IsMoved g s.tables.stages
  pub empty : s.tables.stages ≡ nothing_staged → next.tables.stages ≡ nothing_staged
  pub size : next.plan.size ≤ max s.plan.limit s.plan.size

-- new tables are staged for no more groups, but for this one, and the pieces end so
pub record AddsInRoom (g : ℕ) (s next : LayerState) : Type 0 where
  pub tables : (h : ℕ) → IsMoved h next.tables.stages → IsMoved h s.tables.stages ⊎ (g ≡ h)
  pub size : next.plan.size ≤ max s.plan.limit s.plan.size

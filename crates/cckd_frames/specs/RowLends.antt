-- What a borrow of one value of a row, or of a part of a row of bytes, writes back.
use Rattle.std.specs.Prelude.{ℕ, ◌≤◌, List, length, slice_set}
use mathlib.Core.Path.{refl, sym, subst}
use lib.ListN.{length-set}
use base.Fml.{Fml}
use denote.Array.{Array}
use denote.Builtin.{u8}
use denote.Follow.{follows}
use denote.RattleType.{RattleType}
use denote.Ref.{MutBor}
use Rattle.std.specs.List.{length_refill}
use Rattle.cckd_frames.specs.Frames.{refilled}
use Rattle.cckd_frames.specs.Store.{over}
use Rattle.cckd_frames.specs.declared.block.Row.{Row}
use Rattle.cckd_frames.specs.contracts.block.Row.{the_row}

-- the row with w as its i-th value
abbrev pub with_item : {X : Type 0} → Row X → ℕ → X → Row X
with_item r i w = record { mark = r.mark; at = r.at; room = r.room; items = slice_set r.items i w; within = subst (λ (k : ℕ). k ≤ r.room) (sym (length-set r.items i w)) r.within }

-- the row with ws as its bytes. Where these are fewer or more, they are filled up from the old ones, or cut
abbrev pub with_bytes : Row ℕ → List ℕ → Row ℕ
with_bytes r ws = record { mark = r.mark; at = r.at; room = r.room; items = refilled r.items ws; within = subst (λ (k : ℕ). k ≤ r.room) (length_refill (length r.items) r.items ws refl) r.within }

-- the row ends with the value that was written as its i-th
abbrev pub lends_item : (R : RattleType) → MutBor (Row R.Denot) → ℕ → MutBor R.Denot → Fml
lends_item R v i r = follows (the_row R) R v.ghost_name r.ghost_name (with_item v.now i)

-- the row ends with the bytes that were written in the place of the n from `at` on
abbrev pub lends_part : MutBor (Row ℕ) → ℕ → ℕ → MutBor (List ℕ) → Fml
lends_part v at n r = follows (the_row u8) (Array u8 0) v.ghost_name r.ghost_name (λ w. with_bytes v.now (over at n v.now.items w))

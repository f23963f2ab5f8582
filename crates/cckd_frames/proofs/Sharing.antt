-- A `&` to a row is made where one to a value is. Assumes `Logic`.
use mathlib.Core.Path.{sym, subst}
use Prim.Native.Nat.{ℕ, ◌-◌, ◌*◌, ◌^◌}
use mathlib.Core.List.{List}
use lib.ListN.{length}
use seplogic.Ra.Ura.{Ura}
use base.Fraction.{full_share}
use base.Fml.{Lft, Incl, fsep, flt}
use types.Logic.{Logic}
use denote.RattleType.{RattleType}
use denote.Array.{Array}
use denote.ArrayMemory.{Single}
use denote.Param.Laws.{Laws}
use denote.RawPtr.{Ptr, block_ptr, null_ptr, lies_at, room_for, in_block, ◌+ₚ◌}
use denote.Sharing.{said}
use denote.Shares.{Shares-less, Shares-Array}
use denote.Struct.Lending.{lent_at, Lends, Lends-false, Lends-lies, Lends-said, Lends-first, Lends-both}
use Rattle.std.specs.Mem.{type_size}
use Rattle.std.specs.Vec.Ownership.{vec_shares}
use Rattle.cckd_frames.specs.Ownership.{array_type, row_owns}

module _ {M : Type 1} {𝓤 : Ura M} (𝓛 : Logic 𝓤) (R : RattleType) (L : Laws R) (l : Lft) (inc : Incl l R.lives) (c : ℕ) (xs : List R.Denot) where
  Lends-held : (p : Ptr) → Lends 𝓛 (in_block p (fsep (lies_at (Array R (length xs)) full_share p xs) (room_for (array_type R (c - length xs)) (p +ₚ length xs * type_size R)))) (lent_at (Array R (length xs)) p xs) l
  Lends-held null_ptr = Lends-false 𝓛 (lent_at (Array R (length xs)) null_ptr xs) l
  Lends-held (block_ptr b o) =
      let p : Ptr = block_ptr b o in
      Lends-first 𝓛 (lies_at (Array R (length xs)) full_share p xs) (room_for (array_type R (c - length xs)) (p +ₚ length xs * type_size R)) (lent_at (Array R (length xs)) p xs) l
      (Lends-lies 𝓛 (Array R (length xs)) l p xs (Shares-Array 𝓛 R (subst Single (sym L.one) tt) (length xs) l (Shares-less 𝓛 R R.lives l inc (L.shares 𝓛)) xs))

  pub Lends-row : (p : Ptr) → Lends 𝓛 (row_owns R p c xs) (vec_shares R p (length xs) c xs) l
  Lends-row p =
      let small = flt (c * type_size R) (2 ^ 63) in
      Lends-both 𝓛 small (in_block p (fsep (lies_at (Array R (length xs)) full_share p xs) (room_for (array_type R (c - length xs)) (p +ₚ length xs * type_size R)))) (said small) (lent_at (Array R (length xs)) p xs) l
      (Lends-said 𝓛 small tt l) (Lends-held p)

-- What the parts of a block own, at values of the row R.
use Rattle.std.specs.Prelude.{ℕ, ◌+◌, ◌-◌, ◌*◌, ◌^◌, List, length}
use Rattle.std.specs.Mem.{type_size}
use base.Fraction.{full_share}
use base.Fml.{Fml, fsep, fwand, flt}
use mir.Syntax.{Ty, w8, ty_int, ty_array}
use mir.Raw.{raw}
use denote.Array.{Array}
use denote.Memory.{lone}
use denote.RattleType.{RattleType}
use denote.RawPtr.{Ptr, in_block, lies_at, room_for, ◌+ₚ◌}

-- a block's part for n values
abbrev pub array_type : RattleType → ℕ → Ty
array_type R n = raw (ty_array (lone R.mir) n)

-- the values at p, and room behind them, c values in all, which take fewer than 2 ^ 63 bytes
abbrev pub row_owns : (R : RattleType) → Ptr → ℕ → List R.Denot → Fml
row_owns R p c xs = fsep (flt (c * type_size R) (2 ^ 63)) (in_block p (fsep (lies_at (Array R (length xs)) full_share p xs) (room_for (array_type R (c - length xs)) (p +ₚ length xs * type_size R))))

-- the allocator's token for a block of n + k values, and that room for n, with room for the bytes of k, is the whole block
abbrev pub deed_owns : RattleType → (Ty → Ptr → Fml) → Ptr → ℕ → ℕ → Fml
deed_owns R token p n k =
    fsep (token (array_type R (n + k)) p)
    (fwand (fsep (room_for (array_type R n) p) (room_for (raw (ty_array (ty_int w8) (k * type_size R))) (p +ₚ n * type_size R))) (room_for (array_type R (n + k)) p))

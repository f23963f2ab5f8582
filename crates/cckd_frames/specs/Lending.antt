-- What a borrow of a part of the bytes writes back.
use Rattle.std.specs.Borrow.{Lends, MutBor, Fml, Array, u8}
use Rattle.std.specs.Prelude.{ℕ, List}
use Rattle.cckd_frames.specs.Store.{Stored, with_part}
use Rattle.cckd_frames.specs.contracts.bytes.Bytes.{the_row as bytes_row}

-- the bytes end with those that were written in the place of the n from `at` on
abbrev pub LendsBytes : MutBor Stored → ℕ → ℕ → MutBor (List ℕ) → Fml
LendsBytes b at n r = Lends bytes_row (Array u8 0) b r (with_part at n b.now)

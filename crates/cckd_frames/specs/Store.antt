-- The bytes of all frames.
use Rattle.std.specs.Prelude.{ℕ, ◌-◌, List, ◌++◌, length, take, drop, replicate}
use denote.RawPtr.{Ptr}
use Rattle.cckd_frames.specs.Frames.{refilled}

-- where they begin, how many there is room for, and the bytes, one frame after another
pub record Stored : Type 0 where
  pub at : Ptr
  pub room : ℕ
  pub bytes : List ℕ

-- the bytes, and zeros behind them up to n
abbrev pub filled : ℕ → List ℕ → List ℕ
filled n bs = bs ++ replicate (n - length bs) 0

-- the bytes with others in the place of the n from `at` on
abbrev pub over : ℕ → ℕ → List ℕ → List ℕ → List ℕ
over at n bs xs = take at bs ++ (refilled (take n (drop at bs)) xs ++ drop n (drop at bs))

-- the bytes with others in the place of the n from `at` on, where they were
abbrev pub with_part : ℕ → ℕ → Stored → List ℕ → Stored
with_part at n s xs = record { at = s.at; room = s.room; bytes = over at n s.bytes xs }

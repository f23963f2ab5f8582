-- Bytes that are put into a buffer, one piece behind the other.
use Rattle.std.specs.Prelude.{◌≡◌, ℕ, ◌+◌, List, ◌++◌, length, take, drop}

-- bytes were put at a place of a buffer, and end at another; what stands before and behind them stays
pub record IsPut (at end : ℕ) (bytes old new : List ℕ) : Type 0 where
  pub ends : end ≡ at + length bytes
  pub front : take end new ≡ take at old ++ bytes
  pub rest : drop end new ≡ drop end old

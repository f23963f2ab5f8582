-- The one block of memory of a `Frames`: the nodes, and behind them the bytes of all frames.
use Rattle.std.specs.Prelude.{◌≡◌, ℕ, ◌+◌, ◌*◌, ◌/◌}
use Rattle.std.specs.declared.alloc.Global.{Global}
use denote.RawPtr.{Ptr, ◌+ₚ◌}
use Rattle.cckd_frames.specs.declared.block.Deed.{Deed}
use Rattle.cckd_frames.specs.declared.node.Node.{Node}

-- how many nodes take the place of n bytes, or a little more
abbrev pub back_of : ℕ → ℕ
back_of n = (n + 55) / 56

-- the deed is that of the block: its nodes begin at `first`, and the bytes, with their room, behind them
pub record IsWhole (count frame_len : ℕ) (first at : Ptr) (room : ℕ) (d : Deed Node Global) (alloc : Global) : Type 0 where
  pub deed_at : d.at ≡ first
  pub front : d.front ≡ 2 * count + 1
  pub back : d.back ≡ back_of (count * frame_len)
  pub from : d.alloc ≡ alloc
  pub behind : at ≡ first +ₚ (2 * count + 1) * 56
  pub roomy : room ≡ back_of (count * frame_len) * 56

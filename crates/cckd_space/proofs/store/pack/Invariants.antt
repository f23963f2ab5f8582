use Rattle.std.proofs.Common.{◌≡◌, ◌+◌, ◌-◌, ◌≤◌, min}
use Rattle.std.specs.Vec.{vec_len, vec_capacity}
use Rattle.cckd_space.specs.Blocks.{AreFit, whole, IsDense}
use Rattle.cckd_space.proofs.store.pack.Given as goal

abbrev pub invariant-loop-at : goal.invariant-loop-at
invariant-loop-at l = record {
  same : whole l.blocks.items ≡ whole l.fn.blocks.items;
  fit : AreFit l.full l.blocks.items;
  total : vec_len l.blocks + vec_len l.store ≡ vec_len l.fn.blocks + vec_len l.fn.store;
  room : vec_len l.blocks + vec_len l.store ≤ min (vec_capacity l.blocks) (vec_capacity l.store);
  dense : IsDense l.full l.at l.blocks.items;
}

abbrev pub decreases-loop-at : goal.decreases-loop-at
decreases-loop-at l = vec_len l.blocks - l.at

use Rattle.std.proofs.Common.{◌≡◌, ◌+◌, ◌-◌, ◌<◌, ◌≤◌, ◌^◌, length, min}
use Rattle.std.specs.Vec.{vec_len, vec_capacity}
use Rattle.cckd_space.specs.Pieces.{merged}
use Rattle.cckd_space.specs.Inside.{size_of}
use Rattle.cckd_space.specs.Blocks.{whole, AreClosed, AreTidy, StayFit}
use Rattle.cckd_space.proofs.border.merge_borders.Given as goal

abbrev pub invariant-loop-at : goal.invariant-loop-at
invariant-loop-at l = record {
  same : merged (whole l.blocks.items) ≡ merged (whole l.fn.blocks.items);
  sizes : size_of (whole l.blocks.items) < 2 ^ 32;
  tidy : AreTidy l.blocks.items;
  within : l.at ≤ vec_len l.blocks;
  closed : AreClosed l.at l.blocks.items;
  total : vec_len l.blocks + vec_len l.store ≡ vec_len l.fn.blocks + vec_len l.fn.store;
  room : vec_len l.blocks + vec_len l.store ≤ min (vec_capacity l.blocks) (vec_capacity l.store);
  fit : StayFit l.fn.blocks.items l.blocks.items;
}

abbrev pub decreases-loop-at : goal.decreases-loop-at
decreases-loop-at l = length (whole l.blocks.items) + vec_len l.blocks - l.at

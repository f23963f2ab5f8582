use Rattle.std.proofs.Common.{◌≡◌, take, None}
use Rattle.cckd_space.specs.Pieces.{first, has_room}
use Rattle.cckd_space.specs.Blocks.{whole}
use Rattle.cckd_space.proofs.order.block_with_room.Given as goal

abbrev pub invariant-loop-at : goal.invariant-loop-at
invariant-loop-at l = first (has_room l.need) (whole (take l.at l.blocks)) ≡ None

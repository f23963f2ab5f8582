use Rattle.std.proofs.Common.{◌≡◌, take, None}
use Rattle.cckd_space.specs.Pieces.{first, has_room_below}
use Rattle.cckd_space.specs.Blocks.{whole}
use Rattle.cckd_space.proofs.order.block_with_room_below.Given as goal

abbrev pub invariant-loop-at : goal.invariant-loop-at
invariant-loop-at l = first (has_room_below l.need l.before) (whole (take l.at l.blocks)) ≡ None

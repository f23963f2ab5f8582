use Rattle.std.proofs.Common.{◌≡◌, ◌+◌, drop, length}
use Rattle.cckd_base.specs.Survey.{StandApart}
use Rattle.cckd_space.specs.Pieces.{pieces_of}
use Rattle.cckd_space.proofs.making.count_pieces.Given as goal

abbrev pub invariant-loop-extent : goal.invariant-loop-extent
invariant-loop-extent l = record {
  count : l.count + length (pieces_of l.at (drop l.extent-index l.extents) l.size) ≡ length (pieces_of 0 l.extents l.size);
  used : StandApart l.at (drop l.extent-index l.extents) l.size;
}

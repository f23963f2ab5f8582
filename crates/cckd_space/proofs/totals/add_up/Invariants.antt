use Rattle.std.proofs.Common.{◌≡◌, ◌+◌, max, drop}
use Rattle.cckd_space.specs.Pieces.{counted, greatest, is_roomy, roomy_len, summed, used_len}
use Rattle.cckd_space.proofs.totals.add_up.Given as goal

abbrev pub invariant-loop-piece : goal.invariant-loop-piece
invariant-loop-piece l = record {
  used : l.used + summed used_len (drop l.piece-index l.pieces) ≡ summed used_len l.pieces;
  total : l.total + summed roomy_len (drop l.piece-index l.pieces) ≡ summed roomy_len l.pieces;
  largest : max l.largest (greatest roomy_len (drop l.piece-index l.pieces)) ≡ greatest roomy_len l.pieces;
  number : l.number + counted is_roomy (drop l.piece-index l.pieces) ≡ counted is_roomy l.pieces;
}

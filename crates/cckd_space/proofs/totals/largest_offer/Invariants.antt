use Rattle.std.proofs.Common.{◌≡◌, max, drop}
use Rattle.cckd_space.specs.Pieces.{greatest, offer}
use Rattle.cckd_space.proofs.totals.largest_offer.Given as goal

abbrev pub invariant-loop-piece : goal.invariant-loop-piece
invariant-loop-piece l = max l.best (greatest offer (drop l.piece-index l.pieces)) ≡ greatest offer l.pieces

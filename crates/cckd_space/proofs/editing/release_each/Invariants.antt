use Rattle.std.proofs.Common.{◌≡◌, ◌++◌, take, drop, map}
use Rattle.cckd_space.specs.Pieces.{released}
use Rattle.cckd_space.proofs.editing.release_each.Given as goal

abbrev pub invariant-loop-piece : goal.invariant-loop-piece
invariant-loop-piece l = l.pieces ≡ map released (take l.piece-index l.initial.pieces) ++ drop l.piece-index l.initial.pieces

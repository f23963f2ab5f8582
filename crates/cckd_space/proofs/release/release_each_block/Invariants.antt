use Rattle.std.proofs.Common.{◌≡◌, ◌++◌, take, drop, map, List}
use Rattle.cckd_space.specs.declared.piece.Piece.{Piece}
use Rattle.cckd_space.specs.Pieces.{released, merged}
use Rattle.cckd_space.proofs.release.release_each_block.Given as goal

abbrev pub invariant-loop-block : goal.invariant-loop-block
invariant-loop-block l = l.blocks ≡ map (λ (b : List Piece). merged (map released b)) (take l.block-index l.initial.blocks) ++ drop l.block-index l.initial.blocks

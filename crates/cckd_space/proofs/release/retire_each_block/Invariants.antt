use Rattle.std.proofs.Common.{◌≡◌, ◌++◌, take, drop, map}
use Rattle.cckd_space.specs.Pieces.{retired}
use Rattle.cckd_space.proofs.release.retire_each_block.Given as goal

abbrev pub invariant-loop-block : goal.invariant-loop-block
invariant-loop-block l = l.blocks ≡ map (map retired) (take l.block-index l.initial.blocks) ++ drop l.block-index l.initial.blocks

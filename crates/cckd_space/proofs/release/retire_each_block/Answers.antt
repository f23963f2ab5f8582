use Rattle.std.proofs.Common.{rules, map}
use Rattle.std.proofs.lemmas.List.Edits.{map_over_more}
use Rattle.cckd_space.specs.Pieces.{retired}
use Rattle.cckd_space.proofs.release.retire_each_block.Goals as goal

pub loop-block-preserved : goal.loop-block-preserved
loop-block-preserved c = search (rules, map_over_more (map retired))

use Rattle.std.proofs.Common.{rules}
use Rattle.std.proofs.lemmas.List.Edits.{map_over_more}
use Rattle.cckd_space.specs.Pieces.{retired}
use Rattle.cckd_space.proofs.editing.retire_each.Goals as goal

pub loop-piece-preserved : goal.loop-piece-preserved
loop-piece-preserved c = search (rules, map_over_more retired)

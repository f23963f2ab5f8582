use Rattle.std.proofs.Common.{◌≡◌, drop}
use Rattle.std.specs.List.{slice_get}
use Rattle.cckd_tables.specs.Stages.{table_spaces}
use Rattle.cckd_tables.proofs.stages.table_space.Given as goal

abbrev pub invariant-loop-word : goal.invariant-loop-word
invariant-loop-word l = slice_get (table_spaces (drop l.word-index l.words)) l.left ≡ slice_get (table_spaces l.words) l.number

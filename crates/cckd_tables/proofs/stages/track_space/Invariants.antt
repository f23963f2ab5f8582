use Rattle.std.proofs.Common.{◌≡◌, drop}
use Rattle.std.specs.List.{slice_get}
use Rattle.cckd_tables.specs.Stages.{track_spaces}
use Rattle.cckd_tables.proofs.stages.track_space.Given as goal

abbrev pub invariant-loop-staged : goal.invariant-loop-staged
invariant-loop-staged l = slice_get (track_spaces (drop l.staged-index l.entries)) l.left ≡ slice_get (track_spaces l.entries) l.number

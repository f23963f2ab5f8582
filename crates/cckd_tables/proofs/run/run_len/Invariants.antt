use Rattle.std.proofs.Common.{◌≡◌, ℕ, ◌+◌, ◌<◌}
use Rattle.std.specs.Prelude.{slice_index}
use Rattle.cckd_tables.specs.Commit.{staged_tracks}
use Rattle.cckd_tables.proofs.run.run_len.Given as goal

abbrev pub invariant-loop-count : goal.invariant-loop-count
invariant-loop-count l =
    (i : ℕ) → i < l.count → slice_index (staged_tracks l.entries) (l.first + i) ≡ slice_index (staged_tracks l.entries) l.first + i

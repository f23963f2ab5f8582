use Rattle.std.proofs.Common.{◌≡◌, drop}
use Rattle.std.specs.Prelude.{is_some}
use Rattle.cckd_tables.specs.Staging.{place_for}
use Rattle.cckd_tables.proofs.commit.is_moved.Given as goal

abbrev pub invariant-loop-word : goal.invariant-loop-word
invariant-loop-word l = is_some (place_for l.group (drop l.word-index l.words)) ≡ is_some (place_for l.group l.words)

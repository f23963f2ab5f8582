use Rattle.cckd_turn.specs.Passes.{IsResting}
use Rattle.cckd_turn.proofs.wait_tests.count_behind.Given as goal

abbrev pub invariant-loop : goal.invariant-loop
invariant-loop g l = IsResting l.table l.pass

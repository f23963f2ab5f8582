use Rattle.std.proofs.Common.{◌≡◌, ◌+◌, ◌≤◌, vec_len}
use Rattle.cckd_turn.specs.Passes.{IsResting, number_of, left_of}
use Rattle.cckd_turn.proofs.tests.count_all.Given as goal

abbrev pub invariant-loop-place : goal.invariant-loop-place
invariant-loop-place g l = record {
  resting : IsResting l.table l.pass;
  same : number_of l.pass ≡ number_of l.fn.worker.pass;
  calls : vec_len l.fn.worker.places ≤ left_of l.pass + l.place-index;
}

use Rattle.std.proofs.Common.{◌+◌, ◌≤◌}
use Rattle.cckd_turn.specs.Passes.{IsBack, left_of}
use Rattle.bench.proofs.counter.count_calls.Given as goal

abbrev pub invariant-loop : goal.invariant-loop
invariant-loop g l = IsBack l.table l.fn.pass l.pass × (l.calls ≤ left_of l.pass + l.counter)

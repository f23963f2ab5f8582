use Rattle.std.proofs.Common.{◌*◌, ◌-◌, ◌≤◌}
use Rattle.bench.proofs.space.splits.Given as goal

abbrev pub invariant-loop : goal.invariant-loop
invariant-loop l = 2 * (l.calls - l.counter) ≤ l.space.spare

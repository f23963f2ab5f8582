use Rattle.std.proofs.Common.{◌*◌, ◌-◌, ◌≤◌}
use Rattle.bench.proofs.space.fill.Given as goal

abbrev pub invariant-loop : goal.invariant-loop
invariant-loop l = 4 * (l.tracks - l.counter) ≤ l.space.spare

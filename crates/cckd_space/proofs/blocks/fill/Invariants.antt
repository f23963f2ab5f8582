use Rattle.std.proofs.Common.{◌≡◌, ◌+◌, ◌≤◌}
use Rattle.std.specs.Vec.{vec_len, vec_capacity}
use Rattle.cckd_space.proofs.blocks.fill.Given as goal

abbrev pub invariant-loop : goal.invariant-loop
invariant-loop l = (vec_len l.store ≡ vec_len l.fn.store + l.counter) × (vec_capacity l.fn.store ≤ vec_capacity l.store)

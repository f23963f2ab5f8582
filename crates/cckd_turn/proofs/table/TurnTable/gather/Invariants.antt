use Rattle.std.proofs.Common.{◌≡◌, ◌⊎◌, ℕ, Some, vec_len}
use Rattle.std.specs.Prelude.{slice_get}
use Rattle.cckd_turn.specs.declared.view.PassState.TheVariants.{Idle}
use Rattle.cckd_turn.specs.Passes.{IsResting, table_id_of}
use Rattle.cckd_turn.specs.Gathered.{HasTakenIn}
use Rattle.cckd_turn.proofs.table.TurnTable.gather.Given as goal

abbrev pub invariant-loop-pass : goal.invariant-loop-pass
invariant-loop-pass g l = record {
  table : l.seat.table_id ≡ table_id_of l.self;
  idle : l.seat.me.0.state ≡ Idle;
  resting : (k : ℕ) (p : _) → slice_get l.passes.items k ≡ Some p → IsResting l.self p;
  each : (k : ℕ) (p : _) → slice_get l.fn.passes.items k ≡ Some p → ((j : ℕ) × (slice_get l.passes.items j ≡ Some p)) ⊎ HasTakenIn p l.seat.me.0;
}

abbrev pub decreases-loop-pass : goal.decreases-loop-pass
decreases-loop-pass g l = vec_len l.passes

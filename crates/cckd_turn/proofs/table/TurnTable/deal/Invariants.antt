use Rattle.std.proofs.Common.{◌≡◌, ◌≤◌, ◌-◌, ℕ, [], Some, vec_len, vec_capacity}
use Rattle.std.specs.Prelude.{slice_get}
use Rattle.cckd_turn.specs.Passes.{IsNew, table_id_of}
use Rattle.cckd_turn.proofs.PassLemmas.{dealing}
use Rattle.cckd_turn.proofs.table.TurnTable.deal.Given as goal

abbrev pub invariant-loop-number : goal.invariant-loop-number
invariant-loop-number g l = record {
  table : l.seat.table_id ≡ table_id_of l.self;
  me : l.seat.me ≡ (dealing l.terms l.number (l.last - l.number), []);
  count : vec_len l.passes ≡ l.number;
  room : l.terms.callers ≤ vec_capacity l.passes;
  new : (k : ℕ) (p : _) → slice_get l.passes.items k ≡ Some p → IsNew l.self k p;
}

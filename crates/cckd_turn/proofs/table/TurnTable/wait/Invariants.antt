use Rattle.std.proofs.Common.{◌≡◌, ◌+◌}
use Rattle.cckd_turn.specs.Steps.{HasLooked}
use Rattle.cckd_turn.proofs.table.TurnTable.wait.Given as goal

abbrev pub invariant-loop-looks : goal.invariant-loop-looks
invariant-loop-looks g l =
    (l.seat.table_id ≡ l.initial.seat.table_id)
    × HasLooked l.initial.seat.me l.seat.me
    × (l.seat.me.0.looks + 1 ≡ l.initial.seat.me.0.looks + l.looks)

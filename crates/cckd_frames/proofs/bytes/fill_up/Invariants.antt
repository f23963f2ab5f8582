use Rattle.std.proofs.Common.{◌≡◌, ◌-◌, ◌++◌, replicate}
use Rattle.cckd_frames.proofs.bytes.fill_up.Given as goal

abbrev pub invariant-loop-at : goal.invariant-loop-at
invariant-loop-at l = record {
  place : l.row.at ≡ l.initial.row.at;
  room : l.row.room ≡ l.initial.row.room;
  zeros : l.row.items ≡ l.initial.row.items ++ replicate (l.at - l.from) 0;
}

use Rattle.std.proofs.Common.{◌≡◌, ◌-◌, ◌≤◌, length, drop}
use Rattle.cckd_base.specs.Track.{records_fault}
use Rattle.cckd_track.proofs.checking.check_records.Given as goal

abbrev pub invariant-loop-len : goal.invariant-loop-len
invariant-loop-len l = record {
  behind : 5 ≤ l.at;
  within : l.at ≤ length l.bytes;
  left : records_fault 5 0 (drop 5 l.bytes) ≡ records_fault l.at 0 (drop l.at l.bytes);
}

abbrev pub decreases-loop-len : goal.decreases-loop-len
decreases-loop-len l = length l.bytes - l.at

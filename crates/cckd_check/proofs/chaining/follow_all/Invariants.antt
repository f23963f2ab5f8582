use Rattle.std.proofs.Common.{◌≡◌, ◌-◌, ◌≤◌}
use Rattle.cckd_shelf.specs.Seen.{seen, Tells, Stays}
use Rattle.cckd_shelf.specs.World.{IsSure, file_of}
use Rattle.cckd_check.proofs.LinkLemmas.{OnTheWay}
use Rattle.cckd_check.proofs.chaining.follow_all.Given as goal

abbrev pub invariant-loop-at : goal.invariant-loop-at
invariant-loop-at g l =
    let old = seen g.T.Shows l.fn.stage in
    let new = seen g.T.Shows l.stage in
    record {
      way : Tells old → IsSure old.world → OnTheWay l.order l.used (file_of old.world l.slot) l.first l.before l.at;
      low : l.before ≤ l.len;
      kept : Stays old new;
      counts : new.faults ≡ old.faults;
    }

abbrev pub decreases-loop-at : goal.decreases-loop-at
decreases-loop-at g l = l.len - l.before

use Rattle.std.proofs.Common.{◌≡◌, ◌≤◌}
use Rattle.cckd_shelf.specs.Seen.{seen, Tells, Stays}
use Rattle.cckd_shelf.specs.World.{IsSure, file_of}
use Rattle.cckd_check.specs.Inside.{AddsTracks}
use Rattle.cckd_check.proofs.tracking.Tracks.check_each.Given as goal

abbrev pub invariant-loop-number : goal.invariant-loop-number
invariant-loop-number g l =
    let old = seen g.T.Shows l.fn.stage in
    let new = seen g.T.Shows l.stage in
    record {
      adds : Tells old → IsSure old.world → AddsTracks l.self.level l.self.geo.now l.self.spaces.now (file_of old.world l.slot) l.number l.fn.report l.report;
      few : l.report.unread ≤ l.number;
      kept : Stays old new;
      counts : new.faults ≡ old.faults;
    }

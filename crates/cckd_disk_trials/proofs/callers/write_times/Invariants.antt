use Rattle.std.proofs.Common.{◌≡◌, ◌<◌, false}
use Rattle.cckd_shelf.specs.Seen.{seen}
use Rattle.cckd_disk_trials.specs.Callers.{written}
use Rattle.cckd_disk_trials.proofs.TogetherLemmas.{HasWritten, HasLast}
use Rattle.cckd_disk_trials.proofs.callers.write_times.Given as goal

abbrev pub invariant-loop-time : goal.invariant-loop-time
invariant-loop-time g l = record {
  whole : l.layer.broken ≡ false;
  so_far : HasWritten g.U.Unit.null_bytes (written g.U.Unit.value l.t.0 l.bytes) l.fn.layer l.layer (seen g.T.Shows l.fn.stage) (seen g.T.Shows l.stage);
  last : 0 < l._time → HasLast g.U.Unit.null_bytes (written g.U.Unit.value l.t.0 l.bytes) l.fn.layer l.layer (seen g.T.Shows l.fn.stage) (seen g.T.Shows l.stage);
}

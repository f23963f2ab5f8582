use Rattle.std.proofs.Common.{length, ◌-◌}
use Rattle.cckd_shelf.specs.Seen.{seen}
use Rattle.cckd_shelf.proofs.PutLemmas.{PutSoFar}
use Rattle.cckd_shelf.proofs.sink.put_all.Given as goal

abbrev pub invariant-loop-put : goal.invariant-loop-put
invariant-loop-put g l = PutSoFar l.text l.put (seen g.T.Shows l.fn.stage) (seen g.T.Shows l.stage)

abbrev pub decreases-loop-put : goal.decreases-loop-put
decreases-loop-put g l = length l.initial.text - l.put

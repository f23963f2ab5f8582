use Rattle.cckd_shelf.specs.Seen.{seen}
use Rattle.cckd_record_example.proofs.VersionLemmas.{DoneSoFar}
use Rattle.cckd_record_example.proofs.updating.update_all.Given as goal

abbrev pub invariant-loop-next : goal.invariant-loop-next
invariant-loop-next g l = DoneSoFar l.slot l.versions l.next-index (seen g.S.Shows l.fn.shelf) (seen g.S.Shows l.shelf)

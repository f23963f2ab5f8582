use Rattle.std.proofs.Common.{◌+◌, ◌-◌, ◌≤◌, length}
use Rattle.cckd_shelf.specs.Seen.{seen}
use Rattle.cckd_tables.specs.Commit.{stages_of}
use Rattle.cckd_tables.specs.Calls.{writes_from}
use Rattle.cckd_tables.proofs.EntryLoopLemmas.{EntriesSoFar}
use Rattle.cckd_tables.proofs.commit.Commit.write_entries.Given as goal

abbrev pub invariant-loop-next : goal.invariant-loop-next
invariant-loop-next g l = record {
  within : l.next ≤ length l.self.entries.now;
  so : EntriesSoFar l.self.layout.now l.slot l.self.words.now (stages_of l.self) l.next (seen g.S.Shows l.fn.shelf) (seen g.S.Shows l.shelf);
  calls : (seen g.S.Shows l.shelf).calls + writes_from l.self l.next ≤ (seen g.S.Shows l.fn.shelf).calls + writes_from l.self 0;
}

abbrev pub decreases-loop-next : goal.decreases-loop-next
decreases-loop-next g l = length l.self.entries.now - l.next

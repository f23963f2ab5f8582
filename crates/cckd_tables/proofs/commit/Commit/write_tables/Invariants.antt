use Rattle.cckd_shelf.specs.Seen.{seen}
use Rattle.cckd_tables.proofs.TableLoopLemmas.{TablesSoFar}
use Rattle.cckd_tables.proofs.commit.Commit.write_tables.Given as goal

abbrev pub invariant-loop-i : goal.invariant-loop-i
invariant-loop-i g l = TablesSoFar l.slot l.self.moved.now l.self.tables.now l.i (seen g.S.Shows l.fn.shelf) (seen g.S.Shows l.shelf)

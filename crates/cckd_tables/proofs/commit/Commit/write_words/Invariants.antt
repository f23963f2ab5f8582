use Rattle.cckd_shelf.specs.Seen.{seen}
use Rattle.cckd_tables.proofs.WordLoopLemmas.{WordsSoFar}
use Rattle.cckd_tables.proofs.commit.Commit.write_words.Given as goal

abbrev pub invariant-loop-word : goal.invariant-loop-word
invariant-loop-word g l = WordsSoFar l.self.layout.now l.slot l.self.moved.now l.word-index (seen g.S.Shows l.fn.shelf) (seen g.S.Shows l.shelf)

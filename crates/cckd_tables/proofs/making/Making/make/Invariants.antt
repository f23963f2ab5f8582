use Rattle.std.proofs.Common.{◌≡◌, ◌*◌, ◌≤◌}
use Rattle.std.specs.Vec.{vec_len, vec_capacity}
use Rattle.cckd_shelf.specs.Seen.{seen}
use Rattle.cckd_tables.specs.Calls.{CallsAtMost}
use Rattle.cckd_tables.specs.Making.{AreMade, Looked}
use Rattle.cckd_tables.proofs.making.Making.make.Given as goal

abbrev pub invariant-loop-word : goal.invariant-loop-word
invariant-loop-word g l = record {
  made : AreMade l.self.layout.now (record { entries = l.self.entries.now; words = l.moved }) l.word-index l.tables.items l.slot (seen g.T.Shows l.fn.stage);
  len : vec_len l.tables ≡ 2048 * l.word-index;
  capacity : vec_capacity l.fn.tables ≤ vec_capacity l.tables;
  looked : Looked (seen g.T.Shows l.fn.stage) (seen g.T.Shows l.stage);
  calls : CallsAtMost l.word-index (seen g.T.Shows l.fn.stage) (seen g.T.Shows l.stage);
}

use Rattle.std.proofs.Common.{length}
use Rattle.cckd_shelf.specs.Seen.{seen}
use Rattle.cckd_shelf.specs.World.{file_of}
use Rattle.cckd_shelf.specs.Outcomes.{EachOutcome}
use Rattle.cckd_shelf.proofs.MomentLemmas.{joins, at_end}
use Rattle.cckd_shelf.proofs.FrameLemmas.{only_twice}
use Rattle.cckd_shelf.proofs.WorldLemmas.{on_ok}
use Rattle.cckd_tables.specs.Blend.{Blend, IsCommitted}
use Rattle.cckd_tables.specs.Commit.{stages_of}
use Rattle.cckd_tables.specs.Cells.{AreEntriesWritten}
use Rattle.cckd_tables.proofs.EntryLoopLemmas.{words_entered, all_entered}
use Rattle.cckd_tables.proofs.commit.Commit.put_over.Goals as goal

pub returns-clause-stopped : goal.returns-clause-stopped
returns-clause-stopped g c = λ was ready has each told.
    let old = seen g.S.Shows c.args.shelf.now in
    let mid = seen g.S.Shows c.write_words.new.shelf in
    let new = seen g.S.Shows c.write_entries.new.shelf in
    let Q = EachOutcome c.args.slot (Blend c.args.self.now.layout.now was (stages_of c.args.self.now)) in
    let first = c.write_words.ensures.stopped was ready each told in
    joins Q old.world.events mid.world.events new.world.events first
    (c.write_entries.ensures.stopped was ready has (λ here. at_end Q old.world.events mid.world.events first) told)

pub returns-clause-now : goal.returns-clause-now
returns-clause-now g c = λ was ready has told same.
    let l = c.args.self.now.layout.now in
    let stages = stages_of c.args.self.now in
    let mid = seen g.S.Shows c.write_words.new.shelf in
    let new = seen g.S.Shows c.write_entries.new.shelf in
    on_ok (AreEntriesWritten l was stages (length c.args.self.now.entries.now) (file_of new.world c.args.slot)) (IsCommitted l was stages (file_of new.world c.args.slot)) c.write_entries.result
    (λ h. all_entered l was stages (file_of new.world c.args.slot) h)
    (c.write_entries.ensures.now was ready has told (words_entered l was stages (file_of mid.world c.args.slot) ready (c.in_ok-write_words.ensures.now was ready told same)))

pub returns-clause-others : goal.returns-clause-others
returns-clause-others g c =
    only_twice c.args.slot (seen g.S.Shows c.args.shelf.now) (seen g.S.Shows c.write_words.new.shelf) (seen g.S.Shows c.write_entries.new.shelf) (λ told. told) c.write_words.ensures.others c.write_entries.ensures.others

use Rattle.std.proofs.Common.{arith}
use Rattle.cckd_shelf.specs.Seen.{seen}
use Rattle.cckd_tables.specs.Commit.{stages_of}
use Rattle.cckd_shelf.proofs.FrameLemmas.{only_twice}
use Rattle.cckd_tables.proofs.EntryLoopLemmas.{entries_stopped, entries_then}
use Rattle.cckd_tables.proofs.commit.Commit.write_entries.Goals as goal

pub returns-in_err-next-clause-stopped : goal.returns-in_err-next-clause-stopped
returns-in_err-next-clause-stopped g c =
    entries_stopped c.args.self.now.layout.now c.args.slot c.args.self.now.words.now (stages_of c.args.self.now) c.loop-next.next
    (seen g.S.Shows c.args.shelf.now) (seen g.S.Shows c.loop-next.shelf) (seen g.S.Shows c.write_next.new.shelf) (λ told. told) c.loop-next.invariant.so c.write_next.ensures.stopped

pub returns-in_err-next-clause-others : goal.returns-in_err-next-clause-others
returns-in_err-next-clause-others g c =
    only_twice c.args.slot (seen g.S.Shows c.args.shelf.now) (seen g.S.Shows c.loop-next.shelf) (seen g.S.Shows c.write_next.new.shelf) (λ told. told) c.loop-next.invariant.so.went.others c.write_next.ensures.others

pub loop-next-preserved : goal.loop-next-preserved
loop-next-preserved g c =
    let done = c.in_ok-next.ensures in
    record {
      within = done.next.1;
      so = entries_then c.args.self.now.layout.now c.args.slot c.args.self.now.words.now (stages_of c.args.self.now) c.loop-next.next c.in_ok-next.next
          (seen g.S.Shows c.args.shelf.now) (seen g.S.Shows c.loop-next.shelf) (seen g.S.Shows c.write_next.new.shelf) (λ told. told) c.loop-next.invariant.so c.write_next.ensures.stopped
          done.now (record { sure = done.sure; others = c.write_next.ensures.others; counts = done.fails.still });
      calls = (let before = c.loop-next.invariant.calls in let more = done.calls in omega arith);
    }

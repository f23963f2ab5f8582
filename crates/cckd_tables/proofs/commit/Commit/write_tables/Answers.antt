use Rattle.std.proofs.Common.{◌*◌, length, ◌∙◌, ap, arith}
use Rattle.cckd_shelf.specs.Seen.{seen}
use Rattle.cckd_tables.specs.declared.staged.StagedWord.{StagedWord}
use Rattle.cckd_tables.proofs.TableLoopLemmas.{tables_stopped, tables_next, table_part, table_long, write_others}
use Rattle.cckd_tables.proofs.commit.Commit.write_tables.Goals as goal

abbrev blank : StagedWord
blank = record { group = 0; pos = 0 }

pub returns-in_err-write_table-clause-stopped : goal.returns-in_err-write_table-clause-stopped
returns-in_err-write_table-clause-stopped g c =
    let same = table_part c.args.self.now.tables.now c.loop-i.i (c.loop-i.i * 2048) _ (omega arith) (omega arith) in
    tables_stopped c.args.slot c.args.self.now.moved.now c.args.self.now.tables.now _ c.loop-i.i blank (seen g.S.Shows c.args.shelf.now) (seen g.S.Shows c.loop-i.shelf) (seen g.S.Shows c.write_table.new.shelf) c.write_table.result (λ told. told)
    c.loop-i-test.true (ap length same ∙ table_long c.args.self.now.tables.now c.loop-i.i (length c.args.self.now.moved.now) c.requires.tables c.loop-i-test.true) c.loop-i.invariant c.write_table.ensures.write c.args.self.now.entries.now

pub returns-in_err-write_table-clause-others : goal.returns-in_err-write_table-clause-others
returns-in_err-write_table-clause-others g c =
    write_others c.args.slot _ _ (seen g.S.Shows c.args.shelf.now) (seen g.S.Shows c.loop-i.shelf) (seen g.S.Shows c.write_table.new.shelf) c.write_table.result (λ told. told) c.write_table.ensures.write c.loop-i.invariant.went

pub loop-i-preserved : goal.loop-i-preserved
loop-i-preserved g c =
    let same = table_part c.args.self.now.tables.now c.loop-i.i (c.loop-i.i * 2048) _ (omega arith) (omega arith) in
    tables_next c.args.slot c.args.self.now.moved.now c.args.self.now.tables.now _ c.loop-i.i blank (seen g.S.Shows c.args.shelf.now) (seen g.S.Shows c.loop-i.shelf) (seen g.S.Shows c.write_table.new.shelf) (λ told. told)
    c.loop-i-test.true (ap length same ∙ table_long c.args.self.now.tables.now c.loop-i.i (length c.args.self.now.moved.now) c.requires.tables c.loop-i-test.true) same c.loop-i.invariant c.in_ok-write_table.ensures.write c.write_table.ensures.called

pub returns-clause-near : goal.returns-clause-near
returns-clause-near g c = c.loop-i.invariant.near c.args.self.now.entries.now

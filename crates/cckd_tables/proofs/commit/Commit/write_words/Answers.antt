use Rattle.cckd_shelf.specs.Seen.{seen}
use Rattle.cckd_tables.specs.declared.staged.StagedWord.{StagedWord}
use Rattle.cckd_tables.proofs.TableLoopLemmas.{write_others}
use Rattle.cckd_tables.proofs.WordLoopLemmas.{words_stopped, words_next}
use Rattle.cckd_tables.proofs.commit.Commit.write_words.Goals as goal

abbrev blank : StagedWord
blank = record { group = 0; pos = 0 }

pub returns-in_err-write_word-clause-stopped : goal.returns-in_err-write_word-clause-stopped
returns-in_err-write_word-clause-stopped g c = λ was.
    words_stopped c.args.self.now.layout.now c.args.slot c.args.self.now.moved.now _ c.loop-word.word-index blank (seen g.S.Shows c.args.shelf.now) (seen g.S.Shows c.loop-word.shelf) (seen g.S.Shows c.write_word.new.shelf) (λ told. told)
    c.requires.order.groups c.requires.order.groups_there c.loop-word-test.true c.write_word.ensures.size c.write_word.ensures.spelled c.loop-word.invariant c.write_word.result c.write_word.ensures.write was c.args.self.now.entries.now

pub returns-in_err-write_word-clause-others : goal.returns-in_err-write_word-clause-others
returns-in_err-write_word-clause-others g c =
    write_others c.args.slot _ _ (seen g.S.Shows c.args.shelf.now) (seen g.S.Shows c.loop-word.shelf) (seen g.S.Shows c.write_word.new.shelf) c.write_word.result (λ told. told) c.write_word.ensures.write c.loop-word.invariant.went

pub loop-word-preserved : goal.loop-word-preserved
loop-word-preserved g c =
    words_next c.args.self.now.layout.now c.args.slot c.args.self.now.moved.now _ c.loop-word.word-index blank (seen g.S.Shows c.args.shelf.now) (seen g.S.Shows c.loop-word.shelf) (seen g.S.Shows c.write_word.new.shelf) (λ told. told)
    c.requires.order.groups c.requires.order.groups_there c.loop-word-test.true c.write_word.ensures.size c.write_word.ensures.spelled c.loop-word.invariant c.in_ok-write_word.ensures.write c.write_word.ensures.called

use Rattle.std.proofs.Common.{◌+◌, ◌<◌, length, drop, Some, sym, ◌∙◌, ap}
use Rattle.std.specs.List.{slice_get}
use Rattle.cckd_tables.specs.declared.staged.StagedWord.{StagedWord}
use Rattle.cckd_tables.specs.Stages.{is_place, word_space, table_spaces}
use Rattle.cckd_tables.proofs.NumberedLemmas.{number_here, number_next, number_on, number_end}
use Rattle.cckd_tables.proofs.stages.table_space.Goals as goal
use Rattle.cckd_tables.proofs.stages.table_space.Goals.{then-is_place+else-left-eq0, else-is_place}

pub loop-word-preserved : goal.loop-word-preserved
loop-word-preserved c =
    let ws = c.args.words.now in
    let i = c.loop-word.word-index in
    let d : StagedWord = record { group = 0; pos = 0 } in
    let within : i < length ws = c.loop-word-test.true in
    let test = λ (w : StagedWord). is_place w.pos in
    elim c.if-is_place.branch [
      | then-is_place+else-left-eq0 w ↦ (
          ap (slice_get (table_spaces (drop (i + 1) ws))) w.left-is
          ∙ sym (number_next test word_space ws i c.loop-word.left d within (sym c.is_place.ensures ∙ w.if-is_place.true) w.if-left-eq0.false)
          ∙ c.loop-word.invariant)
      | else-is_place w ↦ (
          ap (slice_get (table_spaces (drop (i + 1) ws))) w.left-is
          ∙ sym (number_on test word_space ws i c.loop-word.left d within (sym c.is_place.ensures ∙ w.if-is_place.false))
          ∙ c.loop-word.invariant)
    ]

pub returns-then-left-eq0 : goal.returns-then-left-eq0
returns-then-left-eq0 c =
    let ws = c.args.words.now in
    let i = c.loop-word.word-index in
    let d : StagedWord = record { group = 0; pos = 0 } in
    let test = λ (w : StagedWord). is_place w.pos in
    ap Some c.word_space.ensures
    ∙ sym (number_here test word_space ws i c.loop-word.left d c.loop-word-test.true (sym c.is_place.ensures ∙ c.if-is_place.true) c.if-left-eq0.true)
    ∙ c.loop-word.invariant

pub returns : goal.returns
returns c =
    let test = λ (w : StagedWord). is_place w.pos in
    sym (number_end test word_space c.args.words.now c.loop-word.word-index c.loop-word.left c.loop-word-test.false) ∙ c.loop-word.invariant

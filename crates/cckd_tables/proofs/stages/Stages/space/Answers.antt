use Rattle.std.proofs.Common.{◌≡◌, ◌-◌, ◌<◌, ◌≤◌, List, length, sym, ◌∙◌, ap, arith}
use Rattle.std.specs.List.{slice_get, count_by}
use Rattle.cckd_tables.specs.declared.staged.StagedEntry.{StagedEntry}
use Rattle.cckd_tables.specs.declared.staged.StagedWord.{StagedWord}
use Rattle.cckd_tables.specs.Staging.{Stages}
use Rattle.cckd_tables.specs.Stages.{is_place, word_space, table_spaces, track_spaces, staged_spaces}
use Rattle.cckd_tables.proofs.NumberedLemmas.{length_passed, number_before, number_behind}
use Rattle.cckd_tables.proofs.stages.Stages.space.Goals as goal

pub returns-then-number-tables : goal.returns-then-number-tables
returns-then-number-tables c =
    let ws = c.self.inside.words.items in
    let es = c.self.inside.entries.items in
    let test = λ (w : StagedWord). is_place w.pos in
    let all : length (table_spaces ws) ≡ c.table_count-tables.result
    = length_passed test word_space ws ∙ ap (λ (l : List StagedWord). count_by test l) (sym c.as_slice.ensures.value) ∙ sym c.table_count-tables.ensures in
    let few : c.args.number < length (table_spaces ws) = (let l = c.if-number-tables.true in omega arith) in
    c.table_space.ensures
    ∙ ap (λ (l : List StagedWord). slice_get (table_spaces l) c.args.number) c.as_slice-then-number-tables.ensures.value
    ∙ sym (number_before (table_spaces ws) (track_spaces es) c.args.number few)
    ∙ ap (λ (s : Stages). slice_get (staged_spaces s) c.args.number) c.self.view_is

pub returns : goal.returns
returns c =
    let ws = c.self.inside.words.items in
    let es = c.self.inside.entries.items in
    let test = λ (w : StagedWord). is_place w.pos in
    let all : length (table_spaces ws) ≡ c.table_count-tables.result
    = length_passed test word_space ws ∙ ap (λ (l : List StagedWord). count_by test l) (sym c.as_slice.ensures.value) ∙ sym c.table_count-tables.ensures in
    let many : length (table_spaces ws) ≤ c.args.number = (let l = c.if-number-tables.false in omega arith) in
    c.track_space.ensures
    ∙ ap (λ (l : List StagedEntry). slice_get (track_spaces l) (c.args.number - c.table_count-tables.result)) c.as_slice-2.ensures.value
    ∙ ap (λ k. slice_get (track_spaces es) (c.args.number - k)) (sym all)
    ∙ sym (number_behind (table_spaces ws) (track_spaces es) c.args.number many)
    ∙ ap (λ (s : Stages). slice_get (staged_spaces s) c.args.number) c.self.view_is

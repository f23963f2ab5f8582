use Rattle.std.proofs.Common.{◌<◌, ◌/◌, ℕ, length, is_some, sym, ◌∙◌, ap, arith}
use Rattle.std.proofs.lemmas.List.{length-map}
use Rattle.cckd_shelf.specs.Seen.{seen}
use Rattle.cckd_tables.specs.Commit.{staged_tracks, stages_of}
use Rattle.cckd_tables.specs.Cells.{cell}
use Rattle.cckd_tables.specs.Staging.{place_for}
use Rattle.cckd_tables.specs.declared.staged.StagedEntry.{StagedEntry}
use Rattle.cckd_tables.proofs.StagedLemmas.{track_of, true_not_false}
use Rattle.cckd_tables.proofs.CallLemmas.{run_taken_off, moved_taken_off}
use Rattle.cckd_tables.proofs.TableLoopLemmas.{went_nowhere, write_others}
use Rattle.cckd_tables.proofs.EntryLoopLemmas.{entries_skip}
use Rattle.cckd_tables.proofs.EntryRunLemmas.{run_stopped, run_now, run_taken}
use Rattle.cckd_tables.proofs.commit.Commit.write_next.Goals as goal

abbrev blank : StagedEntry
blank = record { track = 0; entry = record { pos = 0; len = 0; size = 0 } }

pub returns-then-is_moved-clause-now : goal.returns-then-is_moved-clause-now
returns-then-is_moved-clause-now g c = λ was ready has told h.
    entries_skip c.args.self.now.layout.now was (stages_of c.args.self.now) c.args.first blank _ ready c.requires.commit.order.tracks c.requires.commit.order.tracks_there c.requires.first
    (sym c.is_moved.ensures ∙ c.if-is_moved.true) h

pub returns-in_err-write_run-clause-stopped : goal.returns-in_err-write_run-clause-stopped
returns-in_err-write_run-clause-stopped g c =
    run_stopped c.args.self.now.layout.now c.args.slot c.args.self.now.words.now (stages_of c.args.self.now) blank c.args.first c.run_len-count.result c.cell-at.result _
    (seen g.S.Shows c.args.shelf.now) (seen g.S.Shows c.write_run.new.shelf) c.requires.commit.order.tracks c.requires.commit.order.tracks_there c.run_len-count.ensures.run c.cell-at.ensures.value
    (true_not_false _ (sym c.is_moved.ensures ∙ c.if-is_moved.false)) (run_taken c.args.self.now.entries.now c.args.first c.run_len-count.result) c.write_run.ensures.encoded c.write_run.result c.write_run.ensures.write

pub returns-in_err-write_run-clause-others : goal.returns-in_err-write_run-clause-others
returns-in_err-write_run-clause-others g c =
    write_others c.args.slot _ _ (seen g.S.Shows c.args.shelf.now) (seen g.S.Shows c.args.shelf.now) (seen g.S.Shows c.write_run.new.shelf) c.write_run.result (λ told. told) c.write_run.ensures.write
    (went_nowhere c.args.slot (seen g.S.Shows c.args.shelf.now))

pub returns-clause-stopped : goal.returns-clause-stopped
returns-clause-stopped g c =
    run_stopped c.args.self.now.layout.now c.args.slot c.args.self.now.words.now (stages_of c.args.self.now) blank c.args.first c.run_len-count.result c.cell-at.result _
    (seen g.S.Shows c.args.shelf.now) (seen g.S.Shows c.write_run.new.shelf) c.requires.commit.order.tracks c.requires.commit.order.tracks_there c.run_len-count.ensures.run c.cell-at.ensures.value
    (true_not_false _ (sym c.is_moved.ensures ∙ c.if-is_moved.false)) (run_taken c.args.self.now.entries.now c.args.first c.run_len-count.result) c.write_run.ensures.encoded c.write_run.result c.write_run.ensures.write

pub returns-clause-now : goal.returns-clause-now
returns-clause-now g c =
    run_now c.args.self.now.layout.now c.args.slot c.args.self.now.words.now (stages_of c.args.self.now) blank c.args.first c.run_len-count.result c.cell-at.result _
    (seen g.S.Shows c.args.shelf.now) (seen g.S.Shows c.write_run.new.shelf) c.requires.commit.order.tracks c.requires.commit.order.tracks_there c.run_len-count.ensures.run c.cell-at.ensures.value
    (true_not_false _ (sym c.is_moved.ensures ∙ c.if-is_moved.false)) (run_taken c.args.self.now.entries.now c.args.first c.run_len-count.result) c.write_run.ensures.encoded c.in_ok-write_run.ensures.write

pub returns-clause-others : goal.returns-clause-others
returns-clause-others g c =
    write_others c.args.slot _ _ (seen g.S.Shows c.args.shelf.now) (seen g.S.Shows c.args.shelf.now) (seen g.S.Shows c.write_run.new.shelf) c.write_run.result (λ told. told) c.write_run.ensures.write
    (went_nowhere c.args.slot (seen g.S.Shows c.args.shelf.now))

pub returns-then-is_moved-clause-calls : goal.returns-then-is_moved-clause-calls
returns-then-is_moved-clause-calls g c =
    let low : c.args.first < length (staged_tracks c.args.self.now.entries.now) = omega (arith, length-map c.args.self.now.entries.now (λ (s : StagedEntry). s.track), c.requires.first) in
    let track = track_of c.args.self.now.entries.now c.args.first blank c.requires.first in
    let less = moved_taken_off c.args.self.now.words.now c.args.self.now.moved.now (staged_tracks c.args.self.now.entries.now) c.args.first low
    (ap (λ (t : ℕ). is_some (place_for (t / 256) c.args.self.now.moved.now)) track ∙ (sym c.is_moved.ensures ∙ c.if-is_moved.true)) in
    omega (arith, less)

pub returns-clause-calls : goal.returns-clause-calls
returns-clause-calls g c =
    let track = track_of c.args.self.now.entries.now c.args.first blank c.requires.first in
    let less = run_taken_off c.args.self.now.words.now c.args.self.now.moved.now (staged_tracks c.args.self.now.entries.now) c.args.first c.run_len-count.result c.cell-at.result
    c.run_len-count.ensures.run c.run_len-count.ensures.whole (c.cell-at.ensures.value ∙ ap (λ (t : ℕ). cell c.args.self.now.words.now t) (sym track))
    (ap (λ (t : ℕ). is_some (place_for (t / 256) c.args.self.now.moved.now)) track ∙ (sym c.is_moved.ensures ∙ c.if-is_moved.false)) in
    let one = c.write_run.ensures.called.once in
    omega (arith, less, one)

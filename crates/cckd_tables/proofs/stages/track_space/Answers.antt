use Rattle.std.proofs.Common.{◌+◌, ◌<◌, length, drop, Some, sym, ◌∙◌, ap}
use Rattle.std.specs.List.{slice_get}
use Rattle.cckd_tables.specs.declared.staged.StagedEntry.{StagedEntry}
use Rattle.cckd_tables.specs.Stages.{is_place, entry_space, track_spaces}
use Rattle.cckd_tables.proofs.NumberedLemmas.{number_here, number_next, number_on, number_end}
use Rattle.cckd_tables.proofs.stages.track_space.Goals as goal
use Rattle.cckd_tables.proofs.stages.track_space.Goals.{then-is_place+else-left-eq0, else-is_place}

pub loop-staged-preserved : goal.loop-staged-preserved
loop-staged-preserved c =
    let es = c.args.entries.now in
    let i = c.loop-staged.staged-index in
    let d : StagedEntry = record { track = 0; entry = record { pos = 0; len = 0; size = 0 } } in
    let within : i < length es = c.loop-staged-test.true in
    let test = λ (w : StagedEntry). is_place w.entry.pos in
    elim c.if-is_place.branch [
      | then-is_place+else-left-eq0 w ↦ (
          ap (slice_get (track_spaces (drop (i + 1) es))) w.left-is
          ∙ sym (number_next test entry_space es i c.loop-staged.left d within (sym c.is_place.ensures ∙ w.if-is_place.true) w.if-left-eq0.false)
          ∙ c.loop-staged.invariant)
      | else-is_place w ↦ (
          ap (slice_get (track_spaces (drop (i + 1) es))) w.left-is
          ∙ sym (number_on test entry_space es i c.loop-staged.left d within (sym c.is_place.ensures ∙ w.if-is_place.false))
          ∙ c.loop-staged.invariant)
    ]

pub returns-then-left-eq0 : goal.returns-then-left-eq0
returns-then-left-eq0 c =
    let es = c.args.entries.now in
    let i = c.loop-staged.staged-index in
    let d : StagedEntry = record { track = 0; entry = record { pos = 0; len = 0; size = 0 } } in
    let test = λ (w : StagedEntry). is_place w.entry.pos in
    ap Some c.entry_space.ensures
    ∙ sym (number_here test entry_space es i c.loop-staged.left d c.loop-staged-test.true (sym c.is_place.ensures ∙ c.if-is_place.true) c.if-left-eq0.true)
    ∙ c.loop-staged.invariant

pub returns : goal.returns
returns c =
    let test = λ (w : StagedEntry). is_place w.entry.pos in
    sym (number_end test entry_space c.args.entries.now c.loop-staged.staged-index c.loop-staged.left c.loop-staged-test.false) ∙ c.loop-staged.invariant

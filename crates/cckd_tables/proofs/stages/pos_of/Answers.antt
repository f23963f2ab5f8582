use Rattle.cckd_tables.specs.declared.staged.StagedWord.{StagedWord}
use Rattle.cckd_tables.proofs.StageLemmas.{place_found, place_none}
use Rattle.cckd_tables.proofs.stages.pos_of.Goals as goal

pub returns-in-Ok : goal.returns-in-Ok
returns-in-Ok c =
    let d : StagedWord = record { group = 0; pos = 0 } in
    let h = c.in-Ok.ensures in
    place_found c.args.group c.args.words.now c.in-Ok.at d c.requires h.0 h.1 (h.2 d)

pub returns-in-Err : goal.returns-in-Err
returns-in-Err c =
    let d : StagedWord = record { group = 0; pos = 0 } in
    let h = c.in-Err.ensures in
    place_none c.args.group c.args.words.now c.in-Err.field-0 d c.requires h.0 (λ l. h.2 l d)

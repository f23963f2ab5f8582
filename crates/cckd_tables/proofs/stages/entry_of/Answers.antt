use Rattle.cckd_tables.specs.declared.staged.StagedEntry.{StagedEntry}
use Rattle.cckd_tables.proofs.StageLemmas.{entry_found, entry_none}
use Rattle.cckd_tables.proofs.stages.entry_of.Goals as goal

pub returns-in-Ok : goal.returns-in-Ok
returns-in-Ok c =
    let d : StagedEntry = record { track = 0; entry = record { pos = 0; len = 0; size = 0 } } in
    let h = c.in-Ok.ensures in
    entry_found c.args.track c.args.entries.now c.in-Ok.at d c.requires h.0 h.1 (h.2 d)

pub returns-in-Err : goal.returns-in-Err
returns-in-Err c =
    let d : StagedEntry = record { track = 0; entry = record { pos = 0; len = 0; size = 0 } } in
    let h = c.in-Err.ensures in
    entry_none c.args.track c.args.entries.now c.in-Err.field-0 d c.requires h.0 (λ l. h.2 l d)

use Rattle.std.proofs.Common.{List, Ok, Err, Result, ℕ, Option, IsNone, refl, sym, ◌∙◌, subst}
use Rattle.cckd_base.specs.declared.entry.L2Entry.{L2Entry}
use Rattle.cckd_tables.specs.declared.staged.StagedEntry.{StagedEntry}
use Rattle.cckd_tables.specs.Stages.{IsPlaceOf}
use Rattle.cckd_tables.proofs.PlacedLemmas.{placed_set, placed_insert}
use Rattle.cckd_tables.proofs.StageLemmas.{track_of, entry_none}
use Rattle.cckd_tables.proofs.stages.put_entry.Goals as goal

pub unreachable-requires : goal.unreachable-requires
unreachable-requires c =
    let d : StagedEntry = record { track = 0; entry = record { pos = 0; len = 0; size = 0 } } in
    let at : Result ℕ ℕ = Err c.in-Err.at in
    let h = subst (λ (xs : List StagedEntry). IsPlaceOf track_of c.args.staged.track xs at) c.as_slice.ensures.value c.in-Err.ensures in
    let none = subst (λ (o : Option L2Entry). IsNone o) (entry_none c.args.staged.track c.args.entries.now.items c.in-Err.at d c.requires.order h.0 (λ l. h.2 l d)) refl in
    let fits = c.in_default.ensures.succeeds (c.requires.room none) in
    cc

pub returns-in-Ok-clause-items : goal.returns-in-Ok-clause-items
returns-in-Ok-clause-items c =
    let d : StagedEntry = record { track = 0; entry = record { pos = 0; len = 0; size = 0 } } in
    let at : Result ℕ ℕ = Ok c.in-Ok.at in
    let h = subst (λ (xs : List StagedEntry). IsPlaceOf track_of c.args.staged.track xs at) c.as_slice.ensures.value c.in-Ok.ensures in
    sym (placed_set track_of c.args.staged c.args.entries.now.items c.in-Ok.at d h.0 h.1 (h.2 d))

pub returns-in-Ok-insert-clause-items : goal.returns-in-Ok-insert-clause-items
returns-in-Ok-insert-clause-items c =
    let d : StagedEntry = record { track = 0; entry = record { pos = 0; len = 0; size = 0 } } in
    let at : Result ℕ ℕ = Err c.in-Err.at in
    let h = subst (λ (xs : List StagedEntry). IsPlaceOf track_of c.args.staged.track xs at) c.as_slice.ensures.value c.in-Err.ensures in
    c.in-Ok-insert.ensures.items ∙ sym (placed_insert track_of c.args.staged c.args.entries.now.items c.in-Err.at d h.0 (λ l. h.2 l d))

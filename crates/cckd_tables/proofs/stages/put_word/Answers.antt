use Rattle.std.proofs.Common.{List, Ok, Err, Result, ℕ, Option, IsNone, refl, sym, ◌∙◌, subst}
use Rattle.cckd_tables.specs.declared.staged.StagedWord.{StagedWord}
use Rattle.cckd_tables.specs.Stages.{IsPlaceOf}
use Rattle.cckd_tables.proofs.PlacedLemmas.{placed_set, placed_insert}
use Rattle.cckd_tables.proofs.StageLemmas.{group_of, place_none}
use Rattle.cckd_tables.proofs.stages.put_word.Goals as goal

pub unreachable-requires : goal.unreachable-requires
unreachable-requires c =
    let d : StagedWord = record { group = 0; pos = 0 } in
    let at : Result ℕ ℕ = Err c.in-Err.at in
    let h = subst (λ (xs : List StagedWord). IsPlaceOf group_of c.args.staged.group xs at) c.as_slice.ensures.value c.in-Err.ensures in
    let none = subst (λ (o : Option ℕ). IsNone o) (place_none c.args.staged.group c.args.words.now.items c.in-Err.at d c.requires.order h.0 (λ l. h.2 l d)) refl in
    let fits = c.in_default.ensures.succeeds (c.requires.room none) in
    cc

pub returns-in-Ok-clause-items : goal.returns-in-Ok-clause-items
returns-in-Ok-clause-items c =
    let d : StagedWord = record { group = 0; pos = 0 } in
    let at : Result ℕ ℕ = Ok c.in-Ok.at in
    let h = subst (λ (xs : List StagedWord). IsPlaceOf group_of c.args.staged.group xs at) c.as_slice.ensures.value c.in-Ok.ensures in
    sym (placed_set group_of c.args.staged c.args.words.now.items c.in-Ok.at d h.0 h.1 (h.2 d))

pub returns-in-Ok-insert-clause-items : goal.returns-in-Ok-insert-clause-items
returns-in-Ok-insert-clause-items c =
    let d : StagedWord = record { group = 0; pos = 0 } in
    let at : Result ℕ ℕ = Err c.in-Err.at in
    let h = subst (λ (xs : List StagedWord). IsPlaceOf group_of c.args.staged.group xs at) c.as_slice.ensures.value c.in-Err.ensures in
    c.in-Ok-insert.ensures.items ∙ sym (placed_insert group_of c.args.staged c.args.words.now.items c.in-Err.at d h.0 (λ l. h.2 l d))

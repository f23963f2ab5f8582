use Rattle.std.proofs.Common.{◌≡◌, ◌==◌, ℕ, List, OnOk, sym, ◌∙◌, ap, subst, arith}
use Rattle.std.proofs.lemmas.Bool.{cond-true, eq-eqb}
use Rattle.cckd_shelf.specs.Seen.{seen, Makes}
use Rattle.cckd_shelf.specs.World.{after_bind}
use Rattle.cckd_top.specs.Names.{slot_name}
use Rattle.std.specs.Str.{IsUtf8}
use Rattle.cckd_top.proofs.NameLemmas.{slot_name_text}
use Rattle.cckd_top.proofs.names.bind.Goals as goal

pub unreachable-requires : goal.unreachable-requires
unreachable-requires g c =
    c.in-Err.ensures.cases.0
    (subst IsUtf8 (sym c.put_shadow_name-end.ensures.name) (slot_name_text _ _ c.get-number.ensures.within c.utf8.file))

pub returns-then-number-eq0-clause-bound : goal.returns-then-number-eq0-clause-bound
returns-then-number-eq0-clause-bound g c =
    let base : c.args.slot ≡ 0 = omega (arith, c.get-number.ensures.value, c.if-number-eq0.true) in
    let named : c.args.file.now ≡ slot_name c.args.file.now c.args.slot = sym (cond-true (c.args.slot == 0) c.args.file.now _ (eq-eqb c.args.slot 0 base)) in
    subst (λ (n : List ℕ). OnOk c.bind.result (Makes (after_bind c.args.slot n) (seen g.T.Shows c.args.stage.now) (seen g.T.Shows c.bind.new.self))) named
    c.bind.ensures.bound

pub returns-clause-bound : goal.returns-clause-bound
returns-clause-bound g c =
    let named : c.in-Ok.name.now ≡ slot_name c.args.file.now c.args.slot =
    c.in-Ok.ensures.cases.0 ∙ c.put_shadow_name-end.ensures.name ∙ ap (slot_name c.args.file.now) c.get-number.ensures.value in
    subst (λ (n : List ℕ). OnOk c.bind-in-Ok.result (Makes (after_bind c.args.slot n) (seen g.T.Shows c.args.stage.now) (seen g.T.Shows c.bind-in-Ok.new.self))) named
    c.bind-in-Ok.ensures.bound

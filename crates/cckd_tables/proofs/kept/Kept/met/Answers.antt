use Rattle.std.proofs.Common.{◌≤◌, List, ◌∙◌, ap, sym, subst, arith}
use Rattle.cckd_base.specs.declared.space.Extent.{Extent}
use Rattle.cckd_base.specs.Survey.{lower, met}
use Rattle.cckd_tables.specs.Kept.{HaveBytes, end_of}
use Rattle.cckd_tables.proofs.KeptLemmas.{behind_all, both_met, run_bytes, late_bytes}
use Rattle.cckd_tables.proofs.kept.Kept.met.Goals as goal

pub returns-then-end_of-from : goal.returns-then-end_of-from
returns-then-end_of-from c =
    let e = c.args.space.now in
    let past : end_of 0 c.self.inside.run.items ≤ e.pos = let same = ap (end_of 0) c.as_slice.ensures.value in omega arith in
    sym (behind_all c.self.inside.run.items c.self.inside.late.entries e c.self.invariant past) ∙ ap (λ (k : List Extent). met k e) c.self.view_is

pub met_in_run-requires-clause-bytes : goal.met_in_run-requires-clause-bytes
met_in_run-requires-clause-bytes c = subst HaveBytes (sym c.as_slice-2.ensures.value) (run_bytes _ _ c.self.invariant)

pub met_late-requires-clause-bytes : goal.met_late-requires-clause-bytes
met_late-requires-clause-bytes c = late_bytes _ _ c.self.invariant

pub returns : goal.returns
returns c =
    let e = c.args.space.now in
    c.lower.ensures ∙ ap (λ m. lower m c.met_late.result) (c.met_in_run.ensures ∙ ap (λ (xs : List Extent). met xs e) c.as_slice-2.ensures.value)
    ∙ ap (lower _) c.met_late.ensures ∙ both_met c.self.inside.run.items c.self.inside.late.entries e
    ∙ ap (λ (k : List Extent). met k e) c.self.view_is

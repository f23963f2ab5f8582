use Rattle.std.proofs.Common.{◌∙◌, ap, inl, inr}
use Rattle.cckd_base.specs.Survey.{lower}
use Rattle.cckd_tables.proofs.NearLemmas.{late_met, LastOf, FirstOf}
use Rattle.cckd_tables.proofs.kept.met_late.Goals as goal
use Rattle.cckd_tables.proofs.kept.met_late.Goals.{in-Some, in-None, in-Some-next, in-None-next}

pub returns : goal.returns
returns c =
    let es = c.args.late.now.entries in
    let e = c.args.space.now in
    let before : LastOf c.range.result c.match-next_back.before =
    elim c.match-next_back.branch [
      | in-Some w ↦ inr (c.next_back.new.self, (w.in-Some.field-0-0.now, w.in-Some.e.now), w.in-Some.ensures.steps, w.before-is)
      | in-None w ↦ inl (w.in-None.ensures.steps.0, w.before-is)
    ] in
    let behind : FirstOf c.range-2.result c.match-next.behind =
    elim c.match-next.branch [
      | in-Some-next w ↦ inr ((w.in-Some-next.field-0-0.now, w.in-Some-next.e.now), c.next.new.self, w.in-Some-next.ensures.steps, w.behind-is)
      | in-None-next w ↦ inl (w.in-None-next.ensures.steps.0, w.behind-is)
    ] in
    c.lower.ensures ∙ ap (λ m. lower m c.met_of-2.result) c.met_of.ensures ∙ ap (lower _) c.met_of-2.ensures
    ∙ late_met es c.range.result c.range-2.result e c.match-next_back.before c.match-next.behind c.requires.keyed c.requires.bytes c.requires.apart
    (c.range.ensures.between tt) (c.range-2.ensures.between tt) before behind

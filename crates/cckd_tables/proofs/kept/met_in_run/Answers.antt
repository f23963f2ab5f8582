use Rattle.std.proofs.Common.{◌≡◌, ◌-◌, ◌<◌, ◌≤◌, nat_lt, length, get_or, None, Some, ◌∙◌, ap, arith, rules, ◌⊎◌, inl, inr}
use Rattle.std.proofs.lemmas.Bool.{ltb-true, ltb-false}
use Rattle.std.proofs.lemmas.List.Sorted.{IsPartitionPoint-from_clause, IsPartitionedBy-ltb}
use Rattle.cckd_base.specs.declared.space.Extent.{Extent}
use Rattle.cckd_base.specs.declared.space.Owner.TheVariants.{Nobody}
use Rattle.cckd_base.specs.Survey.{lower}
use Rattle.cckd_tables.proofs.RunLemmas.{stand_rises}
use Rattle.cckd_tables.proofs.NearLemmas.{run_met, run_parts}
use Rattle.cckd_tables.proofs.kept.met_in_run.Goals as goal
use Rattle.cckd_tables.proofs.kept.met_in_run.Goals.{then-at-eq0, else-at-eq0, then-at-run, else-at-run}

pub returns : goal.returns
returns c =
    let run = c.args.run.now in
    let e = c.args.space.now in
    let at = c.partition_point-at.result in
    let d : Extent = record { pos = 0; len = 0; size = 0; owner = Nobody } in
    let parted = IsPartitionedBy-ltb (λ (x : Extent). x.pos) run e.pos (stand_rises 0 run c.requires.apart) in
    let point = IsPartitionPoint-from_clause (λ (x : Extent). nat_lt x.pos e.pos) _ _ c.partition_point-at.ensures.partitioned parted (λ a r q k. search rules) in
    let within : at ≤ length run = c.partition_point-at.ensures.bound in
    let before : ((at ≡ 0) × (c.if-at-eq0.before ≡ None)) ⊎ ((1 ≤ at) × (c.if-at-eq0.before ≡ Some (get_or run (at - 1) d))) =
    elim c.if-at-eq0.branch [ then-at-eq0 w ↦ inl (omega arith, w.before-is) | else-at-eq0 w ↦ inr (omega arith, w.before-is) ] in
    let behind : ((at ≡ length run) × (c.if-at-run.behind ≡ None)) ⊎ ((at < length run) × (c.if-at-run.behind ≡ Some (get_or run at d))) =
    elim c.if-at-run.branch [ then-at-run w ↦ inl (omega arith, w.behind-is) | else-at-run w ↦ inr (omega arith, w.behind-is) ] in
    c.lower.ensures ∙ ap (λ m. lower m c.met_of-2.result) c.met_of.ensures ∙ ap (lower _) c.met_of-2.ensures
    ∙ run_met run at d e c.if-at-eq0.before c.if-at-run.behind c.requires.bytes c.requires.apart within
    (run_parts run at d e within (λ k h. ltb-true _ _ (point.0 k d (omega arith) h)) (λ k h l. ltb-false _ _ (point.1 k d h l)))
    before behind

use Rattle.std.proofs.Common.{◌<◌, ◌≤◌, ◌++◌, ℕ, List, ◌∙◌, ap, sym, subst, arith}
use Rattle.std.specs.BTreeMap.{values}
use Rattle.std.specs.Map.{values_of}
use Rattle.cckd_base.specs.declared.space.Extent.{Extent}
use Rattle.cckd_base.specs.Survey.{met, placed_among, by_position}
use Rattle.cckd_tables.specs.Kept.{end_of, KeepsOrder}
use Rattle.cckd_tables.proofs.KeptLemmas.{push_keeps, push_places, placed_late, late_keeps, late_places}
use Rattle.cckd_tables.proofs.kept.Kept.add.Goals as goal
use Rattle.cckd_tables.proofs.kept.Kept.add.Goals.{in-Ok, in-Err}

pub invariant_of-self-then-end_of-from : goal.invariant_of-self-then-end_of-from
invariant_of-self-then-end_of-from c =
    let run = c.self.inside.run.items in
    let e = c.args.space in
    let past : end_of 0 run ≤ e.pos = let same = ap (end_of 0) c.as_slice.ensures.value in omega arith in
    let none = ap (λ (k : List Extent). met k e) c.self.view_is ∙ c.requires.unmet in
    subst (λ (xs : List Extent). KeepsOrder xs c.self.inside.late.entries) (sym c.in_ok-push.ensures.items)
    (push_keeps run c.self.inside.late.entries e c.self.invariant c.requires.some past none)

pub returns-then-end_of-from : goal.returns-then-end_of-from
returns-then-end_of-from c =
    let run = c.self.inside.run.items in
    let e = c.args.space in
    let past : end_of 0 run ≤ e.pos = let same = ap (end_of 0) c.as_slice.ensures.value in omega arith in
    let none = ap (λ (k : List Extent). met k e) c.self.view_is ∙ c.requires.unmet in
    record {
      added = ap (λ (xs : List Extent). by_position (xs ++ values c.self.inside.late)) c.in_ok-push.ensures.items
          ∙ push_places run c.self.inside.late.entries e (push_keeps run c.self.inside.late.entries e c.self.invariant c.requires.some past none)
          ∙ ap (placed_among e) c.self.view_is;
    }

pub invariant_of-self-2 : goal.invariant_of-self-2
invariant_of-self-2 c =
    let run = c.self.inside.run.items in
    let late = c.self.inside.late.entries in
    let e = c.args.space in
    let before : e.pos < end_of 0 run = let same = ap (end_of 0) c.as_slice.ensures.value in omega arith in
    let none = ap (λ (k : List Extent). met k e) c.self.view_is ∙ c.requires.unmet in
    elim c.match-insert.branch [
      | in-Ok w ↦ subst (KeepsOrder run) (sym w.in-Ok.ensures.entries)
          (late_keeps run late _ e c.self.invariant c.requires.some none (placed_late run late e c.self.invariant c.requires.some none) before)
      | in-Err w ↦ subst (KeepsOrder run) (sym w.in-Err.ensures.err) c.self.invariant
    ]

pub returns : goal.returns
returns c =
    let run = c.self.inside.run.items in
    let late = c.self.inside.late.entries in
    let e = c.args.space in
    let none = ap (λ (k : List Extent). met k e) c.self.view_is ∙ c.requires.unmet in
    elim c.match-insert.branch [
      | in-Ok w ↦ rw w.result-is (record {
        added = ap (λ (es : List (ℕ × Extent)). by_position (run ++ values_of es)) w.in-Ok.ensures.entries
            ∙ late_places run late _ e c.self.invariant c.requires.some none (placed_late run late e c.self.invariant c.requires.some none)
            ∙ ap (placed_among e) c.self.view_is;
      })
      | in-Err w ↦ rw w.result-is (record { added = tt })
    ]

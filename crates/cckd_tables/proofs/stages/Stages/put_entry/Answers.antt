use Rattle.std.proofs.Common.{List, sym, subst, ◌⊎◌, ◌<◌, arith}
use Rattle.cckd_tables.specs.declared.staged.StagedEntry.{StagedEntry}
use Rattle.cckd_tables.specs.Staging.{Stages, IsStaged}
use Rattle.cckd_tables.specs.Stages.{AreStaged, free_count}
use Rattle.cckd_tables.proofs.StageLemmas.{entry_staged}
use Rattle.cckd_tables.proofs.stages.Stages.put_entry.Goals as goal

pub invariant_of-self : goal.invariant_of-self
invariant_of-self c =
    let old : Stages = record { entries = c.self.inside.entries.items; words = c.self.inside.words.items } in
    let room = subst (λ (s : Stages). IsStaged c.args.staged.track s ⊎ (0 < free_count s)) (sym c.self.view_is) c.requires in
    let wide = c.put_entry.ensures.capacity in
    let was = c.self.invariant in (
      subst (λ (es : List StagedEntry). AreStaged (record { entries = es; words = c.self.inside.words.items })) (sym c.put_entry.ensures.items) (entry_staged c.args.staged old was.0 room),
      (let before = was.1 in omega arith),
      was.2,
    )

pub returns-clause-staged : goal.returns-clause-staged
returns-clause-staged c =
    let old : Stages = record { entries = c.self.inside.entries.items; words = c.self.inside.words.items } in
    let room = subst (λ (s : Stages). IsStaged c.args.staged.track s ⊎ (0 < free_count s)) (sym c.self.view_is) c.requires in
    let was = c.self.invariant in
    subst (λ (es : List StagedEntry). AreStaged (record { entries = es; words = c.self.inside.words.items })) (sym c.put_entry.ensures.items) (entry_staged c.args.staged old was.0 room)

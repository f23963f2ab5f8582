use Rattle.std.proofs.Common.{List, sym, subst, ◌⊎◌, ◌<◌, arith}
use Rattle.cckd_tables.specs.declared.staged.StagedWord.{StagedWord}
use Rattle.cckd_tables.specs.Staging.{Stages, IsMoved}
use Rattle.cckd_tables.specs.Stages.{AreStaged, free_count}
use Rattle.cckd_tables.proofs.StageLemmas.{word_staged}
use Rattle.cckd_tables.proofs.stages.Stages.put_word.Goals as goal

pub invariant_of-self : goal.invariant_of-self
invariant_of-self c =
    let old : Stages = record { entries = c.self.inside.entries.items; words = c.self.inside.words.items } in
    let room = subst (λ (s : Stages). IsMoved c.args.staged.group s ⊎ (0 < free_count s)) (sym c.self.view_is) c.requires in
    let wide = c.put_word.ensures.capacity in
    let was = c.self.invariant in (
      subst (λ (ws : List StagedWord). AreStaged (record { entries = c.self.inside.entries.items; words = ws })) (sym c.put_word.ensures.items) (word_staged c.args.staged old was.0 room),
      was.1,
      (let before = was.2 in omega arith),
    )

pub returns-clause-staged : goal.returns-clause-staged
returns-clause-staged c =
    let old : Stages = record { entries = c.self.inside.entries.items; words = c.self.inside.words.items } in
    let room = subst (λ (s : Stages). IsMoved c.args.staged.group s ⊎ (0 < free_count s)) (sym c.self.view_is) c.requires in
    let was = c.self.invariant in
    subst (λ (ws : List StagedWord). AreStaged (record { entries = c.self.inside.entries.items; words = ws })) (sym c.put_word.ensures.items) (word_staged c.args.staged old was.0 room)

use Rattle.std.proofs.Common.{◌≢◌, ◌≤◌, ◌<◌, nat_lt, length, get_or, sym, ◌∙◌, ap, arith, rules}
use Rattle.std.proofs.lemmas.List.Sorted.{IsPartitionPoint-from_clause, IsPartitionedBy-ltb}
use Rattle.std.proofs.lemmas.List.Sums.{prefix_len_is}
use Rattle.std.proofs.lemmas.List.{get_or_default}
use Rattle.cckd_tables.specs.declared.staged.StagedWord.{StagedWord}
use Rattle.cckd_tables.proofs.PlacedLemmas.{rises}
use Rattle.cckd_tables.proofs.stages.word_place.Goals as goal
use Rattle.cckd_tables.proofs.stages.word_place.Goals.{else-at-words-via-then-at-words+else-words-at, else-at-words-via-else-at-words}

pub returns-then-words-at : goal.returns-then-words-at
returns-then-words-at c =
    let xs = c.args.words.now in
    let key = λ (e : StagedWord). e.group in
    let d : StagedWord = record { group = 0; pos = 0 } in
    let at = c.partition_point-at.result in
    let parted = IsPartitionedBy-ltb key xs c.args.group (rises key 0 xs c.requires) in
    let point = IsPartitionPoint-from_clause (λ (e : StagedWord). nat_lt e.group c.args.group) _ _ c.partition_point-at.ensures.partitioned parted (λ a r q k. search rules) in
    let within : at ≤ length xs = c.partition_point-at.ensures.bound in
    let is = prefix_len_is (λ (e : StagedWord). nat_lt e.group c.args.group) xs at d within (λ k l. point.0 k d (omega arith) l) (λ l. point.1 at d (omega arith) l) in
    (sym is, c.if-at-words.true, λ e. ap key (get_or_default xs at e d c.if-at-words.true) ∙ c.if-words-at.true)

pub returns : goal.returns
returns c =
    let xs = c.args.words.now in
    let key = λ (e : StagedWord). e.group in
    let d : StagedWord = record { group = 0; pos = 0 } in
    let at = c.partition_point-at.result in
    let parted = IsPartitionedBy-ltb key xs c.args.group (rises key 0 xs c.requires) in
    let point = IsPartitionPoint-from_clause (λ (e : StagedWord). nat_lt e.group c.args.group) _ _ c.partition_point-at.ensures.partitioned parted (λ a r q k. search rules) in
    let within : at ≤ length xs = c.partition_point-at.ensures.bound in
    let is = prefix_len_is (λ (e : StagedWord). nat_lt e.group c.args.group) xs at d within (λ k l. point.0 k d (omega arith) l) (λ l. point.1 at d (omega arith) l) in
    let other : at < length xs → key (get_or xs at d) ≢ c.args.group =
    elim c.else-at-words.branch [
      | else-at-words-via-then-at-words+else-words-at w ↦ (λ l. w.if-words-at.false)
      | else-at-words-via-else-at-words w ↦ (λ l. absurd (let past = w.if-at-words.false in omega arith))
    ] in
    (sym is, within, λ l e same. other l (ap key (get_or_default xs at d e l) ∙ same))

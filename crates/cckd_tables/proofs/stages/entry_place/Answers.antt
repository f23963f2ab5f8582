use Rattle.std.proofs.Common.{◌≢◌, ◌≤◌, ◌<◌, nat_lt, length, get_or, sym, ◌∙◌, ap, arith, rules}
use Rattle.std.proofs.lemmas.List.Sorted.{IsPartitionPoint-from_clause, IsPartitionedBy-ltb}
use Rattle.std.proofs.lemmas.List.Sums.{prefix_len_is}
use Rattle.std.proofs.lemmas.List.{get_or_default}
use Rattle.cckd_tables.specs.declared.staged.StagedEntry.{StagedEntry}
use Rattle.cckd_tables.proofs.PlacedLemmas.{rises}
use Rattle.cckd_tables.proofs.stages.entry_place.Goals as goal
use Rattle.cckd_tables.proofs.stages.entry_place.Goals.{else-at-entries-via-then-at-entries+else-entries-at, else-at-entries-via-else-at-entries}

pub returns-then-entries-at : goal.returns-then-entries-at
returns-then-entries-at c =
    let xs = c.args.entries.now in
    let key = λ (e : StagedEntry). e.track in
    let d : StagedEntry = record { track = 0; entry = record { pos = 0; len = 0; size = 0 } } in
    let at = c.partition_point-at.result in
    let parted = IsPartitionedBy-ltb key xs c.args.track (rises key 0 xs c.requires) in
    let point = IsPartitionPoint-from_clause (λ (e : StagedEntry). nat_lt e.track c.args.track) _ _ c.partition_point-at.ensures.partitioned parted (λ a r q k. search rules) in
    let within : at ≤ length xs = c.partition_point-at.ensures.bound in
    let is = prefix_len_is (λ (e : StagedEntry). nat_lt e.track c.args.track) xs at d within (λ k l. point.0 k d (omega arith) l) (λ l. point.1 at d (omega arith) l) in
    (sym is, c.if-at-entries.true, λ e. ap key (get_or_default xs at e d c.if-at-entries.true) ∙ c.if-entries-at.true)

pub returns : goal.returns
returns c =
    let xs = c.args.entries.now in
    let key = λ (e : StagedEntry). e.track in
    let d : StagedEntry = record { track = 0; entry = record { pos = 0; len = 0; size = 0 } } in
    let at = c.partition_point-at.result in
    let parted = IsPartitionedBy-ltb key xs c.args.track (rises key 0 xs c.requires) in
    let point = IsPartitionPoint-from_clause (λ (e : StagedEntry). nat_lt e.track c.args.track) _ _ c.partition_point-at.ensures.partitioned parted (λ a r q k. search rules) in
    let within : at ≤ length xs = c.partition_point-at.ensures.bound in
    let is = prefix_len_is (λ (e : StagedEntry). nat_lt e.track c.args.track) xs at d within (λ k l. point.0 k d (omega arith) l) (λ l. point.1 at d (omega arith) l) in
    let other : at < length xs → key (get_or xs at d) ≢ c.args.track =
    elim c.else-at-entries.branch [
      | else-at-entries-via-then-at-entries+else-entries-at w ↦ (λ l. w.if-entries-at.false)
      | else-at-entries-via-else-at-entries w ↦ (λ l. absurd (let past = w.if-at-entries.false in omega arith))
    ] in
    (sym is, within, λ l e same. other l (ap key (get_or_default xs at d e l) ∙ same))

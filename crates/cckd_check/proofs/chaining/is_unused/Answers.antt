use Rattle.std.proofs.Common.{◌≡◌, ℕ, ◌+◌, ◌<◌, ◌≤◌, length, sym, ◌∙◌, ap, arith, rules}
use Rattle.std.specs.Prelude.{nat_le}
use Rattle.std.proofs.lemmas.Bool.{leb-true, leb-false}
use Rattle.std.proofs.lemmas.List.Sorted.{IsPartitionPoint-from_clause, IsPartitionedBy-leb}
use Rattle.cckd_base.specs.declared.space.Extent.{Extent}
use Rattle.cckd_base.specs.declared.space.Owner.TheVariants.{Nobody}
use Rattle.cckd_check.proofs.ApartLemmas.{ends_rise}
use Rattle.cckd_check.proofs.UnusedLemmas.{unused_at_end, unused_before}
use Rattle.cckd_check.proofs.chaining.is_unused.Goals as goal

pub returns : goal.returns
returns c =
    let used = c.args.used.now in
    let place = c.from-place.result in
    let behind = c.partition_point-behind.result in
    let d : Extent = record { pos = 0; len = 0; size = 0; owner = Nobody } in
    let parted = IsPartitionedBy-leb (λ (x : Extent). x.pos + x.size) used place (ends_rise 0 used c.args.len c.requires) in
    let point = IsPartitionPoint-from_clause (λ (x : Extent). nat_le (x.pos + x.size) place) _ _ c.partition_point-behind.ensures.partitioned parted (λ a r q k. search rules) in
    let within : behind ≤ length used = c.partition_point-behind.ensures.bound in
    let here : place ≡ c.args.at = c.from-place.ensures in
    let less : behind < length used = omega arith in
    let end : c.from.result + c.from-2.result ≡ c.args.at + c.args.size = omega arith in
    ap (λ (n : ℕ). nat_le n c.from-3.result) end ∙ ap (nat_le (c.args.at + c.args.size)) c.from-3.ensures
    ∙ sym (unused_before used c.args.len c.args.at c.args.size behind d c.requires
    (λ k h. let e = leb-true _ _ (point.0 k d (omega arith) h) in omega (arith, e, here))
    less
    (λ k h l. let e = leb-false _ _ (point.1 k d h l) in omega (arith, e, here)))

pub returns-then-behind-used : goal.returns-then-behind-used
returns-then-behind-used c =
    let used = c.args.used.now in
    let place = c.from-place.result in
    let behind = c.partition_point-behind.result in
    let d : Extent = record { pos = 0; len = 0; size = 0; owner = Nobody } in
    let parted = IsPartitionedBy-leb (λ (x : Extent). x.pos + x.size) used place (ends_rise 0 used c.args.len c.requires) in
    let point = IsPartitionPoint-from_clause (λ (x : Extent). nat_le (x.pos + x.size) place) _ _ c.partition_point-behind.ensures.partitioned parted (λ a r q k. search rules) in
    let here : place ≡ c.args.at = c.from-place.ensures in
    let end : c.from.result + c.from-2.result ≡ c.args.at + c.args.size = omega arith in
    ap (λ (n : ℕ). nat_le n c.from-then-behind-used.result) end ∙ ap (nat_le (c.args.at + c.args.size)) c.from-then-behind-used.ensures
    ∙ sym (unused_at_end used c.args.len c.args.at c.args.size behind d c.requires
    (λ k h. let e = leb-true _ _ (point.0 k d (omega arith) h) in omega (arith, e, here))
    c.if-behind-used.true)

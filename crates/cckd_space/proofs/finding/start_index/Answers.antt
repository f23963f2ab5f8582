use Rattle.std.proofs.Common.{◌≡◌, nat_lt, arith, rules, inl, inr}
use Rattle.std.proofs.lemmas.Bool.{cases_lt, ltb-true, ltb-false}
use Rattle.std.proofs.lemmas.List.Sorted.{IsPartitionPoint-from_clause, IsPartitionedBy-ltb}
use Rattle.std.specs.List.Sorted.{IsNonDecreasingBy}
use Rattle.cckd_space.specs.declared.piece.Piece.{Piece}
use Rattle.cckd_space.proofs.finding.start_index.Goals as goal

pub returns : goal.returns
returns c =
    let rises : IsNonDecreasingBy (λ (p : Piece). p.pos) c.args.pieces.now = λ i j d le lt. elim (cases_lt i j) [
      | inl less ↦ let r = c.requires.each i j d less lt in omega (arith, r)
      | inr more ↦ let same : i ≡ j = omega arith in rw same (omega arith)
    ] in
    let parted = IsPartitionedBy-ltb (λ (p : Piece). p.pos) c.args.pieces.now c.args.pos rises in
    let point = IsPartitionPoint-from_clause (λ (p : Piece). nat_lt p.pos c.args.pos) _ _ c.partition_point.ensures.partitioned parted (λ a r q k. search rules) in
    record {
      within = omega arith;
      before = λ k d h. ltb-true _ _ (point.0 k d (omega arith) h);
      behind = λ k d h l. ltb-false _ _ (point.1 k d h l);
    }

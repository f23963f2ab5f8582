use Rattle.std.proofs.Common.{◌≡◌, nat_le, arith, rules, inl, inr}
use Rattle.std.proofs.lemmas.Bool.{cases_lt, leb-true, leb-false}
use Rattle.std.proofs.lemmas.List.Sorted.{IsPartitionPoint-from_clause, IsPartitionedBy-leb}
use Rattle.std.specs.List.Sorted.{IsNonDecreasingBy}
use Rattle.cckd_space.specs.declared.piece.Piece.{Piece}
use Rattle.cckd_space.proofs.finding.begun_index.Goals as goal

pub returns : goal.returns
returns c =
    let rises : IsNonDecreasingBy (λ (p : Piece). p.pos) c.args.pieces.now = λ i j d le lt. elim (cases_lt i j) [
      | inl less ↦ let r = c.requires.each i j d less lt in omega (arith, r)
      | inr more ↦ let same : i ≡ j = omega arith in rw same (omega arith)
    ] in
    let parted = IsPartitionedBy-leb (λ (p : Piece). p.pos) c.args.pieces.now c.args.pos rises in
    let point = IsPartitionPoint-from_clause (λ (p : Piece). nat_le p.pos c.args.pos) _ _ c.partition_point.ensures.partitioned parted (λ a r q k. search rules) in
    record {
      within = omega arith;
      before = λ k d h. let l = leb-true _ _ (point.0 k d (omega arith) h) in omega (arith, l);
      behind = λ k d h l. let m = leb-false _ _ (point.1 k d h l) in omega (arith, m);
    }

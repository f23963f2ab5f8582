use Rattle.std.proofs.Common.{nat_le, List, [], arith, rules}
use Rattle.std.proofs.lemmas.Bool.{leb-true, leb-false}
use Rattle.std.proofs.lemmas.List.Sorted.{IsPartitionPoint-from_clause, IsPartitionedBy-leb}
use Rattle.std.specs.List.Sorted.{IsNonDecreasingBy}
use Rattle.cckd_space.specs.declared.piece.Piece.{Piece}
use Rattle.cckd_space.specs.Blocks.{first_pos}
use Rattle.cckd_space.proofs.OrderLemmas.{first_rises}
use Rattle.cckd_space.proofs.order.begun_blocks.Goals as goal

pub returns : goal.returns
returns c =
    let rises : IsNonDecreasingBy first_pos c.args.blocks.now = λ i j d le lt. first_rises c.args.blocks.now i j d c.requires.filled c.requires.order le lt in
    let parted = IsPartitionedBy-leb first_pos c.args.blocks.now c.args.pos rises in
    let point = IsPartitionPoint-from_clause (λ (b : List Piece). nat_le (first_pos b) c.args.pos) _ _ c.partition_point.ensures.partitioned parted (λ a r q k. search rules) in
    record {
      within = omega arith;
      before = λ k h. leb-true _ _ (point.0 k [] (omega arith) h);
      behind = λ k h l. leb-false _ _ (point.1 k [] h l);
    }

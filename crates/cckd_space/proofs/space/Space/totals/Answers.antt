use Rattle.std.proofs.Common.{◌≡◌, ◌-◌, Option, refl, ◌∙◌, ap, subst, arith}
use Rattle.std.specs.Option.{option_map, unwrap_or}
use Rattle.cckd_space.specs.declared.piece.Piece.{Piece}
use Rattle.cckd_space.specs.declared.piece.Totals.{Totals}
use Rattle.cckd_space.proofs.SearchLemmas.{first_roomy}
use Rattle.cckd_space.specs.Plan.{totals_of, Plan}
use Rattle.cckd_space.proofs.NumberLemmas.{count_fits, sums_fit}
use Rattle.cckd_space.proofs.OrderLemmas.{laid_in_order}
use Rattle.cckd_space.proofs.space.Space.totals.Goals as goal

pub add_up-sums-requires-clause-used : goal.add_up-sums-requires-clause-used
add_up-sums-requires-clause-used c = let r = sums_fit 0 c.self.inside.pieces.pieces c.self.inside.size c.self.invariant.laid in omega (arith, r)

pub add_up-sums-requires-clause-total : goal.add_up-sums-requires-clause-total
add_up-sums-requires-clause-total c = let r = sums_fit 0 c.self.inside.pieces.pieces c.self.inside.size c.self.invariant.laid in omega (arith, r)

pub add_up-sums-requires-clause-number : goal.add_up-sums-requires-clause-number
add_up-sums-requires-clause-number c =
    let r = sums_fit 0 c.self.inside.pieces.pieces c.self.inside.size c.self.invariant.laid in
    let n = count_fits c.self.inside.pieces.pieces in
    omega (arith, r, n)

pub roomy_from-requires : goal.roomy_from-requires
roomy_from-requires c = laid_in_order 0 c.self.inside.pieces.pieces c.self.inside.size c.self.invariant.laid

pub overflow_sub-result : goal.overflow_sub-result
overflow_sub-result c = let r = sums_fit 0 c.self.inside.pieces.pieces c.self.inside.size c.self.invariant.laid in omega (arith, r, c.add_up-sums.ensures.used)

pub overflow_sub-result-2 : goal.overflow_sub-result-2
overflow_sub-result-2 c = let r = sums_fit 0 c.self.inside.pieces.pieces c.self.inside.size c.self.invariant.laid in omega (arith, r, c.add_up-sums.ensures.used, c.add_up-sums.ensures.total)

pub returns-clause-totals : goal.returns-clause-totals
returns-clause-totals c =
    let ps = c.self.inside.pieces.pieces in
    let free = c.start_or_zero.ensures ∙ ap (λ (o : Option Piece). unwrap_or (option_map (λ (p : Piece). p.pos) o) 0) (c.roomy_from.ensures ∙ first_roomy ps) in
    subst (λ (plan : Plan). ◌≡◌ {A = Totals} (record {
      size = c.self.inside.size;
      used = c.add_up-sums.result.used;
      free = c.start_or_zero.result;
      free_total = c.add_up-sums.result.total;
      free_largest = c.add_up-sums.result.largest;
      free_number = c.add_up-sums.result.number;
      free_imbed = c.self.inside.size - c.add_up-sums.result.used - c.add_up-sums.result.total;
    }) (totals_of plan)) c.self.view_is
    (rw (c.add_up-sums.ensures.used, c.add_up-sums.ensures.total, c.add_up-sums.ensures.largest, c.add_up-sums.ensures.number, free) refl)

pub returns-clause-whole : goal.returns-clause-whole
returns-clause-whole c = let r = sums_fit 0 c.self.inside.pieces.pieces c.self.inside.size c.self.invariant.laid in omega (arith, r, c.add_up-sums.ensures.used, c.add_up-sums.ensures.total)

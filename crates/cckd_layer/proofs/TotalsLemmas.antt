-- The totals of pieces that are made of the spaces in use of a file.
use Rattle.std.proofs.Common.{◌≡◌, ℕ, ◌+◌, ◌-◌, nat_lt, ◌&&◌, nat_le, max, Bool, true, false, cond, List, [], ◌∷◌, ◌++◌, length, Option, Some, unwrap_or, refl, sym, ◌∙◌, ap, arith}
use Rattle.std.specs.List.{filter, sum_by}
use Rattle.std.specs.Option.{option_map}
use Rattle.std.proofs.lemmas.Bool.{cond_both}
use Rattle.std.proofs.lemmas.List.Sums.{sum_by-cons}
use Rattle.cckd_base.specs.declared.space.Extent.{Extent}
use Rattle.cckd_space.specs.declared.piece.Piece.{Piece}
use Rattle.cckd_space.specs.declared.piece.Totals.{Totals}
use Rattle.cckd_space.specs.Pieces.{free_piece, free_run, used_piece, pieces_of, free_runs, is_free, is_roomy, first, summed, counted, greatest, used_len, roomy_len}
use Rattle.cckd_space.specs.Plan.{Plan, totals_of}
use Rattle.cckd_space.proofs.UsedLemmas.{free_of_pieces}
use Rattle.cckd_layer.specs.Chain.{first_place, roomy_pieces}
use Rattle.cckd_layer.specs.Closed.{totals_by}

-- ---- used bytes

summed_append : (number : Piece → ℕ) (xs ys : List Piece) → summed number (xs ++ ys) ≡ summed number xs + summed number ys
summed_append number [] ys = omega arith
summed_append number (x ∷ xs) ys = let r = summed_append number xs ys in omega (arith, r)

run_unused : (from to : ℕ) → summed used_len (free_run from to) ≡ 0
run_unused from to = cond_both (nat_lt from to) (free_piece from (to - from) ∷ []) [] (λ (l : List Piece). summed used_len l ≡ 0) (λ e. refl) (λ e. refl)

used_summed : (at : ℕ) (es : List Extent) (size : ℕ) → summed used_len (pieces_of at es size) ≡ sum_by (λ (e : Extent). e.len) es
used_summed at [] size = run_unused at size
used_summed at (e ∷ es) size =
    let a = summed_append used_len (free_run at e.pos) (used_piece e ∷ pieces_of (e.pos + e.size) es size) in
    let b = run_unused at e.pos in
    let r = used_summed (e.pos + e.size) es size in
    let s = sum_by-cons (λ (x : Extent). x.len) e es in
    omega (arith, a, b, r, s)

-- ---- free spaces of at least 8 bytes

roomy_again : (ps : List Piece) → filter is_roomy (filter is_free ps) ≡ filter is_roomy ps
roomy_again [] = refl
roomy_again (p ∷ ps) = by (is_free p) refl (roomy_again ps)
  where
    by : (b : Bool) → is_free p ≡ b → filter is_roomy (filter is_free ps) ≡ filter is_roomy ps
        → filter is_roomy (cond b (p ∷ filter is_free ps) (filter is_free ps)) ≡ cond (is_roomy p) (p ∷ filter is_roomy ps) (filter is_roomy ps)
    by true e r = ap (λ (rs : List Piece). cond (is_roomy p) (p ∷ rs) rs) r
    by false e r = r ∙ sym (ap (λ (b : Bool). cond (b && nat_le 8 p.size) (p ∷ filter is_roomy ps) (filter is_roomy ps)) e)

-- those of the pieces are those of the free runs
pub roomy_made : (at : ℕ) (es : List Extent) (size : ℕ) → roomy_pieces (pieces_of at es size) ≡ filter is_roomy (free_runs at es size)
roomy_made at es size = sym (roomy_again (pieces_of at es size)) ∙ ap (filter is_roomy) (free_of_pieces at es size)

summed_roomy : (ps : List Piece) → summed roomy_len ps ≡ summed (λ p. p.size) (filter is_roomy ps)
summed_roomy [] = refl
summed_roomy (p ∷ ps) = by (is_roomy p) (summed_roomy ps)
  where
    by : (b : Bool) → summed roomy_len ps ≡ summed (λ q. q.size) (filter is_roomy ps)
        → cond b p.size 0 + summed roomy_len ps ≡ summed (λ q. q.size) (cond b (p ∷ filter is_roomy ps) (filter is_roomy ps))
    by true r = omega (arith, r)
    by false r = omega (arith, r)

greatest_roomy : (ps : List Piece) → greatest roomy_len ps ≡ greatest (λ p. p.size) (filter is_roomy ps)
greatest_roomy [] = refl
greatest_roomy (p ∷ ps) = by (is_roomy p) (greatest_roomy ps)
  where
    by : (b : Bool) → greatest roomy_len ps ≡ greatest (λ q. q.size) (filter is_roomy ps)
        → max (cond b p.size 0) (greatest roomy_len ps) ≡ greatest (λ q. q.size) (cond b (p ∷ filter is_roomy ps) (filter is_roomy ps))
    by true r = ap (max p.size) r
    by false r = omega (arith, r)

counted_roomy : (ps : List Piece) → counted is_roomy ps ≡ length (filter is_roomy ps)
counted_roomy [] = refl
counted_roomy (p ∷ ps) = by (is_roomy p) (counted_roomy ps)
  where
    by : (b : Bool) → counted is_roomy ps ≡ length (filter is_roomy ps)
        → cond b 1 0 + counted is_roomy ps ≡ length (cond b (p ∷ filter is_roomy ps) (filter is_roomy ps))
    by true r = omega (arith, r)
    by false r = omega (arith, r)

first_roomy : (ps : List Piece) → first is_roomy (filter is_roomy ps) ≡ first is_roomy ps
first_roomy [] = refl
first_roomy (p ∷ ps) = by (is_roomy p) refl (first_roomy ps)
  where
    by : (b : Bool) → is_roomy p ≡ b → first is_roomy (filter is_roomy ps) ≡ first is_roomy ps
        → first is_roomy (cond b (p ∷ filter is_roomy ps) (filter is_roomy ps)) ≡ cond b (Some p) (first is_roomy ps)
    by true e r = ap (λ (b : Bool). cond b (Some p) (first is_roomy (filter is_roomy ps))) e
    by false e r = r

-- the place that the totals name is that of the first of them
pub free_place : (ps : List Piece) → unwrap_or (option_map (λ p. p.pos) (first is_roomy ps)) 0 ≡ first_place (roomy_pieces ps)
free_place [] = refl
free_place (p ∷ ps) = by (is_roomy p) (free_place ps)
  where
    by : (b : Bool) → unwrap_or (option_map (λ q. q.pos) (first is_roomy ps)) 0 ≡ first_place (roomy_pieces ps)
        → unwrap_or (option_map (λ q. q.pos) (cond b (Some p) (first is_roomy ps))) 0 ≡ first_place (cond b (p ∷ roomy_pieces ps) (roomy_pieces ps))
    by true r = refl
    by false r = r

-- ---- all totals

-- the totals of any pieces, by their used bytes and their free spaces of at least 8 bytes
totals_parted : (plan : Plan) (used : ℕ) (runs : List Piece) (size : ℕ) → summed used_len plan.pieces ≡ used → roomy_pieces plan.pieces ≡ runs → plan.size ≡ size → (t : Totals)
    → t ≡ record { size = size; used = used; free = unwrap_or (option_map (λ p. p.pos) (first is_roomy runs)) 0; free_total = summed (λ p. p.size) runs; free_largest = greatest (λ p. p.size) runs; free_number = length runs; free_imbed = size - used - summed (λ p. p.size) runs }
    → totals_of plan ≡ t
totals_parted plan used runs size in_use roomy sized t is =
    let ps = plan.pieces in
    let total : summed roomy_len ps ≡ summed (λ p. p.size) runs = summed_roomy ps ∙ ap (summed (λ p. p.size)) roomy in
    let place : unwrap_or (option_map (λ p. p.pos) (first is_roomy ps)) 0 ≡ unwrap_or (option_map (λ p. p.pos) (first is_roomy runs)) 0 =
    sym (ap (λ (o : Option Piece). unwrap_or (option_map (λ p. p.pos) o) 0) (first_roomy ps)) ∙ ap (λ (rs : List Piece). unwrap_or (option_map (λ p. p.pos) (first is_roomy rs)) 0) roomy in
    let most : greatest roomy_len ps ≡ greatest (λ p. p.size) runs = greatest_roomy ps ∙ ap (greatest (λ p. p.size)) roomy in
    let many : counted is_roomy ps ≡ length runs = counted_roomy ps ∙ ap length roomy in
    (λ i. record {
      size = sized i;
      used = in_use i;
      free = place i;
      free_total = total i;
      free_largest = most i;
      free_number = many i;
      free_imbed = sized i - in_use i - total i;
    }) ∙ sym is

pub totals_same : (used : List Extent) (size : ℕ) (plan : Plan) → plan.pieces ≡ pieces_of 0 used size → plan.size ≡ size → totals_of plan ≡ totals_by used (filter is_roomy (free_runs 0 used size)) size
totals_same used size plan made sized =
    totals_parted plan (sum_by (λ (e : Extent). e.len) used) (filter is_roomy (free_runs 0 used size)) size
    (ap (summed used_len) made ∙ used_summed 0 used size)
    (ap roomy_pieces made ∙ roomy_made 0 used size)
    sized (totals_by used (filter is_roomy (free_runs 0 used size)) size) refl

-- Runs of spaces that stand apart in order.
use Rattle.std.proofs.Common.{◌≡◌, ℕ, zero, suc, ◌+◌, ◌-◌, ◌<◌, ◌≤◌, nat_lt, nat_le, ◌==◌, true, cond, List, [], ◌∷◌, ◌++◌, length, take, get_or, refl, sym, ◌∙◌, ap, arith, take_all, eq-eqb, inl, inr}
use Rattle.std.specs.List.{AllByRecursion}
use Rattle.std.specs.Ordering.{nat_cmp, is_le}
use Rattle.std.specs.declared.cmp.Ordering.TheVariants.{Less, Equal, Greater}
use Rattle.std.specs.List.Sorted.{IsNonDecreasingBy}
use Rattle.std.proofs.lemmas.Bool.{le-leb, lt-ltb, le-ltb, and_parts, and_from, cond-true, cond-false, cases_lt, ne_eqb}
use Rattle.std.proofs.lemmas.List.{take_more}
use Rattle.cckd_base.specs.declared.space.Extent.{Extent}
use Rattle.cckd_tables.specs.Kept.{stand_apart, end_of}
use Rattle.cckd_tables.proofs.OrderLemmas.{stand_parts, stand_from}

pub all_append : (P : Extent → Type 0) (xs ys : List Extent) → AllByRecursion P xs → AllByRecursion P ys → AllByRecursion P (xs ++ ys)
all_append P [] ys f g = g
all_append P (x ∷ xs) ys f g = (f.0, all_append P xs ys f.1 g)

pub all_front : (P : Extent → Type 0) (xs ys : List Extent) → AllByRecursion P (xs ++ ys) → AllByRecursion P xs
all_front P [] ys f = tt
all_front P (x ∷ xs) ys f = (f.0, all_front P xs ys f.1)

pub all_back : (P : Extent → Type 0) (xs ys : List Extent) → AllByRecursion P (xs ++ ys) → AllByRecursion P ys
all_back P [] ys f = f
all_back P (x ∷ xs) ys f = all_back P xs ys f.1

-- the two ends of spaces that stand apart
pub stand_front : (at : ℕ) (xs ys : List Extent) → stand_apart at (xs ++ ys) ≡ true → stand_apart at xs ≡ true
stand_front at [] ys h = refl
stand_front at (x ∷ xs) ys h =
    let p = and_parts (nat_le at x.pos) (stand_apart (x.pos + x.size) (xs ++ ys)) h in
    and_from _ _ p.0 (stand_front (x.pos + x.size) xs ys p.1)

pub stand_back : (at : ℕ) (xs ys : List Extent) → stand_apart at (xs ++ ys) ≡ true → stand_apart (end_of at xs) ys ≡ true
stand_back at [] ys h = h
stand_back at (x ∷ xs) ys h = stand_back (x.pos + x.size) xs ys (stand_parts at x (xs ++ ys) h).1

pub stand_push : (at : ℕ) (xs : List Extent) (e : Extent) → stand_apart at xs ≡ true → end_of at xs ≤ e.pos → stand_apart at (xs ++ e ∷ []) ≡ true
stand_push at [] e h l = and_from _ _ (le-leb at e.pos l) refl
stand_push at (x ∷ xs) e h l =
    let p = and_parts (nat_le at x.pos) (stand_apart (x.pos + x.size) xs) h in
    and_from _ _ p.0 (stand_push (x.pos + x.size) xs e p.1 l)

pub last_behind : (at : ℕ) (xs : List Extent) (last : Extent) → stand_apart at (xs ++ last ∷ []) ≡ true → at ≤ last.pos
last_behind at [] last h = (stand_parts at last [] h).0
last_behind at (x ∷ xs) last h =
    let p = stand_parts at x (xs ++ last ∷ []) h in
    let low = p.0 in
    let rest = last_behind (x.pos + x.size) xs last p.1 in
    omega arith

pub ends_before : (at : ℕ) (xs : List Extent) (last : Extent) → stand_apart at (xs ++ last ∷ []) ≡ true
    → AllByRecursion (λ (k : Extent). k.pos + k.size ≤ last.pos) xs
ends_before at [] last h = tt
ends_before at (x ∷ xs) last h =
    let p = (stand_parts at x (xs ++ last ∷ []) h).1 in
    (last_behind (x.pos + x.size) xs last p, ends_before (x.pos + x.size) xs last p)

pub end_push : (at : ℕ) (xs : List Extent) (e : Extent) → end_of at (xs ++ e ∷ []) ≡ e.pos + e.size
end_push at [] e = refl
end_push at (x ∷ xs) e = end_push (x.pos + x.size) xs e

pub at_most_end : (at : ℕ) (xs : List Extent) → stand_apart at xs ≡ true → at ≤ end_of at xs
at_most_end at [] h = omega arith
at_most_end at (x ∷ xs) h =
    let p = stand_parts at x xs h in
    let low = p.0 in
    let rest = at_most_end (x.pos + x.size) xs p.1 in
    omega arith

pub ends_within : (at : ℕ) (xs : List Extent) → stand_apart at xs ≡ true → AllByRecursion (λ (k : Extent). k.pos + k.size ≤ end_of at xs) xs
ends_within at [] h = tt
ends_within at (x ∷ xs) h =
    let p = (stand_parts at x xs h).1 in
    (at_most_end (x.pos + x.size) xs p, ends_within (x.pos + x.size) xs p)

pub end_at_last : (xs : List Extent) (d : Extent) → 1 ≤ length xs → end_of 0 xs ≡ (get_or xs (length xs - 1) d).pos + (get_or xs (length xs - 1) d).size
end_at_last xs d l =
    let n : length xs ≡ (length xs - 1) + 1 = omega arith in
    ap (end_of 0) (sym (take_all (length xs) xs (omega arith)) ∙ ap (λ (k : ℕ). take k xs) n ∙ take_more xs (length xs - 1) d (omega arith))
    ∙ end_push 0 (take (length xs - 1) xs) (get_or xs (length xs - 1) d)

pub end_of_none : (xs : List Extent) → length xs ≡ 0 → end_of 0 xs ≡ 0
end_of_none [] h = refl
end_of_none (x ∷ xs) h = absurd (omega arith)

-- how positions compare
pub compared_less : (a b : ℕ) → a < b → nat_cmp a b ≡ Less
compared_less a b h = cond-true (nat_lt a b) Less (cond (a == b) Equal Greater) (lt-ltb a b h)

pub compared_greater : (a b : ℕ) → b < a → nat_cmp a b ≡ Greater
compared_greater a b h =
    cond-false (nat_lt a b) Less (cond (a == b) Equal Greater) (le-ltb a b (omega arith))
    ∙ cond-false (a == b) Equal Greater (ne_eqb a b (omega arith))

pub compared_le : (a b : ℕ) → a ≤ b → is_le (nat_cmp a b) ≡ true
compared_le a b h = elim (cases_lt a b) [
  | inl less ↦ ap is_le (compared_less a b less)
  | inr more ↦ let same : a ≡ b = omega arith in
      ap is_le (cond-false (nat_lt a b) Less (cond (a == b) Equal Greater) (le-ltb a b more) ∙ cond-true (a == b) Equal Greater (eq-eqb a b same))
]

-- spaces that stand apart ascend
pub stand_get : (P : Extent → Type 0) (xs : List Extent) (j : ℕ) (d : Extent) → AllByRecursion P xs → j < length xs → P (get_or xs j d)
stand_get P [] j d h l = absurd (omega arith)
stand_get P (x ∷ xs) zero d h l = h.0
stand_get P (x ∷ xs) (suc j) d h l = stand_get P xs j d h.1 (omega arith)

pub stand_rises : (at : ℕ) (xs : List Extent) → stand_apart at xs ≡ true → IsNonDecreasingBy (λ (e : Extent). e.pos) xs
stand_rises at [] h i j d le lt = absurd (omega arith)
stand_rises at (x ∷ xs) h zero zero d le lt = omega arith
stand_rises at (x ∷ xs) h zero (suc j) d le lt =
    let b = stand_get (λ (e : Extent). x.pos + x.size ≤ e.pos) xs j d (stand_from (x.pos + x.size) xs (stand_parts at x xs h).1) (omega arith) in
    omega arith
stand_rises at (x ∷ xs) h (suc i) zero d le lt = absurd (omega arith)
stand_rises at (x ∷ xs) h (suc i) (suc j) d le lt = stand_rises (x.pos + x.size) xs (stand_parts at x xs h).1 i j d (omega arith) (omega arith)

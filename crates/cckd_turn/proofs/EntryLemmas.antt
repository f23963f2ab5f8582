-- Sums over a list that changes at one place, and the entries of one number.
use Rattle.std.proofs.Common.{◌≡◌, ◌≢◌, ℕ, zero, suc, ◌+◌, ◌≤◌, ◌<◌, List, [], ◌∷◌, ◌++◌, set, Bool, cond, eqb, eq-eqb, ne_eqb, refl, sym, ap, ◌∙◌, arith, append-nil}
use Rattle.std.proofs.lemmas.List.Elements.{filter-append}
use mathlib.Core.Option.{some, some-injective, some-ne-none}
use lib.ListN.{get_elem?}
use Rattle.cckd_turn.specs.Entries.{entries_of, Each, total, one_if}

module _ {A : Type 0} where
  pub total-append : (f : A → ℕ) (xs ys : List A) → total f (xs ++ ys) ≡ total f xs + total f ys
  total-append f [] ys = omega arith
  total-append f (x ∷ xs) ys = omega (arith, total-append f xs ys)

  -- the sum after one element is replaced
  pub total-set : (f : A → ℕ) (xs : List A) (i : ℕ) (x y : A) → get_elem? xs i ≡ some x → total f (set xs i y) + f x ≡ total f xs + f y
  total-set f [] i x y at = absurd (some-ne-none x (sym at))
  total-set f (z ∷ zs) zero x y at = omega (arith, ap f (some-injective z x at))
  total-set f (z ∷ zs) (suc i) x y at = omega (arith, total-set f zs i x y at)

  pub one_of_total : (f : A → ℕ) (xs : List A) (i : ℕ) (x : A) → get_elem? xs i ≡ some x → f x ≤ total f xs
  one_of_total f [] i x at = absurd (some-ne-none x (sym at))
  one_of_total f (z ∷ zs) zero x at = omega (arith, ap f (some-injective z x at))
  one_of_total f (z ∷ zs) (suc i) x at = omega (arith, one_of_total f zs i x at)

  pub two_of_total : (f : A → ℕ) (xs : List A) (i j : ℕ) (x y : A) → j ≢ i → get_elem? xs i ≡ some x → get_elem? xs j ≡ some y → f x + f y ≤ total f xs
  two_of_total f [] i j x y apart at there = absurd (some-ne-none x (sym at))
  two_of_total f (z ∷ zs) zero zero x y apart at there = absurd (apart refl)
  two_of_total f (z ∷ zs) zero (suc j) x y apart at there = omega (arith, ap f (some-injective z x at), one_of_total f zs j y there)
  two_of_total f (z ∷ zs) (suc i) zero x y apart at there = omega (arith, ap f (some-injective z y there), one_of_total f zs i x at)
  two_of_total f (z ∷ zs) (suc i) (suc j) x y apart at there = omega (arith, two_of_total f zs i j x y (λ e. apart (ap suc e)) at there)

  pub each_append : (P : A → Type 0) (xs ys : List A) → Each P xs → Each P ys → Each P (xs ++ ys)
  each_append P [] ys p q = q
  each_append P (x ∷ xs) ys p q = (p.0, each_append P xs ys p.1 q)

  pub each_weaker : (P Q : A → Type 0) → ((x : A) → P x → Q x) → (xs : List A) → Each P xs → Each Q xs
  each_weaker P Q h [] p = tt
  each_weaker P Q h (x ∷ xs) p = (h x p.0, each_weaker P Q h xs p.1)

-- a number that cannot be above 0
pub none_of : (n : ℕ) → (0 < n → ⊥) → n ≡ 0
none_of zero no_more = refl
none_of (suc n) no_more = absurd (no_more (omega arith))

-- a test of two numbers as 1 or 0
pub as_one : (a b : ℕ) → a ≡ b → one_if (eqb a b) ≡ 1
as_one a b e = ap one_if (eq-eqb a b e)

pub as_none : (a b : ℕ) → a ≢ b → one_if (eqb a b) ≡ 0
as_none a b n = ap one_if (ne_eqb a b n)

module _ {E : Type 0} (by : E → ℕ) where
  entries_of-append : (n : ℕ) (xs ys : List E) → entries_of by n (xs ++ ys) ≡ entries_of by n xs ++ entries_of by n ys
  entries_of-append n xs ys = filter-append (λ e. eqb (by e) n) xs ys

  -- an entry that names n is one more of n's
  pub entry_of_this : (n : ℕ) (log own : List E) (e : E) → entries_of by n log ≡ own → by e ≡ n → entries_of by n (log ++ e ∷ []) ≡ own ++ e ∷ []
  entry_of_this n log own e is names =
      entries_of-append n log (e ∷ [])
      ∙ (ap (λ (l : List E). l ++ entries_of by n (e ∷ [])) is
      ∙ ap (λ (t : Bool). own ++ cond t (e ∷ []) []) (eq-eqb (by e) n names))

  -- and none of another number's
  pub entry_of_other : (n : ℕ) (log own : List E) (e : E) → entries_of by n log ≡ own → by e ≢ n → entries_of by n (log ++ e ∷ []) ≡ own
  entry_of_other n log own e is names =
      entries_of-append n log (e ∷ [])
      ∙ (ap (λ (l : List E). l ++ entries_of by n (e ∷ [])) is
      ∙ (ap (λ (t : Bool). own ++ cond t (e ∷ []) []) (ne_eqb (by e) n names) ∙ append-nil own))

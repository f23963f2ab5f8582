-- Numbers among names.
use Rattle.std.proofs.Common.{◌≡◌, ℕ, zero, suc, ◌+◌, ◌≤◌, ◌<◌, List, [], ◌∷◌, ◌++◌, length, refl, sym, arith}
use mathlib.Core.Logic.{dite}
use native.Mathlib.Decide.{ℕ_discrete}
use Rattle.cckd_turn.specs.Entries.{Each, Owns}
use Rattle.cckd_turn.specs.Views.{times, new_names, second_name, without_second, with_made}
use Rattle.cckd_turn.proofs.EntryLemmas.{none_of, as_one, as_none, entry_of_this, entry_of_other}

module _ {E : Type 0} where
  pub times-append : (n : ℕ) (xs ys : List (ℕ × List E)) → times n (xs ++ ys) ≡ times n xs + times n ys
  times-append n [] ys = omega arith
  times-append n (x ∷ xs) ys = omega (arith, times-append n xs ys)

  pub times-with_made : (n : ℕ) (made : List E) (xs : List (ℕ × List E)) → times n (with_made made xs) ≡ times n xs
  times-with_made n made [] = refl
  times-with_made n made (x ∷ xs) = refl

  pub length-with_made : (made : List E) (xs : List (ℕ × List E)) → length (with_made made xs) ≡ length xs
  length-with_made made [] = refl
  length-with_made made (x ∷ xs) = refl

  -- a name that is dealt is no longer with the dealer
  pub times-second : (n : ℕ) (xs : List (ℕ × List E)) → times n (without_second xs) + times n (second_name xs) ≡ times n xs
  times-second n [] = refl
  times-second n (x ∷ []) = omega arith
  times-second n (x ∷ y ∷ ys) = omega arith

  pub each_without_second : (P : ℕ × List E → Type 0) (xs : List (ℕ × List E)) → Each P xs → Each P (without_second xs)
  each_without_second P [] p = tt
  each_without_second P (x ∷ []) p = p
  each_without_second P (x ∷ y ∷ ys) p = (p.0, p.1.1)

  pub each_second : (P : ℕ × List E → Type 0) (xs : List (ℕ × List E)) → Each P xs → Each P (second_name xs)
  each_second P [] p = tt
  each_second P (x ∷ []) p = tt
  each_second P (x ∷ y ∷ ys) p = (p.1.0, tt)

  -- the entries of each name, after an entry that names none of them
  module _ (by : E → ℕ) where
    pub names_of_others : (log : List E) (e : E) (xs : List (ℕ × List E)) → times (by e) xs ≡ 0 → Owns by log xs → Owns by (log ++ e ∷ []) xs
    names_of_others log e [] none p = tt
    names_of_others log e (x ∷ xs) none p = (
      entry_of_other by x.0 log x.1 e p.0 (λ same. absurd (let one = as_one x.0 (by e) (sym same) in omega arith)),
      names_of_others log e xs (omega arith) p.1,
    )

    -- and after an entry that names the first
    pub names_of_maker : (log : List E) (e : E) (x : ℕ × List E) (xs : List (ℕ × List E)) → by e ≡ x.0 → times (by e) (x ∷ xs) ≤ 1 → Owns by log (x ∷ xs) → Owns by (log ++ e ∷ []) (with_made (e ∷ []) (x ∷ xs))
    names_of_maker log e x xs same once p = (
      entry_of_this by x.0 log x.1 e p.0 same,
      names_of_others log e xs (let one = as_one x.0 (by e) (sym same) in omega arith) p.1,
    )

-- which numbers are new
module _ (E : Type 0) where
  abbrev times_new : ℕ → ℕ → ℕ → ℕ
  times_new n first count = times {E = E} n (new_names first count)

  pub new_only : (n first count : ℕ) → 0 < times_new n first count → (first ≤ n) × (n < first + count)
  new_only n first zero some = absurd (omega arith)
  new_only n first (suc count) some =
      dite (ℕ_discrete first n)
      (λ same. (omega arith, omega arith))
      (λ apart. let none = as_none first n apart in let later = new_only n (first + 1) count (omega arith) in (omega arith, omega arith))

  pub new_once : (n first count : ℕ) → first ≤ n → n < first + count → times_new n first count ≡ 1
  new_once n first zero from below = absurd (omega arith)
  new_once n first (suc count) from below =
      dite (ℕ_discrete first n)
      (λ same. let one = as_one first n same in let none = none_of (times_new n (first + 1) count) (λ more. absurd (let later = new_only n (first + 1) count more in omega arith)) in omega arith)
      (λ apart. let none = as_none first n apart in let later = new_once n (first + 1) count (omega arith) (omega arith) in omega arith)

  pub each_new : (P : ℕ × List E → Type 0) → ((n : ℕ) → P (n, [])) → (first count : ℕ) → Each P (new_names first count)
  each_new P h first zero = tt
  each_new P h first (suc count) = (h first, each_new P h (first + 1) count)

-- Limits that words spell.
use Rattle.std.proofs.Common.{◌≡◌, ℕ, ◌<◌, ◌^◌, Bool, true, false, List, decimal, Option, Some, None, inl, inr, refl, sym, ◌∙◌, ap, arith}
use Rattle.std.specs.Prelude.{nat_le, ◌&&◌, if◌then◌else◌, ◌%◌, ◌==◌}
use Rattle.std.proofs.lemmas.Bool.{cases_Bool, and_parts}
use Rattle.std.proofs.lemmas.Bool.Decides.{nat_tests}
use Rattle.cckd_base.specs.Geometry.{format_limit}
use Rattle.cckd_script.specs.Grammar.{spelled_number}
use Rattle.cckd_script.proofs.GrammarLemmas.{number_of_decimal, decimal_of_number}
use Rattle.cckd_top.specs.Words.{is_limit, kept_limit, limit_in}

-- the digits of a number are read as that number
pub limit_of_decimal : (n : ℕ) (word : List ℕ) → n < 2 ^ 64 → word ≡ decimal n → limit_in word ≡ kept_limit (Some n)
limit_of_decimal n word small e = ap (λ (w : List ℕ). kept_limit (spelled_number w)) e ∙ ap kept_limit (number_of_decimal n small)

kept_is : (n : ℕ) → is_limit n ≡ true → kept_limit (Some n) ≡ Some n
kept_is n is = ap (λ (b : Bool). if b then Some n else None) is

kept_not : (n : ℕ) → is_limit n ≡ false → kept_limit (Some n) ≡ None
kept_not n is = ap (λ (b : Bool). if b then Some n else None) is

pub limit_is : (n : ℕ) (word : List ℕ) → n < 2 ^ 64 → word ≡ decimal n → is_limit n ≡ true → Some n ≡ limit_in word
limit_is n word small e is = sym (limit_of_decimal n word small e ∙ kept_is n is)

pub limit_not : (n : ℕ) (word : List ℕ) → n < 2 ^ 64 → word ≡ decimal n → is_limit n ≡ false → None ≡ limit_in word
limit_not n word small e is = sym (limit_of_decimal n word small e ∙ kept_not n is)

low_enough : (n : ℕ) → is_limit n ≡ true → n < 2 ^ 32
low_enough n is =
    let outer = and_parts (nat_le 4096 n && nat_le n format_limit) (n % 8 == 0) is in
    let inner = and_parts (nat_le 4096 n) (nat_le n format_limit) outer.0 in
    grind (arith, nat_tests)

none_kept : (word : List ℕ) (found : Option ℕ) → spelled_number word ≡ found → ((n : ℕ) → n < 2 ^ 32 → ¬ (word ≡ decimal n)) → kept_limit found ≡ None
none_kept word None e none = refl
none_kept word (Some n) e none = elim (cases_Bool (is_limit n)) [
  | inl is ↦ absurd (none n (low_enough n is) (decimal_of_number word n e))
  | inr not ↦ kept_not n not
]

-- Tokens of hexadecimal digits.
use Rattle.std.proofs.Common.{◌≡◌, ⊎_elim, ℕ, ◌/◌, ◌%◌, ◌≤◌, Bool, true, false, if◌then◌else◌, List, [], ◌∷◌, length, codes, Option, Some, None, Result, Ok, Err, refl, sym, ◌∙◌, ap, arith}
use Rattle.std.specs.List.{AllPass}
use Rattle.std.specs.Result.{result_ok, result_unwrap_or}
use Rattle.std.specs.Str.{bytes_eq}
use Rattle.std.proofs.lemmas.Bool.{cases_Bool}
use Rattle.std.proofs.lemmas.Slice.Eq.{bytes_eq-Decides}
use Rattle.hex.specs.Hex.{decode_of, is_hex_digit}
use Rattle.hex.specs.declared.error.FromHexError.{FromHexError}
use Rattle.hex.proofs.HexLemmas.{decode_of-ok, decode_of-digits}
use Rattle.cckd_script.specs.Grammar.{bytes, given, is_within, spelled_bytes, bytes_within, value_of}
use Rattle.cckd_script.specs.Inside.{decoded, AreDigits}
use Rattle.cckd_script.proofs.GrammarLemmas.{within_range, within_told}

-- an even number of digits spells bytes
pub digits_are : (token : List ℕ) (least most : ℕ) → length token % 2 ≡ 0 → least ≤ length token / 2 → length token / 2 ≤ most
    → AllPass is_hex_digit token → AreDigits token least most
digits_are token least most even low high all =
    let found = decode_of-digits token even all in
    let is : decoded token ≡ found.0 = ap (λ (r : Result (List ℕ) FromHexError). result_unwrap_or r []) found.1 in
    let decodes : decode_of token ≡ Ok (decoded token) = found.1 ∙ ap (λ (bs : List ℕ). Ok bs) (sym is) in
    let len = (decode_of-ok token (decoded token) decodes).2 in
    record { decode = decodes; len = len; least_is = omega (arith, len, low); most_is = omega (arith, len, high) }

-- and what spells bytes is that
pub even_of : (token : List ℕ) (least most : ℕ) → AreDigits token least most → length token % 2 ≡ 0
even_of token least most are = (decode_of-ok token (decoded token) are.decode).0

pub all_of : (token : List ℕ) (least most : ℕ) → AreDigits token least most → AllPass is_hex_digit token
all_of token least most are = (decode_of-ok token (decoded token) are.decode).1

refused_by : (least most : ℕ) (o : Option (List ℕ)) → ((bs : List ℕ) → o ≡ Some bs → ¬ ((least ≤ length bs) × (length bs ≤ most)))
    → bytes_within least most o ≡ None
refused_by least most None outside = refl
refused_by least most (Some bs) outside =
    ⊎_elim
    (λ (passes : is_within least most (length bs) ≡ true). absurd (outside bs refl (within_told least most (length bs) passes)))
    (λ (fails : is_within least most (length bs) ≡ false). ap (λ (b : Bool). if b then Some (given bs) else None) fails)
    (cases_Bool (is_within least most (length bs)))

-- what decodes to so many bytes are digits
digits_by : (token bs : List ℕ) (least most : ℕ) (r : Result (List ℕ) FromHexError) → decode_of token ≡ r → result_ok r ≡ Some bs
    → least ≤ length bs → length bs ≤ most → AreDigits token least most
digits_by token bs least most (Ok found) is e low high =
    let same : found ≡ bs = cc in
    let decodes : decode_of token ≡ Ok bs = is ∙ ap (λ (xs : List ℕ). Ok xs) same in
    let one : decoded token ≡ bs = ap (λ (r : Result (List ℕ) FromHexError). result_unwrap_or r []) decodes in
    let len = (decode_of-ok token bs decodes).2 in
    record {
      decode = decodes ∙ ap (λ (xs : List ℕ). Ok xs) (sym one);
      len = rw one len;
      least_is = rw one low;
      most_is = rw one high;
    }
digits_by token bs least most (Err e) is h low high = cc h

-- a token that isn't such digits spells no bytes in the range
by_dash : (token : List ℕ) (least most : ℕ) (dash : Bool) → 1 ≤ least → ¬ AreDigits token least most
    → bytes_within least most (if dash then Some [] else result_ok (decode_of token)) ≡ None
by_dash token least most true some none = refused_by least most (Some []) (λ bs e range. let same : [] ≡ bs = cc in
    let zero : length bs ≡ 0 = ap (λ (xs : List ℕ). length xs) (sym same) in omega (arith, zero, range.0))
by_dash token least most false some none = refused_by least most (result_ok (decode_of token)) (λ bs e range.
    none (digits_by token bs least most (decode_of token) refl e range.0 range.1))

pub no_digits : (token : List ℕ) (least most : ℕ) → 1 ≤ least → ¬ AreDigits token least most → value_of (bytes least most) token ≡ None
no_digits [] least most some none = refl
no_digits (c ∷ token) least most some none = by_dash (c ∷ token) least most (bytes_eq (c ∷ token) (codes "-")) some none

-- digits spell their bytes
spelled_by : (token : List ℕ) (dash : Bool) → bytes_eq token (codes "-") ≡ dash → decode_of token ≡ Ok (decoded token)
    → (if dash then Some [] else result_ok (decode_of token)) ≡ Some (decoded token)
spelled_by token true is decodes =
    let same = (bytes_eq-Decides token (codes "-")).0 is in
    let odd : decode_of token ≡ decode_of (codes "-") = ap decode_of same in cc (sym decodes ∙ odd)
spelled_by token false is decodes = ap (λ (r : Result (List ℕ) FromHexError). result_ok r) decodes

pub spelled_digits : (token : List ℕ) → 1 ≤ length token → decode_of token ≡ Ok (decoded token) → spelled_bytes token ≡ Some (decoded token)
spelled_digits [] some decodes = absurd (omega (arith, some))
spelled_digits (c ∷ token) some decodes = spelled_by (c ∷ token) (bytes_eq (c ∷ token) (codes "-")) refl decodes

pub value_of_digits : (token : List ℕ) (least most : ℕ) → 1 ≤ least → AreDigits token least most
    → value_of (bytes least most) token ≡ Some (given (decoded token))
value_of_digits token least most some are =
    let len = are.len in
    let low = are.least_is in
    ap (bytes_within least most) (spelled_digits token (omega (arith, len, low, some)) are.decode)
    ∙ ap (λ (b : Bool). if b then Some (given (decoded token)) else None) (within_range least most (length (decoded token)) are.least_is are.most_is)

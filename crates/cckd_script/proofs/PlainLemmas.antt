-- Texts of a phrase: their tokens, and that they have no line feed.
use Rattle.std.proofs.Common.{◌≡◌, ◌≢◌, ℕ, zero, suc, ◌/◌, ◌%◌, ◌<◌, ◌^◌, ◌==◌, not, Bool, true, false, ◌&&◌, List, [], ◌∷◌, ◌++◌, get_or, flat_map, slice_index, codes, decimal, refl, sym, ◌∙◌, ap, arith, append-nil}
use Rattle.std.specs.List.{AllByRecursion, list_all}
use Rattle.std.specs.Str.Parse.{AllDigits}
use Rattle.std.proofs.lemmas.Bool.{and_parts}
use Rattle.std.proofs.lemmas.Bool.Decides.{nat_tests}
use Rattle.std.proofs.lemmas.Fmt.{decimal_is_IsNumeral}
use Rattle.std.proofs.lemmas.Str.Parse.{digit_from_value}
use Rattle.hex.specs.Hex.{encode_with, encode_lower, lower_digits}
use Rattle.cckd_script.specs.Lines.{begun, tokens, HasNoFeed}
use Rattle.cckd_script.specs.Phrase.{Part, words, number, marked, hex, Phrase, hex_text, part_text, parts_text, phrase_text}
use Rattle.cckd_script.proofs.TokenLemmas.{tokens_append}
use Rattle.cckd_script.proofs.LineLemmas.{no_feed-append}

-- a text without a blank or a line feed
abbrev pub IsPlain : List ℕ → Type 0
IsPlain text = AllByRecursion (λ b. (b ≢ 32) × (b ≢ 10)) text

blank_fails : (b : ℕ) → b ≢ 32 → (b == 32) ≡ false
blank_fails b other = grind (arith, nat_tests)

-- it is one token
pub tokens_plain : (text : List ℕ) → IsPlain text → tokens text ≡ text ∷ []
tokens_plain [] plain = refl
tokens_plain (b ∷ text) plain =
    let other = blank_fails b plain.0.0 in
    let more = tokens_plain text plain.1 in
    rw other (ap (begun b) more)

-- and has no line feed
pub plain_feedless : (text : List ℕ) → IsPlain text → HasNoFeed text
plain_feedless [] plain = tt
plain_feedless (b ∷ text) plain = (plain.0.1, plain_feedless text plain.1)

plain-append : (a b : List ℕ) → IsPlain a → IsPlain b → IsPlain (a ++ b)
plain-append [] b h k = k
plain-append (c ∷ a) b h k = (h.0, plain-append a b h.1 k)

plain_digits : (digits : List ℕ) → AllDigits 10 digits → IsPlain digits
plain_digits [] h = tt
plain_digits (b ∷ digits) h =
    let range = digit_from_value b h.0 in
    ((λ e. omega (arith, range.0, e), λ e. omega (arith, range.0, e)), plain_digits digits h.1)

-- the digits of a number
pub plain_decimal : (n : ℕ) → n < 2 ^ 64 → IsPlain (decimal n)
plain_decimal n small = plain_digits (decimal n) (decimal_is_IsNumeral n small).0.1

-- whether a byte is neither a blank nor a line feed
is_plain : ℕ → Bool
is_plain b = not (b == 32) && not (b == 10)

plain_byte : (b : ℕ) → is_plain b ≡ true → (b ≢ 32) × (b ≢ 10)
unfolding is_plain
plain_byte b e = let parts = and_parts (not (b == 32)) (not (b == 10)) e in (grind (arith, nat_tests), grind (arith, nat_tests))

plain_at : (xs : List ℕ) (i : ℕ) → list_all is_plain xs ≡ true → is_plain (get_or xs i 0) ≡ true
unfolding is_plain
plain_at [] i e = refl
plain_at (x ∷ xs) zero e = (and_parts (is_plain x) (list_all is_plain xs) e).0
plain_at (x ∷ xs) (suc i) e = plain_at xs i (and_parts (is_plain x) (list_all is_plain xs) e).1

plain_digit : (i : ℕ) → (slice_index lower_digits i ≢ 32) × (slice_index lower_digits i ≢ 10)
unfolding is_plain
plain_digit i = plain_byte (slice_index lower_digits i) (plain_at lower_digits i refl)

plain_encoded : (bytes : List ℕ) → IsPlain (encode_lower bytes)
unfolding encode_with
plain_encoded [] = tt
plain_encoded (b ∷ bytes) = (plain_digit (b / 16), (plain_digit (b % 16), plain_encoded bytes))

plain_dash : IsPlain (codes "-")
plain_dash = ((λ e. omega (arith, e), λ e. omega (arith, e)), tt)

-- the digits of bytes
pub plain_hex : (bytes : List ℕ) → IsPlain (hex_text bytes)
plain_hex [] = plain_dash
plain_hex (b ∷ bytes) = plain_encoded (b ∷ bytes)

-- A part that can be told: words have no line feed, a number is one of 64 bits, and a mark is neither a blank nor a line
-- feed.
abbrev pub PartFits : Part → Type 0
PartFits (words text) = list_all (λ b. not (b == 10)) text ≡ true
PartFits (number n) = n < 2 ^ 64
PartFits (marked n mark) = (n < 2 ^ 64) × IsPlain (mark ∷ [])
PartFits (hex bytes) = Unit {0}

abbrev pub PartsFit : List Part → Type 0
PartsFit [] = Unit {0}
PartsFit (part ∷ parts) = PartFits part × PartsFit parts

-- a phrase that can be told
pub record PhraseFits (p : Phrase) : Type 0 where
  pub front : list_all (λ b. not (b == 10)) p.front ≡ true
  pub parts : PartsFit p.parts

plain_marked : (n mark : ℕ) → n < 2 ^ 64 → IsPlain (mark ∷ []) → IsPlain (decimal n ++ mark ∷ [])
plain_marked n mark small plain = plain-append (decimal n) (mark ∷ []) (plain_decimal n small) plain

-- the tokens of a part
abbrev pub part_tokens : Part → List (List ℕ)
part_tokens (words text) = tokens text
part_tokens (number n) = decimal n ∷ []
part_tokens (marked n mark) = (decimal n ++ mark ∷ []) ∷ []
part_tokens (hex bytes) = hex_text bytes ∷ []

tokens_of_part : (part : Part) → PartFits part → tokens (part_text part) ≡ part_tokens part
tokens_of_part (words text) fits = refl
tokens_of_part (number n) fits = tokens_plain (decimal n) (plain_decimal n fits)
tokens_of_part (marked n mark) fits = tokens_plain (decimal n ++ mark ∷ []) (plain_marked n mark fits.0 fits.1)
tokens_of_part (hex bytes) fits = tokens_plain (hex_text bytes) (plain_hex bytes)

tokens_of_parts : (front : List ℕ) (parts : List Part) → PartsFit parts
    → tokens (front ++ parts_text parts) ≡ tokens front ++ flat_map part_tokens parts
tokens_of_parts front [] fit = ap tokens (append-nil front) ∙ sym (append-nil (tokens front))
tokens_of_parts front (part ∷ parts) fit =
    tokens_append front (part_text part ++ parts_text parts)
    ∙ ap (λ (ts : List (List ℕ)). tokens front ++ ts) (
    tokens_of_parts (part_text part) parts fit.1
    ∙ ap (λ (ts : List (List ℕ)). ts ++ flat_map part_tokens parts) (tokens_of_part part fit.0))

-- the tokens of a phrase
abbrev pub phrase_tokens : Phrase → List (List ℕ)
phrase_tokens p = tokens p.front ++ flat_map part_tokens p.parts

pub tokens_of_phrase : (p : Phrase) → PhraseFits p → tokens (phrase_text p) ≡ phrase_tokens p
tokens_of_phrase p fits = tokens_of_parts p.front p.parts fits.parts

feedless_told : (b : ℕ) → not (b == 10) ≡ true → b ≢ 10
feedless_told b e = grind (arith, nat_tests)

feedless : (text : List ℕ) → list_all (λ b. not (b == 10)) text ≡ true → HasNoFeed text
feedless [] e = tt
feedless (b ∷ text) e =
    let parts = and_parts (not (b == 10)) (list_all (λ c. not (c == 10)) text) e in
    (feedless_told b parts.0, feedless text parts.1)

feedless_part : (part : Part) → PartFits part → HasNoFeed (part_text part)
feedless_part (words text) fits = feedless text fits
feedless_part (number n) fits = plain_feedless (decimal n) (plain_decimal n fits)
feedless_part (marked n mark) fits = plain_feedless (decimal n ++ mark ∷ []) (plain_marked n mark fits.0 fits.1)
feedless_part (hex bytes) fits = plain_feedless (hex_text bytes) (plain_hex bytes)

blank_is_no_feed : ◌≢◌ {A = ℕ} 32 10
blank_is_no_feed e = omega (arith, e)

feedless_parts : (parts : List Part) → PartsFit parts → HasNoFeed (parts_text parts)
feedless_parts [] fit = tt
feedless_parts (part ∷ parts) fit =
    (blank_is_no_feed, no_feed-append (part_text part) (parts_text parts) (feedless_part part fit.0) (feedless_parts parts fit.1))

-- a phrase has no line feed
pub feedless_phrase : (p : Phrase) → PhraseFits p → HasNoFeed (phrase_text p)
feedless_phrase p fits = no_feed-append p.front (parts_text p.parts) (feedless p.front fits.front) (feedless_parts p.parts fits.parts)

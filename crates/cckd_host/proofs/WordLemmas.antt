-- What a run gets of each word, and words one after another.
use Rattle.std.proofs.Common.{◌≡◌, ℕ, ◌+◌, ◌<◌, ◌≤◌, zero, suc, Bool, true, false, cond, List, [], ◌∷◌, ◌++◌, length, take, drop, map, refl, sym, ap, arith, inl, inr, add-one}
use Rattle.std.specs.Prelude.{nat_le, ◌&&◌}
use Rattle.std.specs.Str.{IsUtf8, is_utf8}
use Rattle.std.proofs.lemmas.Bool.{cases_Bool, le-leb, leb-true}
use Rattle.std.proofs.lemmas.Str.{IsUtf8-from_is_utf8, is_utf8-from_IsUtf8}
use Rattle.std.specs.Prelude.{string_bytes, String, Some}
use Rattle.std.proofs.lemmas.List.{map-append}
use Rattle.cckd_host.specs.Words.{kept_word, IsKeptAt}

kept_by_tests : (short text : Bool) (word : List ℕ) → short ≡ true → text ≡ true → cond (short && text) word [] ≡ word
kept_by_tests true true word s t = refl
kept_by_tests true false word s t = absurd cc
kept_by_tests false text word s t = absurd cc

emptied_by_text : (short text : Bool) (word : List ℕ) → text ≡ false → cond (short && text) word [] ≡ []
emptied_by_text true true word t = absurd cc
emptied_by_text true false word t = refl
emptied_by_text false text word t = refl

emptied_by_length : (short text : Bool) (word : List ℕ) → short ≡ false → cond (short && text) word [] ≡ []
emptied_by_length true text word s = absurd cc
emptied_by_length false text word s = refl

-- text of at most 255 bytes is kept
pub kept_whole : (word : List ℕ) → length word ≤ 255 → IsUtf8 word → kept_word word ≡ word
kept_whole word short text = kept_by_tests (nat_le (length word) 255) (is_utf8 word) word (le-leb _ _ short) (is_utf8-from_IsUtf8 word text)

-- what is no text is emptied
pub kept_no_text : (word : List ℕ) → (IsUtf8 word → ⊥) → kept_word word ≡ []
kept_no_text word other = elim (cases_Bool (is_utf8 word)) [
  | inl text ↦ absurd (other (IsUtf8-from_is_utf8 word text))
  | inr none ↦ emptied_by_text (nat_le (length word) 255) (is_utf8 word) word none
]

-- so is what is too long
pub kept_too_long : (word : List ℕ) → 255 < length word → kept_word word ≡ []
kept_too_long word long = elim (cases_Bool (nat_le (length word) 255)) [
  | inl short ↦ let fits = leb-true (length word) 255 short in absurd (omega (arith, fits, long))
  | inr none ↦ emptied_by_length (nat_le (length word) 255) (is_utf8 word) word none
]

one_more_suc : {X : Type 0} (n : ℕ) (words : List X) (word : X) (others : List X) → drop n words ≡ word ∷ others → (take (suc n) words ≡ take n words ++ word ∷ []) × (suc n ≤ length words)
one_more_suc zero [] word others e = absurd cc
one_more_suc zero (x ∷ xs) word others e = (cc, omega arith)
one_more_suc (suc n) [] word others e = absurd cc
one_more_suc (suc n) (x ∷ xs) word others e = let more = one_more_suc n xs word others e in (ap (λ front. x ∷ front) more.0, omega (arith, more.1))

-- a word that stands behind the first n joins them
pub one_more : {X : Type 0} (n : ℕ) (words : List X) (word : X) (others : List X) → drop n words ≡ word ∷ others → take (n + 1) words ≡ take n words ++ word ∷ []
one_more n words word others e = rw (add-one n) ((one_more_suc n words word others e).0)

-- where none stands behind the first n they are all
pub no_more : {X : Type 0} (n : ℕ) (words : List X) → drop n words ≡ [] → take n words ≡ words
no_more zero words e = sym e
no_more (suc n) [] e = refl
no_more (suc n) (x ∷ xs) e = ap (λ front. x ∷ front) (no_more n xs e)

-- the first n words and the one of number n are the first n + 1
pub joins : (given : List (List ℕ)) (n : ℕ) (first : List (List ℕ)) (text : List ℕ) → first ≡ map kept_word (take n given) → IsKeptAt given n (Some text) → first ++ text ∷ [] ≡ map kept_word (take (n + 1) given)
joins given n first text e (word, stands, is) =
    rw (one_more n given word (drop (n + 1) given) stands) (rw (map-append kept_word (take n given) (word ∷ [])) (rw (e, is) refl))

-- the same of strings that are pushed
pub pushes : {Z : Type 0} (given : List (List ℕ)) (n : ℕ) (old new : List (String Z)) (word : String Z) → map string_bytes old ≡ map kept_word (take n given) → IsKeptAt given n (Some (string_bytes word)) → new ≡ old ++ word ∷ [] → map string_bytes new ≡ map kept_word (take (n + 1) given)
pushes given n old new word e at is = rw is (rw (map-append string_bytes old (word ∷ [])) (joins given n (map string_bytes old) (string_bytes word) e at))

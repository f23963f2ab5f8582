-- The tokens of a line from a place on.
use Rattle.std.proofs.Common.{◌≡◌, ⊎_elim, ℕ, suc, ◌+◌, ◌-◌, ◌<◌, ◌≤◌, ◌==◌, not, Bool, true, false, cond, nat_lt, if◌then◌else◌, List, [], ◌∷◌, ◌++◌, length, take, drop, position, slice_range, Option, Some, None, MatchOption, refl, sym, ◌∙◌, ap, subst, arith, length-drop, drop-cons, add-one}
use Rattle.std.specs.List.{position_or_len}
use Rattle.std.specs.Str.Parse.{AllDigits}
use Rattle.std.proofs.lemmas.Bool.{cases_lt, cases_Bool, lt-ltb, le-ltb}
use Rattle.std.proofs.lemmas.Bool.Decides.{nat_tests}
use Rattle.std.proofs.lemmas.List.{drop-drop, drop_all}
use Rattle.std.proofs.lemmas.List.Sums.{prefix_len-le-length}
use Rattle.std.proofs.lemmas.Str.Parse.{digit_from_value}
use Rattle.std.proofs.Math.Seq.{take-length}
use Rattle.cckd_script.specs.Lines.{begun, tokens, joined}
use Rattle.cckd_script.specs.Inside.{is_blank, behind, rest_tokens}

-- how long the first token is
abbrev pub first_length : List ℕ → ℕ
first_length text = position_or_len is_blank text

-- the first token of a text, and those behind it
pub tokens_first : (text : List ℕ) → tokens text ≡ take (first_length text) text ∷ behind (drop (first_length text) text)
tokens_first [] = refl
tokens_first (b ∷ rest) =
    let more = tokens_first rest in
    let n = first_length rest in
    let one : 1 + n ≡ suc n = omega arith in
    elim (b == 32) as (λ t.
    (if t then [] ∷ tokens rest else begun b (tokens rest))
    ≡ take (cond (not t) (1 + n) 0) (b ∷ rest) ∷ behind (drop (cond (not t) (1 + n) 0) (b ∷ rest))) [
      | true ↦ refl
      | false ↦ ap (begun b) more ∙ ap (λ (m : ℕ). take m (b ∷ rest) ∷ behind (drop m (b ∷ rest))) (sym one)
    ]

-- what a first place says of the length of the front that fails
pub first_place : (text : List ℕ) (n : ℕ) (found : Option ℕ)
    → cond (nat_lt n (length text)) (Some n) None ≡ found → MatchOption found (length text ≤ n) (λ i. (i ≡ n) × (n < length text))
first_place text n found e =
    ⊎_elim
    (λ (less : n < length text). subst (λ (o : Option ℕ). MatchOption o (length text ≤ n) (λ i. (i ≡ n) × (n < length text)))
    (sym (ap (λ (b : Bool). cond b (Some n) None) (lt-ltb n (length text) less)) ∙ e) (refl, less))
    (λ (more : length text ≤ n). subst (λ (o : Option ℕ). MatchOption o (length text ≤ n) (λ i. (i ≡ n) × (n < length text)))
    (sym (ap (λ (b : Bool). cond b (Some n) None) (le-ltb n (length text) more)) ∙ e) more)
    (cases_lt n (length text))

-- the rest of a list behind a place
pub rest_is : (n : ℕ) (xs : List ℕ) → take (length xs - n) (drop n xs) ≡ drop n xs
rest_is n xs = let e = length-drop n xs in rw (← e) (take-length (drop n xs))

-- the token that begins at a place
cut_by_length : (line : List ℕ) (from n end : ℕ) → first_length (drop from line) ≡ n → end ≡ from + n
    → tokens (drop from line) ≡ slice_range line from end ∷ rest_tokens line end
cut_by_length line from n end first ends =
    let long : end - from ≡ n = omega arith in
    let left : drop n (drop from line) ≡ drop end line = drop-drop n from line ∙ ap (λ (m : ℕ). drop m line) (sym ends) in
    tokens_first (drop from line)
    ∙ ap (λ (m : ℕ). take m (drop from line) ∷ behind (drop m (drop from line))) first
    ∙ ap (λ (m : ℕ). take m (drop from line) ∷ behind (drop n (drop from line))) (sym long)
    ∙ ap (λ (rest : List ℕ). slice_range line from end ∷ behind rest) left

-- where the first blank is found in what is left of a line
pub cut_at_blank : (line : List ℕ) (from n : ℕ) (text : List ℕ) → text ≡ drop from line
    → position is_blank text ≡ Some n
    → tokens (drop from line) ≡ slice_range line from (from + n) ∷ rest_tokens line (from + n)
cut_at_blank line from n text is found =
    let there = first_place text (first_length text) (Some n) found in
    cut_by_length line from n (from + n) (sym (there.0 ∙ ap first_length is)) refl

-- where there is none
pub cut_at_end : (line : List ℕ) (from : ℕ) (text : List ℕ) → text ≡ drop from line → from ≤ length line
    → position is_blank text ≡ None
    → tokens (drop from line) ≡ slice_range line from (length line) ∷ rest_tokens line (length line)
cut_at_end line from text is within none =
    let there = first_place text (first_length text) None none in
    let most = prefix_len-le-length (λ b. not (is_blank b)) text in
    let len = ap length is ∙ length-drop from line in
    let n = length line - from in
    let first : first_length text ≡ n = omega (arith, there, most, len) in
    cut_by_length line from n (length line) (sym (ap first_length is) ∙ first) (omega arith)

-- the tokens behind a place within the line
pub behind_place : (line : List ℕ) (end : ℕ) → end < length line → rest_tokens line end ≡ tokens (drop (end + 1) line)
behind_place line end within = ap behind (drop-cons line end 0 within) ∙ ap (λ (m : ℕ). tokens (drop m line)) (sym (add-one end))

-- there is one more
pub some_behind : (line : List ℕ) (end : ℕ) → end < length line
    → rest_tokens line end ≡ take (first_length (drop (end + 1) line)) (drop (end + 1) line) ∷ behind (drop (first_length (drop (end + 1) line)) (drop (end + 1) line))
some_behind line end within = behind_place line end within ∙ tokens_first (drop (end + 1) line)

-- and behind the line there is none
pub none_behind : (line : List ℕ) (end : ℕ) → end ≡ length line → rest_tokens line end ≡ []
none_behind line end last = ap behind (drop_all end line (omega arith))

begun-append : (b : ℕ) (parts more : List (List ℕ)) → 0 < length parts → begun b (parts ++ more) ≡ begun b parts ++ more
begun-append b [] more some = absurd (omega arith)
begun-append b (part ∷ parts) more some = refl

some_tokens : (text : List ℕ) → 0 < length (tokens text)
some_tokens text = omega (arith, ap length (tokens_first text))

-- the tokens on both sides of a blank
pub tokens_append : (text more : List ℕ) → tokens (text ++ 32 ∷ more) ≡ tokens text ++ tokens more
tokens_append [] more = refl
tokens_append (b ∷ text) more =
    let rest = tokens_append text more in
    elim (b == 32) as (λ t.
    (if t then [] ∷ tokens (text ++ 32 ∷ more) else begun b (tokens (text ++ 32 ∷ more)))
    ≡ (if t then [] ∷ tokens text else begun b (tokens text)) ++ tokens more) [
      | true ↦ ap (λ (parts : List (List ℕ)). [] ∷ parts) rest
      | false ↦ ap (begun b) rest ∙ begun-append b (tokens text) (tokens more) (some_tokens text)
    ]

digit_fails : (b : ℕ) → 48 ≤ b → (b == 32) ≡ false
digit_fails b range = grind (arith, nat_tests)

-- digits with a blank behind them are the first token
pub tokens_digits : (digits rest : List ℕ) → AllDigits 10 digits → tokens (digits ++ 32 ∷ rest) ≡ digits ∷ tokens rest
tokens_digits [] rest h = refl
tokens_digits (b ∷ digits) rest h =
    let range = digit_from_value b h.0 in
    let other = digit_fails b range.0 in
    let more = tokens_digits digits rest h.1 in
    rw other (ap (begun b) more)

-- and digits alone the only one
pub tokens_digits_alone : (digits : List ℕ) → AllDigits 10 digits → tokens digits ≡ digits ∷ []
tokens_digits_alone [] h = refl
tokens_digits_alone (b ∷ digits) h =
    let range = digit_from_value b h.0 in
    let other = digit_fails b range.0 in
    let more = tokens_digits_alone digits h.1 in
    rw other (ap (begun b) more)

joined_begun : (b : ℕ) (part : List ℕ) (parts : List (List ℕ)) → joined (begun b (part ∷ parts)) ≡ b ∷ joined (part ∷ parts)
joined_begun b part [] = refl
joined_begun b part (next ∷ parts) = refl

-- a line is its tokens with the blanks between them
pub joined_tokens : (line : List ℕ) → joined (tokens line) ≡ line
joined_tokens [] = refl
joined_tokens (b ∷ rest) =
    let more = joined_tokens rest in
    let first = tokens_first rest in
    let part = take (first_length rest) rest in
    let parts = behind (drop (first_length rest) rest) in
    let start : joined (part ∷ parts) ≡ rest = ap joined (sym first) ∙ more in
    ⊎_elim
    (λ (blank : (b == 32) ≡ true).
    let is : b ≡ 32 = grind (arith, nat_tests) in
    rw blank (ap (λ (ts : List (List ℕ)). joined ([] ∷ ts)) first ∙ ap (λ (s : List ℕ). 32 ∷ s) start ∙ ap (λ (c : ℕ). c ∷ rest) (sym is)))
    (λ (other : (b == 32) ≡ false).
    rw other (ap (λ (ts : List (List ℕ)). joined (begun b ts)) first ∙ joined_begun b part parts ∙ ap (λ (s : List ℕ). b ∷ s) start))
    (cases_Bool (b == 32))

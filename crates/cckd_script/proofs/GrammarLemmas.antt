-- What tokens say by their kinds, and how it is spelled.
use Rattle.std.proofs.Common.{◌≡◌, ⊎_elim, ℕ, ◌+◌, ◌<◌, ◌≤◌, ◌^◌, nat_le, Bool, true, false, ◌&&◌, if◌then◌else◌, List, [], ◌∷◌, length, decimal, Option, Some, None, Result, Ok, Err, refl, sym, ◌∙◌, ap, subst, arith}
use Rattle.std.proofs.lemmas.Bool.{cases_Bool, and_parts}
use Rattle.std.proofs.lemmas.Bool.Decides.{nat_tests}
use Rattle.std.proofs.lemmas.Fmt.{decimal_is_IsNumeral}
use Rattle.std.proofs.lemmas.Slice.Eq.{bytes_eq-Decides}
use Rattle.std.specs.Str.{bytes_eq}
use Rattle.cckd_script.specs.Grammar.{Kind, word, number, bytes, Value, nothing, amount, given, number_value, is_within, spelled_number, spelled_bytes, number_within, bytes_within, value_of, value_before, values_of}

-- a token of a kind spells a value
abbrev pub Spells : Kind → Value → List ℕ → Type 0
Spells (word text) nothing token = token ≡ text
Spells (word text) (amount n) token = ⊥
Spells (word text) (given bs) token = ⊥
Spells (number least most) nothing token = ⊥
Spells (number least most) (amount n) token = (token ≡ decimal n) × (least ≤ n) × (n ≤ most)
Spells (number least most) (given bs) token = ⊥
Spells (bytes least most) nothing token = ⊥
Spells (bytes least most) (amount n) token = ⊥
Spells (bytes least most) (given bs) token = (spelled_bytes token ≡ Some bs) × (least ≤ length bs) × (length bs ≤ most)

-- tokens of these kinds spell these values
abbrev pub AreSpelled : List Kind → List Value → List (List ℕ) → Type 0
AreSpelled [] [] [] = Unit {0}
AreSpelled [] [] (token ∷ rest) = ⊥
AreSpelled [] (value ∷ values) parts = ⊥
AreSpelled (kind ∷ kinds) [] parts = ⊥
AreSpelled (kind ∷ kinds) (value ∷ values) [] = ⊥
AreSpelled (kind ∷ kinds) (value ∷ values) (token ∷ rest) = Spells kind value token × AreSpelled kinds values rest

-- the greatest number of each kind is one of 64 bits
abbrev pub KindFits : Kind → Type 0
KindFits (word text) = Unit {0}
KindFits (number least most) = most < 2 ^ 64
KindFits (bytes least most) = Unit {0}

-- so it is for all kinds
abbrev pub KindsFit : List Kind → Type 0
KindsFit [] = Unit {0}
KindsFit (kind ∷ kinds) = KindFits kind × KindsFit kinds

both : (a b : Bool) → a ≡ true → b ≡ true → (a && b) ≡ true
both a b e h = rw (e, h) refl

-- a number that lies in a range
pub within_range : (least most n : ℕ) → least ≤ n → n ≤ most → is_within least most n ≡ true
within_range least most n low high = grind (arith, nat_tests)

pub within_told : (least most n : ℕ) → is_within least most n ≡ true → (least ≤ n) × (n ≤ most)
within_told least most n told = let parts = and_parts (nat_le least n) (nat_le n most) told in (grind (arith, nat_tests), grind (arith, nat_tests))

-- a decimal spelling has its number
pub number_of_decimal : (n : ℕ) → n < 2 ^ 64 → spelled_number (decimal n) ≡ Some n
number_of_decimal n small =
    let value : number_value (decimal n) ≡ n = (decimal_is_IsNumeral n small).1 in
    let same : bytes_eq (decimal n) (decimal (number_value (decimal n))) ≡ true =
    (bytes_eq-Decides (decimal n) (decimal (number_value (decimal n)))).1 (ap decimal (sym value)) in
    ap (λ (b : Bool). if b then Some (number_value (decimal n)) else None) same ∙ ap (λ (m : ℕ). Some m) value

some_if : (b : Bool) (m n : ℕ) → (if b then Some m else None) ≡ Some n → (b ≡ true) × (m ≡ n)
some_if true m n e = (refl, cc)
some_if false m n e = cc

-- and what has a number is its decimal spelling
pub decimal_of_number : (token : List ℕ) (n : ℕ) → spelled_number token ≡ Some n → token ≡ decimal n
decimal_of_number token n e =
    let parts = some_if (bytes_eq token (decimal (number_value token))) (number_value token) n e in
    (bytes_eq-Decides token (decimal (number_value token))).0 parts.0 ∙ ap decimal parts.1

-- a number in its range
pub value_of_number : (least most n : ℕ) → n < 2 ^ 64 → least ≤ n → n ≤ most
    → value_of (number least most) (decimal n) ≡ Some (amount n)
value_of_number least most n small low high =
    ap (number_within least most) (number_of_decimal n small)
    ∙ ap (λ (b : Bool). if b then Some (amount n) else None) (within_range least most n low high)

some_amount : (b : Bool) (n : ℕ) (value : Value) → (if b then Some (amount n) else None) ≡ Some value → (b ≡ true) × (amount n ≡ value)
some_amount true n value e = (refl, cc)
some_amount false n value e = cc

some_given : (b : Bool) (bs : List ℕ) (value : Value) → (if b then Some (given bs) else None) ≡ Some value → (b ≡ true) × (given bs ≡ value)
some_given true bs value e = (refl, cc)
some_given false bs value e = cc

some_nothing : (b : Bool) (value : Value) → (if b then Some nothing else None) ≡ Some value → (b ≡ true) × (nothing ≡ value)
some_nothing true value e = (refl, cc)
some_nothing false value e = cc

-- what a number in a range comes from
number_from : (least most : ℕ) (o : Option ℕ) (token : List ℕ) (value : Value) → ((n : ℕ) → o ≡ Some n → token ≡ decimal n)
    → number_within least most o ≡ Some value → Spells (number least most) value token
number_from least most None token value spelled e = cc e
number_from least most (Some n) token value spelled e =
    let parts = some_amount (is_within least most n) n value e in
    subst (λ (v : Value). Spells (number least most) v token) parts.1 (spelled n refl, (within_told least most n parts.0).0, (within_told least most n parts.0).1)

bytes_from : (least most : ℕ) (o : Option (List ℕ)) (token : List ℕ) (value : Value) → spelled_bytes token ≡ o
    → bytes_within least most o ≡ Some value → Spells (bytes least most) value token
bytes_from least most None token value is e = cc e
bytes_from least most (Some bs) token value is e =
    let parts = some_given (is_within least most (length bs)) bs value e in
    subst (λ (v : Value). Spells (bytes least most) v token) parts.1 (is, (within_told least most (length bs) parts.0).0, (within_told least most (length bs) parts.0).1)

-- a token that says a value spells it
pub spells_to : (kind : Kind) (value : Value) (token : List ℕ) → value_of kind token ≡ Some value → Spells kind value token
spells_to (word text) value token e =
    let parts = some_nothing (bytes_eq token text) value e in
    subst (λ (v : Value). Spells (word text) v token) parts.1 ((bytes_eq-Decides token text).0 parts.0)
spells_to (number least most) value token e =
    number_from least most (spelled_number token) token value (decimal_of_number token) e
spells_to (bytes least most) value token e = bytes_from least most (spelled_bytes token) token value refl e

-- and a token that spells a value says it
pub spells_from : (kind : Kind) (value : Value) (token : List ℕ) → KindFits kind → Spells kind value token → value_of kind token ≡ Some value
spells_from (word text) nothing token fits is =
    ap (λ (b : Bool). if b then Some nothing else None) ((bytes_eq-Decides token text).1 is)
spells_from (word text) (amount n) token fits is = absurd is
spells_from (word text) (given bs) token fits is = absurd is
spells_from (number least most) nothing token fits is = absurd is
spells_from (number least most) (amount n) token fits is =
    ap (value_of (number least most)) is.0 ∙ value_of_number least most n (omega (arith, is.2, fits)) is.1 is.2
spells_from (number least most) (given bs) token fits is = absurd is
spells_from (bytes least most) nothing token fits is = absurd is
spells_from (bytes least most) (amount n) token fits is = absurd is
spells_from (bytes least most) (given bs) token fits is =
    ap (bytes_within least most) is.0
    ∙ ap (λ (b : Bool). if b then Some (given bs) else None) (within_range least most (length bs) is.1 is.2)

-- what a value with those behind it comes from
before_to : (column : ℕ) (o : Option Value) (more : Result (List Value) ℕ) (values : List Value) → value_before column o more ≡ Ok values
    → (v : Value) × (vs : List Value) × (o ≡ Some v) × (more ≡ Ok vs) × (values ≡ v ∷ vs)
before_to column None more values e = cc e
before_to column (Some v) (Ok vs) values e = (v, vs, refl, refl, cc)
before_to column (Some v) (Err later) values e = cc e

-- tokens that say values spell them
pub spelled_to : (column : ℕ) (kinds : List Kind) (values : List Value) (parts : List (List ℕ))
    → values_of column kinds parts ≡ Ok values → AreSpelled kinds values parts
spelled_to column [] [] [] e = tt
spelled_to column [] (v ∷ values) [] e = cc e
spelled_to column [] values (token ∷ rest) e = cc e
spelled_to column (kind ∷ kinds) values [] e = cc e
spelled_to column (kind ∷ kinds) values (token ∷ rest) e =
    let parts = before_to column (value_of kind token) (values_of (column + length token + 1) kinds rest) values e in
    subst (λ (vs : List Value). AreSpelled (kind ∷ kinds) vs (token ∷ rest)) (sym parts.4)
    (spells_to kind parts.0 token parts.2, spelled_to (column + length token + 1) kinds parts.1 rest parts.3)

-- and tokens that spell values say them
pub spelled_from : (column : ℕ) (kinds : List Kind) (values : List Value) (parts : List (List ℕ)) → KindsFit kinds
    → AreSpelled kinds values parts → values_of column kinds parts ≡ Ok values
spelled_from column [] [] [] fit are = refl
spelled_from column [] [] (token ∷ rest) fit are = absurd are
spelled_from column [] (v ∷ values) parts fit are = absurd are
spelled_from column (kind ∷ kinds) [] parts fit are = absurd are
spelled_from column (kind ∷ kinds) (v ∷ values) [] fit are = absurd are
spelled_from column (kind ∷ kinds) (v ∷ values) (token ∷ rest) fit are =
    let first = spells_from kind v token fit.0 are.0 in
    let more = spelled_from (column + length token + 1) kinds values rest fit.1 are.1 in
    ap (λ (o : Option Value). value_before column o (values_of (column + length token + 1) kinds rest)) first
    ∙ ap (value_before column (Some v)) more

-- nor is the spelling of a number out of the range
pub out_of_range : (least most n : ℕ) (token : List ℕ) → n < 2 ^ 64 → token ≡ decimal n → ¬ ((least ≤ n) × (n ≤ most))
    → value_of (number least most) token ≡ None
out_of_range least most n token small spelled outside =
    ap (λ (t : List ℕ). number_within least most (spelled_number t)) spelled
    ∙ ap (number_within least most) (number_of_decimal n small)
    ∙ ⊎_elim
    (λ (passes : is_within least most n ≡ true). absurd (outside (within_told least most n passes)))
    (λ (fails : is_within least most n ≡ false). ap (λ (b : Bool). if b then Some (amount n) else None) fails)
    (cases_Bool (is_within least most n))

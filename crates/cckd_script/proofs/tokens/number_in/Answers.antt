use Rattle.std.proofs.Common.{◌≡◌, ℕ, ◌<◌, ◌^◌, decimal, Result, Err, Ok, sym, ◌∙◌, ap, subst, arith, List}
use Rattle.std.specs.Str.{IsUtf8}
use Rattle.std.specs.Str.Parse.{ParsesUnsigned}
use Rattle.std.proofs.lemmas.Fmt.{IsAscii-decimal, parse-decimal}
use Rattle.std.proofs.lemmas.Str.{IsUtf8-from_ascii}
use Rattle.std.proofs.lemmas.Slice.Eq.{slice_eq-Decides}
use Rattle.std.proofs.lemmas.Bool.Decides.{Decides-eqb}
use Rattle.std.proofs.lemmas.Bool.{false≢true}
use Rattle.cckd_script.proofs.tokens.number_in.Goals as goal

-- the digits of a number are text
utf8_of_decimal : (n : ℕ) (word : List ℕ) → n < 2 ^ 32 → word ≡ decimal n → IsUtf8 word
utf8_of_decimal n word small e =
    subst IsUtf8 (sym e) (IsUtf8-from_ascii (decimal n) (IsAscii-decimal n (omega arith)))

-- the digits of a number are read as that number
read_is : {E : Type 0} (n : ℕ) (text word : List ℕ) (r : Result ℕ E) → n < 2 ^ 32 → text ≡ word → word ≡ decimal n
    → ParsesUnsigned 32 10 text r → r ≡ Ok n
read_is n text word r small is e read = parse-decimal 32 n text r small (omega arith) (is ∙ e) read

-- and as no other
read_one : (m n : ℕ) (text word : List ℕ) → n < 2 ^ 32 → text ≡ word → word ≡ decimal n
    → ParsesUnsigned {E = Unit {0}} 32 10 text (Ok m) → m ≡ n
read_one m n text word small is e read =
    let given : Result ℕ (Unit {0}) = Ok m in
    let r : given ≡ Ok n = read_is n text word given small is e read in cc r

pub returns-in_default-clause-none : goal.returns-in_default-clause-none
returns-in_default-clause-none c = λ n small e. c.in_default.ensures.cases.0 (utf8_of_decimal n _ small e)

pub returns-in_default-parse-clause-none : goal.returns-in_default-parse-clause-none
returns-in_default-parse-clause-none c = λ n small e.
    let read = read_is n _ _ (Err c.in_default-parse.field-0) small c.in-Ok.ensures.cases.0 e c.in_default-parse.ensures.value.0 in cc read

pub returns-else-eq-clause-none : goal.returns-else-eq-clause-none
returns-else-eq-clause-none c = λ n small e.
    let number = read_one c.in-Ok-parse.number n _ _ small c.in-Ok.ensures.cases.0 e c.in-Ok-parse.ensures.value.0 in
    let same : c.as_bytes.result.now ≡ c.args.token.now =
    c.as_bytes.ensures.value ∙ c.format.ensures.text ∙ ap decimal number ∙ sym e in
    false≢true (sym c.if-eq.false ∙ (slice_eq-Decides Decides-eqb _ _ _ c.eq.ensures).1 same)

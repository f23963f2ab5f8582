use Rattle.std.proofs.Common.{◌≡◌, ℕ, ◌<◌, ◌^◌, decimal, Result, Err, Ok, sym, ◌∙◌, ap, arith, List}
use Rattle.std.specs.Str.Parse.{ParsesUnsigned}
use Rattle.std.proofs.lemmas.Fmt.{parse-decimal}
use Rattle.std.proofs.lemmas.Slice.Eq.{slice_eq-Decides}
use Rattle.std.proofs.lemmas.Bool.Decides.{Decides-eqb}
use Rattle.std.proofs.lemmas.Bool.{false≢true}
use Rattle.cckd_top.proofs.words.number_in.Goals as goal

-- the digits of a number are read as that number, and as no other
read_is : {E : Type 0} (n : ℕ) (word : List ℕ) (r : Result ℕ E) → n < 2 ^ 32 → word ≡ decimal n → ParsesUnsigned 32 10 word r → r ≡ Ok n
read_is n word r small e read = parse-decimal 32 n word r small (omega arith) e read

read_one : (m n : ℕ) (word : List ℕ) → n < 2 ^ 32 → word ≡ decimal n → ParsesUnsigned {E = Unit {0}} 32 10 word (Ok m) → m ≡ n
read_one m n word small e read =
    let given : Result ℕ (Unit {0}) = Ok m in
    let r : given ≡ Ok n = read_is n word given small e read in cc r

pub returns-in_default-clause-none : goal.returns-in_default-clause-none
returns-in_default-clause-none c = λ n small e.
    let read = read_is n _ (Err c.in_default.field-0) small e c.in_default.ensures.value.0 in cc read

pub returns-else-eq-clause-none : goal.returns-else-eq-clause-none
returns-else-eq-clause-none c = λ n small e.
    let number = read_one c.in-Ok.number n _ small e c.in-Ok.ensures.value.0 in
    let same : c.format.result.now ≡ c.args.word.now = c.format.ensures.text ∙ ap decimal number ∙ sym e in
    false≢true (sym c.if-eq.false ∙ (slice_eq-Decides Decides-eqb _ _ _ c.eq.ensures).1 same)

-- One record after the other, as the first fault of a track's records is sought.
use Rattle.std.proofs.Common.{◌≡◌, ℕ, zero, suc, ◌+◌, ◌≤◌, Bool, true, false, cond, ltb, List, [], ◌∷◌, length, take, drop, Option, Some, Result, Ok, Err, refl, sym, ap, ◌∙◌, add-zero, arith}
use Rattle.std.specs.Prelude.{pred, not}
use Rattle.std.specs.Str.{bytes_eq}
use Rattle.std.proofs.lemmas.Bool.{ltb-false, le-ltb, not-false}
use Rattle.cckd_base.specs.declared.fault.TrackFault.{TrackFault}
use Rattle.cckd_base.specs.declared.fault.TrackFault.TheVariants.{NoEnd, BadRecord}
use Rattle.cckd_base.specs.Track.{end_mark, key_length, body_length, may_stand, end_verdict, record_at, records_fault}

pub passed : (at n : ℕ) (xs : List ℕ) → n ≤ length xs → records_fault at n xs ≡ records_fault (at + n) 0 (drop n xs)
unfolding records_fault
passed at zero xs h = rw add-zero refl
passed at (suc n) [] h = absurd (omega arith)
passed at (suc n) (x ∷ xs) h =
    let e : suc at + n ≡ at + suc n = omega arith in
    passed (suc at) n xs (omega arith) ∙ ap (λ (k : ℕ). records_fault k 0 (drop n xs)) e

-- how the search goes on behind the first byte of a count
abbrev followed : ℕ → List ℕ → Result ℕ (Option TrackFault) → Option TrackFault
followed at bytes found = elim found [ Ok count ↦ records_fault (suc at) (pred count) bytes | Err verdict ↦ verdict ]

first_step : (at b : ℕ) (bytes : List ℕ) → records_fault at 0 (b ∷ bytes) ≡ followed at bytes (record_at at (b ∷ bytes))
unfolding records_fault
first_step at b bytes = refl

pub verdict_stands : (at : ℕ) (bytes : List ℕ) (verdict : Option TrackFault) → record_at at bytes ≡ Err verdict → records_fault at 0 bytes ≡ verdict
unfolding records_fault
verdict_stands at [] verdict e = cc
verdict_stands at (b ∷ bytes) verdict e = first_step at b bytes ∙ ap (followed at bytes) e

-- ---- what a count that may stand says

pub record IsCount (at : ℕ) (bytes : List ℕ) (n : ℕ) : Type 0 where
  pub long : 8 ≤ length bytes
  pub no_mark : bytes_eq (take 8 bytes) end_mark ≡ false
  pub stands : may_stand at bytes ≡ true
  pub size : n ≡ 8 + key_length bytes + body_length bytes
  pub whole : n ≤ length bytes

guard_ok : {A B : Type 0} (b : Bool) (d : B) (r : Result A B) (y : A) → cond b (Err d) r ≡ Ok y → (b ≡ false) × (r ≡ Ok y)
guard_ok true d r y e = absurd cc
guard_ok false d r y e = (refl, e)

ok_is : {A B : Type 0} (x y : A) (r : Result A B) → r ≡ Ok x → r ≡ Ok y → x ≡ y
ok_is x y r e f = cc

pub counted : (at : ℕ) (bytes : List ℕ) (n : ℕ) → record_at at bytes ≡ Ok n → IsCount at bytes n
counted at bytes n e =
    let size = 8 + key_length bytes + body_length bytes in
    let g1 = guard_ok (ltb (length bytes) 8) (Some (NoEnd at)) _ n e in
    let g2 = guard_ok (bytes_eq (take 8 bytes) end_mark) (end_verdict at bytes) _ n g1.1 in
    let g3 = guard_ok (not (may_stand at bytes)) (Some (BadRecord at)) _ n g2.1 in
    let g4 = guard_ok (ltb (length bytes) size) (Some (BadRecord at)) (Ok size) n g3.1 in
    let same : size ≡ n = ok_is size n (Ok size) refl g4.1 in
    let whole : size ≤ length bytes = ltb-false _ _ g4.0 in
    record {
      long = ltb-false _ _ g1.0;
      no_mark = g2.0;
      stands = not-false _ g3.0;
      size = sym same;
      whole = rw (← same) whole;
    }

pub count_stands : (at : ℕ) (bytes : List ℕ) (n : ℕ) → IsCount at bytes n → record_at at bytes ≡ Ok n
count_stands at bytes n h =
    let size = 8 + key_length bytes + body_length bytes in
    let long : ltb (length bytes) 8 ≡ false = le-ltb _ _ h.long in
    let whole : ltb (length bytes) size ≡ false = le-ltb _ _ (omega (arith, h.whole, h.size)) in
    rw (long, h.no_mark, h.stands, whole) (ap (λ (k : ℕ). Ok k) (sym h.size))

pub record_passed : (at : ℕ) (bytes : List ℕ) (n : ℕ) → record_at at bytes ≡ Ok n → records_fault at 0 bytes ≡ records_fault (at + n) 0 (drop n bytes)
record_passed at [] n e = let h = counted at [] n e in absurd (omega (arith, h.long))
record_passed at (b ∷ bytes) zero e = let h = counted at (b ∷ bytes) zero e in absurd (omega (arith, h.size))
record_passed at (b ∷ bytes) (suc n) e =
    let h = counted at (b ∷ bytes) (suc n) e in
    let on : suc at + n ≡ at + suc n = omega arith in
    first_step at b bytes ∙ ap (followed at bytes) e
    ∙ passed (suc at) n bytes (omega (arith, h.whole))
    ∙ ap (λ (k : ℕ). records_fault k 0 (drop n bytes)) on

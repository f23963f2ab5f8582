-- Where the search for a fault stops: behind whole records.
use Rattle.std.proofs.Common.{◌≡◌, ℕ, zero, suc, ◌+◌, ◌<◌, ◌≤◌, ◌⊎◌, false, eqb, List, [], ◌∷◌, ◌++◌, length, drop, Option, Result, Ok, Err, refl, sym, ap, subst, ◌∙◌, add-zero, arith, inl, inr, append_assoc, length-append, length-drop}
use Rattle.std.specs.List.{flat_map, AllByRecursion}
use Rattle.std.proofs.lemmas.Bool.{and_parts, not-true, eqb-true, eqb-false, ne_eqb}
use Rattle.std.proofs.lemmas.List.{nil_from_length}
use Rattle.cckd_base.specs.declared.fault.TrackFault.{TrackFault}
use Rattle.cckd_base.specs.Track.{CountKeyData, spelling, IsRecordZero, IsUserRecord, AreRecords, record_number, key_length, record_at, records_fault}
use Rattle.cckd_base.proofs.RecordLemmas.{IsCount, counted, record_passed, verdict_stands}
use Rattle.cckd_base.proofs.GrammarLemmas.{IsBytes, IsBytes-drop, record_of, Spells, count_spelled}

pub spells_counted : (at n : ℕ) (bytes : List ℕ) → IsBytes bytes → IsCount at bytes n → Spells bytes n
spells_counted at n bytes byte h = count_spelled bytes n byte h.long h.size h.whole

pub is_user_record : (at n : ℕ) (bytes : List ℕ) → 5 < at → IsBytes bytes → IsCount at bytes n → IsUserRecord (record_of bytes)
is_user_record at n bytes behind byte h =
    let other : eqb at 5 ≡ false = ne_eqb at 5 (λ e. omega arith) in
    let named : eqb (record_number bytes) 0 ≡ false = not-true _ (rw other at h.stands) in
    record {
      fits = (spells_counted at n bytes byte h).fits;
      number = omega (arith, eqb-false (record_number bytes) 0 named);
    }

pub is_record_zero : (n : ℕ) (bytes : List ℕ) → IsBytes bytes → IsCount 5 bytes n → IsRecordZero (record_of bytes)
is_record_zero n bytes byte h =
    let s = spells_counted 5 n bytes byte h in
    let parts = and_parts _ _ h.stands in
    let front = and_parts _ _ parts.0 in
    let keyless : key_length bytes ≡ 0 = eqb-true _ _ front.1 in
    record {
      fits = s.fits;
      number = eqb-true _ _ front.0;
      key = nil_from_length _ (s.key ∙ keyless);
      body = s.body ∙ eqb-true _ _ parts.1;
    }

-- whole user records, and then a place where none stands
pub record UsersStop (at : ℕ) (bytes : List ℕ) (verdict : Option TrackFault) : Type 0 where
  pub records : List CountKeyData
  pub rest : List ℕ
  pub front : bytes ≡ flat_map spelling records ++ rest
  pub users : AllByRecursion IsUserRecord records
  pub stop : record_at (at + length (flat_map spelling records)) rest ≡ Err verdict

one_more : (at n : ℕ) (bytes : List ℕ) (verdict : Option TrackFault) → 5 < at → IsBytes bytes → record_at at bytes ≡ Ok n → UsersStop (at + n) (drop n bytes) verdict → UsersStop at bytes verdict
one_more at n bytes verdict behind byte found later =
    let h = counted at bytes n found in
    let s = spells_counted at n bytes byte h in
    let r = record_of bytes in
    let spelled = flat_map spelling later.records in
    let place : at + n + length spelled ≡ at + length (spelling r ++ spelled) = omega (arith, s.size, length-append (spelling r) spelled) in
    record {
      records = r ∷ later.records;
      rest = later.rest;
      front = s.spelled ∙ ap (λ (b : List ℕ). spelling r ++ b) later.front ∙ sym (append_assoc (spelling r) spelled later.rest);
      users = (is_user_record at n bytes behind byte h, later.users);
      stop = subst (λ (k : ℕ). record_at k later.rest ≡ Err verdict) place later.stop;
    }

stopped_at_once : (at : ℕ) (bytes : List ℕ) (verdict : Option TrackFault) → record_at at bytes ≡ Err verdict → UsersStop at bytes verdict
stopped_at_once at bytes verdict found = record {
  records = [];
  rest = bytes;
  front = refl;
  users = tt;
  stop = subst (λ (k : ℕ). record_at k bytes ≡ Err verdict) (sym (add-zero at)) found;
}

by_what_stands : (at : ℕ) (bytes : List ℕ) (found : Result ℕ (Option TrackFault)) → 5 < at → IsBytes bytes → record_at at bytes ≡ found → ((n : ℕ) → record_at at bytes ≡ Ok n → UsersStop (at + n) (drop n bytes) (records_fault (at + n) 0 (drop n bytes))) → UsersStop at bytes (records_fault at 0 bytes)
by_what_stands at bytes (Ok n) behind byte found later = rw (record_passed at bytes n found) (one_more at n bytes _ behind byte found (later n found))
by_what_stands at bytes (Err verdict) behind byte found later = rw (verdict_stands at bytes verdict found) (stopped_at_once at bytes verdict found)

users_stop_within : (most at : ℕ) (bytes : List ℕ) → length bytes ≤ most → 5 < at → IsBytes bytes → UsersStop at bytes (records_fault at 0 bytes)
users_stop_within zero at bytes short behind byte =
    by_what_stands at bytes (record_at at bytes) behind byte refl
    (λ n found. let h = counted at bytes n found in absurd (omega (arith, h.long)))
users_stop_within (suc most) at bytes short behind byte =
    by_what_stands at bytes (record_at at bytes) behind byte refl
    (λ n found.
    let h = counted at bytes n found in
    users_stop_within most (at + n) (drop n bytes) (omega (arith, h.size, h.whole, length-drop n bytes)) (omega arith) (IsBytes-drop n bytes byte))

-- whole records from place 5 on, and then a place where none stands
pub record RecordsStop (bytes : List ℕ) (verdict : Option TrackFault) : Type 0 where
  pub records : List CountKeyData
  pub rest : List ℕ
  pub front : bytes ≡ flat_map spelling records ++ rest
  pub in_order : (records ≡ []) ⊎ AreRecords records
  pub stop : record_at (5 + length (flat_map spelling records)) rest ≡ Err verdict

zero_first : (n : ℕ) (bytes : List ℕ) (verdict : Option TrackFault) → IsBytes bytes → IsCount 5 bytes n → UsersStop (5 + n) (drop n bytes) verdict → RecordsStop bytes verdict
zero_first n bytes verdict byte h later =
    let s = spells_counted 5 n bytes byte h in
    let r = record_of bytes in
    let spelled = flat_map spelling later.records in
    let place : 5 + n + length spelled ≡ 5 + length (spelling r ++ spelled) = omega (arith, s.size, length-append (spelling r) spelled) in
    record {
      records = r ∷ later.records;
      rest = later.rest;
      front = s.spelled ∙ ap (λ (b : List ℕ). spelling r ++ b) later.front ∙ sym (append_assoc (spelling r) spelled later.rest);
      in_order = inr (is_record_zero n bytes byte h, later.users);
      stop = subst (λ (k : ℕ). record_at k later.rest ≡ Err verdict) place later.stop;
    }

from_record_zero : (bytes : List ℕ) (found : Result ℕ (Option TrackFault)) → IsBytes bytes → record_at 5 bytes ≡ found → RecordsStop bytes (records_fault 5 0 bytes)
from_record_zero bytes (Err verdict) byte found = rw (verdict_stands 5 bytes verdict found) (record { records = []; rest = bytes; front = refl; in_order = inl refl; stop = found })
from_record_zero bytes (Ok n) byte found =
    let h = counted 5 bytes n found in
    let later = users_stop_within (length bytes) (5 + n) (drop n bytes) (omega (arith, length-drop n bytes)) (omega (arith, h.size)) (IsBytes-drop n bytes byte) in
    rw (record_passed 5 bytes n found) (zero_first n bytes (records_fault (5 + n) 0 (drop n bytes)) byte h later)

pub records_stop : (bytes : List ℕ) → IsBytes bytes → RecordsStop bytes (records_fault 5 0 bytes)
records_stop bytes byte = from_record_zero bytes (record_at 5 bytes) byte refl

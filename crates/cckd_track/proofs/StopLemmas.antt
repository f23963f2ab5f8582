-- The first fault behind a home address is that of the place behind the last whole record.
use Rattle.std.proofs.Common.{◌≡◌, ℕ, ◌+◌, ◌%◌, ◌≤◌, true, false, eqb, List, ◌++◌, length, take, drop, Option, Some, Err, refl, sym, ap, subst, ◌∙◌, arith, inl, inr, length-append}
use Rattle.std.specs.List.{flat_map}
use Rattle.std.proofs.lemmas.Bool.{cases_eq, ne_eqb, eq-eqb}
use Rattle.cckd_base.specs.declared.geometry.Geometry.{Geometry}
use Rattle.cckd_base.specs.declared.fault.TrackFault.{TrackFault}
use Rattle.cckd_base.specs.declared.fault.TrackFault.TheVariants.{NoEnd, BadRecord}
use Rattle.cckd_base.specs.Track.{CountKeyData, spelling, end_mark, home_address, FitsCount, may_stand, end_verdict, record_at, records_fault, track_fault}
use Rattle.cckd_base.proofs.RecordLemmas.{count_stands}
use Rattle.cckd_base.proofs.TrackLemmas.{length-spelling, spelled_count, zero_stands, user_stands, HasHome, home_passed}
use Rattle.cckd_base.proofs.GrammarLemmas.{IsBytes, IsBytes-drop}
use Rattle.cckd_base.proofs.StopLemmas.{RecordsStop, records_stop}
use Rattle.cckd_base.proofs.FaultlessLemmas.{stop_said}
use Rattle.cckd_track.specs.Stop.{MayStandAt, HasRecord, IsFaultAt, StopsAt, StopsBehindRecords}

fits_count : (at : ℕ) (r : CountKeyData) → MayStandAt at r → FitsCount r
fits_count at r (inl zero) = zero.1.fits
fits_count at r (inr user) = user.1.fits

stands : (at : ℕ) (r : CountKeyData) (more : List ℕ) → MayStandAt at r → may_stand at (spelling r ++ more) ≡ true
stands at r more (inl zero) = subst (λ (k : ℕ). may_stand k (spelling r ++ more) ≡ true) (sym zero.0) (zero_stands r more zero.1)
stands at r more (inr user) = user_stands at r more user.0 user.1

no_record_stands : (at : ℕ) (rest : List ℕ) (verdict : Option TrackFault) → length rest ≤ 65535 → record_at at rest ≡ Err verdict → ¬ HasRecord at rest
no_record_stands at rest verdict short said (r, more, may, spelled) =
    let len = ap length spelled ∙ length-spelling r more in
    let found = count_stands at (spelling r ++ more) (length (spelling r)) (spelled_count at r more (fits_count at r may) (omega arith) (stands at r more may)) in
    let other = subst (λ (b : List ℕ). record_at at b ≡ Err verdict) spelled said in
    absurd cc

mark_fault : (at : ℕ) (rest : List ℕ) (fault : TrackFault) → 5 ≤ at → ¬ HasRecord at rest → 8 ≤ length rest → take 8 rest ≡ end_mark → Some fault ≡ end_verdict at rest → IsFaultAt at rest fault
mark_fault at rest fault from none enough mark said =
    elim (cases_eq at 5) [
      | inl first ↦
          let here : eqb at 5 ≡ true = eq-eqb at 5 first in
          let is : BadRecord at ≡ fault = let e = rw here at said in cc in
          subst (IsFaultAt at rest) is (inl (refl, record { enough = enough; no_record = none; no_end = λ behind. absurd (omega arith) }))
      | inr later ↦
          let there : eqb at 5 ≡ false = ne_eqb at 5 later in
          elim (cases_eq (length rest) 8) [
            | inl all ↦
                let last : eqb (length rest) 8 ≡ true = eq-eqb (length rest) 8 all in
                let e = rw (there, last) at said in
                absurd cc
            | inr more ↦
                let longer : eqb (length rest) 8 ≡ false = ne_eqb (length rest) 8 more in
                let is : BadRecord (at + 8) ≡ fault = let e = rw (there, longer) at said in cc in
                subst (IsFaultAt at rest) is (inr (refl, record { behind = omega arith; marked = mark; more = omega arith }))
          ]
    ]

pub fault_at : (at : ℕ) (rest : List ℕ) (fault : TrackFault) → 5 ≤ at → length rest ≤ 65535 → record_at at rest ≡ Err (Some fault) → IsFaultAt at rest fault
fault_at at rest fault from short found =
    let none = no_record_stands at rest (Some fault) short found in
    elim (stop_said at rest (Some fault) found) [
      | inl few ↦
          let is : NoEnd at ≡ fault = let e = few.said in cc in
          subst (IsFaultAt at rest) is (refl, few.short)
      | inr (inl mark) ↦ mark_fault at rest fault from none mark.long mark.mark mark.said
      | inr (inr unfit) ↦
          let is : BadRecord at ≡ fault = let e = unfit.said in cc in
          subst (IsFaultAt at rest) is (inl (refl, record { enough = unfit.long; no_record = none; no_end = λ behind. unfit.no_mark }))
    ]

home_of : (geo : Geometry) (t : ℕ) (bytes : List ℕ) (flag : ℕ) (rest : List ℕ) → length bytes ≤ geo.track_size → flag % 4 ≡ 0 → bytes ≡ home_address geo t flag ++ rest → HasHome geo t bytes
home_of geo t bytes flag rest within plain spelled =
    subst (HasHome geo t) (sym spelled) (record {
      within = subst (λ (b : List ℕ). length b ≤ geo.track_size) spelled within;
      long = omega arith;
      plain = plain;
      here = refl;
    })

stops_at : (bytes : List ℕ) (fault : TrackFault) → length bytes ≤ 65535 → RecordsStop bytes (Some fault) → StopsAt bytes fault
stops_at bytes fault short s =
    let front = s.front in
    let len = ap length front ∙ length-append (flat_map spelling s.records) s.rest in
    record {
      records = s.records;
      rest = s.rest;
      front = s.front;
      in_order = s.in_order;
      stop = fault_at (5 + length (flat_map spelling s.records)) s.rest fault (omega arith) (omega arith) s.stop;
    }

pub stops_behind : (geo : Geometry) (t : ℕ) (bytes : List ℕ) (fault : TrackFault) → IsBytes bytes → length bytes ≤ 65535 → track_fault geo t bytes ≡ Some fault → StopsBehindRecords geo t bytes fault
stops_behind geo t bytes fault byte short found flag rest within plain spelled =
    let home = home_of geo t bytes flag rest within plain spelled in
    let left : drop 5 bytes ≡ rest = ap (λ (b : List ℕ). drop 5 b) spelled in
    let said : records_fault 5 0 rest ≡ Some fault = ap (records_fault 5 0) (sym left) ∙ sym (home_passed geo t bytes home) ∙ found in
    let fits : length rest ≤ 65535 = omega (arith, ap length spelled) in
    stops_at rest fault fits (subst (RecordsStop rest) said (records_stop rest (subst IsBytes left (IsBytes-drop 5 bytes byte))))

-- Bytes have no fault exactly where they are a track of the grammar.
use Rattle.std.proofs.Common.{◌≡◌, ◌≢◌, ◌↔◌, ◌⊎◌, ℕ, ◌+◌, ◌/◌, ◌%◌, ◌<◌, ◌≤◌, Bool, true, false, cond, eqb, ltb, List, [], ◌∷◌, ◌++◌, length, get_or, take, drop, Option, Some, None, Ok, Err, refl, sym, ap, subst, ◌∙◌, arith, inl, inr}
use Rattle.std.specs.Prelude.{not}
use Rattle.std.specs.List.{flat_map}
use Rattle.std.specs.Str.{bytes_eq}
use Rattle.std.proofs.lemmas.Bool.{ltb-true, ltb-false, eqb-true, eqb-false}
use Rattle.std.proofs.lemmas.List.{take-append-drop, take_all}
use Rattle.std.proofs.lemmas.Slice.Eq.{bytes_eq-Decides}
use Rattle.cckd_base.specs.declared.geometry.Geometry.{Geometry}
use Rattle.cckd_base.specs.declared.fault.TrackFault.{TrackFault}
use Rattle.cckd_base.specs.declared.fault.TrackFault.TheVariants.{NoEnd, BadRecord}
use Rattle.cckd_base.specs.Geometry.{IsGeometry}
use Rattle.cckd_base.specs.Track.{CountKeyData, address_bytes, spelled_track, spelling, end_mark, AreRecords, IsTrack, key_length, body_length, may_stand, end_verdict, record_at, records_fault, track_fault}
use Rattle.cckd_base.proofs.GrammarLemmas.{IsBytes, IsBytes-drop}
use Rattle.cckd_base.proofs.StopLemmas.{RecordsStop, records_stop}
use Rattle.cckd_base.proofs.TrackLemmas.{HasHome, home_passed, starts_home, parts_faultless, accepted_length_lem, track_passes}

-- ---- what a place says at which no record stands

pub record IsShort (at : ℕ) (bytes : List ℕ) (verdict : Option TrackFault) : Type 0 where
  pub short : length bytes < 8
  pub said : verdict ≡ Some (NoEnd at)

pub record IsMarked (at : ℕ) (bytes : List ℕ) (verdict : Option TrackFault) : Type 0 where
  pub long : 8 ≤ length bytes
  pub mark : take 8 bytes ≡ end_mark
  pub said : verdict ≡ end_verdict at bytes

pub record IsUnfit (at : ℕ) (bytes : List ℕ) (verdict : Option TrackFault) : Type 0 where
  pub long : 8 ≤ length bytes
  pub no_mark : take 8 bytes ≢ end_mark
  pub said : verdict ≡ Some (BadRecord at)

by_tests : (short mark unfit part : Bool) (n : ℕ) (x y z v : Option TrackFault) → cond short (Err x) (cond mark (Err y) (cond unfit (Err z) (cond part (Err z) (Ok n)))) ≡ Err v → ((short ≡ true) × (v ≡ x)) ⊎ (((short ≡ false) × (mark ≡ true) × (v ≡ y)) ⊎ ((short ≡ false) × (mark ≡ false) × (v ≡ z)))
by_tests true mark unfit part n x y z v e = inl (refl, cc)
by_tests false true unfit part n x y z v e = inr (inl (refl, refl, cc))
by_tests false false true part n x y z v e = inr (inr (refl, refl, cc))
by_tests false false false true n x y z v e = inr (inr (refl, refl, cc))
by_tests false false false false n x y z v e = absurd cc

pub stop_said : (at : ℕ) (bytes : List ℕ) (verdict : Option TrackFault) → record_at at bytes ≡ Err verdict → IsShort at bytes verdict ⊎ (IsMarked at bytes verdict ⊎ IsUnfit at bytes verdict)
stop_said at bytes verdict e =
    let size = 8 + key_length bytes + body_length bytes in
    let marked = bytes_eq-Decides (take 8 bytes) end_mark in
    elim (by_tests (ltb (length bytes) 8) (bytes_eq (take 8 bytes) end_mark) (not (may_stand at bytes)) (ltb (length bytes) size) size (Some (NoEnd at)) (end_verdict at bytes) (Some (BadRecord at)) verdict e) [
      | inl short ↦ inl (record { short = ltb-true _ _ short.0; said = short.1 })
      | inr (inl mark) ↦ inr (inl (record { long = ltb-false _ _ mark.0; mark = marked.0 mark.1; said = mark.2 }))
      | inr (inr unfit) ↦ inr (inr (record { long = ltb-false _ _ unfit.0; no_mark = λ same. let is_mark = marked.1 same in let no_mark = unfit.1 in absurd cc; said = unfit.2 }))
    ]

by_end_tests : (first last : Bool) (x y : TrackFault) → cond first (Some x) (cond last None (Some y)) ≡ None → (first ≡ false) × (last ≡ true)
by_end_tests true last x y e = absurd cc
by_end_tests false true x y e = (refl, refl)
by_end_tests false false x y e = absurd cc

-- the search ends without a fault at the end mark alone, behind record zero
pub ended : (at : ℕ) (bytes : List ℕ) → record_at at bytes ≡ Err None → (at ≢ 5) × (bytes ≡ end_mark)
ended at bytes e =
    elim (stop_said at bytes None e) [
      | inl short ↦ let v = short.said in absurd cc
      | inr (inl mark) ↦
          let tests = by_end_tests (eqb at 5) (eqb (length bytes) 8) (BadRecord at) (BadRecord (at + 8)) (sym mark.said) in
          let eight = eqb-true _ _ tests.1 in
          (eqb-false _ _ tests.0, sym (take_all 8 bytes (omega arith)) ∙ mark.mark)
      | inr (inr unfit) ↦ let v = unfit.said in absurd cc
    ]

-- ---- the law

pub has_home : (geo : Geometry) (t : ℕ) (bytes : List ℕ) → track_fault geo t bytes ≡ None → HasHome geo t bytes
has_home geo t bytes none =
    let home = starts_home geo t bytes (parts_faultless geo t bytes none).home in
    record { within = (accepted_length_lem geo t bytes none).1; long = home.long; plain = home.plain; here = home.here }

home_split : (bytes : List ℕ) → 5 ≤ length bytes → bytes ≡ get_or bytes 0 0 ∷ (take 4 (drop 1 bytes) ++ drop 5 bytes)
home_split [] long = absurd (omega arith)
home_split (b ∷ bytes) long = ap (λ (s : List ℕ). b ∷ s) (sym (take-append-drop 4 bytes))

pub begins_with_records : (rs : List CountKeyData) → (rs ≡ []) ⊎ AreRecords rs → 5 + length (flat_map spelling rs) ≢ 5 → AreRecords rs
begins_with_records rs (inl none) other = absurd (other (ap (λ (s : List CountKeyData). 5 + length (flat_map spelling s)) none))
begins_with_records rs (inr records) other = records

pub track_of_home : (geo : Geometry) (t : ℕ) (bytes : List ℕ) → HasHome geo t bytes → RecordsStop (drop 5 bytes) None → IsTrack geo t bytes
unfolding spelled_track
track_of_home geo t bytes home s =
    let mark = ended _ _ s.stop in
    let address = address_bytes (t / geo.heads) (t % geo.heads) in
    let behind : drop 5 bytes ≡ flat_map spelling s.records ++ end_mark = s.front ∙ ap (λ (b : List ℕ). flat_map spelling s.records ++ b) mark.1 in (
      get_or bytes 0 0,
      s.records,
      record {
        spelled = home_split bytes home.long ∙ ap (λ (b : List ℕ). get_or bytes 0 0 ∷ (b ++ drop 5 bytes)) home.here ∙ ap (λ (b : List ℕ). get_or bytes 0 0 ∷ (address ++ b)) behind;
        uncompressed = home.plain;
        in_order = begins_with_records s.records s.in_order mark.0;
        fits = home.within;
      },
    )

pub faultless_is_track : (geo : Geometry) (t : ℕ) (bytes : List ℕ) → IsBytes bytes → track_fault geo t bytes ≡ None → IsTrack geo t bytes
faultless_is_track geo t bytes byte none =
    let home = has_home geo t bytes none in
    let left : records_fault 5 0 (drop 5 bytes) ≡ None = sym (home_passed geo t bytes home) ∙ none in
    track_of_home geo t bytes home (subst (RecordsStop (drop 5 bytes)) left (records_stop (drop 5 bytes) (IsBytes-drop 5 bytes byte)))

pub faultless : (geo : Geometry) (t : ℕ) (bytes : List ℕ) → IsGeometry geo → IsBytes bytes → (track_fault geo t bytes ≡ None) ↔ IsTrack geo t bytes
faultless geo t bytes shape byte = (faultless_is_track geo t bytes byte, track_passes geo t bytes shape)

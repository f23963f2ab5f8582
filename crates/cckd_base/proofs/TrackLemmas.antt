-- A track of the grammar has no fault, and null tracks are tracks.
use Rattle.std.proofs.Common.{◌≡◌, ℕ, zero, suc, ◌+◌, ◌/◌, ◌%◌, ◌^◌, ◌<◌, ◌≤◌, ◌≢◌, true, false, eqb, ltb, List, [], ◌∷◌, ◌++◌, length, get_or, take, drop, Option, Some, None, Result, refl, sym, ap, subst, ◌∙◌, arith, inl, inr, append_assoc, length-append, length-drop}
use Rattle.std.specs.List.{flat_map, AllByRecursion}
use Rattle.std.specs.Int.{w16, from_be_bytes}
use Rattle.std.specs.Option.{option_or}
use Rattle.std.specs.Str.{bytes_eq}
use Rattle.std.proofs.lemmas.Bool.{le-ltb, lt-ltb, ne_eqb, eq-eqb, false_from_ne_true, cases_lt, cases_eq, cases_Bool}
use Rattle.std.proofs.lemmas.List.{drop_at}
use Rattle.std.proofs.lemmas.Nat.{from_be_bytes-to_be_bytes_2, div_below, mod_below}
use Rattle.std.proofs.lemmas.Slice.Eq.{bytes_eq-Decides}
use Rattle.cckd_base.specs.declared.geometry.Geometry.{Geometry}
use Rattle.cckd_base.specs.declared.fault.TrackFault.{TrackFault}
use Rattle.cckd_base.specs.declared.fault.TrackFault.TheVariants.{NoEnd, Compressed, WrongTrack}
use Rattle.cckd_base.specs.Geometry.{track_count, address_of, IsGeometry, IsNullFormat}
use Rattle.cckd_base.specs.Track.{CountKeyData, address_bytes, spelled_track, spelling, end_mark, FitsCount, IsRecordZero, IsUserRecord, AreRecords, IsTrack, null_record_zero, null_record_one, null_records, null_track, body_length, may_stand, records_fault, size_fault, home_fault, track_fault, track_value, OkUnless}
use Rattle.cckd_base.proofs.RecordLemmas.{IsCount, count_stands, verdict_stands, record_passed}

-- ---- a record that is spelled is counted

pub length-spelling : (r : CountKeyData) (rest : List ℕ) → length (spelling r ++ rest) ≡ 8 + length r.key + length r.body + length rest
length-spelling r rest = omega (arith, length-append (r.key ++ r.body) rest, length-append r.key r.body)

-- a body of 65,535 bytes could be spelled as the end mark is
pub no_mark_spelled : (r : CountKeyData) (rest : List ℕ) → length r.body < 65535 → bytes_eq (take 8 (spelling r ++ rest)) end_mark ≡ false
no_mark_spelled r rest h =
    false_from_ne_true _ (λ e.
    let same = (bytes_eq-Decides (take 8 (spelling r ++ rest)) end_mark).0 e in
    let high : length r.body / 256 % 256 ≡ 255 = ap (λ (bytes : List ℕ). get_or bytes 6 0) same in
    let low : length r.body % 256 ≡ 255 = ap (λ (bytes : List ℕ). get_or bytes 7 0) same in
    omega arith)

pub spelled_count : (at : ℕ) (r : CountKeyData) (rest : List ℕ) → FitsCount r → length r.body < 65535 → may_stand at (spelling r ++ rest) ≡ true → IsCount at (spelling r ++ rest) (length (spelling r))
spelled_count at r rest fits h stands =
    let body : body_length (spelling r ++ rest) ≡ length r.body = from_be_bytes-to_be_bytes_2 (length r.body) fits.body in
    let len : length (spelling r) ≡ 8 + length r.key + length r.body = omega (arith, length-append r.key r.body) in
    let all = length-spelling r rest in
    record {
      long = omega (arith, all);
      no_mark = no_mark_spelled r rest h;
      stands = stands;
      size = rw body len;
      whole = omega (arith, all, len);
    }

pub spelled_passed : (at : ℕ) (r : CountKeyData) (rest : List ℕ) → FitsCount r → length r.body < 65535 → may_stand at (spelling r ++ rest) ≡ true → records_fault at 0 (spelling r ++ rest) ≡ records_fault (at + length (spelling r)) 0 rest
spelled_passed at r rest fits h stands =
    record_passed at (spelling r ++ rest) (length (spelling r)) (count_stands at (spelling r ++ rest) (length (spelling r)) (spelled_count at r rest fits h stands))
    ∙ ap (λ (bytes : List ℕ). records_fault (at + length (spelling r)) 0 bytes) (drop_at (spelling r) rest (length (spelling r)) refl)

pub user_stands : (at : ℕ) (r : CountKeyData) (rest : List ℕ) → 5 < at → IsUserRecord r → may_stand at (spelling r ++ rest) ≡ true
user_stands at r rest behind user =
    let other : eqb at 5 ≡ false = ne_eqb at 5 (λ e. omega arith) in
    let numbered : eqb r.number 0 ≡ false = ne_eqb r.number 0 (λ e. omega (arith, user.number)) in
    rw (other, numbered) refl

pub zero_stands : (r : CountKeyData) (rest : List ℕ) → IsRecordZero r → may_stand 5 (spelling r ++ rest) ≡ true
zero_stands r rest first =
    let eight : body_length (spelling r ++ rest) ≡ 8 = from_be_bytes-to_be_bytes_2 (length r.body) first.fits.body ∙ first.body in
    let number : eqb r.number 0 ≡ true = eq-eqb _ _ first.number in
    let keyless : eqb (length r.key) 0 ≡ true = eq-eqb _ _ (ap length first.key) in
    rw (number, keyless, eight) refl

-- ---- whole tracks

pub spelled_records_pass : (at : ℕ) (rs : List CountKeyData) → 5 < at → AllByRecursion IsUserRecord rs → length (flat_map spelling rs ++ end_mark) < 65535 → records_fault at 0 (flat_map spelling rs ++ end_mark) ≡ None
spelled_records_pass at [] behind users short =
    let other : eqb at 5 ≡ false = ne_eqb at 5 (λ e. omega arith) in
    verdict_stands at end_mark None (rw other refl)
spelled_records_pass at (r ∷ rs) behind users short =
    let rest = flat_map spelling rs ++ end_mark in
    let grouped : flat_map spelling (r ∷ rs) ++ end_mark ≡ spelling r ++ rest = append_assoc (spelling r) (flat_map spelling rs) end_mark in
    let len = length-spelling r rest in
    let all = ap length grouped in
    ap (records_fault at 0) grouped
    ∙ spelled_passed at r rest users.0.fits (omega arith) (user_stands at r rest behind users.0)
    ∙ spelled_records_pass (at + length (spelling r)) rs (omega arith) users.1 (omega arith)

pub records_pass : (rs : List CountKeyData) → AreRecords rs → length (flat_map spelling rs ++ end_mark) < 65535 → records_fault 5 0 (flat_map spelling rs ++ end_mark) ≡ None
records_pass [] records short = absurd records
records_pass (r ∷ rs) records short =
    let rest = flat_map spelling rs ++ end_mark in
    let grouped : flat_map spelling (r ∷ rs) ++ end_mark ≡ spelling r ++ rest = append_assoc (spelling r) (flat_map spelling rs) end_mark in
    let len = length-spelling r rest in
    let all = ap length grouped in
    ap (records_fault 5 0) grouped
    ∙ spelled_passed 5 r rest records.0.fits (omega (arith, records.0.body)) (zero_stands r rest records.0)
    ∙ spelled_records_pass (5 + length (spelling r)) rs (omega (arith, length-append {A = ℕ})) records.1 (omega arith)

-- the bytes pass each test of the home address
pub record HasHome (geo : Geometry) (t : ℕ) (bytes : List ℕ) : Type 0 where
  pub within : length bytes ≤ geo.track_size
  pub long : 5 ≤ length bytes
  pub plain : get_or bytes 0 0 % 4 ≡ 0
  pub here : take 4 (drop 1 bytes) ≡ address_bytes (t / geo.heads) (t % geo.heads)

pub home_passed : (geo : Geometry) (t : ℕ) (bytes : List ℕ) → HasHome geo t bytes → track_fault geo t bytes ≡ records_fault 5 0 (drop 5 bytes)
unfolding track_fault home_fault
home_passed geo t bytes h =
    let within : ltb geo.track_size (length bytes) ≡ false = le-ltb _ _ h.within in
    let long : ltb (length bytes) 5 ≡ false = le-ltb _ _ h.long in
    let plain : eqb (get_or bytes 0 0 % 4) 0 ≡ true = eq-eqb _ _ h.plain in
    let here : bytes_eq (take 4 (drop 1 bytes)) (address_bytes (t / geo.heads) (t % geo.heads)) ≡ true = (bytes_eq-Decides _ _).1 h.here in
    rw (within, long, plain, here) refl

-- ---- the faults of a home address

pub too_few : (geo : Geometry) (t : ℕ) (bytes : List ℕ) → length bytes < 5 → home_fault geo t bytes ≡ Some (NoEnd (length bytes))
unfolding home_fault
too_few geo t bytes short =
    let few : ltb (length bytes) 5 ≡ true = lt-ltb _ _ short in
    rw few refl

pub compressed : (geo : Geometry) (t : ℕ) (bytes : List ℕ) → 5 ≤ length bytes → get_or bytes 0 0 % 4 ≢ 0 → home_fault geo t bytes ≡ Some (Compressed (get_or bytes 0 0))
unfolding home_fault
compressed geo t bytes long other =
    let enough : ltb (length bytes) 5 ≡ false = le-ltb _ _ long in
    let named : eqb (get_or bytes 0 0 % 4) 0 ≡ false = ne_eqb _ _ other in
    rw (enough, named) refl

pub elsewhere : (geo : Geometry) (t : ℕ) (bytes : List ℕ) → 5 ≤ length bytes → get_or bytes 0 0 % 4 ≡ 0 → bytes_eq (take 4 (drop 1 bytes)) (address_bytes (t / geo.heads) (t % geo.heads)) ≡ false
    → home_fault geo t bytes ≡ Some (WrongTrack (from_be_bytes w16 (take 2 (drop 1 bytes))) (from_be_bytes w16 (take 2 (drop 3 bytes))))
unfolding home_fault
elsewhere geo t bytes long plain other =
    let enough : ltb (length bytes) 5 ≡ false = le-ltb _ _ long in
    let none : eqb (get_or bytes 0 0 % 4) 0 ≡ true = eq-eqb _ _ plain in
    rw (enough, none, other) refl

-- ---- what is spelled passes

home_of_spelled : (geo : Geometry) (t flag : ℕ) (rs : List CountKeyData) → flag % 4 ≡ 0 → length (spelled_track geo t flag rs) ≤ geo.track_size → HasHome geo t (spelled_track geo t flag rs)
unfolding spelled_track
home_of_spelled geo t flag rs plain within = record { within = within; long = omega arith; plain = plain; here = refl }

spelled_passes : (geo : Geometry) (t flag : ℕ) (rs : List CountKeyData) → IsGeometry geo → flag % 4 ≡ 0 → AreRecords rs → length (spelled_track geo t flag rs) ≤ geo.track_size → track_fault geo t (spelled_track geo t flag rs) ≡ None
unfolding spelled_track
spelled_passes geo t flag rs shape plain records within =
    let most = shape.greatest_track in
    home_passed geo t (spelled_track geo t flag rs) (home_of_spelled geo t flag rs plain within)
    ∙ records_pass rs records (omega arith)

pub track_passes : (geo : Geometry) (t : ℕ) (bytes : List ℕ) → IsGeometry geo → IsTrack geo t bytes → track_fault geo t bytes ≡ None
track_passes geo t bytes shape (flag, rs, h) =
    let fits = subst (λ (b : List ℕ). length b ≤ geo.track_size) h.spelled h.fits in
    subst (λ (b : List ℕ). track_fault geo t b ≡ None) (sym h.spelled) (spelled_passes geo t flag rs shape h.uncompressed h.in_order fits)

-- ---- null tracks

pub length-null_track : (geo : Geometry) (t format : ℕ) → IsNullFormat geo format → length (null_track geo t format) ≤ 37
unfolding null_track spelled_track
length-null_track geo t zero admitted = omega arith
length-null_track geo t (suc zero) admitted = omega arith
length-null_track geo t (suc (suc format)) admitted = absurd (omega arith)

pub null_fits_lem : (geo : Geometry) (t format : ℕ) → IsGeometry geo → IsNullFormat geo format → length (null_track geo t format) ≤ geo.track_size
null_fits_lem geo t format shape admitted = omega (arith, length-null_track geo t format admitted, shape.least_track)

cylinder_fits : (geo : Geometry) (t : ℕ) → IsGeometry geo → t < track_count geo → t / geo.heads < 2 ^ 16
cylinder_fits geo t shape lt =
    omega (arith, shape.most_cylinders, div_below t geo.heads geo.cyls (omega (arith, shape.some_heads)) lt)

head_fits : (geo : Geometry) (t : ℕ) → IsGeometry geo → t % geo.heads < 2 ^ 16
head_fits geo t shape =
    omega (arith, shape.most_heads, mod_below t geo.heads (omega (arith, shape.some_heads)))

null_record_zero_fits : (geo : Geometry) (t : ℕ) → IsGeometry geo → t < track_count geo → IsRecordZero (null_record_zero (address_of geo t))
null_record_zero_fits geo t shape lt = record {
  fits = record { cylinder = cylinder_fits geo t shape lt; head = head_fits geo t shape; number = omega arith; key = omega arith; body = omega arith };
  number = refl;
  key = refl;
  body = refl;
}

null_record_one_fits : (geo : Geometry) (t : ℕ) → IsGeometry geo → t < track_count geo → IsUserRecord (null_record_one (address_of geo t))
null_record_one_fits geo t shape lt = record {
  fits = record { cylinder = cylinder_fits geo t shape lt; head = head_fits geo t shape; number = omega arith; key = omega arith; body = omega arith };
  number = omega arith;
}

null_records_fit : (geo : Geometry) (t format : ℕ) → IsGeometry geo → t < track_count geo → IsNullFormat geo format → AreRecords (null_records (address_of geo t) format)
null_records_fit geo t zero shape lt admitted = (null_record_zero_fits geo t shape lt, (null_record_one_fits geo t shape lt, tt))
null_records_fit geo t (suc zero) shape lt admitted = (null_record_zero_fits geo t shape lt, tt)
null_records_fit geo t (suc (suc format)) shape lt admitted = absurd (omega arith)

-- a null track is a track of the grammar
pub null_is_track : (geo : Geometry) (t format : ℕ) → IsGeometry geo → t < track_count geo → IsNullFormat geo format → IsTrack geo t (null_track geo t format)
unfolding null_track
null_is_track geo t format shape lt admitted = (
  0,
  null_records (address_of geo t) format,
  record {
    spelled = refl;
    uncompressed = refl;
    in_order = null_records_fit geo t format shape lt admitted;
    fits = null_fits_lem geo t format shape admitted;
  },
)

pub null_passes_lem : (geo : Geometry) (t format : ℕ) → IsGeometry geo → t < track_count geo → IsNullFormat geo format → track_fault geo t (null_track geo t format) ≡ None
null_passes_lem geo t format shape lt admitted = track_passes geo t (null_track geo t format) shape (null_is_track geo t format shape lt admitted)

-- ---- accepted bytes, and their value

-- bytes that begin with the home address of the track
pub record StartsHome (geo : Geometry) (t : ℕ) (bytes : List ℕ) : Type 0 where
  pub long : 5 ≤ length bytes
  pub plain : get_or bytes 0 0 % 4 ≡ 0
  pub here : take 4 (drop 1 bytes) ≡ address_bytes (t / geo.heads) (t % geo.heads)

pub starts_home : (geo : Geometry) (t : ℕ) (bytes : List ℕ) → home_fault geo t bytes ≡ None → StartsHome geo t bytes
unfolding home_fault
starts_home geo t bytes none =
    elim (cases_lt (length bytes) 5) [
      | inl short ↦
          let few : ltb (length bytes) 5 ≡ true = lt-ltb _ _ short in
          let e = rw few at none in
          absurd cc
      | inr long ↦
          let enough : ltb (length bytes) 5 ≡ false = le-ltb _ _ long in
          elim (cases_eq (get_or bytes 0 0 % 4) 0) [
            | inl plain ↦
                let flag : eqb (get_or bytes 0 0 % 4) 0 ≡ true = eq-eqb _ _ plain in
                elim (cases_Bool (bytes_eq (take 4 (drop 1 bytes)) (address_bytes (t / geo.heads) (t % geo.heads)))) [
                  | inl same ↦ record { long = long; plain = plain; here = (bytes_eq-Decides _ _).0 same }
                  | inr other ↦ let e = rw (enough, flag, other) at none in absurd cc
                ]
            | inr other ↦
                let named : eqb (get_or bytes 0 0 % 4) 0 ≡ false = ne_eqb _ _ other in
                let e = rw (enough, named) at none in
                absurd cc
          ]
    ]

pub home_stands : (geo : Geometry) (t : ℕ) (bytes : List ℕ) → StartsHome geo t bytes → home_fault geo t bytes ≡ None
unfolding home_fault
home_stands geo t bytes h =
    let long : ltb (length bytes) 5 ≡ false = le-ltb _ _ h.long in
    let plain : eqb (get_or bytes 0 0 % 4) 0 ≡ true = eq-eqb _ _ h.plain in
    let here : bytes_eq (take 4 (drop 1 bytes)) (address_bytes (t / geo.heads) (t % geo.heads)) ≡ true = (bytes_eq-Decides _ _).1 h.here in
    rw (long, plain, here) refl

-- whether there is a fault of the home address, and which, is seen in the first five bytes
pub home_in_front_lem : (geo : Geometry) (t : ℕ) (bytes : List ℕ) → home_fault geo t (take 5 bytes) ≡ home_fault geo t bytes
unfolding home_fault
home_in_front_lem geo t [] = refl
home_in_front_lem geo t (a ∷ []) = refl
home_in_front_lem geo t (a ∷ b ∷ []) = refl
home_in_front_lem geo t (a ∷ b ∷ c ∷ []) = refl
home_in_front_lem geo t (a ∷ b ∷ c ∷ d ∷ []) = refl
home_in_front_lem geo t (a ∷ b ∷ c ∷ d ∷ e ∷ bytes) =
    let long : ltb (length (a ∷ b ∷ c ∷ d ∷ e ∷ bytes)) 5 ≡ false = le-ltb _ _ (omega arith) in
    rw long refl

none_first : (a b : Option TrackFault) → option_or a b ≡ None → (a ≡ None) × (b ≡ None)
none_first (Some f) b h = absurd cc
none_first None b h = (refl, h)

-- the parts of no fault
pub record HasNoFault (geo : Geometry) (t : ℕ) (bytes : List ℕ) : Type 0 where
  pub size : size_fault geo bytes ≡ None
  pub home : home_fault geo t bytes ≡ None
  pub records : records_fault 5 0 (drop 5 bytes) ≡ None

pub parts_faultless : (geo : Geometry) (t : ℕ) (bytes : List ℕ) → track_fault geo t bytes ≡ None → HasNoFault geo t bytes
unfolding track_fault
parts_faultless geo t bytes none =
    let one = none_first (size_fault geo bytes) (option_or (home_fault geo t bytes) (records_fault 5 0 (drop 5 bytes))) none in
    let two = none_first (home_fault geo t bytes) (records_fault 5 0 (drop 5 bytes)) one.1 in
    record { size = one.0; home = two.0; records = two.1 }

pub home_first_lem : (geo : Geometry) (t : ℕ) (bytes : List ℕ) → track_fault geo t bytes ≡ None → home_fault geo t bytes ≡ None
home_first_lem geo t bytes none = (parts_faultless geo t bytes none).home

pub home_is_fault_lem : (geo : Geometry) (t : ℕ) (bytes : List ℕ) (fault : TrackFault) → length bytes ≤ geo.track_size → home_fault geo t bytes ≡ Some fault → track_fault geo t bytes ≡ Some fault
unfolding track_fault
home_is_fault_lem geo t bytes fault within found =
    let fits : ltb geo.track_size (length bytes) ≡ false = le-ltb _ _ within in
    rw (fits, found) refl

size_within : (geo : Geometry) (bytes : List ℕ) → size_fault geo bytes ≡ None → length bytes ≤ geo.track_size
size_within geo bytes none = elim (cases_lt geo.track_size (length bytes)) [
  | inl more ↦
      let long : ltb geo.track_size (length bytes) ≡ true = lt-ltb _ _ more in
      let e = rw long at none in
      absurd cc
  | inr within ↦ within
]

-- accepted bytes number 1 to the track size
pub accepted_length_lem : (geo : Geometry) (t : ℕ) (bytes : List ℕ) → track_fault geo t bytes ≡ None → (1 ≤ length bytes) × (length bytes ≤ geo.track_size)
accepted_length_lem geo t bytes none =
    let parts = parts_faultless geo t bytes none in
    let home = starts_home geo t bytes parts.home in
    (omega (arith, home.long), size_within geo bytes parts.size)

-- the value has as many bytes
pub value_length_lem : (geo : Geometry) (t : ℕ) (bytes : List ℕ) → track_fault geo t bytes ≡ None → length (track_value bytes) ≡ length bytes
value_length_lem geo t bytes none = omega (arith, length-drop 1 bytes, (accepted_length_lem geo t bytes none).0)

-- the value of accepted bytes is accepted
pub value_passes_lem : (geo : Geometry) (t : ℕ) (bytes : List ℕ) → track_fault geo t bytes ≡ None → track_fault geo t (track_value bytes) ≡ None
unfolding track_fault
value_passes_lem geo t [] none = let long = (accepted_length_lem geo t [] none).0 in absurd (omega (arith, long))
value_passes_lem geo t (flag ∷ bytes) none =
    let parts = parts_faultless geo t (flag ∷ bytes) none in
    let home = starts_home geo t (flag ∷ bytes) parts.home in
    let same : home_fault geo t (0 ∷ bytes) ≡ None = home_stands geo t (0 ∷ bytes) (record { long = home.long; plain = refl; here = home.here }) in
    rw (parts.size, same) parts.records

-- and its own value
pub value_once_lem : (bytes : List ℕ) → track_value (track_value bytes) ≡ track_value bytes
value_once_lem bytes = refl

-- a null track is its own value
pub null_value_lem : (geo : Geometry) (t format : ℕ) → IsNullFormat geo format → track_value (null_track geo t format) ≡ null_track geo t format
unfolding null_track spelled_track
null_value_lem geo t format admitted = refl

-- ---- the first fault, part by part

pub size_found : (geo : Geometry) (t : ℕ) (bytes : List ℕ) (fault : TrackFault) → size_fault geo bytes ≡ Some fault → track_fault geo t bytes ≡ Some fault
unfolding track_fault
size_found geo t bytes fault found = ap (λ (first : Option TrackFault). option_or first (option_or (home_fault geo t bytes) (records_fault 5 0 (drop 5 bytes)))) found

pub home_found : (geo : Geometry) (t : ℕ) (bytes : List ℕ) (fault : TrackFault) → size_fault geo bytes ≡ None → home_fault geo t bytes ≡ Some fault → track_fault geo t bytes ≡ Some fault
unfolding track_fault
home_found geo t bytes fault fits found =
    (λ i. option_or (fits i) (option_or (found i) (records_fault 5 0 (drop 5 bytes))))

pub records_left : (answer : Result (Unit {0}) TrackFault) (geo : Geometry) (t : ℕ) (bytes : List ℕ) → size_fault geo bytes ≡ None → home_fault geo t bytes ≡ None
    → OkUnless answer (records_fault 5 0 (drop 5 bytes)) → OkUnless answer (track_fault geo t bytes)
unfolding track_fault
records_left answer geo t bytes fits home left =
    let same : records_fault 5 0 (drop 5 bytes) ≡ option_or (size_fault geo bytes) (option_or (home_fault geo t bytes) (records_fault 5 0 (drop 5 bytes))) =
    λ i. option_or (sym fits i) (option_or (sym home i) (records_fault 5 0 (drop 5 bytes))) in
    subst (OkUnless answer) same left

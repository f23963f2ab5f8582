-- The faults of tracks, as they are read and added up.
use Rattle.std.proofs.Common.{◌≡◌, ℕ, zero, suc, ◌+◌, ◌<◌, ◌≤◌, ◌==◌, min, Bool, List, [], ◌++◌, length, take, drop, Option, Some, None, Result, Ok, Err, refl, sym, ◌∙◌, ap, subst, ⊎_elim, arith, length-drop, length-take}
use Rattle.std.specs.Prelude.{nat_lt, if◌then◌else◌, find}
use Rattle.std.proofs.lemmas.Bool.{cases_lt, lt-ltb}
use Rattle.std.proofs.lemmas.List.{take-take, take_all, length-take-le}
use Rattle.std.proofs.lemmas.Option.{slice_get_within, get_or_from_slice_get}
use Rattle.cckd_base.specs.declared.geometry.Geometry.{Geometry}
use Rattle.cckd_base.specs.declared.fault.TrackFault.{TrackFault}
use Rattle.cckd_base.specs.declared.fault.TrackFault.TheVariants.{TooLong}
use Rattle.cckd_base.specs.declared.space.Extent.{Extent}
use Rattle.cckd_base.specs.declared.damage.Damage.{Damage}
use Rattle.cckd_base.specs.Numbers.{bytes_at}
use Rattle.cckd_base.specs.Survey.{StandApart}
use Rattle.cckd_base.specs.Track.{OkUnless, home_fault, track_fault}
use Rattle.cckd_base.proofs.TrackLemmas.{home_in_front_lem, size_found}
use Rattle.cckd_check.specs.Damage.{fault_in, fault_of, is_space_of, damage_by, unread_by, damage_below, unread_below}
use Rattle.cckd_check.specs.Inside.{space_named, fault_told}
use Rattle.cckd_check.proofs.ApartLemmas.{apart_bytes}

-- what a check tells is the fault
pub told_is : (r : Result (Unit {0}) TrackFault) (fault : Option TrackFault) → OkUnless r fault → fault_told r ≡ fault
told_is (Ok x) fault h = sym h
told_is (Err f) fault h = sym h

-- five bytes show what all of them show of the home address
front_is : (file : List ℕ) (pos len n : ℕ) → n ≡ min len 5 → bytes_at file pos n ≡ take 5 (bytes_at file pos len)
front_is file pos len n e = ⊎_elim
    (λ (short : len < 5).
    let long = length-take len (drop pos file) in
    let same : n ≡ len = omega (arith, e, short) in
    ap (λ (k : ℕ). take k (drop pos file)) same ∙ sym (take_all 5 (take len (drop pos file)) (omega (arith, long, short))))
    (λ (more : 5 ≤ len).
    let same : n ≡ 5 = omega (arith, e, more) in
    ap (λ (k : ℕ). take k (drop pos file)) same ∙ sym (take-take 5 len (drop pos file) more))
    (cases_lt len 5)

pub home_read : (geo : Geometry) (t : ℕ) (file front : List ℕ) (pos len n : ℕ) (told : Option TrackFault) → n ≡ min len 5 → front ≡ bytes_at file pos n
    → told ≡ home_fault geo t front → told ≡ home_fault geo t (bytes_at file pos len)
home_read geo t file front pos len n told e read h =
    h ∙ ap (home_fault geo t) (read ∙ front_is file pos len n e) ∙ home_in_front_lem geo t (bytes_at file pos len)

-- a space inside a file has all its bytes
length_at : (file : List ℕ) (pos len : ℕ) → pos + len ≤ length file → length (bytes_at file pos len) ≡ len
length_at file pos len inside =
    let left = length-drop pos file in length-take-le len (drop pos file) (omega (arith, left, inside))

pub too_long : (geo : Geometry) (t : ℕ) (file : List ℕ) (pos len : ℕ) → geo.track_size < len → pos + len ≤ length file
    → Some (TooLong len geo.track_size) ≡ track_fault geo t (bytes_at file pos len)
too_long geo t file pos len more inside =
    sym (size_found geo t (bytes_at file pos len) (TooLong len geo.track_size)
    (ap (λ (n : ℕ). if nat_lt geo.track_size n then Some (TooLong n geo.track_size) else None) (length_at file pos len inside)
    ∙ ap (λ (b : Bool). if b then Some (TooLong len geo.track_size) else None) (lt-ltb geo.track_size len more)))

-- the space that a number names has its bytes inside the file
pub named_inside : (spaces : List Extent) (n place : ℕ) (space : Extent) → StandApart 0 spaces n → space_named spaces place ≡ Some space → space.pos + space.len ≤ n
named_inside spaces n zero space apart is = absurd (cc is)
named_inside spaces n (suc k) space apart is =
    let within = slice_get_within spaces k space is in
    let here = get_or_from_slice_get spaces k space space is in
    subst (λ (e : Extent). e.pos + e.len ≤ n) here (apart_bytes spaces n k space apart within)

-- below level 2 no track is looked at
none_in : (level : ℕ) (g : Geometry) (file : List ℕ) (t : ℕ) (o : Option Extent) → level < 2 → fault_in level g file t o ≡ None
none_in level g file t None low = refl
none_in level g file t (Some e) low =
    ap (λ (b : Bool). if b then None else if level == 2 then home_fault g t (bytes_at file e.pos e.len) else track_fault g t (bytes_at file e.pos e.len)) (lt-ltb level 2 low)

pub none_damaged : (level : ℕ) (g : Geometry) (used : List Extent) (file : List ℕ) (n : ℕ) → level < 2 → damage_below level g used file n ≡ []
none_damaged level g used file zero low = refl
none_damaged level g used file (suc n) low =
    ap (λ (ds : List Damage). ds ++ damage_by n (fault_of level g used file n)) (none_damaged level g used file n low)
    ∙ ap (damage_by n) (none_in level g file n (find (is_space_of n) used) low)

pub none_unread : (level : ℕ) (g : Geometry) (used : List Extent) (file : List ℕ) (n : ℕ) → level < 2 → unread_below level g used file n ≡ 0
none_unread level g used file zero low = refl
none_unread level g used file (suc n) low =
    let before = none_unread level g used file n low in
    let here = ap unread_by (none_in level g file n (find (is_space_of n) used) low) in
    omega (arith, before, here)

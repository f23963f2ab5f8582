-- The first fault of the headers, from the first fault of each kind.
use Rattle.std.proofs.Common.{◌≡◌, ℕ, ◌*◌, ◌≤◌, ◌||◌, nat_lt, Bool, true, false, cond, List, [], ◌∷◌, ◌++◌, Option, Some, None, refl, sym, ◌∙◌, ap, subst, arith}
use Rattle.std.specs.Option.{option_or, is_some}
use Rattle.std.proofs.lemmas.Bool.{le-ltb, ltb-false, or_parts}
use Rattle.cckd_base.specs.declared.geometry.Layout.{Layout}
use Rattle.cckd_base.specs.declared.fault.HeaderFault.{HeaderFault}
use Rattle.cckd_base.specs.declared.fault.HeaderFault.TheVariants.{BadGeometry}
use Rattle.cckd_base.specs.declared.fault.GeoField.{GeoField}
use Rattle.cckd_base.specs.declared.fault.GeoField.TheVariants.{Heads, Cylinders, Tracks, TrackSize, Sequence}
use Rattle.cckd_base.specs.Geometry.{track_count, IsGeometry, IsLayout}
use Rattle.cckd_base.specs.Header.{Judged, other_file_cases, geometry_cases, count_cases, format_cases, first_case, header_fault, layout_of, is_outside}
use Rattle.cckd_base.proofs.HeaderLemmas.{none_stands, faultless, base_is_no_shadow, shadow_is_shadow}
use Rattle.cckd_image.specs.declared.roles.Roles.{Roles}
use Rattle.cckd_image.specs.declared.roles.Roles.TheVariants.{Base, Shadow, Either}
use Rattle.cckd_image.specs.declared.header.DevHeader.{DevHeader}
use Rattle.cckd_image.specs.declared.header.CckdHeader.{CckdHeader}
use Rattle.cckd_image.specs.declared.header.ImageHeader.{ImageHeader}
use Rattle.cckd_image.specs.Image.{geometry, dev_header_of, cckd_header_of, header_of, layout_by, decoded, identifiers_of, IsHeader, IsLength, HasRole}
use Rattle.cckd_image.specs.Inside.{judged, other_file_fault, geometry_fault, count_fault, format_fault, fault_of}

one_more : (b : Bool) (fault : HeaderFault) (x y z : Option HeaderFault) → x ≡ option_or y z
    → cond b (Some fault) x ≡ option_or (cond b (Some fault) y) z
one_more true fault x y z e = refl
one_more false fault x y z e = e

-- the first of two lists of cases is the first one's, where it has one
first_of_both : (cs ds : List (Bool × HeaderFault)) → first_case (cs ++ ds) ≡ option_or (first_case cs) (first_case ds)
first_of_both [] ds = refl
first_of_both (c ∷ cs) ds = one_more c.0 c.1 _ _ _ (first_of_both cs ds)

pub in_order : (h : ImageHeader) (identifiers : List (List ℕ)) (len : ℕ)
    → fault_of h identifiers len
    ≡ option_or (other_file_fault h identifiers len) (option_or (geometry_fault h) (option_or (count_fault h len) (format_fault h)))
unfolding fault_of
in_order h identifiers len =
    first_of_both (other_file_cases identifiers (judged h) len) (geometry_cases (judged h) ++ (count_cases (judged h) len ++ format_cases (judged h)))
    ∙ ap (option_or (other_file_fault h identifiers len)) (
    first_of_both (geometry_cases (judged h)) (count_cases (judged h) len ++ format_cases (judged h))
    ∙ ap (option_or (geometry_fault h)) (first_of_both (count_cases (judged h) len) (format_cases (judged h)))
    )

or_to_right : (a b c : Option HeaderFault) → option_or (option_or a b) c ≡ option_or a (option_or b c)
or_to_right (Some x) b c = refl
or_to_right None b c = refl

or_some : (a b : Option HeaderFault) (fault : HeaderFault) → a ≡ Some fault → option_or a b ≡ Some fault
or_some a b fault e = ap (λ (x : Option HeaderFault). option_or x b) e

-- the first two kinds have a fault
pub early_fault : (h : ImageHeader) (identifiers : List (List ℕ)) (len : ℕ) (fault : HeaderFault)
    → option_or (other_file_fault h identifiers len) (geometry_fault h) ≡ Some fault → fault_of h identifiers len ≡ Some fault
early_fault h identifiers len fault e =
    in_order h identifiers len
    ∙ sym (or_to_right (other_file_fault h identifiers len) (geometry_fault h) (option_or (count_fault h len) (format_fault h)))
    ∙ or_some (option_or (other_file_fault h identifiers len) (geometry_fault h)) (option_or (count_fault h len) (format_fault h)) fault e

-- they have none
pub late_fault : (h : ImageHeader) (identifiers : List (List ℕ)) (len : ℕ)
    → option_or (other_file_fault h identifiers len) (geometry_fault h) ≡ None → fault_of h identifiers len ≡ option_or (count_fault h len) (format_fault h)
late_fault h identifiers len e =
    in_order h identifiers len
    ∙ sym (or_to_right (other_file_fault h identifiers len) (geometry_fault h) (option_or (count_fault h len) (format_fault h)))
    ∙ ap (λ (x : Option HeaderFault). option_or x (option_or (count_fault h len) (format_fault h))) e

range : (low high n : ℕ) → is_outside low high n ≡ false → (low ≤ n) × (n ≤ high)
range low high n e = let parts = or_parts (nat_lt n low) (nat_lt high n) e in (ltb-false n low parts.0, ltb-false high n parts.1)

-- no case of the geometry stands
geometry_sound : (j : Judged) → first_case (geometry_cases j) ≡ None → IsGeometry j.geometry
geometry_sound j e =
    let none = none_stands (geometry_cases j) e in
    let heads = range 1 65536 j.geometry.heads none.0 in
    let cylinders = range 1 65536 j.geometry.cyls none.1.0 in
    let size = range 37 65024 j.geometry.track_size none.1.1.1.0 in
    record {
      some_heads = heads.0;
      most_heads = heads.1;
      some_cylinders = cylinders.0;
      most_cylinders = cylinders.1;
      most_tracks = ltb-false 1048576 (track_count j.geometry) none.1.1.0;
      least_track = size.0;
      greatest_track = size.1;
    }

or_none : (a b : Option HeaderFault) → option_or a b ≡ None → b ≡ None
or_none (Some x) b e = absurd (cc e)
or_none None b e = e

-- then the geometry is one that an image may have
pub geometry_stands : (h : ImageHeader) (identifiers : List (List ℕ)) (len : ℕ)
    → option_or (other_file_fault h identifiers len) (geometry_fault h) ≡ None → IsGeometry (geometry h)
geometry_stands h identifiers len e = geometry_sound (judged h) (or_none (other_file_fault h identifiers len) (geometry_fault h) e)

-- the same, by whether there is one
pub early_whole : (h : ImageHeader) (identifiers : List (List ℕ)) (len : ℕ) (found : Option HeaderFault)
    → found ≡ option_or (other_file_fault h identifiers len) (geometry_fault h) → is_some found ≡ true → found ≡ fault_of h identifiers len
early_whole h identifiers len None e some = absurd (cc some)
early_whole h identifiers len (Some fault) e some = sym (early_fault h identifiers len fault (sym e))

pub early_none : (found kinds : Option HeaderFault) → found ≡ kinds → is_some found ≡ false → kinds ≡ None
early_none None kinds e none = sym e
early_none (Some fault) kinds e none = absurd (cc none)

-- the cases of the geometry, from the first fault of each field
one_field : (b : Bool) (fault : HeaderFault) (rest : Option HeaderFault) → option_or (cond b (Some fault) None) rest ≡ cond b (Some fault) rest
one_field true fault rest = refl
one_field false fault rest = refl

-- the fault of one field
abbrev pub field : GeoField → ℕ → ℕ → ℕ → Option HeaderFault
field f low high n = cond (is_outside low high n) (Some (BadGeometry f n)) None

pub in_fields : (h : ImageHeader) (heads cylinders size sequence : ℕ)
    → heads ≡ h.dev.heads → cylinders ≡ h.cckd.cyls → size ≡ h.dev.track_size → sequence ≡ h.dev.sequence
    → (a b c d e : Option HeaderFault)
    → a ≡ field Heads 1 65536 heads → b ≡ field Cylinders 1 65536 cylinders → c ≡ field Tracks 0 1048576 (cylinders * heads)
    → d ≡ field TrackSize 37 65024 size → e ≡ field Sequence 0 1 sequence
    → option_or (option_or (option_or (option_or a b) c) d) e ≡ geometry_fault h
in_fields h heads cylinders size sequence eh ec es eq a b c d e p q r s u =
    let none : (high n : ℕ) → is_outside 0 high n ≡ nat_lt high n = λ high n. ap (λ (x : Bool). x || nat_lt high n) (le-ltb n 0 (omega arith)) in
    let product : cylinders * heads ≡ h.cckd.cyls * h.dev.heads = λ i. ec i * eh i in
    let third = ap (field Tracks 0 1048576) product ∙ ap (λ (x : Bool). cond x (Some (BadGeometry Tracks (h.cckd.cyls * h.dev.heads))) None) (none 1048576 (h.cckd.cyls * h.dev.heads)) in
    let fifth = ap (field Sequence 0 1) eq ∙ ap (λ (x : Bool). cond x (Some (BadGeometry Sequence h.dev.sequence)) None) (none 1 h.dev.sequence) in
    or_to_right (option_or (option_or a b) c) d e ∙ or_to_right (option_or a b) c (option_or d e) ∙ or_to_right a b (option_or c (option_or d e))
    ∙ (λ i. option_or ((p ∙ ap (field Heads 1 65536) eh) i) (option_or ((q ∙ ap (field Cylinders 1 65536) ec) i)
    (option_or ((r ∙ third) i) (option_or ((s ∙ ap (field TrackSize 37 65024) es) i) ((u ∙ fifth) i)))))
    ∙ one_field (is_outside 1 65536 h.dev.heads) (BadGeometry Heads h.dev.heads) _
    ∙ ap (cond (is_outside 1 65536 h.dev.heads) (Some (BadGeometry Heads h.dev.heads))) (
    one_field (is_outside 1 65536 h.cckd.cyls) (BadGeometry Cylinders h.cckd.cyls) _
    ∙ ap (cond (is_outside 1 65536 h.cckd.cyls) (Some (BadGeometry Cylinders h.cckd.cyls))) (
    one_field (nat_lt 1048576 (h.cckd.cyls * h.dev.heads)) (BadGeometry Tracks (h.cckd.cyls * h.dev.heads)) _
    ∙ ap (cond (nat_lt 1048576 (h.cckd.cyls * h.dev.heads)) (Some (BadGeometry Tracks (h.cckd.cyls * h.dev.heads)))) (
    one_field (is_outside 37 65024 h.dev.track_size) (BadGeometry TrackSize h.dev.track_size) _)))

-- the fields say the same fault as the bytes
pub fault_of_bytes : (headers : List ℕ) (identifiers : List (List ℕ)) (len : ℕ)
    → fault_of (header_of headers) identifiers len ≡ header_fault identifiers headers len
unfolding fault_of header_fault
fault_of_bytes headers identifiers len = refl

pub decoded_is : (headers : List ℕ) (identifiers : List (List ℕ)) (len : ℕ) (h : ImageHeader) (answer : Option HeaderFault)
    → h ≡ header_of headers → answer ≡ fault_of h identifiers len
    → decoded answer h ≡ decoded (header_fault identifiers headers len) (header_of headers)
decoded_is headers identifiers len h answer e f =
    ap (decoded answer) e
    ∙ ap (λ (a : Option HeaderFault). decoded a (header_of headers))
    (f ∙ ap (λ (x : ImageHeader). fault_of x identifiers len) e ∙ fault_of_bytes headers identifiers len)

-- the headers with these two halves
abbrev the_headers : DevHeader → CckdHeader → ImageHeader
the_headers d c = record { dev = d; cckd = c }

-- the headers from their two halves
pub both_headers : (headers : List ℕ) (d : DevHeader) (c : CckdHeader) → d ≡ dev_header_of headers → c ≡ cckd_header_of headers
    → ◌≡◌ {A = ImageHeader} record { dev = d; cckd = c } (header_of headers)
both_headers headers d c e f =
    ap (λ (x : DevHeader). the_headers x c) e ∙ ap (λ (x : CckdHeader). the_headers (dev_header_of headers) x) f

-- the layout that the fields say is the one that the bytes say
pub layout_of_bytes : (headers : List ℕ) (h : ImageHeader) → h ≡ header_of headers → layout_by h ≡ layout_of headers
layout_of_bytes headers h e = ap layout_by e

-- ---- what accepted headers are

pub accepted : (headers : List ℕ) (identifiers : List (List ℕ)) (len : ℕ) (h : ImageHeader) → h ≡ header_of headers → None ≡ fault_of h identifiers len
    → header_fault identifiers headers len ≡ None
accepted headers identifiers len h e none = sym (none ∙ ap (λ (x : ImageHeader). fault_of x identifiers len) e ∙ fault_of_bytes headers identifiers len)

pub layout_accepted : (headers : List ℕ) (identifiers : List (List ℕ)) (len : ℕ) (h : ImageHeader) → h ≡ header_of headers → header_fault identifiers headers len ≡ None
    → IsLayout (layout_by h)
layout_accepted headers identifiers len h e none = subst IsLayout (sym (layout_of_bytes headers h e)) (faultless identifiers headers len none).layout

pub length_accepted : (headers : List ℕ) (identifiers : List (List ℕ)) (len : ℕ) (h : ImageHeader) → h ≡ header_of headers → header_fault identifiers headers len ≡ None
    → IsLength (layout_by h).groups len
length_accepted headers identifiers len h e none =
    let f = faultless identifiers headers len none in
    subst (λ (l : Layout). IsLength l.groups len) (sym (layout_of_bytes headers h e)) (f.area, f.short)

pub header_accepted : (headers : List ℕ) (identifiers : List (List ℕ)) (len : ℕ) (h : ImageHeader) → h ≡ header_of headers → header_fault identifiers headers len ≡ None
    → IsHeader h len
header_accepted headers identifiers len h e none =
    let l = layout_accepted headers identifiers len h e none in
    record { shape = l.geometry; fits = length_accepted headers identifiers len h e none; format = l.format }

pub role_accepted : (roles : Roles) (headers : List ℕ) (len : ℕ) (h : ImageHeader) → h ≡ header_of headers → header_fault (identifiers_of roles) headers len ≡ None
    → HasRole roles (layout_by h).shadow
role_accepted Base headers len h e none = ap (λ (l : Layout). l.shadow) (layout_of_bytes headers h e) ∙ base_is_no_shadow headers len none
role_accepted Shadow headers len h e none = ap (λ (l : Layout). l.shadow) (layout_of_bytes headers h e) ∙ shadow_is_shadow headers len none
role_accepted Either headers len h e none = tt

-- The headers of a new image: their bytes say them, and have no fault.
use Rattle.std.proofs.Common.{◌≡◌, ℕ, ◌<◌, ◌≤◌, ◌^◌, ◌||◌, not, Bool, true, false, cond, List, [], ◌∷◌, ◌++◌, length, Some, None, refl, sym, ◌∙◌, ap, arith}
use Rattle.std.proofs.lemmas.Bool.{le-ltb, eq-eqb, lt-ltb}
use Rattle.std.proofs.lemmas.List.{length-append, length-replicate}
use Rattle.std.proofs.lemmas.Nat.{from_le_bytes-to_le_bytes_2, from_le_bytes-to_le_bytes_4}
use Rattle.std.specs.Int.{w16, w32, cast_unsigned}
use Rattle.std.specs.List.{list_any}
use Rattle.std.specs.Prelude.{negsuc}
use Rattle.std.specs.Str.{bytes_eq}
use Rattle.cckd_base.specs.declared.geometry.Layout.{Layout}
use Rattle.cckd_base.specs.declared.fault.HeaderFault.{HeaderFault}
use Rattle.cckd_base.specs.declared.order.Order.TheVariants.{Little}
use Rattle.cckd_base.specs.Geometry.{track_count, group_count, area_of, format_limit, IsLayout}
use Rattle.cckd_base.specs.Numbers.{bytes_of}
use Rattle.cckd_base.specs.Header.{header_cases, first_case, header_fault, layout_of, is_outside, base_identifier, shadow_identifier}
use Rattle.cckd_base.proofs.HeaderLemmas.{NoneStands}
use Rattle.cckd_image.specs.declared.roles.Roles.{Roles}
use Rattle.cckd_image.specs.declared.roles.Roles.TheVariants.{Base, Shadow, Either}
use Rattle.cckd_image.specs.declared.header.ImageHeader.{ImageHeader}
use Rattle.cckd_image.specs.declared.header.CckdHeader.{CckdHeader}
use Rattle.cckd_image.specs.declared.header.DevHeader.{DevHeader}
use Rattle.cckd_image.specs.Image.{identifiers_of, dev_bytes, cckd_bytes, count_bytes, header_bytes, header_of, layout_by, IsLength, HasCounts}
use Rattle.cckd_image.specs.Inside.{judged, fault_of}
use Rattle.cckd_image.specs.Fresh.{is_new_shadow, new_layout, new_header, new_dev_header, new_cckd_header}
use Rattle.cckd_image.proofs.BackLemmas.{IsBack, dev_back, cckd_back, counts_back}
use Rattle.cckd_image.proofs.FaultLemmas.{fault_of_bytes, both_headers, layout_of_bytes}

-- ---- the bytes say them

id_long : (shadow : Bool) → length (cond shadow shadow_identifier base_identifier) ≡ 8
id_long true = refl
id_long false = refl

dev_long : (d : DevHeader) → length d.id ≡ 8 → length d.reserved ≡ 492 → length (dev_bytes d) ≡ 512
unfolding dev_bytes
dev_long d eight long =
    omega (
      arith,
      length-append d.id (bytes_of Little w32 d.heads ++ (bytes_of Little w32 d.track_size ++ ((d.devtype ∷ d.sequence ∷ []) ++ (bytes_of Little w16 d.highest ++ d.reserved)))),
      eight,
      long,
    )

counts_long : (c : CckdHeader) → length (count_bytes Little c) ≡ 36
unfolding count_bytes
counts_long c = refl

second_long : (l : Layout) → length (cckd_bytes (new_cckd_header l)) ≡ 512
unfolding cckd_bytes
second_long l =
    let c = new_cckd_header l in
    omega (
      arith,
      length-append (count_bytes Little c) (bytes_of Little w32 c.cyls ++ ((c.null_fmt ∷ c.compress ∷ []) ++ (bytes_of Little w16 (cast_unsigned w16 c.param) ++ c.reserved))),
      counts_long c,
      length-replicate {A = ℕ} 464 0,
    )

little : (n : ℕ) → n < 2 ^ 32 → IsBack Little w32 n
little n low = from_le_bytes-to_le_bytes_4 n low

few_groups : (l : Layout) → IsLayout l → l.groups ≤ 4096
few_groups l h = omega (arith, h.groups, h.geometry.most_tracks)

new_counts : (l : Layout) → IsLayout l → HasCounts Little (count_bytes Little (new_cckd_header l)) (new_cckd_header l)
new_counts l h =
    let none = little 0 (omega arith) in
    let area = little (area_of l.groups) (omega (arith, few_groups l h)) in
    counts_back Little (new_cckd_header l) (little l.groups (omega (arith, few_groups l h))) (little 256 (omega arith)) area area none none none none none

-- the fields are read back from the bytes
pub new_back : (l : Layout) → IsLayout l → header_of (header_bytes (new_header l)) ≡ new_header l
new_back l h =
    let d = new_dev_header l in
    let c = new_cckd_header l in
    let id = id_long l.shadow in
    let g = h.geometry in
    sym (both_headers (header_bytes (new_header l)) d c
    (sym (dev_back d (cckd_bytes c) id (length-replicate {A = ℕ} 492 0) (little l.geo.heads (omega (arith, g.most_heads))) (little l.geo.track_size (omega (arith, g.greatest_track))) (from_le_bytes-to_le_bytes_2 0 (omega arith))))
    (sym (cckd_back c (dev_bytes d) (dev_long d id (length-replicate {A = ℕ} 492 0)) refl (length-replicate {A = ℕ} 464 0) (counts_long c) (new_counts l h)
    (little l.geo.cyls (omega (arith, g.most_cylinders))) (from_le_bytes-to_le_bytes_2 (cast_unsigned w16 (negsuc 0)) (omega arith)) refl)))

-- and they are the bytes of two headers
pub new_long : (l : Layout) → length (header_bytes (new_header l)) ≡ 1024
new_long l =
    omega (
      arith,
      length-append (dev_bytes (new_dev_header l)) (cckd_bytes (new_cckd_header l)),
      dev_long (new_dev_header l) (id_long l.shadow) (length-replicate {A = ℕ} 492 0),
      second_long l,
    )

-- ---- they have no fault

none_stand : (cs : List (Bool × HeaderFault)) → NoneStands cs → first_case cs ≡ None
none_stand [] h = refl
none_stand ((b, fault) ∷ cs) (e, rest) = ap (λ (x : Bool). cond x (Some fault) (first_case cs)) e ∙ none_stand cs rest

inside : (low high n : ℕ) → low ≤ n → n ≤ high → is_outside low high n ≡ false
inside low high n p q = λ i. le-ltb n low p i || le-ltb high n q i

-- a new image has an identifier of its role
named : (roles : Roles) (wished : Bool)
    → not (list_any (bytes_eq (cond (is_new_shadow roles wished) shadow_identifier base_identifier)) (identifiers_of roles)) ≡ false
named Base wished = refl
named Shadow wished = refl
named Either true = refl
named Either false = refl

fields_sound : (roles : Roles) (l : Layout) (len : ℕ) → IsLayout l → IsLength l.groups len
    → fault_of (new_header (new_layout roles l)) (identifiers_of roles) len ≡ None
unfolding fault_of
fields_sound roles l len h fits =
    let g = h.geometry in
    let named = ap (λ (x : Bool). x || not (list_any (bytes_eq (cond (is_new_shadow roles l.shadow) shadow_identifier base_identifier)) (identifiers_of roles)))
    (le-ltb len 1024 (omega (arith, fits.0)))
    ∙ named roles l.shadow in
    let format = ap not (lt-ltb l.null_fmt 2 h.format) in
    let area = inside (area_of (group_count l.geo)) format_limit len (omega (arith, h.groups, fits.0)) fits.1 in
    let words = ap not (eq-eqb l.groups (group_count l.geo) h.groups) in
    let size = inside 37 65024 l.geo.track_size g.least_track g.greatest_track in
    let tracks = le-ltb 1048576 (track_count l.geo) g.most_tracks in
    let cylinders = inside 1 65536 l.geo.cyls g.some_cylinders g.most_cylinders in
    let heads = inside 1 65536 l.geo.heads g.some_heads g.most_heads in
    none_stand (header_cases (identifiers_of roles) (judged (new_header (new_layout roles l))) len)
    (named, (heads, (cylinders, (tracks, (size, (refl, (words, (refl, (area, (format, tt))))))))))

pub new_sound : (roles : Roles) (l : Layout) (len : ℕ) → IsLayout l → IsLength l.groups len
    → header_fault (identifiers_of roles) (header_bytes (new_header (new_layout roles l))) len ≡ None
new_sound roles l len h fits =
    let n = new_layout roles l in
    sym (fault_of_bytes (header_bytes (new_header n)) (identifiers_of roles) len)
    ∙ ap (λ (x : ImageHeader). fault_of x (identifiers_of roles) len) (new_back n (record { geometry = h.geometry; groups = h.groups; format = h.format }))
    ∙ fields_sound roles l len h fits

-- ---- and say the layout

shadow_says : (shadow : Bool) → bytes_eq (cond shadow shadow_identifier base_identifier) shadow_identifier ≡ shadow
shadow_says true = refl
shadow_says false = refl

pub new_says : (roles : Roles) (l : Layout) → IsLayout l → layout_by (new_header (new_layout roles l)) ≡ new_layout roles l
new_says roles l h = λ i. record (new_layout roles l) { groups = sym h.groups i; shadow = shadow_says (is_new_shadow roles l.shadow) i }

pub bytes_say : (roles : Roles) (l : Layout) → IsLayout l → layout_of (header_bytes (new_header (new_layout roles l))) ≡ new_layout roles l
bytes_say roles l h =
    let n = new_layout roles l in
    sym (layout_of_bytes (header_bytes (new_header n)) (header_of (header_bytes (new_header n))) refl)
    ∙ ap layout_by (new_back n (record { geometry = h.geometry; groups = h.groups; format = h.format }))
    ∙ new_says roles l h

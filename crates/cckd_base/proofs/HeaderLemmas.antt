-- What headers without a fault say of the layout and of the file's length.
use Rattle.std.proofs.Common.{◌≡◌, ⊎_elim, ℕ, ◌≤◌, nat_lt, Bool, true, false, List, [], ◌∷◌, length, None, refl, sym, ◌∙◌, ap, subst}
use Rattle.std.specs.List.{list_any}
use Rattle.std.specs.Str.{bytes_eq}
use Rattle.std.proofs.lemmas.Bool.{false≢true, or_parts, or_cases, not-false, ltb-false, ltb-true}
use Rattle.std.proofs.lemmas.Slice.Eq.{bytes_eq-Decides}
use Rattle.cckd_base.specs.declared.geometry.Layout.{Layout}
use Rattle.cckd_base.specs.declared.fault.HeaderFault.{HeaderFault}
use Rattle.cckd_base.specs.Geometry.{track_count, group_count, area_of, format_limit, IsLayout}
use Rattle.cckd_base.specs.Header.{base_identifier, shadow_identifier, identifier, headers_of, judged_in, header_cases, first_case, header_fault, header_geometry, header_null_format, layout_of, is_outside}
use Rattle.cckd_base.specs.Image.{IsHeaded}

-- no case stands
abbrev pub NoneStands : List (Bool × HeaderFault) → Type 0
NoneStands [] = Unit {0}
NoneStands (c ∷ cs) = (c.0 ≡ false) × NoneStands cs

pub none_stands : (cs : List (Bool × HeaderFault)) → first_case cs ≡ None → NoneStands cs
none_stands [] e = tt
none_stands ((true, fault) ∷ cs) e = absurd (cc e)
none_stands ((false, fault) ∷ cs) e = (refl, none_stands cs e)

within : (low high n : ℕ) → is_outside low high n ≡ false → (low ≤ n) × (n ≤ high)
within low high n e = let parts = or_parts (nat_lt n low) (nat_lt high n) e in (ltb-false n low parts.0, ltb-false high n parts.1)

-- what is known of headers without a fault
pub record AreFaultless (identifiers : List (List ℕ)) (headers : List ℕ) (len : ℕ) : Type 0 where
  pub named : list_any (bytes_eq (identifier headers)) identifiers ≡ true
  pub layout : IsLayout (layout_of headers)
  pub area : area_of (layout_of headers).groups ≤ len
  pub short : len ≤ format_limit

pub faultless : (identifiers : List (List ℕ)) (headers : List ℕ) (len : ℕ) → header_fault identifiers headers len ≡ None → AreFaultless identifiers headers len
unfolding header_fault
faultless identifiers headers len e =
    let none = none_stands (header_cases identifiers (judged_in headers) len) e in
    let geometry = none.1 in
    let counts = geometry.1.1.1.1.1 in
    let geo = header_geometry headers in
    let heads = within 1 65536 geo.heads geometry.0 in
    let cylinders = within 1 65536 geo.cyls geometry.1.0 in
    let size = within 37 65024 geo.track_size geometry.1.1.1.0 in
    let fits = within (area_of (group_count geo)) format_limit len counts.1.1.0 in
    record {
      named = not-false _ (or_parts (nat_lt len 1024) _ none.0).1;
      layout = record {
        geometry = record {
          some_heads = heads.0;
          most_heads = heads.1;
          some_cylinders = cylinders.0;
          most_cylinders = cylinders.1;
          most_tracks = ltb-false 1048576 (track_count geo) geometry.1.1.0;
          least_track = size.0;
          greatest_track = size.1;
        };
        groups = refl;
        format = ltb-true (header_null_format headers) 2 (not-false _ counts.1.1.1.0);
      };
      area = fits.0;
      short = fits.1;
    }

-- one identifier was wanted
named_one : (id wanted : List ℕ) → list_any (bytes_eq id) (wanted ∷ []) ≡ true → id ≡ wanted
named_one id wanted e =
    ⊎_elim (λ (h : bytes_eq id wanted ≡ true). (bytes_eq-Decides id wanted).0 h)
    (λ (h : false ≡ true). absurd (false≢true h))
    (or_cases (bytes_eq id wanted) false e)

pub base_is_no_shadow : (headers : List ℕ) (len : ℕ) → header_fault (base_identifier ∷ []) headers len ≡ None → (layout_of headers).shadow ≡ false
base_is_no_shadow headers len e =
    ap (λ (id : List ℕ). bytes_eq id shadow_identifier) (named_one (identifier headers) base_identifier (faultless (base_identifier ∷ []) headers len e).named)

pub shadow_is_shadow : (headers : List ℕ) (len : ℕ) → header_fault (shadow_identifier ∷ []) headers len ≡ None → (layout_of headers).shadow ≡ true
shadow_is_shadow headers len e =
    ap (λ (id : List ℕ). bytes_eq id shadow_identifier) (named_one (identifier headers) shadow_identifier (faultless (shadow_identifier ∷ []) headers len e).named)

-- the same of a file
pub headed_layout : (identifiers : List (List ℕ)) (l : Layout) (file : List ℕ) → IsHeaded identifiers l file → IsLayout l
headed_layout identifiers l file h = subst IsLayout (sym h.says) (faultless identifiers (headers_of file) (length file) h.sound).layout

pub headed_area : (identifiers : List (List ℕ)) (l : Layout) (file : List ℕ) → IsHeaded identifiers l file → area_of l.groups ≤ length file
headed_area identifiers l file h =
    subst (λ (x : Layout). area_of x.groups ≤ length file) (sym h.says) (faultless identifiers (headers_of file) (length file) h.sound).area

pub headed_short : (identifiers : List (List ℕ)) (l : Layout) (file : List ℕ) → IsHeaded identifiers l file → length file ≤ format_limit
headed_short identifiers l file h = (faultless identifiers (headers_of file) (length file) h.sound).short

pub headed_base : (l : Layout) (file : List ℕ) → IsHeaded (base_identifier ∷ []) l file → l.shadow ≡ false
headed_base l file h = ap (λ (x : Layout). x.shadow) h.says ∙ base_is_no_shadow (headers_of file) (length file) h.sound

pub headed_shadow : (l : Layout) (file : List ℕ) → IsHeaded (shadow_identifier ∷ []) l file → l.shadow ≡ true
headed_shadow l file h = ap (λ (x : Layout). x.shadow) h.says ∙ shadow_is_shadow (headers_of file) (length file) h.sound

-- Headers that are accepted for some roles are those of the file that their own identifier names.
use Rattle.std.proofs.Common.{◌≡◌, ℕ, Bool, true, false, ◌||◌, not, cond, List, [], ◌∷◌, ◌++◌, length, None, refl, sym, ◌∙◌, ap, subst}
use Rattle.std.specs.Prelude.{nat_lt}
use Rattle.std.specs.List.{list_any}
use Rattle.std.specs.Str.{bytes_eq}
use Rattle.std.proofs.Common.{inl, inr}
use Rattle.std.proofs.lemmas.Bool.{false≢true, or_from, or_left, or_cases}
use Rattle.std.proofs.Math.Bool.{or-false}
use Rattle.cckd_base.specs.declared.geometry.Layout.{Layout}
use Rattle.cckd_base.specs.declared.fault.HeaderFault.{HeaderFault}
use Rattle.cckd_base.specs.declared.fault.HeaderFault.TheVariants.{NotCckd}
use Rattle.cckd_base.specs.Header.{base_identifier, shadow_identifier, identifier, headers_of, judged_in, geometry_cases, count_cases, format_cases, first_case, header_fault, layout_of}
use Rattle.cckd_base.specs.Image.{IsHeaded}
use Rattle.cckd_base.proofs.HeaderLemmas.{faultless}
use Rattle.cckd_image.specs.declared.roles.Roles.{Roles}
use Rattle.cckd_image.specs.declared.roles.Roles.TheVariants.{Base, Shadow, Either}
use Rattle.cckd_image.specs.Image.{identifiers_of}
use Rattle.cckd_layer.specs.Sits.{identifiers_for}

same_case : (b c : Bool) (fault : HeaderFault) (cs : List (Bool × HeaderFault)) → c ≡ b → first_case ((b, fault) ∷ cs) ≡ None → first_case ((c, fault) ∷ cs) ≡ None
same_case b c fault cs e h = subst (λ (x : Bool). first_case ((x, fault) ∷ cs) ≡ None) (sym e) h

-- other identifiers that name the file are as good
other_identifiers : (ids others : List (List ℕ)) (headers : List ℕ) (len : ℕ) → list_any (bytes_eq (identifier headers)) others ≡ true → header_fault ids headers len ≡ None
    → header_fault others headers len ≡ None
unfolding header_fault
other_identifiers ids others headers len named e =
    let j = judged_in headers in
    let was : list_any (bytes_eq (identifier headers)) ids ≡ true = (faultless ids headers len e).named in
    same_case (nat_lt len 1024 || not (list_any (bytes_eq j.id) ids)) (nat_lt len 1024 || not (list_any (bytes_eq j.id) others)) (NotCckd j.id)
    (geometry_cases j ++ (count_cases j len ++ format_cases j))
    (ap (λ (b : Bool). nat_lt len 1024 || not b) (named ∙ sym was)) e

base_named : (roles : Roles) (id : List ℕ) → bytes_eq id shadow_identifier ≡ false → list_any (bytes_eq id) (identifiers_of roles) ≡ true → bytes_eq id base_identifier ≡ true
base_named Base id other named = sym (or-false (bytes_eq id base_identifier)) ∙ named
base_named Shadow id other named = absurd (false≢true (sym (or_from (bytes_eq id shadow_identifier) false other refl) ∙ named))
base_named Either id other named = elim (or_cases (bytes_eq id base_identifier) (bytes_eq id shadow_identifier || false) named) [
  | inl base ↦ base
  | inr shadow ↦ absurd (false≢true (sym (or_from (bytes_eq id shadow_identifier) false other refl) ∙ shadow))
]

own_named : (roles : Roles) (id : List ℕ) (shadow : Bool) → bytes_eq id shadow_identifier ≡ shadow → list_any (bytes_eq id) (identifiers_of roles) ≡ true
    → list_any (bytes_eq id) (cond shadow shadow_identifier base_identifier ∷ []) ≡ true
own_named roles id true e named = or_left (bytes_eq id shadow_identifier) false e
own_named roles id false e named = or_left (bytes_eq id base_identifier) false (base_named roles id e named)

-- the headers of a file of some roles are those of the file that its layout names
pub headed_for : (roles : Roles) (l : Layout) (file : List ℕ) → IsHeaded (identifiers_of roles) l file → IsHeaded (identifiers_for l) l file
headed_for roles l file h =
    let headers = headers_of file in
    let read = layout_of headers in
    let named = (faultless (identifiers_of roles) headers (length file) h.sound).named in
    let own = own_named roles (identifier headers) (bytes_eq (identifier headers) shadow_identifier) refl named in
    subst (λ (x : Layout). IsHeaded (identifiers_for x) x file) (sym h.says) (record {
      sound = other_identifiers (identifiers_of roles) (identifiers_for read) headers (length file) own h.sound;
      says = refl;
    })

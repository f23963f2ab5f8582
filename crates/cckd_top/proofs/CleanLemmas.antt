-- Files that open check clean.
use Rattle.std.proofs.Common.{◌≡◌, ℕ, Bool, true, false, ◌||◌, not, List, [], ◌∷◌, ◌++◌, map, length, None, refl, sym, ◌∙◌, ap, subst, arith, ⊎_elim}
use Rattle.std.specs.Prelude.{◌<◌, ◌≤◌, nat_lt}
use Rattle.std.specs.List.{list_any}
use Rattle.std.specs.Str.{bytes_eq}
use Rattle.std.proofs.lemmas.Bool.{cases_lt, false≢true, or_left, or_right}
use Rattle.std.proofs.Math.Bool.{or-false}
use Rattle.cckd_base.specs.declared.geometry.Geometry.{Geometry}
use Rattle.cckd_base.specs.declared.geometry.Layout.{Layout}
use Rattle.cckd_base.specs.declared.fault.HeaderFault.{HeaderFault}
use Rattle.cckd_base.specs.declared.fault.HeaderFault.TheVariants.{NotCckd}
use Rattle.cckd_base.specs.declared.damage.Damage.TheVariants as amiss
use Rattle.cckd_base.specs.declared.misfit.Misfit.{Misfit}
use Rattle.cckd_base.specs.Geometry.{track_count}
use Rattle.cckd_base.specs.Header.{base_identifier, shadow_identifier, identifier, headers_of, judged_in, geometry_cases, count_cases, format_cases, first_case, header_fault, layout_of}
use Rattle.cckd_base.specs.Image.{IsSound}
use Rattle.cckd_base.specs.Survey.{used_spaces, misfits}
use Rattle.cckd_base.proofs.HeaderLemmas.{faultless}
use Rattle.cckd_image.specs.declared.roles.Roles.TheVariants.{Either}
use Rattle.cckd_image.specs.Image.{identifiers_of}
use Rattle.cckd_check.specs.Damage.{damage, damage_below, unread}
use Rattle.cckd_check.proofs.FaultyLemmas.{none_damaged, none_unread}
use Rattle.cckd_stack.specs.Layers.{Stack, base, shadow, layer_count}
use Rattle.cckd_stack.specs.Opened.{StandIn, Opens}
use Rattle.cckd_top.specs.Clean.{ChecksClean, AreClean}

same_case : (b c : Bool) (fault : HeaderFault) (cs : List (Bool × HeaderFault)) → c ≡ b → first_case ((b, fault) ∷ cs) ≡ None → first_case ((c, fault) ∷ cs) ≡ None
same_case b c fault cs e h = subst (λ (x : Bool). first_case ((x, fault) ∷ cs) ≡ None) (sym e) h

-- an image of one role is one of either role
either_accepted : (ids : List (List ℕ)) (headers : List ℕ) (len : ℕ) → (list_any (bytes_eq (identifier headers)) ids ≡ true → list_any (bytes_eq (identifier headers)) (identifiers_of Either) ≡ true)
    → header_fault ids headers len ≡ None → header_fault (identifiers_of Either) headers len ≡ None
unfolding header_fault
either_accepted ids headers len also e =
    let j = judged_in headers in
    let was : list_any (bytes_eq (identifier headers)) ids ≡ true = (faultless ids headers len e).named in
    same_case (nat_lt len 1024 || not (list_any (bytes_eq j.id) ids)) (nat_lt len 1024 || not (list_any (bytes_eq j.id) (identifiers_of Either))) (NotCckd j.id)
    (geometry_cases j ++ (count_cases j len ++ format_cases j))
    (ap (λ (b : Bool). nat_lt len 1024 || not b) (also was ∙ sym was)) e

base_too : (id : List ℕ) → list_any (bytes_eq id) (base_identifier ∷ []) ≡ true → list_any (bytes_eq id) (identifiers_of Either) ≡ true
base_too id named = or_left (bytes_eq id base_identifier) (bytes_eq id shadow_identifier || false) (sym (or-false (bytes_eq id base_identifier)) ∙ named)

shadow_too : (id : List ℕ) → list_any (bytes_eq id) (shadow_identifier ∷ []) ≡ true → list_any (bytes_eq id) (identifiers_of Either) ≡ true
shadow_too id named = or_right (bytes_eq id base_identifier) (bytes_eq id shadow_identifier || false) named

none_amiss : (l : Layout) (file : List ℕ) → misfits l file ≡ [] → damage l file 0 ≡ []
unfolding damage
none_amiss l file none =
    let below = damage_below 0 l.geo (used_spaces l file) file (track_count l.geo) in
    ap (λ (found : List Misfit). map amiss.Misfit found ++ below) none ∙ none_damaged 0 l.geo (used_spaces l file) file (track_count l.geo) (omega arith)

all_judged : (l : Layout) (file : List ℕ) → unread l file 0 ≡ 0
unfolding unread
all_judged l file = none_unread 0 l.geo (used_spaces l file) file (track_count l.geo) (omega arith)

sound_clean : (ids : List (List ℕ)) (l : Layout) (file : List ℕ) → ((id : List ℕ) → list_any (bytes_eq id) ids ≡ true → list_any (bytes_eq id) (identifiers_of Either) ≡ true)
    → IsSound ids l file → ChecksClean file
sound_clean ids l file also h = record {
  headed = record { sound = either_accepted ids (headers_of file) (length file) (also (identifier (headers_of file))) h.headed.sound; says = refl };
  whole = none_amiss (layout_of (headers_of file)) file (subst (λ (x : Layout). misfits x file ≡ []) h.headed.says h.clean);
  judged = all_judged (layout_of (headers_of file)) file;
}

stand_clean : (g : Geometry) (files : ℕ → List ℕ) (s : Stack) (slot : ℕ) → slot < layer_count s → StandIn g files s → ChecksClean (files slot)
stand_clean g files (base layer) slot low h =
    let first : 0 ≡ slot = omega (arith, low) in
    subst (λ (n : ℕ). ChecksClean (files n)) first (sound_clean (base_identifier ∷ []) h.layout (files 0) base_too h.sound)
stand_clean g files (shadow layer lower) slot low h = ⊎_elim
    (λ (less : slot < layer_count lower). stand_clean g files lower slot less h.0)
    (λ (most : layer_count lower ≤ slot).
    let last : layer_count lower ≡ slot = omega (arith, low, most) in
    subst (λ (n : ℕ). ChecksClean (files n)) last (sound_clean (shadow_identifier ∷ []) h.1.layout (files (layer_count lower)) shadow_too h.1.sound))
    (cases_lt slot (layer_count lower))

pub open_clean : (g : Geometry) (files : ℕ → List ℕ) (s : Stack) → Opens g files s → AreClean files
open_clean g files s h slot low present = ⊎_elim
    (λ (less : slot < layer_count s). stand_clean g files s slot less h.stand)
    (λ (most : layer_count s ≤ slot). absurd (false≢true (sym (h.above slot most low) ∙ present)))
    (cases_lt slot (layer_count s))

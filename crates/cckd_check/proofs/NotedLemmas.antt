-- Of each track, the first space that is its own.
use Rattle.std.proofs.Common.{◌≡◌, ℕ, suc, ◌+◌, ◌-◌, ◌<◌, ◌≤◌, ◌≢◌, ◌==◌, ◌⊎◌, Bool, true, false, ◌&&◌, List, [], ◌∷◌, ◌++◌, length, take, get_or, set, Option, Some, None, refl, sym, ◌∙◌, ap, subst, inl, inr, ⊎_elim, arith, get_or-set_same, get_or-set_other}
use Rattle.std.specs.Prelude.{nat_lt, if◌then◌else◌, find, cond, slice_get}
use Rattle.std.specs.Option.{option_or}
use Rattle.std.proofs.lemmas.Bool.{cases_eq, eq-eqb, ne_eqb, ltb-true, ltb-false, eqb-true, eqb-false}
use Rattle.std.proofs.lemmas.List.{take_more, length-take-le, length-set}
use Rattle.std.proofs.lemmas.List.Folds.{find-append}
use Rattle.std.proofs.lemmas.Option.{slice_get-get_or}
use Rattle.cckd_base.specs.declared.space.Extent.{Extent}
use Rattle.cckd_base.specs.declared.space.Owner.{Owner}
use Rattle.cckd_base.specs.declared.space.Owner.TheVariants.{Nobody, Header, Table, Track}
use Rattle.cckd_check.specs.Damage.{is_owned_by, is_space_of}
use Rattle.cckd_check.specs.Inside.{space_named, noted, noted_for, AreNoted}

or_none : (o : Option Extent) → option_or o None ≡ o
or_none None = refl
or_none (Some e) = refl

-- a further space that isn't the track's changes nothing
found_before : (t : ℕ) (some : List Extent) (e : Extent) → is_space_of t e ≡ false → find (is_space_of t) (some ++ e ∷ []) ≡ find (is_space_of t) some
found_before t some e other =
    find-append (is_space_of t) some (e ∷ [])
    ∙ ap (λ (b : Bool). option_or (find (is_space_of t) some) (cond b (Some e) None)) other
    ∙ or_none (find (is_space_of t) some)

-- one that is the track's is found where none was
found_first : (t : ℕ) (some : List Extent) (e : Extent) → is_space_of t e ≡ true → find (is_space_of t) some ≡ None
    → find (is_space_of t) (some ++ e ∷ []) ≡ Some e
found_first t some e own none =
    find-append (is_space_of t) some (e ∷ [])
    ∙ ap (λ (o : Option Extent). option_or o (find (is_space_of t) (e ∷ []))) none
    ∙ ap (λ (b : Bool). cond b (Some e) None) own

-- and is no other where one was
found_still : (t : ℕ) (some : List Extent) (e first : Extent) → find (is_space_of t) some ≡ Some first → find (is_space_of t) (some ++ e ∷ []) ≡ Some first
found_still t some e first was =
    find-append (is_space_of t) some (e ∷ [])
    ∙ ap (λ (o : Option Extent). option_or o (find (is_space_of t) (e ∷ []))) was

longer : (some : List Extent) (e : Extent) → length (some ++ e ∷ []) ≡ suc (length some)
longer [] e = refl
longer (x ∷ some) e = ap suc (longer some e)

module _ (spaces some : List Extent) (e : Extent) (place : ℕ) (next : place ≡ suc (length some)) (here : slice_get spaces (length some) ≡ Some e)
    (low : (n : ℕ) → n < length some → (x : Extent) × (slice_get spaces n ≡ Some x)) where
  -- a space of no track changes nothing
  other_noted : (places : List ℕ) → AreNoted spaces some places → ((t : ℕ) → is_space_of t e ≡ false) → AreNoted spaces (some ++ e ∷ []) places
  other_noted places was other = record {
    each = λ t less. was.each t less ∙ sym (found_before t some e (other t));
    within = λ t. let w = was.within t in let l = longer some e in omega (arith, w, l);
  }

  track_noted : (places : List ℕ) (u : ℕ) → AreNoted spaces some places → ((t : ℕ) → is_space_of t e ≡ (u == t)) → AreNoted spaces (some ++ e ∷ []) (noted places u place)
  track_noted places u was own = by (nat_lt u (length places)) refl (get_or places u 0 == 0) refl
    where
      not_own : (t : ℕ) → t ≢ u → is_space_of t e ≡ false
      not_own t other = own t ∙ ne_eqb u t (λ same. other (sym same))

      is_own : is_space_of u e ≡ true
      is_own = own u ∙ eq-eqb u u refl

      has : (t n : ℕ) → t < length places → get_or places t 0 ≡ suc n → (x : Extent) × (find (is_space_of t) some ≡ Some x)
      has t n less at =
          let w = was.within t in
          let known = low n (omega (arith, w, at)) in
          (known.0, sym (was.each t less) ∙ ap (space_named spaces) at ∙ known.1)

      same_each : (get_or places u 0 ≢ 0) ⊎ (length places ≤ u) → (t : ℕ) → t < length places → space_named spaces (get_or places t 0) ≡ find (is_space_of t) (some ++ e ∷ [])
      same_each why t less = ⊎_elim
          (λ (same : t ≡ u).
          let some_place : get_or places t 0 ≢ 0 = ⊎_elim (λ (h : get_or places u 0 ≢ 0) (z : get_or places t 0 ≡ 0). h (ap (λ (k : ℕ). get_or places k 0) (sym same) ∙ z))
          (λ (h : length places ≤ u) (z : get_or places t 0 ≡ 0). absurd (omega (arith, h, less, same))) why in
          let one : get_or places t 0 ≡ suc (get_or places t 0 - 1) = omega (arith, some_place) in
          let x = has t (get_or places t 0 - 1) less one in
          was.each t less ∙ x.1 ∙ sym (found_still t some e x.0 x.1))
          (λ (other : t ≢ u). was.each t less ∙ sym (found_before t some e (not_own t other)))
          (cases_eq t u)

      same_noted : (get_or places u 0 ≢ 0) ⊎ (length places ≤ u) → AreNoted spaces (some ++ e ∷ []) places
      same_noted why = record {
        each = same_each why;
        within = λ t. let w = was.within t in let l = longer some e in omega (arith, w, l);
      }

      set_within : u < length places → (t : ℕ) → get_or (set places u place) t 0 ≤ length (some ++ e ∷ [])
      set_within less t = ⊎_elim
          (λ (same : t ≡ u).
          let at : get_or (set places u place) t 0 ≡ place = ap (λ (k : ℕ). get_or (set places u place) k 0) same ∙ get_or-set_same places u place 0 less in
          let l = longer some e in omega (arith, at, next, l))
          (λ (other : t ≢ u).
          let at : get_or (set places u place) t 0 ≡ get_or places t 0 = get_or-set_other places u t place 0 other in
          let w = was.within t in let l = longer some e in omega (arith, at, w, l))
          (cases_eq t u)

      set_each : u < length places → get_or places u 0 ≡ 0 → (t : ℕ) → t < length (set places u place)
          → space_named spaces (get_or (set places u place) t 0) ≡ find (is_space_of t) (some ++ e ∷ [])
      set_each less zero_there t inside = ⊎_elim
          (λ (same : t ≡ u).
          ap (λ (k : ℕ). space_named spaces (get_or (set places u place) k 0)) same
          ∙ ap (space_named spaces) (get_or-set_same places u place 0 less ∙ next) ∙ here
          ∙ sym (found_first u some e is_own (sym (was.each u less) ∙ ap (space_named spaces) zero_there))
          ∙ ap (λ (k : ℕ). find (is_space_of k) (some ++ e ∷ [])) (sym same))
          (λ (other : t ≢ u).
          ap (space_named spaces) (get_or-set_other places u t place 0 other)
          ∙ was.each t (let l = length-set places u place in omega (arith, inside, l))
          ∙ sym (found_before t some e (not_own t other)))
          (cases_eq t u)

      by : (b : Bool) → nat_lt u (length places) ≡ b → (c : Bool) → (get_or places u 0 == 0) ≡ c → AreNoted spaces (some ++ e ∷ []) (noted places u place)
      by false f c g = subst (AreNoted spaces (some ++ e ∷ []))
          (sym (ap (λ (x : Bool). if x && (get_or places u 0 == 0) then set places u place else places) f))
          (same_noted (inr (ltb-false u (length places) f)))
      by true f false g = subst (AreNoted spaces (some ++ e ∷ []))
          (sym (ap (λ (x : Bool). if x && (get_or places u 0 == 0) then set places u place else places) f ∙ ap (λ (x : Bool). if x then set places u place else places) g))
          (same_noted (inl (eqb-false (get_or places u 0) 0 g)))
      by true f true g = subst (AreNoted spaces (some ++ e ∷ []))
          (sym (ap (λ (x : Bool). if x && (get_or places u 0 == 0) then set places u place else places) f ∙ ap (λ (x : Bool). if x then set places u place else places) g))
          (record {
            each = set_each (ltb-true u (length places) f) (eqb-true (get_or places u 0) 0 g);
            within = set_within (ltb-true u (length places) f);
          })

  owner_noted : (places : List ℕ) (o : Owner) → e.owner ≡ o → AreNoted spaces some places → AreNoted spaces (some ++ e ∷ []) (noted_for o places place)
  owner_noted places Nobody is was = other_noted places was (λ t. ap (is_owned_by t) is)
  owner_noted places Header is was = other_noted places was (λ t. ap (is_owned_by t) is)
  owner_noted places (Table g) is was = other_noted places was (λ t. ap (is_owned_by t) is)
  owner_noted places (Track u) is was = track_noted places u was (λ t. ap (is_owned_by t) is)

-- the space behind those that were noted is noted too
pub one_noted : (spaces : List Extent) (i : ℕ) (e d : Extent) (place : ℕ) (places : List ℕ) → i < length spaces → e ≡ get_or spaces i d → place ≡ i + 1
    → AreNoted spaces (take i spaces) places → AreNoted spaces (take (i + 1) spaces) (noted_for e.owner places place)
one_noted spaces i e d place places less is next was =
    let long : length (take i spaces) ≡ i = length-take-le i spaces (omega (arith, less)) in
    subst (λ (some : List Extent). AreNoted spaces some (noted_for e.owner places place))
    (ap (λ (x : Extent). take i spaces ++ x ∷ []) is ∙ sym (take_more spaces i d less))
    (owner_noted spaces (take i spaces) e place (omega (arith, next, long))
    (ap (slice_get spaces) long ∙ slice_get-get_or spaces i d less ∙ ap Some (sym is))
    (λ n low. (get_or spaces n d, slice_get-get_or spaces n d (omega (arith, low, long, less))))
    places e.owner refl was)

-- Where bytes are unused: the space in use that first ends behind their place tells.
use Rattle.std.proofs.Common.{◌≡◌, ℕ, zero, suc, ◌+◌, ◌<◌, ◌≤◌, Bool, true, false, ◌&&◌, ◌||◌, List, [], ◌∷◌, length, get_or, refl, sym, ◌∙◌, ap, ⊎_elim, subst, arith}
use Rattle.std.specs.Prelude.{nat_le}
use Rattle.std.specs.List.{list_all}
use Rattle.std.proofs.lemmas.Bool.{leb-true, leb-false, le-leb, lt-leb, cases_lt}
use Rattle.std.proofs.lemmas.List.Folds.{list_all_at}
use Rattle.cckd_base.specs.declared.space.Extent.{Extent}
use Rattle.cckd_base.specs.Survey.{StandApart}
use Rattle.cckd_check.specs.Chain.{is_beside, is_unused}
use Rattle.cckd_check.proofs.ApartLemmas.{apart_order, apart_within}

all_by_place : (p : Extent → Bool) (es : List Extent) (d : Extent) → ((k : ℕ) → k < length es → p (get_or es k d) ≡ true) → list_all p es ≡ true
all_by_place p [] d each = refl
all_by_place p (e ∷ es) d each =
    let here = each zero (omega arith) in
    let rest = all_by_place p es d (λ k less. each (suc k) (omega (arith, less))) in
    ap (λ (b : Bool). b && list_all p es) here ∙ rest

beside_before : (at size : ℕ) (e : Extent) → e.pos + e.size ≤ at → is_beside at size e ≡ true
beside_before at size e h = ap (λ (b : Bool). b || nat_le (at + size) e.pos) (le-leb (e.pos + e.size) at h)

or_true_right : (a b : Bool) → b ≡ true → (a || b) ≡ true
or_true_right true b h = refl
or_true_right false b h = h

beside_behind : (at size : ℕ) (e : Extent) → at + size ≤ e.pos → is_beside at size e ≡ true
beside_behind at size e h = or_true_right (nat_le (e.pos + e.size) at) (nat_le (at + size) e.pos) (le-leb (at + size) e.pos h)

both_false : (a b : Bool) → a ≡ false → b ≡ false → (a || b) ≡ false
both_false a b h g = ap (λ (x : Bool). x || b) h ∙ g

not_beside : (at size : ℕ) (e : Extent) → at < e.pos + e.size → e.pos < at + size → is_beside at size e ≡ false
not_beside at size e h g = both_false (nat_le (e.pos + e.size) at) (nat_le (at + size) e.pos) (lt-leb (e.pos + e.size) at h) (lt-leb (at + size) e.pos g)

module _ (used : List Extent) (len at size behind : ℕ) (d : Extent) (apart : StandApart 0 used len)
    (before : (k : ℕ) → k < behind → (get_or used k d).pos + (get_or used k d).size ≤ at) where
  beside_each : (behind < length used → at + size ≤ (get_or used behind d).pos) → (k : ℕ) → k < length used → is_beside at size (get_or used k d) ≡ true
  beside_each here k less = ⊎_elim
      (λ (low : k < behind). beside_before at size (get_or used k d) (before k low))
      (λ (high : behind ≤ k). ⊎_elim
      (λ (more : behind < k).
      let place = here (omega (arith, more, less)) in
      let order = apart_order 0 used len behind k d apart more less in
      beside_behind at size (get_or used k d) (omega (arith, place, order)))
      (λ (same : k ≤ behind).
      let e : k ≡ behind = omega (arith, same, high) in
      let place = here (omega (arith, e, less)) in
      beside_behind at size (get_or used k d) (subst (λ (i : ℕ). at + size ≤ (get_or used i d).pos) (sym e) place))
      (cases_lt behind k))
      (cases_lt k behind)

  beside_all : (behind < length used → at + size ≤ (get_or used behind d).pos) → list_all (is_beside at size) used ≡ true
  beside_all here = all_by_place (is_beside at size) used d (beside_each here)

  -- where all end at or before the place, the bytes are unused as far as the file reaches
  pub unused_at_end : behind ≡ length used → is_unused used len at size ≡ nat_le (at + size) len
  unused_at_end all = and_true (nat_le (at + size) len) (list_all (is_beside at size) used) (beside_all (λ less. absurd (omega (arith, all, less))))
    where
      and_true : (a b : Bool) → b ≡ true → (a && b) ≡ a
      and_true true b h = h
      and_true false b h = refl

  -- else they are where they end before the next one begins
  pub unused_before : behind < length used → ((k : ℕ) → behind ≤ k → k < length used → at < (get_or used k d).pos + (get_or used k d).size)
      → is_unused used len at size ≡ nat_le (at + size) (get_or used behind d).pos
  unused_before less later = by (nat_le (at + size) (get_or used behind d).pos) refl
    where
      and_false : (a b : Bool) → b ≡ false → (a && b) ≡ false
      and_false true b h = h
      and_false false b h = refl

      both_true : (a b : Bool) → a ≡ true → b ≡ true → (a && b) ≡ true
      both_true a b h g = ap (λ (x : Bool). x && b) h ∙ g

      by : (b : Bool) → nat_le (at + size) (get_or used behind d).pos ≡ b → is_unused used len at size ≡ b
      by true h =
          let place = leb-true (at + size) (get_or used behind d).pos h in
          let within = apart_within 0 used len behind d apart less in
          both_true (nat_le (at + size) len) (list_all (is_beside at size) used) (le-leb (at + size) len (omega (arith, place, within))) (beside_all (λ _. place))
      by false h =
          let place = leb-false (at + size) (get_or used behind d).pos h in
          and_false (nat_le (at + size) len) (list_all (is_beside at size) used)
          (list_all_at (is_beside at size) used behind d less (not_beside at size (get_or used behind d) (later behind (omega arith) less) place))

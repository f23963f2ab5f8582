-- The space that is met, among those near a position.
use Rattle.std.proofs.Common.{◌≡◌, ℕ, zero, suc, ◌+◌, ◌-◌, ◌<◌, ◌≤◌, nat_le, Bool, true, false, not, ◌&&◌, List, [], ◌∷◌, ◌++◌, length, take, drop, get_or, Option, Some, None, refl, sym, ◌∙◌, ap, subst, arith, ◌⊎◌, inl, inr}
use Rattle.std.specs.List.{AllByRecursion, filter}
use Rattle.std.specs.Option.{option_to_list}
use Rattle.std.specs.Map.{values_of}
use Rattle.std.specs.Ordering.{nat_cmp, is_le}
use Rattle.std.specs.BTreeMap.Range.{range_contains, entries_between}
use Rattle.std.specs.declared.ops.Bound.TheVariants.{Included, Excluded, Unbounded}
use Rattle.std.proofs.lemmas.Bool.{le-leb, and_from, cond-true, cond-false, cases_lt, cases_Bool}
use Rattle.std.proofs.lemmas.List.{take-append-drop, take_more, drop_more}
use Rattle.cckd_base.specs.declared.space.Extent.{Extent}
use Rattle.cckd_base.specs.Survey.{share_a_byte, lower, met}
use Rattle.cckd_tables.specs.Kept.{HaveBytes, stand_apart, end_of, AreKeyed}
use Rattle.cckd_tables.proofs.MeetLemmas.{met_append, none_before, none_behind, lowest_stays, share_not, hit}
use Rattle.cckd_tables.proofs.OrderLemmas.{stand_parts, stand_from, all_between}
use Rattle.cckd_tables.proofs.RunLemmas.{all_back, stand_front, stand_back, ends_before, compared_greater, compared_le}

-- of spaces before a position the last can be met alone, and of those from it on the first
met_front : (at : ℕ) (xs : List Extent) (last e : Extent) → stand_apart at (xs ++ last ∷ []) ≡ true → last.pos < e.pos
    → met (xs ++ last ∷ []) e ≡ met (last ∷ []) e
met_front at xs last e h l =
    met_append xs (last ∷ []) e
    ∙ ap (λ (m : Option Extent). lower m (met (last ∷ []) e))
    (none_before xs e (all_between (λ (k : Extent). k.pos + k.size ≤ last.pos) (λ (k : Extent). k.pos + k.size ≤ e.pos) (λ k b. omega arith) xs (ends_before at xs last h)))

met_back : (at : ℕ) (y : Extent) (ys : List Extent) (e : Extent) → stand_apart at (y ∷ ys) ≡ true → 1 ≤ y.size → e.pos ≤ y.pos
    → met (y ∷ ys) e ≡ met (y ∷ []) e
met_back at y ys e h s l =
    let later = stand_from (y.pos + y.size) ys (stand_parts at y ys h).1 in
    elim (cases_Bool (share_a_byte y e)) [
      | inl t ↦ ap (λ (m : Option Extent). lower m (met ys e)) (cond-true (share_a_byte y e) (Some y) None t)
          ∙ lowest_stays y ys e (all_between (λ (k : Extent). y.pos + y.size ≤ k.pos) (λ (k : Extent). y.pos ≤ k.pos) (λ k b. omega arith) ys later)
          ∙ sym (ap (λ (m : Option Extent). lower m None) (cond-true (share_a_byte y e) (Some y) None t))
      | inr f ↦ elim (cases_lt y.pos (e.pos + e.size)) [
        | inl under ↦ absurd (share_not y e f under (omega arith))
        | inr past ↦ ap (lower (hit y e)) (none_behind ys e (all_between (λ (k : Extent). y.pos + y.size ≤ k.pos) (λ (k : Extent). e.pos + e.size ≤ k.pos) (λ k b. omega arith) ys later))
      ]
    ]

-- spaces in two parts: those that begin before this one, and those that begin with it or behind it
pub record Parts (xs front back : List Extent) (e : Extent) : Type 0 where
  pub joined : front ++ back ≡ xs
  pub front_low : AllByRecursion (λ (k : Extent). k.pos < e.pos) front
  pub back_high : AllByRecursion (λ (k : Extent). e.pos ≤ k.pos) back

last_of : (P : Extent → Type 0) (xs : List Extent) (x : Extent) → AllByRecursion P (xs ++ x ∷ []) → P x
last_of P xs x h = (all_back P xs (x ∷ []) h).0

-- what is met is among the last of the front and the first of the back
front_none : (front : List Extent) (e : Extent) → front ≡ [] → met front e ≡ None
front_none front e h = ap (λ (xs : List Extent). met xs e) h

front_last : (front xs back init : List Extent) (last e : Extent) → stand_apart 0 xs ≡ true → Parts xs front back e → front ≡ init ++ last ∷ []
    → met front e ≡ met (last ∷ []) e
front_last front xs back init last e h p g =
    let stands : stand_apart 0 (init ++ last ∷ []) ≡ true =
    subst (λ (ys : List Extent). stand_apart 0 ys ≡ true) g (stand_front 0 front back (ap (stand_apart 0) p.joined ∙ h)) in
    let low : last.pos < e.pos = last_of (λ (k : Extent). k.pos < e.pos) init last (subst (AllByRecursion (λ (k : Extent). k.pos < e.pos)) g p.front_low) in
    ap (λ (ys : List Extent). met ys e) g ∙ met_front 0 init last e stands low

back_first : (back xs front rest : List Extent) (first e : Extent) → stand_apart 0 xs ≡ true → HaveBytes xs → Parts xs front back e → back ≡ first ∷ rest
    → met back e ≡ met (first ∷ []) e
back_first back xs front rest first e h b p g =
    let stands : stand_apart (end_of 0 front) (first ∷ rest) ≡ true =
    subst (λ (ys : List Extent). stand_apart (end_of 0 front) ys ≡ true) g (stand_back 0 front back (ap (stand_apart 0) p.joined ∙ h)) in
    let bytes : HaveBytes back = all_back (λ (k : Extent). 1 ≤ k.size) front back (subst HaveBytes (sym p.joined) b) in
    let some : HaveBytes (first ∷ rest) = subst HaveBytes g bytes in
    let high : AllByRecursion (λ (k : Extent). e.pos ≤ k.pos) (first ∷ rest) = subst (AllByRecursion (λ (k : Extent). e.pos ≤ k.pos)) g p.back_high in
    ap (λ (ys : List Extent). met ys e) g ∙ met_back (end_of 0 front) first rest e stands some.0 high.0

joined_met : (xs front back : List Extent) (before behind : Option Extent) (e : Extent) → Parts xs front back e
    → met front e ≡ met (option_to_list before) e → met back e ≡ met (option_to_list behind) e
    → lower (met (option_to_list before) e) (met (option_to_list behind) e) ≡ met xs e
joined_met xs front back before behind e p f g =
    sym (ap (λ (ys : List Extent). met ys e) (sym p.joined) ∙ met_append front back e
    ∙ ap (λ (m : Option Extent). lower m (met back e)) f ∙ ap (lower (met (option_to_list before) e)) g)

-- of a run: the place was found by halving
all_within : (P : Extent → Type 0) (xs : List Extent) (i : ℕ) (d : Extent) → i ≤ length xs → ((k : ℕ) → k < i → P (get_or xs k d)) → AllByRecursion P (take i xs)
all_within P [] i d l h = subst (λ (n : ℕ). AllByRecursion P (take n [])) (let z : 0 ≡ i = omega arith in z) tt
all_within P (x ∷ xs) zero d l h = tt
all_within P (x ∷ xs) (suc i) d l h = (h 0 (omega arith), all_within P xs i d (omega arith) (λ k b. h (suc k) (omega arith)))

all_after : (P : Extent → Type 0) (xs : List Extent) (i : ℕ) (d : Extent) → ((k : ℕ) → i ≤ k → k < length xs → P (get_or xs k d)) → AllByRecursion P (drop i xs)
all_after P [] zero d h = tt
all_after P [] (suc i) d h = tt
all_after P (x ∷ xs) zero d h = (h 0 (omega arith) (omega arith), all_after P xs zero d (λ k a b. h (suc k) (omega arith) (omega arith)))
all_after P (x ∷ xs) (suc i) d h = all_after P xs i d (λ k a b. h (suc k) (omega arith) (omega arith))

pub run_parts : (run : List Extent) (at : ℕ) (d e : Extent) → at ≤ length run
    → ((k : ℕ) → k < at → (get_or run k d).pos < e.pos) → ((k : ℕ) → at ≤ k → k < length run → e.pos ≤ (get_or run k d).pos)
    → Parts run (take at run) (drop at run) e
run_parts run at d e l low high = record {
  joined = take-append-drop at run;
  front_low = all_within (λ (k : Extent). k.pos < e.pos) run at d l low;
  back_high = all_after (λ (k : Extent). e.pos ≤ k.pos) run at d high;
}

pub run_met : (run : List Extent) (at : ℕ) (d e : Extent) (before behind : Option Extent) → HaveBytes run → stand_apart 0 run ≡ true
    → at ≤ length run → Parts run (take at run) (drop at run) e
    → (((at ≡ 0) × (before ≡ None)) ⊎ ((1 ≤ at) × (before ≡ Some (get_or run (at - 1) d))))
    → (((at ≡ length run) × (behind ≡ None)) ⊎ ((at < length run) × (behind ≡ Some (get_or run at d))))
    → lower (met (option_to_list before) e) (met (option_to_list behind) e) ≡ met run e
run_met run at d e before behind b h l p u v = joined_met run (take at run) (drop at run) before behind e p (front u) (back v)
  where
    front : ((at ≡ 0) × (before ≡ None)) ⊎ ((1 ≤ at) × (before ≡ Some (get_or run (at - 1) d)))
        → met (take at run) e ≡ met (option_to_list before) e
    front (inl w) =
        front_none (take at run) e (ap (λ (n : ℕ). take n run) w.0) ∙ sym (ap (λ (m : Option Extent). met (option_to_list m) e) w.1)
    front (inr w) =
        let some = w.0 in
        let n : at ≡ (at - 1) + 1 = omega arith in
        front_last (take at run) run (drop at run) (take (at - 1) run) (get_or run (at - 1) d) e h p
        (ap (λ (k : ℕ). take k run) n ∙ take_more run (at - 1) d (omega arith))
        ∙ sym (ap (λ (m : Option Extent). met (option_to_list m) e) w.1)

    back : ((at ≡ length run) × (behind ≡ None)) ⊎ ((at < length run) × (behind ≡ Some (get_or run at d)))
        → met (drop at run) e ≡ met (option_to_list behind) e
    back (inl w) =
        front_none (drop at run) e (ap (λ (n : ℕ). drop n run) w.0 ∙ dropped run) ∙ sym (ap (λ (m : Option Extent). met (option_to_list m) e) w.1)
      where
        dropped : (ys : List Extent) → drop (length ys) ys ≡ []
        dropped [] = refl
        dropped (y ∷ ys) = dropped ys
    back (inr w) =
        back_first (drop at run) run (take at run) (drop (at + 1) run) (get_or run at d) e h b p (drop_more run at d w.0)
        ∙ sym (ap (λ (m : Option Extent). met (option_to_list m) e) w.1)

-- of a map: its entries below a key, and those from it on
module _ (below from : ℕ × Extent → Bool) (e : Extent)
    (is_below : (p : ℕ × Extent) → p.0 < e.pos → (below p ≡ true) × (from p ≡ false))
    (is_from : (p : ℕ × Extent) → e.pos ≤ p.0 → (below p ≡ false) × (from p ≡ true)) where
  all_from : (at : ℕ) (es : List (ℕ × Extent)) → AreKeyed es → stand_apart at (values_of es) ≡ true → e.pos ≤ at
      → (filter below es ≡ []) × (filter from es ≡ es)
  all_from at [] k h l = (refl, refl)
  all_from at (x ∷ es) k h l =
      let p = stand_parts at x.1 (values_of es) h in
      let low = p.0 in
      let same = k.0 in
      let b = is_from x (omega arith) in
      let rest = all_from (x.1.pos + x.1.size) es k.1 p.1 (omega arith) in (
        cond-false (below x) (x ∷ filter below es) (filter below es) b.0 ∙ rest.0,
        cond-true (from x) (x ∷ filter from es) (filter from es) b.1 ∙ ap (λ (ys : List (ℕ × Extent)). x ∷ ys) rest.1,
      )

  high_values : (at : ℕ) (es : List (ℕ × Extent)) → stand_apart at (values_of es) ≡ true → e.pos ≤ at → AllByRecursion (λ (k : Extent). e.pos ≤ k.pos) (values_of es)
  high_values at es h l =
      all_between (λ (k : Extent). at ≤ k.pos) (λ (k : Extent). e.pos ≤ k.pos) (λ k b. omega arith) (values_of es) (stand_from at (values_of es) h)

  pub late_parts : (at : ℕ) (es : List (ℕ × Extent)) → AreKeyed es → stand_apart at (values_of es) ≡ true
      → Parts (values_of es) (values_of (filter below es)) (values_of (filter from es)) e
  late_parts at [] k h = record { joined = refl; front_low = tt; back_high = tt }
  late_parts at (x ∷ es) k h = elim (cases_lt x.0 e.pos) [
    | inl low ↦ let p = stand_parts at x.1 (values_of es) h in
        let same = k.0 in
        let b = is_below x low in
        let rest = late_parts (x.1.pos + x.1.size) es k.1 p.1 in
        let f : filter below (x ∷ es) ≡ x ∷ filter below es = cond-true (below x) (x ∷ filter below es) (filter below es) b.0 in
        let g : filter from (x ∷ es) ≡ filter from es = cond-false (from x) (x ∷ filter from es) (filter from es) b.1 in
        subst (λ (ys : List (ℕ × Extent)). Parts (values_of (x ∷ es)) (values_of ys) (values_of (filter from (x ∷ es))) e) (sym f)
        (subst (λ (ys : List (ℕ × Extent)). Parts (values_of (x ∷ es)) (x.1 ∷ values_of (filter below es)) (values_of ys) e) (sym g)
        (record {
          joined = ap (λ (ys : List Extent). x.1 ∷ ys) rest.joined;
          front_low = (omega arith, rest.front_low);
          back_high = rest.back_high;
        }))
    | inr high ↦ let p = stand_parts at x.1 (values_of es) h in
        let low = p.0 in
        let same = k.0 in
        let at_once = all_from x.1.pos (x ∷ es) k (and_from (nat_le x.1.pos x.1.pos) (stand_apart (x.1.pos + x.1.size) (values_of es)) (le-leb x.1.pos x.1.pos (omega arith)) p.1) (omega arith) in
        subst (λ (ys : List (ℕ × Extent)). Parts (values_of (x ∷ es)) (values_of ys) (values_of (filter from (x ∷ es))) e) (sym at_once.0)
        (subst (λ (ys : List (ℕ × Extent)). Parts (values_of (x ∷ es)) [] (values_of ys) e) (sym at_once.1)
        (record {
          joined = refl;
          front_low = tt;
          back_high = (omega arith, high_values (x.1.pos + x.1.size) es p.1 (omega arith));
        }))
  ]

-- the last of the entries before a position, and the first of those from it on
abbrev pub LastOf : List (ℕ × Extent) → Option Extent → Type 0
LastOf fs before = ((fs ≡ []) × (before ≡ None)) ⊎ ((t : List (ℕ × Extent)) × (x : ℕ × Extent) × (fs ≡ t ++ x ∷ []) × (before ≡ Some x.1))

abbrev pub FirstOf : List (ℕ × Extent) → Option Extent → Type 0
FirstOf gs behind = ((gs ≡ []) × (behind ≡ None)) ⊎ ((x : ℕ × Extent) × (t : List (ℕ × Extent)) × (gs ≡ x ∷ t) × (behind ≡ Some x.1))

values_append : (xs ys : List (ℕ × Extent)) → values_of (xs ++ ys) ≡ values_of xs ++ values_of ys
values_append [] ys = refl
values_append (x ∷ xs) ys = ap (λ (vs : List Extent). x.1 ∷ vs) (values_append xs ys)

pub late_met : (es fs gs : List (ℕ × Extent)) (e : Extent) (before behind : Option Extent) → AreKeyed es → HaveBytes (values_of es) → stand_apart 0 (values_of es) ≡ true
    → fs ≡ entries_between nat_cmp Unbounded (Excluded e.pos) es → gs ≡ entries_between nat_cmp (Included e.pos) Unbounded es
    → LastOf fs before → FirstOf gs behind
    → lower (met (option_to_list before) e) (met (option_to_list behind) e) ≡ met (values_of es) e
late_met es fs gs e before behind k b h f g u v = joined_met (values_of es) (values_of fs) (values_of gs) before behind e parts (front u) (back v)
  where
    is_below : (p : ℕ × Extent) → p.0 < e.pos → (range_contains nat_cmp Unbounded (Excluded e.pos) p.0 ≡ true) × (range_contains nat_cmp (Included e.pos) Unbounded p.0 ≡ false)
    is_below p l = let o = compared_greater e.pos p.0 l in (ap (λ o. not (is_le o)) o, ap (λ o. is_le o && not false) o)

    is_from : (p : ℕ × Extent) → e.pos ≤ p.0 → (range_contains nat_cmp Unbounded (Excluded e.pos) p.0 ≡ false) × (range_contains nat_cmp (Included e.pos) Unbounded p.0 ≡ true)
    is_from p l = let o = compared_le e.pos p.0 l in (ap not o, ap (λ b. b && not false) o)

    parts : Parts (values_of es) (values_of fs) (values_of gs) e
    parts =
        subst (λ (ys : List (ℕ × Extent)). Parts (values_of es) (values_of ys) (values_of gs) e) (sym f)
        (subst (λ (ys : List (ℕ × Extent)). Parts (values_of es) (values_of (entries_between nat_cmp Unbounded (Excluded e.pos) es)) (values_of ys) e) (sym g)
        (late_parts (λ p. range_contains nat_cmp Unbounded (Excluded e.pos) p.0) (λ p. range_contains nat_cmp (Included e.pos) Unbounded p.0) e is_below is_from 0 es k h))

    front : LastOf fs before → met (values_of fs) e ≡ met (option_to_list before) e
    front (inl w) = front_none (values_of fs) e (ap values_of w.0) ∙ sym (ap (λ (m : Option Extent). met (option_to_list m) e) w.1)
    front (inr w) =
        front_last (values_of fs) (values_of es) (values_of gs) (values_of w.0) w.1.1 e h parts (ap values_of w.2 ∙ values_append w.0 (w.1 ∷ []))
        ∙ sym (ap (λ (m : Option Extent). met (option_to_list m) e) w.3)

    back : FirstOf gs behind → met (values_of gs) e ≡ met (option_to_list behind) e
    back (inl w) = front_none (values_of gs) e (ap values_of w.0) ∙ sym (ap (λ (m : Option Extent). met (option_to_list m) e) w.1)
    back (inr w) =
        back_first (values_of gs) (values_of es) (values_of fs) (values_of w.1) w.0.1 e h b parts (ap values_of w.2)
        ∙ sym (ap (λ (m : Option Extent). met (option_to_list m) e) w.3)

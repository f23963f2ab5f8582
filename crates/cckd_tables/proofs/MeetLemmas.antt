-- Spaces that share a byte.
use Rattle.std.proofs.Common.{◌≡◌, ℕ, ◌+◌, ◌<◌, ◌≤◌, nat_le, nat_lt, Bool, true, false, cond, List, [], ◌∷◌, ◌++◌, Option, Some, None, refl, sym, ◌∙◌, ap, arith, ◌⊎◌, inl, inr}
use Rattle.std.specs.List.{AllByRecursion}
use Rattle.std.proofs.lemmas.Bool.{leb-false, cond_both, lt-ltb, le-ltb, le-leb, lt-leb, and_from, and_left, and_right, cond-true, cond-false, cases_lt, cases_Bool}
use Rattle.cckd_base.specs.declared.space.Extent.{Extent}
use Rattle.cckd_base.specs.Survey.{share_a_byte, lower, met, placed_among, by_position}
use Rattle.cckd_tables.specs.Kept.{holding, holders, ShareNone}

pub hold_in : (at : ℕ) (e : Extent) → e.pos ≤ at → at < e.pos + e.size → holding at e ≡ 1
hold_in at e low high = cond-true _ 1 0 (and_from _ _ (le-leb e.pos at low) (lt-ltb at (e.pos + e.size) high))

pub hold_before : (at : ℕ) (e : Extent) → at < e.pos → holding at e ≡ 0
hold_before at e h = cond-false _ 1 0 (and_left _ _ (lt-leb e.pos at h))

pub hold_past : (at : ℕ) (e : Extent) → e.pos + e.size ≤ at → holding at e ≡ 0
hold_past at e h = cond-false _ 1 0 (and_right _ _ (le-ltb at (e.pos + e.size) h))

pub hold_once : (at : ℕ) (e : Extent) → holding at e ≤ 1
hold_once at e = at_most _
  where
    at_most : (b : Bool) → cond b 1 0 ≤ 1
    at_most true = omega arith
    at_most false = omega arith

holders_append : (at : ℕ) (xs ys : List Extent) → holders at (xs ++ ys) ≡ holders at xs + holders at ys
holders_append at [] ys = omega arith
holders_append at (x ∷ xs) ys = omega (arith, holders_append at xs ys)

pub share_not : (a b : Extent) → share_a_byte a b ≡ false → a.pos < b.pos + b.size → b.pos < a.pos + a.size → ⊥
share_not a b h low high =
    let e : share_a_byte a b ≡ true = and_from _ _ (lt-ltb _ _ low) (lt-ltb _ _ high) in
    cc

some_stays : (a : Extent) (m : Option Extent) → lower (Some a) m ≡ None → ⊥
some_stays a None e = absurd cc
some_stays a (Some b) e = chosen (nat_lt b.pos a.pos) e
  where
    chosen : (t : Bool) → cond t (Some b) (Some a) ≡ None → ⊥
    chosen true f = absurd cc
    chosen false f = absurd cc

pub met_cons : (x : Extent) (xs : List Extent) (e : Extent) → met (x ∷ xs) e ≡ None → (share_a_byte x e ≡ false) × (met xs e ≡ None)
met_cons x xs e h = elim (cases_Bool (share_a_byte x e)) [
  | inl t ↦ absurd (some_stays x (met xs e) (ap (λ (m : Option Extent). lower m (met xs e)) (sym (cond-true _ (Some x) None t)) ∙ h))
  | inr f ↦ (f, ap (λ (m : Option Extent). lower m (met xs e)) (sym (cond-false _ (Some x) None f)) ∙ h)
]

-- a space that meets none of these has no byte with them
pub unmet : (xs : List Extent) (e : Extent) → met xs e ≡ None → (at : ℕ) → e.pos ≤ at → at < e.pos + e.size → holders at xs ≡ 0
unmet [] e h at low high = refl
unmet (x ∷ xs) e h at low high =
    let parts = met_cons x xs e h in
    let rest = unmet xs e parts.1 at low high in
    let none : holding at x ≡ 0 = elim (cases_lt at x.pos) [
      | inl before ↦ hold_before at x before
      | inr from ↦ elim (cases_lt at (x.pos + x.size)) [
        | inl inside ↦ absurd (share_not x e parts.0 (omega arith) (omega arith))
        | inr past ↦ hold_past at x past
      ]
    ] in
    omega arith

pub apart_more : (xs : List Extent) (e : Extent) → ShareNone xs → met xs e ≡ None → ShareNone (xs ++ e ∷ [])
apart_more xs e apart h = record {
  each = λ at. let sum = holders_append at xs (e ∷ []) in
      let before = apart.each at in
      elim (cases_lt at e.pos) [
        | inl below ↦ let z = hold_before at e below in omega arith
        | inr from ↦ elim (cases_lt at (e.pos + e.size)) [
          | inl inside ↦ let z = unmet xs e h at from inside in let o = hold_once at e in omega arith
          | inr past ↦ let z = hold_past at e past in omega arith
        ]
      ];
}

-- of two that are met, the lower
first_stays : (a b : Extent) → a.pos ≤ b.pos → lower (Some a) (Some b) ≡ Some a
first_stays a b h = cond-false (nat_lt b.pos a.pos) (Some b) (Some a) (le-ltb b.pos a.pos h)

second_taken : (a b : Extent) → b.pos < a.pos → lower (Some a) (Some b) ≡ Some b
second_taken a b h = cond-true (nat_lt b.pos a.pos) (Some b) (Some a) (lt-ltb b.pos a.pos h)

pub lower_none : (m : Option Extent) → lower m None ≡ m
lower_none None = refl
lower_none (Some a) = refl

lower_three : (a b c : Extent) → lower (lower (Some a) (Some b)) (Some c) ≡ lower (Some a) (lower (Some b) (Some c))
lower_three a b c = elim (cases_lt b.pos a.pos) [
  | inl ba ↦ elim (cases_lt c.pos b.pos) [
    | inl cb ↦ ap (λ (m : Option Extent). lower m (Some c)) (second_taken a b ba) ∙ second_taken b c cb
        ∙ sym (ap (lower (Some a)) (second_taken b c cb) ∙ second_taken a c (omega arith))
    | inr bc ↦ ap (λ (m : Option Extent). lower m (Some c)) (second_taken a b ba) ∙ first_stays b c bc
        ∙ sym (ap (lower (Some a)) (first_stays b c bc) ∙ second_taken a b ba)
  ]
  | inr ab ↦ elim (cases_lt c.pos b.pos) [
    | inl cb ↦ ap (λ (m : Option Extent). lower m (Some c)) (first_stays a b ab) ∙ sym (ap (lower (Some a)) (second_taken b c cb))
    | inr bc ↦ ap (λ (m : Option Extent). lower m (Some c)) (first_stays a b ab) ∙ first_stays a c (omega arith)
        ∙ sym (ap (lower (Some a)) (first_stays b c bc) ∙ first_stays a b ab)
  ]
]

lower_assoc : (a b c : Option Extent) → lower (lower a b) c ≡ lower a (lower b c)
lower_assoc None b c = refl
lower_assoc (Some a) None c = refl
lower_assoc (Some a) (Some b) None = lower_none (lower (Some a) (Some b))
lower_assoc (Some a) (Some b) (Some c) = lower_three a b c

-- a space, where it is met
abbrev pub hit : Extent → Extent → Option Extent
hit k e = cond (share_a_byte k e) (Some k) None

pub met_append : (xs ys : List Extent) (e : Extent) → met (xs ++ ys) e ≡ lower (met xs e) (met ys e)
met_append [] ys e = refl
met_append (x ∷ xs) ys e =
    ap (lower (hit x e)) (met_append xs ys e) ∙ sym (lower_assoc (hit x e) (met xs e) (met ys e))

lower_swap : (s t : Bool) (x y : Extent) → y.pos < x.pos
    → lower (cond t (Some y) None) (cond s (Some x) None) ≡ lower (cond s (Some x) None) (cond t (Some y) None)
lower_swap true true x y h = first_stays y x (omega arith) ∙ sym (second_taken x y h)
lower_swap true false x y h = refl
lower_swap false true x y h = refl
lower_swap false false x y h = refl

met_placed : (x : Extent) (ys : List Extent) (e : Extent) → met (placed_among x ys) e ≡ met (x ∷ ys) e
met_placed x [] e = refl
met_placed x (y ∷ ys) e =
    cond_both (nat_le x.pos y.pos) (x ∷ y ∷ ys) (y ∷ placed_among x ys) (λ (zs : List Extent). met zs e ≡ met (x ∷ y ∷ ys) e)
    (λ t. refl)
    (λ f. ap (lower (hit y e)) (met_placed x ys e)
    ∙ sym (lower_assoc (hit y e) (hit x e) (met ys e))
    ∙ ap (λ (m : Option Extent). lower m (met ys e)) (lower_swap (share_a_byte x e) (share_a_byte y e) x y (leb-false x.pos y.pos f))
    ∙ lower_assoc (hit x e) (hit y e) (met ys e))

-- the order makes no difference to what is met
pub met_by_position : (xs : List Extent) (e : Extent) → met (by_position xs) e ≡ met xs e
met_by_position [] e = refl
met_by_position (x ∷ xs) e = met_placed x (by_position xs) e ∙ ap (lower (hit x e)) (met_by_position xs e)

-- spaces that end before this one, or begin behind it
pub share_none : (k e : Extent) → (k.pos + k.size ≤ e.pos) ⊎ (e.pos + e.size ≤ k.pos) → share_a_byte k e ≡ false
share_none k e (inl h) = and_right (nat_lt k.pos (e.pos + e.size)) (nat_lt e.pos (k.pos + k.size)) (le-ltb e.pos (k.pos + k.size) h)
share_none k e (inr h) = and_left (nat_lt k.pos (e.pos + e.size)) (nat_lt e.pos (k.pos + k.size)) (le-ltb k.pos (e.pos + e.size) h)

met_off : (k : Extent) (ks : List Extent) (e : Extent) → share_a_byte k e ≡ false → met (k ∷ ks) e ≡ met ks e
met_off k ks e h = ap (λ (m : Option Extent). lower m (met ks e)) (cond-false (share_a_byte k e) (Some k) None h)

pub none_before : (ks : List Extent) (e : Extent) → AllByRecursion (λ (k : Extent). k.pos + k.size ≤ e.pos) ks → met ks e ≡ None
none_before [] e h = refl
none_before (k ∷ ks) e h = met_off k ks e (share_none k e (inl h.0)) ∙ none_before ks e h.1

pub none_behind : (ks : List Extent) (e : Extent) → AllByRecursion (λ (k : Extent). e.pos + e.size ≤ k.pos) ks → met ks e ≡ None
none_behind [] e h = refl
none_behind (k ∷ ks) e h = met_off k ks e (share_none k e (inr h.0)) ∙ none_behind ks e h.1

-- the lowest that is met is met first
pub lowest_stays : (y : Extent) (ks : List Extent) (e : Extent) → AllByRecursion (λ (k : Extent). y.pos ≤ k.pos) ks → lower (Some y) (met ks e) ≡ Some y
lowest_stays y [] e h = refl
lowest_stays y (k ∷ ks) e h =
    sym (lower_assoc (Some y) (hit k e) (met ks e))
    ∙ ap (λ (m : Option Extent). lower m (met ks e)) (by (share_a_byte k e))
    ∙ lowest_stays y ks e h.1
  where
    by : (t : Bool) → lower (Some y) (cond t (Some k) None) ≡ Some y
    by true = first_stays y k h.0
    by false = refl

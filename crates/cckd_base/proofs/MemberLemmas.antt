-- Members of lists.
use Rattle.std.proofs.Common.{◌≡◌, ◌⊎◌, ℕ, zero, suc, ◌+◌, ◌<◌, ◌≤◌, List, [], ◌∷◌, ◌++◌, map, refl, sym, ap, subst, inl, inr, arith}
use Rattle.std.specs.List.{flat_map, range_with_len}
use Rattle.std.proofs.lemmas.Bool.{cases_lt}

-- one of a list
abbrev pub In : {X : Type 0} → X → List X → Type 0
In x [] = ⊥
In x (y ∷ ys) = (y ≡ x) ⊎ In x ys

pub in_left : {X : Type 0} (x : X) (xs ys : List X) → In x xs → In x (xs ++ ys)
in_left x [] ys h = absurd h
in_left x (z ∷ xs) ys h = elim h [ inl e ↦ inl e | inr m ↦ inr (in_left x xs ys m) ]

pub in_right : {X : Type 0} (x : X) (xs ys : List X) → In x ys → In x (xs ++ ys)
in_right x [] ys h = h
in_right x (z ∷ xs) ys h = inr (in_right x xs ys h)

pub in_split : {X : Type 0} (x : X) (xs ys : List X) → In x (xs ++ ys) → In x xs ⊎ In x ys
in_split x [] ys h = inr h
in_split x (z ∷ xs) ys h = elim h [ inl e ↦ inl (inl e) | inr m ↦ elim (in_split x xs ys m) [ inl k ↦ inl (inr k) | inr k ↦ inr k ] ]

pub in_range : {X : Type 0} (f : ℕ → X) (a n k : ℕ) → a ≤ k → k < a + n → In (f k) (map f (range_with_len a n))
in_range f a zero k low high = absurd (omega (arith, low, high))
in_range f a (suc n) k low high = elim (cases_lt a k) [
  | inl lt ↦ inr (in_range f (a + 1) n k (omega (arith, lt)) (omega (arith, high)))
  | inr ge ↦ let e : a ≡ k = omega (arith, low, ge) in inl (ap f e)
]

pub in_flat : {X Y : Type 0} (f : X → List Y) (x : X) (y : Y) (xs : List X) → In x xs → In y (f x) → In y (flat_map f xs)
in_flat f x y [] h k = absurd h
in_flat f x y (z ∷ zs) h k = elim h [
  | inl e ↦ in_left y (f z) (flat_map f zs) (subst (λ u. In y (f u)) (sym e) k)
  | inr m ↦ in_right y (f z) (flat_map f zs) (in_flat f x y zs m k)
]

-- a member of a mapped range is that of a number, and one of a flat list is one of a part
pub range_in : {X : Type 0} (f : ℕ → X) (a n : ℕ) (x : X) → In x (map f (range_with_len a n)) → (k : ℕ) × (a ≤ k) × (k < a + n) × (f k ≡ x)
range_in f a zero x h = absurd h
range_in f a (suc n) x h = elim h [
  | inl e ↦ (a, omega arith, omega arith, e)
  | inr m ↦ let r = range_in f (a + 1) n x m in (r.0, omega (arith, r.1), omega (arith, r.2), r.3)
]

pub flat_in : {X Y : Type 0} (f : X → List Y) (y : Y) (xs : List X) → In y (flat_map f xs) → (x : X) × In x xs × In y (f x)
flat_in f y [] h = absurd h
flat_in f y (x ∷ xs) h = elim (in_split y (f x) (flat_map f xs) h) [
  | inl here ↦ (x, inl refl, here)
  | inr later ↦ let r = flat_in f y xs later in (r.0, inr r.1, r.2)
]

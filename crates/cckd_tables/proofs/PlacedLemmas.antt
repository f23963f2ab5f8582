-- Lists in order of a key: where a key stands, what it finds, and what an element that is put in changes.
use Rattle.std.proofs.Common.{◌≡◌, ◌≢◌, ◌⊎◌, inl, inr, ℕ, zero, suc, ◌<◌, ◌≤◌, nat_lt, ◌==◌, true, false, cond, List, [], ◌∷◌, length, map, get_or, Option, Some, None, refl, sym, ◌∙◌, ap, subst, arith, slice_set}
use Rattle.std.specs.List.{insert, prefix_len, AllByRecursion}
use Rattle.std.specs.List.Sorted.{IsNonDecreasingBy}
use Rattle.std.proofs.lemmas.Bool.Decides.{eqb_tells, leb_tells}
use Rattle.cckd_tables.specs.Stages.{RiseFrom, with_placed}

module _ {X : Type 0} (key : X → ℕ) where
  -- none is below the least
  pub rise_least : (n : ℕ) (xs : List X) (i : ℕ) (d : X) → RiseFrom n (map key xs) → i < length xs → n ≤ key (get_or xs i d)
  rise_least n [] i d h l = absurd (omega arith)
  rise_least n (x ∷ xs) zero d h l = h.0
  rise_least n (x ∷ xs) (suc i) d h l =
      let rest = rise_least (suc (key x)) xs i d h.1 (omega arith) in let low = h.0 in omega arith

  -- a later one is above
  pub rise_later : (n : ℕ) (xs : List X) (i j : ℕ) (d : X) → RiseFrom n (map key xs) → i < j → j < length xs → key (get_or xs i d) < key (get_or xs j d)
  rise_later n [] i j d h l m = absurd (omega arith)
  rise_later n (x ∷ xs) zero zero d h l m = absurd (omega arith)
  rise_later n (x ∷ xs) zero (suc j) d h l m = rise_least (suc (key x)) xs j d h.1 (omega arith)
  rise_later n (x ∷ xs) (suc i) zero d h l m = absurd (omega arith)
  rise_later n (x ∷ xs) (suc i) (suc j) d h l m = rise_later (suc (key x)) xs i j d h.1 (omega arith) (omega arith)

  pub rises : (n : ℕ) (xs : List X) → RiseFrom n (map key xs) → IsNonDecreasingBy key xs
  rises n xs h i j d l m = by_order (eqb_tells i j) where
    by_order : (((i == j) ≡ true) × (i ≡ j)) ⊎ (((i == j) ≡ false) × (i ≢ j)) → key (get_or xs i d) ≤ key (get_or xs j d)
    by_order (inl same) = let e = ap (λ k. key (get_or xs k d)) same.1 in omega arith
    by_order (inr other) = let up = rise_later n xs i j d h (let ne = other.1 in omega arith) m in omega arith

  -- what a test of order says at the first element
  behind_first : (x : X) (xs : List X) (k at : ℕ) → at ≡ prefix_len (λ y. nat_lt (key y) k) (x ∷ xs)
      → ((key x < k) × (nat_lt (key x) k ≡ true) × (at ≡ suc (prefix_len (λ y. nat_lt (key y) k) xs))) ⊎ ((k ≤ key x) × (nat_lt (key x) k ≡ false) × (at ≡ 0))
  behind_first x xs k at is = by_test (leb_tells (suc (key x)) k) where
    by_test : ((nat_lt (key x) k ≡ true) × (suc (key x) ≤ k)) ⊎ ((nat_lt (key x) k ≡ false) × (k < suc (key x)))
        → ((key x < k) × (nat_lt (key x) k ≡ true) × (at ≡ suc (prefix_len (λ y. nat_lt (key y) k) xs))) ⊎ ((k ≤ key x) × (nat_lt (key x) k ≡ false) × (at ≡ 0))
    by_test (inl t) = let e = rw t.0 at is in inl (omega (arith, t.1), t.0, omega (arith, e))
    by_test (inr t) = let e = rw t.0 at is in inr (omega (arith, t.1), t.0, e)

  -- the place of an element whose key is there
  pub placed_set : (x : X) (xs : List X) (at : ℕ) (d : X) → at ≡ prefix_len (λ y. nat_lt (key y) (key x)) xs → at < length xs → key (get_or xs at d) ≡ key x
      → with_placed key x xs ≡ slice_set xs at x
  placed_set x [] at d is l same = absurd (omega arith)
  placed_set x (y ∷ ys) zero d is l same =
      elim (behind_first y ys (key x) zero is) [
        | inl t ↦ absurd (let e = t.2 in omega arith)
        | inr t ↦ elim (eqb_tells (key y) (key x)) [ inl u ↦ rw (t.1, u.0) refl | inr u ↦ absurd (u.1 same) ]
      ]
  placed_set x (y ∷ ys) (suc at) d is l same =
      elim (behind_first y ys (key x) (suc at) is) [
        | inl t ↦ rw t.1 (ap (λ (l : List X). y ∷ l) (placed_set x ys at d (let e = t.2 in omega arith) (omega arith) same))
        | inr t ↦ absurd (let e = t.2 in omega arith)
      ]

  -- the place of an element whose key isn't there
  pub placed_insert : (x : X) (xs : List X) (at : ℕ) (d : X) → at ≡ prefix_len (λ y. nat_lt (key y) (key x)) xs → (at < length xs → key (get_or xs at d) ≢ key x)
      → with_placed key x xs ≡ insert xs at x
  placed_insert x [] zero d is other = refl
  placed_insert x [] (suc at) d is other = refl
  placed_insert x (y ∷ ys) zero d is other =
      elim (behind_first y ys (key x) zero is) [
        | inl t ↦ absurd (let e = t.2 in omega arith)
        | inr t ↦ elim (eqb_tells (key y) (key x)) [ inl u ↦ absurd (other (omega arith) u.1) | inr u ↦ rw (t.1, u.0) refl ]
      ]
  placed_insert x (y ∷ ys) (suc at) d is other =
      elim (behind_first y ys (key x) (suc at) is) [
        | inl t ↦ rw t.1 (ap (λ (l : List X). y ∷ l) (placed_insert x ys at d (let e = t.2 in omega arith) (λ l. other (omega arith))))
        | inr t ↦ absurd (let e = t.2 in omega arith)
      ]

  -- the order stays
  pub placed_rises : (n : ℕ) (x : X) (xs : List X) → n ≤ key x → RiseFrom n (map key xs) → RiseFrom n (map key (with_placed key x xs))
  placed_rises n x [] l h = (l, tt)
  placed_rises n x (y ∷ ys) l h =
      elim (leb_tells (suc (key y)) (key x)) [
        | inl t ↦ rw t.0 (h.0, placed_rises (suc (key y)) x ys (omega (arith, t.1)) h.1)
        | inr t ↦ rw t.0 (elim (eqb_tells (key y) (key x)) [
          | inl u ↦ rw u.0 (l, subst (λ k. RiseFrom (suc k) (map key ys)) u.1 h.1)
          | inr u ↦ rw u.0 (l, ((let low = t.1 in let ne = u.1 in omega arith), h.1))
        ])
      ]

  -- what holds of each and of the new one holds of all
  pub all_placed : (P : X → Type 0) (x : X) (xs : List X) → P x → AllByRecursion P xs → AllByRecursion P (with_placed key x xs)
  all_placed P x [] one all = (one, tt)
  all_placed P x (y ∷ ys) one all =
      elim (leb_tells (suc (key y)) (key x)) [
        | inl t ↦ rw t.0 (all.0, all_placed P x ys one all.1)
        | inr t ↦ rw t.0 (elim (eqb_tells (key y) (key x)) [ inl u ↦ rw u.0 (one, all.1) | inr u ↦ rw u.0 (one, (all.0, all.1)) ])
      ]

module _ {X V : Type 0} (key : X → ℕ) (value : X → V) where
  -- the value of the first element with this key
  abbrev pub value_for : ℕ → List X → Option V
  value_for k [] = None
  value_for k (x ∷ xs) = cond (key x == k) (Some (value x)) (value_for k xs)

  -- a key below all isn't there
  pub none_below : (k n : ℕ) (xs : List X) → k < n → RiseFrom n (map key xs) → value_for k xs ≡ None
  none_below k n [] l h = refl
  none_below k n (x ∷ xs) l h =
      elim (eqb_tells (key x) k) [
        | inl t ↦ absurd (let low = h.0 in let e = t.1 in omega arith)
        | inr t ↦ rw t.0 (none_below k (suc (key x)) xs (let low = h.0 in omega arith) h.1)
      ]

  -- a key that is there is found at its place
  pub found_at : (k n : ℕ) (xs : List X) (at : ℕ) (d : X) → RiseFrom n (map key xs) → at ≡ prefix_len (λ y. nat_lt (key y) k) xs → at < length xs → key (get_or xs at d) ≡ k
      → value_for k xs ≡ Some (value (get_or xs at d))
  found_at k n [] at d h is l same = absurd (omega arith)
  found_at k n (x ∷ xs) zero d h is l same = elim (eqb_tells (key x) k) [ inl t ↦ rw t.0 refl | inr t ↦ absurd (t.1 same) ]
  found_at k n (x ∷ xs) (suc at) d h is l same =
      elim (behind_first key x xs k (suc at) is) [
        | inl t ↦ (elim (eqb_tells (key x) k) [
          | inl u ↦ absurd (let low = t.0 in let e = u.1 in omega arith)
          | inr u ↦ rw u.0 (found_at k (suc (key x)) xs at d h.1 (let e = t.2 in omega arith) (omega arith) same)
        ])
        | inr t ↦ absurd (let e = t.2 in omega arith)
      ]

  -- and one that isn't at its place isn't there
  pub none_at : (k n : ℕ) (xs : List X) (at : ℕ) (d : X) → RiseFrom n (map key xs) → at ≡ prefix_len (λ y. nat_lt (key y) k) xs → (at < length xs → key (get_or xs at d) ≢ k)
      → value_for k xs ≡ None
  none_at k n [] at d h is other = refl
  none_at k n (x ∷ xs) zero d h is other =
      elim (behind_first key x xs k zero is) [
        | inl t ↦ absurd (let e = t.2 in omega arith)
        | inr t ↦ (elim (eqb_tells (key x) k) [
          | inl u ↦ absurd (other (omega arith) u.1)
          | inr u ↦ rw u.0 (none_below k (suc (key x)) xs (let low = t.0 in let ne = u.1 in omega arith) h.1)
        ])
      ]
  none_at k n (x ∷ xs) (suc at) d h is other =
      elim (behind_first key x xs k (suc at) is) [
        | inl t ↦ (elim (eqb_tells (key x) k) [
          | inl u ↦ absurd (let low = t.0 in let e = u.1 in omega arith)
          | inr u ↦ rw u.0 (none_at k (suc (key x)) xs at d h.1 (let e = t.2 in omega arith) (λ l. other (omega arith)))
        ])
        | inr t ↦ absurd (let e = t.2 in omega arith)
      ]

  -- what was put in is found by its key
  pub value_here : (x : X) (xs : List X) → value_for (key x) (with_placed key x xs) ≡ Some (value x)
  value_here x [] = elim (eqb_tells (key x) (key x)) [ inl t ↦ rw t.0 refl | inr t ↦ absurd (t.1 refl) ]
  value_here x (y ∷ ys) =
      elim (leb_tells (suc (key y)) (key x)) [
        | inl t ↦ (elim (eqb_tells (key y) (key x)) [
          | inl u ↦ absurd (let low = t.1 in let e = u.1 in omega arith)
          | inr u ↦ rw (t.0, u.0) (value_here x ys)
        ])
        | inr t ↦ (elim (eqb_tells (key x) (key x)) [
          | inl v ↦ elim (eqb_tells (key y) (key x)) [ inl u ↦ rw (t.0, u.0, v.0) refl | inr u ↦ rw (t.0, u.0, v.0) refl ]
          | inr v ↦ absurd (v.1 refl)
        ])
      ]

  -- and every other key finds what it found
  pub value_other : (x : X) (xs : List X) (k : ℕ) → k ≢ key x → value_for k (with_placed key x xs) ≡ value_for k xs
  value_other x [] k ne = elim (eqb_tells (key x) k) [ inl t ↦ absurd (ne (sym t.1)) | inr t ↦ rw t.0 refl ]
  value_other x (y ∷ ys) k ne =
      elim (leb_tells (suc (key y)) (key x)) [
        | inl t ↦ rw t.0 (ap (λ o. cond (key y == k) (Some (value y)) o) (value_other x ys k ne))
        | inr t ↦ (elim (eqb_tells (key x) k) [
          | inl v ↦ absurd (ne (sym v.1))
          | inr v ↦ elim (eqb_tells (key y) (key x)) [
            | inl u ↦ (elim (eqb_tells (key y) k) [ inl w ↦ absurd (ne (sym w.1 ∙ u.1)) | inr w ↦ rw (t.0, u.0, v.0, w.0) refl ])
            | inr u ↦ rw (t.0, u.0, v.0) refl
          ]
        ])
      ]

  -- one more is there where the key is new
  pub length_new : (n : ℕ) (x : X) (xs : List X) → RiseFrom n (map key xs) → value_for (key x) xs ≡ None → length (with_placed key x xs) ≡ suc (length xs)
  length_new n x [] h none = refl
  length_new n x (y ∷ ys) h none =
      elim (eqb_tells (key y) (key x)) [
        | inl u ↦ absurd (let e = rw u.0 at none in cc)
        | inr u ↦ elim (leb_tells (suc (key y)) (key x)) [
          | inl t ↦ rw t.0 (ap (λ m. suc m) (length_new (suc (key y)) x ys h.1 (let e = rw u.0 at none in e)))
          | inr t ↦ rw (t.0, u.0) refl
        ]
      ]

  -- and as many as before where it replaces one
  pub length_again : (n : ℕ) (x : X) (xs : List X) (v : V) → RiseFrom n (map key xs) → value_for (key x) xs ≡ Some v → length (with_placed key x xs) ≡ length xs
  length_again n x [] v h some = absurd cc
  length_again n x (y ∷ ys) v h some =
      elim (eqb_tells (key y) (key x)) [
        | inl u ↦ (elim (leb_tells (suc (key y)) (key x)) [ inl t ↦ absurd (let low = t.1 in let e = u.1 in omega arith) | inr t ↦ rw (t.0, u.0) refl ])
        | inr u ↦ elim (leb_tells (suc (key y)) (key x)) [
          | inl t ↦ rw t.0 (ap (λ m. suc m) (length_again (suc (key y)) x ys v h.1 (let e = rw u.0 at some in e)))
          | inr t ↦ absurd (let none = none_below (key x) (suc (key y)) ys (let low = t.1 in let ne = u.1 in omega arith) h.1 in let e = rw u.0 at some in cc)
        ]
      ]

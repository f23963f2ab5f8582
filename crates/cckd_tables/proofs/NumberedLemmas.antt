-- Which element that passes a test has a number.
use Rattle.std.proofs.Common.{◌≡◌, ◌≢◌, ℕ, zero, suc, ◌+◌, ◌-◌, ◌<◌, ◌≤◌, Bool, true, false, List, [], ◌∷◌, ◌++◌, length, map, drop, get_or, Some, None, refl, ◌∙◌, ap, arith}
use Rattle.std.specs.List.{slice_get, filter, count_by}
use Rattle.std.proofs.lemmas.List.{at_drop_more, at_drop_all, length-map}
use Rattle.std.proofs.lemmas.List.Sums.{length-filter}

module _ {X Y : Type 0} (p : X → Bool) (f : X → Y) where
  -- those that pass, each with what it gives
  abbrev pub passed : List X → List Y
  passed xs = map f (filter p xs)

  -- the first is the one of number 0
  pub number_here : (xs : List X) (i left : ℕ) (d : X) → i < length xs → p (get_or xs i d) ≡ true → left ≡ 0 → slice_get (passed (drop i xs)) left ≡ Some (f (get_or xs i d))
  number_here xs i left d l yes_ first =
      at_drop_more (λ (ys : List X). slice_get (passed ys) left) xs i d l ∙ (rw (yes_, first) refl)

  -- the others count on behind it
  pub number_next : (xs : List X) (i left : ℕ) (d : X) → i < length xs → p (get_or xs i d) ≡ true → left ≢ 0 → slice_get (passed (drop i xs)) left ≡ slice_get (passed (drop (i + 1) xs)) (left - 1)
  number_next xs i zero d l yes_ more = absurd (more refl)
  number_next xs i (suc left) d l yes_ more =
      at_drop_more (λ (ys : List X). slice_get (passed ys) (suc left)) xs i d l ∙ (rw yes_ (let e : left ≡ suc left - 1 = omega arith in ap (λ k. slice_get (passed (drop (i + 1) xs)) k) e))

  -- one that fails the test has no number
  pub number_on : (xs : List X) (i left : ℕ) (d : X) → i < length xs → p (get_or xs i d) ≡ false → slice_get (passed (drop i xs)) left ≡ slice_get (passed (drop (i + 1) xs)) left
  number_on xs i left d l no_ = at_drop_more (λ (ys : List X). slice_get (passed ys) left) xs i d l ∙ (rw no_ refl)

  -- behind the last is nothing
  pub number_end : (xs : List X) (i left : ℕ) → length xs ≤ i → slice_get (passed (drop i xs)) left ≡ None
  number_end xs i left l = at_drop_all (λ (ys : List X). slice_get (passed ys) left) xs i l

  pub length_passed : (xs : List X) → length (passed xs) ≡ count_by p xs
  length_passed xs = length-map (filter p xs) f ∙ length-filter p xs

-- one of two lists, by number
pub number_before : {Y : Type 0} (xs ys : List Y) (n : ℕ) → n < length xs → slice_get (xs ++ ys) n ≡ slice_get xs n
number_before [] ys n l = absurd (omega arith)
number_before (x ∷ xs) ys zero l = refl
number_before (x ∷ xs) ys (suc n) l = number_before xs ys n (omega arith)

pub number_behind : {Y : Type 0} (xs ys : List Y) (n : ℕ) → length xs ≤ n → slice_get (xs ++ ys) n ≡ slice_get ys (n - length xs)
number_behind [] ys n l = let e : n ≡ n - 0 = omega arith in ap (slice_get ys) e
number_behind (x ∷ xs) ys zero l = absurd (omega arith)
number_behind (x ∷ xs) ys (suc n) l = number_behind xs ys n (omega arith) ∙ (let e : n - length xs ≡ suc n - suc (length xs) = omega arith in ap (slice_get ys) e)

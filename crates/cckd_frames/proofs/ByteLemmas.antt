-- A part of a list is written, and the parts beside it stay.
use Rattle.std.proofs.Common.{◌≡◌, ◌≢◌, ◌⊎◌, inl, inr, ℕ, zero, suc, ◌+◌, ◌-◌, ◌*◌, ◌≤◌, List, ◌++◌, length, take, drop, replicate, refl, sym, ap, ◌∙◌, subst, arith, length-append, length-take, length-drop}
use Rattle.std.proofs.lemmas.List.{length-replicate, take-append-le, drop-append-le, take-append-drop}
use Rattle.std.proofs.Math.Seq.{drop-append-add, take-append_seam, drop-append_seam}
use Rattle.std.proofs.Math.Nat.{mul-le-mul_right}
use Rattle.std.specs.List.{length_refill}
use Rattle.cckd_frames.specs.Frames.{refilled}
use Rattle.cckd_frames.specs.Store.{over, filled}

pub length-refilled : (xs ys : List ℕ) → length (refilled xs ys) ≡ length xs
length-refilled xs ys = sym (length_refill (length xs) xs ys refl)

-- as many bytes as there were are all of the new ones
pub refilled-same : (xs ys : List ℕ) → length ys ≡ length xs → refilled xs ys ≡ ys
refilled-same xs ys e =
    subst (λ n. take n (ys ++ drop (length ys) xs) ≡ ys) e (take-append_seam ys (drop (length ys) xs))

pub length-part : (p n : ℕ) (xs : List ℕ) → p + n ≤ length xs → length (take n (drop p xs)) ≡ n
length-part p n xs h = omega (arith, length-take n (drop p xs), length-drop p xs)

-- a part of the first of two lists, and one of the second
pub part_left : (q k : ℕ) (xs ys : List ℕ) → q + k ≤ length xs → take k (drop q (xs ++ ys)) ≡ take k (drop q xs)
part_left q k xs ys h =
    ap (λ l. take k l) (drop-append-le q xs ys (omega arith)) ∙ take-append-le k (drop q xs) ys (omega (arith, length-drop q xs))

pub part_right : (q k : ℕ) (xs ys : List ℕ) → length xs ≤ q → take k (drop q (xs ++ ys)) ≡ take k (drop (q - length xs) ys)
part_right q k xs ys h =
    let e : length xs + (q - length xs) ≡ q = omega arith in
    ap (λ l. take k l) (subst (λ n. drop n (xs ++ ys) ≡ drop (q - length xs) ys) e (drop-append-add xs ys (q - length xs)))

-- zeros behind the bytes reach up to n, and change none before them
pub length-filled : (n : ℕ) (bs : List ℕ) → n ≤ length (filled n bs)
length-filled n bs = omega (arith, length-append bs (replicate (n - length bs) 0), length-replicate {A = ℕ} (n - length bs) 0)

pub filled_longer : (n : ℕ) (bs : List ℕ) → length bs ≤ length (filled n bs)
filled_longer n bs = omega (arith, length-append bs (replicate (n - length bs) 0))

pub part_filled : (q k n : ℕ) (bs : List ℕ) → q + k ≤ length bs → take k (drop q (filled n bs)) ≡ take k (drop q bs)
part_filled q k n bs h = part_left q k bs (replicate (n - length bs) 0) h

module _ (p n : ℕ) (xs ws : List ℕ) (inside : p + n ≤ length xs) where
  pub length-over : length (over p n xs ws) ≡ length xs
  length-over =
      omega (arith, length-append (take p xs) (refilled (take n (drop p xs)) ws ++ drop n (drop p xs)), length-append (refilled (take n (drop p xs)) ws) (drop n (drop p xs)), length-refilled (take n (drop p xs)) ws, length-part p n xs inside, length-take p xs, length-drop n (drop p xs), length-drop p xs)

  -- the part itself
  pub over-here : take n (drop p (over p n xs ws)) ≡ refilled (take n (drop p xs)) ws
  over-here =
      let R = refilled (take n (drop p xs)) ws in let C = drop n (drop p xs) in
      let lp : length (take p xs) ≡ p = omega (arith, length-take p xs) in
      let lr : length R ≡ n = length-refilled (take n (drop p xs)) ws ∙ length-part p n xs inside in
      ap (λ l. take n l) (subst (λ m. drop m (take p xs ++ (R ++ C)) ≡ R ++ C) lp (drop-append_seam (take p xs) (R ++ C)))
      ∙ subst (λ m. take m (R ++ C) ≡ R) lr (take-append_seam R C)

  -- a part beside it
  pub over-beside : (q k : ℕ) → (q + k ≤ p) ⊎ (p + n ≤ q) → take k (drop q (over p n xs ws)) ≡ take k (drop q xs)
  over-beside q k h =
      let M = take n (drop p xs) in let R = refilled M ws in let C = drop n (drop p xs) in
      let lp : length (take p xs) ≡ p = omega (arith, length-take p xs) in
      let lm : length M ≡ n = length-part p n xs inside in
      let lr : length R ≡ n = length-refilled M ws ∙ lm in
      let whole : take p xs ++ (M ++ C) ≡ xs = ap (λ l. take p xs ++ l) (take-append-drop n (drop p xs)) ∙ take-append-drop p xs in
      subst (λ l. take k (drop q (take p xs ++ (R ++ C))) ≡ take k (drop q l)) whole
      (elim h [
        | inl left ↦ part_left q k (take p xs) (R ++ C) (omega arith) ∙ sym (part_left q k (take p xs) (M ++ C) (omega arith))
        | inr right ↦ (
            let s1 = part_right q k (take p xs) (R ++ C) (omega arith) in
            let s2 = part_right (q - length (take p xs)) k R C (omega arith) in
            let t1 = part_right q k (take p xs) (M ++ C) (omega arith) in
            let t2 = part_right (q - length (take p xs)) k M C (omega arith) in
            let same : length R ≡ length M = lr ∙ sym lm in
            s1 ∙ (s2 ∙ (ap (λ m. take k (drop (q - length (take p xs) - m) C)) same ∙ (sym t2 ∙ sym t1))))
      ])

order : (x y : ℕ) → x ≢ y → (x + 1 ≤ y) ⊎ (y + 1 ≤ x)
order zero zero ne = absurd (ne refl)
order zero (suc y) ne = inl (omega arith)
order (suc x) zero ne = inr (omega arith)
order (suc x) (suc y) ne = elim (order x y (λ e. ne (ap (λ n. suc n) e))) [ inl h ↦ inl (omega arith) | inr h ↦ inr (omega arith) ]

-- frames of one length do not overlap
pub frames_apart : (x y len : ℕ) → x ≢ y → (y * len + len ≤ x * len) ⊎ (x * len + len ≤ y * len)
frames_apart x y len ne =
    elim (order x y ne) [
      | inl below ↦ inr (omega (arith, mul-le-mul_right len below))
      | inr above ↦ inl (omega (arith, mul-le-mul_right len above))
    ]

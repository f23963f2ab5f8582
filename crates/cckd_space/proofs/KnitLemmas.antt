-- Two lists one behind the other, with the Free pieces at the border as one.
use Rattle.std.proofs.Common.{◌≡◌, ℕ, zero, suc, ◌<◌, ◌≤◌, max, Bool, true, false, ◌&&◌, List, [], ◌∷◌, ◌++◌, length, take, drop, refl, sym, ◌∙◌, ap, subst, arith}
use Rattle.std.proofs.lemmas.List.{append_assoc, length-drop}
use Rattle.cckd_space.specs.declared.piece.Piece.{Piece}
use Rattle.cckd_space.specs.Pieces.{is_free, joined, largest, merged}
use Rattle.cckd_space.specs.Inside.{AreMerged, size_of}
use Rattle.cckd_space.specs.Blocks.{AreFilled, AreFit, AreFitBut, block_at, ends_free, first_size, grown, knit, starts_free, whole}
use Rattle.cckd_space.proofs.MergeLemmas.{merged_same, size_of-merged}
use Rattle.cckd_space.proofs.KeptLemmas.{largest_drop}
use Rattle.cckd_space.proofs.BlockLemmas.{closed_by, grown_len, grown_merged, joined_twice, largest_append, merged_append, merged_before, merged_behind_too, merged_is_merged, no_end, start_whole, tail_merged, whole_at, whole_more}

-- the Free piece behind the border may go to the one before it
grown_edge : (xs ys : List Piece) → ends_free xs ≡ true → starts_free ys ≡ true → merged (grown (first_size ys) xs ++ drop 1 ys) ≡ merged (xs ++ ys)
grown_edge [] ys e f = absurd cc
grown_edge (p ∷ []) [] e f = absurd cc
grown_edge (p ∷ []) (q ∷ qs) e f = sym (joined_twice p q (merged qs) e f)
grown_edge (p ∷ x ∷ xs) ys e f = ap (joined p) (grown_edge (x ∷ xs) ys e f)

both_first : (a b : Bool) → (a && b) ≡ true → a ≡ true
both_first true b e = refl
both_first false b e = absurd cc

both_second : (a b : Bool) → (a && b) ≡ true → b ≡ true
both_second true b e = e
both_second false b e = absurd cc

-- behind a Free piece that a merged list begins with stands none
rest_starts : (ys : List Piece) → AreMerged ys → starts_free ys ≡ true → starts_free (drop 1 ys) ≡ false
rest_starts [] a e = refl
rest_starts (y ∷ []) a e = refl
rest_starts (y ∷ z ∷ zs) a e = let h : (true && is_free z) ≡ false = rw e at a.0 in h

-- what is merged on both sides of a border is merged by it
pub knit_merged : (xs ys : List Piece) → AreMerged xs → AreMerged ys → merged (xs ++ ys) ≡ knit xs ys
knit_merged xs ys a b = by (ends_free xs && starts_free ys) refl
  where
    by : (c : Bool) → (ends_free xs && starts_free ys) ≡ c → merged (xs ++ ys) ≡ knit xs ys
    by true e =
        let f = both_first (ends_free xs) (starts_free ys) e in
        let g = both_second (ends_free xs) (starts_free ys) e in
        let one = grown (first_size ys) xs in
        let n : (ends_free one && starts_free (drop 1 ys)) ≡ false = ap (λ (c : Bool). ends_free one && c) (rest_starts ys b g) ∙ no_end (ends_free one) in
        let m = merged_append one (drop 1 ys) (grown_merged (first_size ys) xs f a) (tail_merged ys b) n in
        rw e (sym (grown_edge xs ys f g) ∙ merged_same (one ++ drop 1 ys) m)
    by false e = rw e (merged_same (xs ++ ys) (merged_append xs ys a b e))

pub knit_is_merged : (xs ys : List Piece) → AreMerged xs → AreMerged ys → AreMerged (knit xs ys)
knit_is_merged xs ys a b = subst AreMerged (knit_merged xs ys a b) (merged_is_merged (xs ++ ys))

-- a merge where one part of three was changed
pub knit_around : (xs ys zs : List Piece) → AreMerged xs → AreMerged zs → merged (xs ++ (ys ++ zs)) ≡ knit xs (knit (merged ys) zs)
knit_around xs ys zs a b =
    let y = merged_is_merged ys in
    sym (merged_behind_too xs (ys ++ zs))
    ∙ (ap (λ (l : List Piece). merged (xs ++ l)) (sym (merged_before ys zs) ∙ knit_merged (merged ys) zs y b)
    ∙ knit_merged xs (knit (merged ys) zs) a (knit_is_merged (merged ys) zs y b))

ends_behind : (zs xs : List Piece) → 0 < length xs → ends_free (zs ++ xs) ≡ ends_free xs
ends_behind [] xs l = refl
ends_behind (z ∷ []) [] l = absurd (omega arith)
ends_behind (z ∷ []) (x ∷ xs) l = refl
ends_behind (z ∷ y ∷ ys) xs l = ends_behind (y ∷ ys) xs l

grown_behind : (more : ℕ) (zs xs : List Piece) → 0 < length xs → grown more (zs ++ xs) ≡ zs ++ grown more xs
grown_behind more [] xs l = refl
grown_behind more (z ∷ []) [] l = absurd (omega arith)
grown_behind more (z ∷ []) (x ∷ xs) l = refl
grown_behind more (z ∷ y ∷ ys) xs l = ap (λ (l : List Piece). z ∷ l) (grown_behind more (y ∷ ys) xs l)

-- only the last part before a border is touched
pub knit_behind : (zs xs ys : List Piece) → 0 < length xs → knit (zs ++ xs) ys ≡ zs ++ knit xs ys
knit_behind zs xs ys l = by (ends_free xs && starts_free ys) refl
  where
    by : (c : Bool) → (ends_free xs && starts_free ys) ≡ c → knit (zs ++ xs) ys ≡ zs ++ knit xs ys
    by true e = rw (ends_behind zs xs l, e) (ap (λ (m : List Piece). m ++ drop 1 ys) (grown_behind (first_size ys) zs xs l) ∙ append_assoc zs (grown (first_size ys) xs) (drop 1 ys))
    by false e = rw (ends_behind zs xs l, e) (append_assoc zs xs ys)

pub knit_size : (xs ys : List Piece) → AreMerged xs → AreMerged ys → size_of (knit xs ys) ≡ size_of (xs ++ ys)
knit_size xs ys a b = ap size_of (sym (knit_merged xs ys a b)) ∙ size_of-merged (xs ++ ys)

-- Blocks on both sides of a border.

-- how the blocks from an index on begin
starts_rest : (bs : List (List Piece)) (i : ℕ) → AreFilled bs → starts_free (whole (drop i bs)) ≡ starts_free (block_at bs i)
starts_rest [] zero f = refl
starts_rest [] (suc i) f = refl
starts_rest (b ∷ bs) zero f = start_whole b (whole bs) f.0
starts_rest (b ∷ bs) (suc i) f = starts_rest bs i f.1

-- where there is nothing to join
pub join_open : (bs : List (List Piece)) (i : ℕ) → i < length bs → AreFilled bs → (ends_free (block_at bs i) && starts_free (block_at bs (suc i))) ≡ false
    → whole bs ≡ whole (take i bs) ++ knit (block_at bs i) (whole (drop (suc i) bs))
join_open bs i l f e =
    let rest = whole (drop (suc i) bs) in
    let g : (ends_free (block_at bs i) && starts_free rest) ≡ false = ap (λ (c : Bool). ends_free (block_at bs i) && c) (starts_rest bs (suc i) f) ∙ e in
    whole_at bs i l ∙ ap (λ (m : List Piece). whole (take i bs) ++ m) (rw g refl)

-- and where there is
pub join_closed : (bs : List (List Piece)) (i : ℕ) → suc i < length bs → AreFilled bs → ends_free (block_at bs i) ≡ true → starts_free (block_at bs (suc i)) ≡ true
    → whole (closed_by i bs) ≡ whole (take i bs) ++ knit (block_at bs i) (whole (drop (suc i) bs))
join_closed [] i l f a b = absurd (omega arith)
join_closed (x ∷ []) i l f a b = absurd (omega arith)
join_closed (x ∷ [] ∷ ys) zero l f a b = absurd cc
join_closed (x ∷ (p ∷ ps) ∷ ys) zero l f a b = rw (a, b) refl
join_closed (x ∷ y ∷ ys) (suc i) l f a b =
    ap (λ (m : List Piece). x ++ m) (join_closed (y ∷ ys) i (omega arith) f.1 a b)
    ∙ sym (append_assoc x (whole (take i (y ∷ ys))) (knit (block_at (y ∷ ys) i) (whole (drop (suc i) (y ∷ ys)))))

pub join_offers : (bs : List (List Piece)) (i : ℕ) → suc i < length bs → largest (whole (closed_by i bs)) ≤ max (largest (whole bs)) (largest (block_at (closed_by i bs) i))
join_offers [] i l = absurd (omega arith)
join_offers (x ∷ []) i l = absurd (omega arith)
join_offers (x ∷ y ∷ ys) zero l =
    let a = largest_append (grown (first_size y) x) (drop 1 y ++ whole ys) in
    let b = largest_append (drop 1 y) (whole ys) in
    let c = largest_append x (y ++ whole ys) in
    let d = largest_append y (whole ys) in
    let e = largest_drop 1 y in
    omega (arith, a, b, c, d, e)
join_offers (x ∷ y ∷ ys) (suc i) l =
    let r = join_offers (y ∷ ys) i (omega arith) in
    let a = largest_append x (whole (closed_by i (y ∷ ys))) in
    let b = largest_append x (whole (y ∷ ys)) in
    omega (arith, r, a, b)

pub front_closed : (bs : List (List Piece)) (i : ℕ) → suc i < length bs → take i (closed_by i bs) ≡ take i bs
front_closed [] i l = absurd (omega arith)
front_closed (x ∷ []) i l = absurd (omega arith)
front_closed (x ∷ y ∷ ys) zero l = refl
front_closed (x ∷ y ∷ ys) (suc i) l = ap (λ (m : List (List Piece)). x ∷ m) (front_closed (y ∷ ys) i (omega arith))

pub fit_closed : (full : ℕ) (bs : List (List Piece)) (i : ℕ) → suc i < length bs → AreFit full bs → AreFitBut full 0 full (suc i) (closed_by i bs)
fit_closed full [] i l f = absurd (omega arith)
fit_closed full (x ∷ []) i l f = absurd (omega arith)
fit_closed full (x ∷ y ∷ ys) zero l f =
    let n = grown_len (first_size y) x in
    let d = length-drop 1 y in
    (omega (arith, n, f.0), omega (arith, n, f.1), (omega arith, omega (arith, d, f.2.1), f.2.2))
fit_closed full (x ∷ y ∷ ys) (suc i) l f = (f.0, f.1, fit_closed full (y ∷ ys) i (omega arith) f.2)

-- the block before a border as the end of all that stands before it
pub join_before : (bs : List (List Piece)) (i : ℕ) (xs ys : List Piece) → i < length bs → 0 < length (block_at bs i) → whole (take (suc i) bs) ≡ xs → whole (drop (suc i) bs) ≡ ys
    → whole (take i bs) ++ knit (block_at bs i) (whole (drop (suc i) bs)) ≡ knit xs ys
join_before bs i xs ys l some a b =
    sym (knit_behind (whole (take i bs)) (block_at bs i) (whole (drop (suc i) bs)) some)
    ∙ (ap (λ (m : List Piece). knit m (whole (drop (suc i) bs))) (sym (whole_more bs i l) ∙ a) ∙ ap (knit xs) b)

-- what follows a part that stays is determined
pub after_front : (xs ys zs : List Piece) → xs ++ ys ≡ xs ++ zs → ys ≡ zs
after_front [] ys zs e = e
after_front (x ∷ xs) ys zs e = after_front xs ys zs (ap (drop 1) e)

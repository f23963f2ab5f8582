-- Blocks that are neither empty nor too long stay so.
use Rattle.std.proofs.Common.{◌≡◌, ℕ, zero, suc, ◌+◌, ◌<◌, ◌≤◌, Bool, true, List, [], ◌∷◌, ◌++◌, length, map, take, slice_set, refl, ap, arith}
use Rattle.std.specs.List.{insert, remove}
use Rattle.std.proofs.lemmas.Bool.{cond_both}
use Rattle.std.proofs.lemmas.List.{length-append}
use Rattle.cckd_space.specs.declared.piece.Piece.{Piece}
use Rattle.cckd_space.specs.Pieces.{aligned_up, free_run, has_room, piece_end, replaced, reserved_in, reserved_piece}
use Rattle.cckd_space.specs.Inside.{AreMerged}
use Rattle.cckd_space.proofs.EndLemmas.{run_one}
use Rattle.cckd_space.specs.Blocks.{AreFilled, AreFit, AreFitBut, AreTidy, StayFit, block_at, whole}

pub fit_filled : (full : ℕ) (bs : List (List Piece)) → AreFit full bs → AreFilled bs
fit_filled full [] f = tt
fit_filled full (b ∷ bs) f = (f.0, fit_filled full bs f.2)

pub fit_wide : (m n : ℕ) (bs : List (List Piece)) → m ≤ n → AreFit m bs → AreFit n bs
fit_wide m n [] l f = tt
fit_wide m n (b ∷ bs) l f = (f.0, omega (arith, l, f.1), fit_wide m n bs l f.2)

-- blocks that aren't empty are fit for some number
pub filled_fit : (bs : List (List Piece)) → AreFilled bs → AreFit (length (whole bs)) bs
filled_fit [] f = tt
filled_fit (b ∷ bs) f =
    let n = length-append b (whole bs) in
    (f.0, omega (arith, n), fit_wide (length (whole bs)) (length (b ++ whole bs)) bs (omega (arith, n)) (filled_fit bs f.1))

pub stay_filled : (old new : List (List Piece)) → StayFit old new → AreFilled old → AreFilled new
stay_filled old new s f = fit_filled (length (whole old)) new (s (length (whole old)) (filled_fit old f))

pub fit_at : (full : ℕ) (bs : List (List Piece)) (i : ℕ) → i < length bs → AreFit full bs → (0 < length (block_at bs i)) × (length (block_at bs i) ≤ full)
fit_at full [] i l f = absurd (omega arith)
fit_at full (b ∷ bs) zero l f = (f.0, f.1)
fit_at full (b ∷ bs) (suc i) l f = fit_at full bs i (omega arith) f.2

pub fit_set : (full : ℕ) (bs : List (List Piece)) (i : ℕ) (b : List Piece) → 0 < length b → length b ≤ full → AreFit full bs → AreFit full (slice_set bs i b)
fit_set full [] i b some few f = tt
fit_set full (x ∷ xs) zero b some few f = (some, few, f.2)
fit_set full (x ∷ xs) (suc i) b some few f = (f.0, f.1, fit_set full xs i b some few f.2)

-- a block as long as the one in whose place it is
pub fit_even : (bs : List (List Piece)) (i : ℕ) (b : List Piece) → i < length bs → length b ≡ length (block_at bs i) → StayFit bs (slice_set bs i b)
fit_even bs i b l e = λ full f. let w = fit_at full bs i l f in fit_set full bs i b (omega (arith, w.0, e)) (omega (arith, w.1, e)) f

pub fit_but : (full least most : ℕ) (bs : List (List Piece)) (i : ℕ) (b : List Piece) → least ≤ length b → length b ≤ most → AreFit full bs → AreFitBut full least most i (slice_set bs i b)
fit_but full least most [] i b some few f = tt
fit_but full least most (x ∷ xs) zero b some few f = (some, few, f.2)
fit_but full least most (x ∷ xs) (suc i) b some few f = (f.0, f.1, fit_but full least most xs i b some few f.2)

pub fit_of_but : (full least most : ℕ) (bs : List (List Piece)) (i : ℕ) → 0 < length (block_at bs i) → length (block_at bs i) ≤ full → AreFitBut full least most i bs → AreFit full bs
fit_of_but full least most [] i some few f = tt
fit_of_but full least most (x ∷ xs) zero some few f = (some, few, f.2)
fit_of_but full least most (x ∷ xs) (suc i) some few f = (f.0, f.1, fit_of_but full least most xs i some few f.2)

pub but_at : (full least most : ℕ) (bs : List (List Piece)) (i : ℕ) → i < length bs → AreFitBut full least most i bs → (least ≤ length (block_at bs i)) × (length (block_at bs i) ≤ most)
but_at full least most [] i l f = absurd (omega arith)
but_at full least most (x ∷ xs) zero l f = (f.0, f.1)
but_at full least most (x ∷ xs) (suc i) l f = but_at full least most xs i (omega arith) f.2

-- the blocks without that one
pub fit_dropped : (full least most : ℕ) (bs : List (List Piece)) (i : ℕ) → AreFitBut full least most i bs → AreFit full (remove bs i)
fit_dropped full least most [] zero f = tt
fit_dropped full least most [] (suc i) f = tt
fit_dropped full least most (x ∷ xs) zero f = f.2
fit_dropped full least most (x ∷ xs) (suc i) f = (f.0, f.1, fit_dropped full least most xs i f.2)

-- two blocks in its place
pub fit_cut : (full least most : ℕ) (bs : List (List Piece)) (i : ℕ) (a b : List Piece) → i < length bs → 0 < length a → length a ≤ full → 0 < length b → length b ≤ full
    → AreFitBut full least most i bs → AreFit full (insert (slice_set bs i a) (suc i) b)
fit_cut full least most [] i a b l p q r s f = absurd (omega arith)
fit_cut full least most (x ∷ xs) zero a b l p q r s f = (p, q, (r, s, f.2))
fit_cut full least most (x ∷ xs) (suc i) a b l p q r s f = (f.0, f.1, fit_cut full least most xs i a b (omega arith) p q r s f.2)

-- two neighbours as one
pub fit_united : (full : ℕ) (bs : List (List Piece)) (i : ℕ) → suc i < length bs → length (block_at bs i) + length (block_at bs (suc i)) ≤ full → AreFit full bs
    → AreFit full (slice_set (remove bs (suc i)) i (block_at bs i ++ block_at bs (suc i)))
fit_united full [] i l h f = absurd (omega arith)
fit_united full (x ∷ []) i l h f = absurd (omega arith)
fit_united full (x ∷ y ∷ ys) zero l h f = let n = length-append x y in (omega (arith, n, f.0), omega (arith, n, h), f.2.2)
fit_united full (x ∷ y ∷ ys) (suc i) l h f = (f.0, f.1, fit_united full (y ∷ ys) i (omega arith) h f.2)

pub fit_pushed : (full : ℕ) (bs : List (List Piece)) (p : Piece) → 1 ≤ full → AreFit full bs → AreFit full (bs ++ (p ∷ []) ∷ [])
fit_pushed full [] p l f = (omega arith, omega (arith, l), tt)
fit_pushed full (b ∷ bs) p l f = (f.0, f.1, fit_pushed full bs p l f.2)

-- each block changed by itself, and not emptied nor made longer
pub fit_mapped : (f : List Piece → List Piece) → ((b : List Piece) → 0 < length b → 0 < length (f b)) → ((b : List Piece) → length (f b) ≤ length b) → (bs : List (List Piece)) → StayFit bs (map f bs)
fit_mapped f some few [] = λ full h. tt
fit_mapped f some few (b ∷ bs) = λ full h. let n = few b in (some b h.0, omega (arith, n, h.1), fit_mapped f some few bs full h.2)

-- the parts of a list in which no two neighbours are Free
pub merged_left : (xs ys : List Piece) → AreMerged (xs ++ ys) → AreMerged xs
merged_left [] ys a = tt
merged_left (x ∷ []) ys a = (tt, tt)
merged_left (x ∷ z ∷ zs) ys a = (a.0, merged_left (z ∷ zs) ys a.1)

pub merged_right : (xs ys : List Piece) → AreMerged (xs ++ ys) → AreMerged ys
merged_right [] ys a = a
merged_right (x ∷ xs) ys a = merged_right xs ys a.1

pub fit_tidy : (full : ℕ) (bs : List (List Piece)) → AreFit full bs → AreMerged (whole bs) → AreTidy bs
fit_tidy full [] f a = tt
fit_tidy full (b ∷ bs) f a = (f.0, merged_left b (whole bs) a, fit_tidy full bs f.2 (merged_right b (whole bs) a))

-- what stands before a block that goes stays
pub take_remove : (bs : List (List Piece)) (i : ℕ) → take i (remove bs i) ≡ take i bs
take_remove [] zero = refl
take_remove [] (suc i) = refl
take_remove (x ∷ xs) zero = refl
take_remove (x ∷ xs) (suc i) = ap (λ (m : List (List Piece)). x ∷ m) (take_remove xs i)

-- bytes reserved in a piece leave one at least
pub replaced_some : (test : Piece → Bool) (need : ℕ) → ((p : Piece) → test p ≡ true → has_room need p ≡ true) → (ps : List Piece) → 0 < length ps → 0 < length (replaced test (reserved_in need) ps)
replaced_some test need fits [] l = absurd (omega arith)
replaced_some test need fits (p ∷ ps) l =
    cond_both (test p) (reserved_in need p ++ ps) (p ∷ replaced test (reserved_in need) ps) (λ (m : List Piece). 0 < length m)
    (λ e.
    let at = aligned_up p.pos in
    let rest = free_run (at + need) (piece_end p) in
    let a = length-append (free_run p.pos at) (reserved_piece at need ∷ rest) in
    let b = length-append (reserved_in need p) ps in
    omega (arith, a, b))
    (λ e. omega arith)

-- and put two more into the list at most
pub replaced_few : (test : Piece → Bool) (need : ℕ) (ps : List Piece) → length (replaced test (reserved_in need) ps) ≤ length ps + 2
replaced_few test need [] = omega arith
replaced_few test need (p ∷ ps) =
    cond_both (test p) (reserved_in need p ++ ps) (p ∷ replaced test (reserved_in need) ps) (λ (m : List Piece). length m ≤ length (p ∷ ps) + 2)
    (λ e.
    let at = aligned_up p.pos in
    let rest = free_run (at + need) (piece_end p) in
    let a = length-append (free_run p.pos at) (reserved_piece at need ∷ rest) in
    let b = length-append (reserved_in need p) ps in
    let f = run_one p.pos at in
    let g = run_one (at + need) (piece_end p) in
    omega (arith, a, b, f, g))
    (λ e. let r = replaced_few test need ps in omega (arith, r))

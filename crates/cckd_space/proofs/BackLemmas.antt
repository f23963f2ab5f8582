-- A piece that is freed in its block, and the borders on both sides of the block.
use Rattle.std.proofs.Common.{◌≡◌, ℕ, zero, suc, ◌+◌, ◌-◌, ◌<◌, ◌≤◌, max, Bool, true, false, ◌&&◌, List, [], ◌∷◌, ◌++◌, length, take, drop, slice_set, refl, sym, ◌∙◌, ap, subst, arith, add-one}
use Rattle.std.proofs.lemmas.Bool.{cond_both}
use Rattle.std.proofs.lemmas.List.{drop-set-lt, get_or-set_same, take-set, take-take}
use Rattle.cckd_space.specs.declared.piece.Piece.{Piece}
use Rattle.cckd_space.specs.Pieces.{freed, largest, merged, replaced}
use Rattle.cckd_space.specs.Inside.{AreMerged, size_of}
use Rattle.cckd_space.specs.Blocks.{AreFilled, IsFoundIn, StayFit, block_at, ends_free, knit, starts_free, whole}
use Rattle.cckd_space.proofs.MergeLemmas.{size_of-merged}
use Rattle.cckd_space.proofs.BlockLemmas.{closed_by, largest_append, merged_some, no_end, replaced_in, size_of-append, whole_at, whole_set}
use Rattle.cckd_space.proofs.OrderLemmas.{rest_none, split_whole, swapped_len}
use Rattle.cckd_space.proofs.FitLemmas.{fit_at, fit_set, merged_left, merged_right}
use Rattle.cckd_space.proofs.KnitLemmas.{after_front, front_closed, join_before, join_closed, join_open, knit_around, knit_size}

-- A border, as the code names its two sides.

pub joined_none : (bs : List (List Piece)) (i : ℕ) → i < length bs → length bs ≤ i + 1 → whole bs ≡ whole (take i bs) ++ knit (block_at bs i) (whole (drop (i + 1) bs))
joined_none bs i l h =
    let b = block_at bs i in
    let none : whole (drop (suc i) bs) ≡ [] = rest_none bs (suc i) (omega (arith, h)) in
    let same : b ++ whole (drop (suc i) bs) ≡ knit b (whole (drop (suc i) bs)) = subst (λ (r : List Piece). b ++ r ≡ knit b r) (sym none) (let e = no_end (ends_free b) in rw e refl) in
    whole_at bs i l ∙ (ap (λ (m : List Piece). whole (take i bs) ++ m) same ∙ ap (λ (k : ℕ). whole (take i bs) ++ knit b (whole (drop k bs))) (sym (add-one i)))

pub joined_open : (bs : List (List Piece)) (i : ℕ) → i < length bs → AreFilled bs → (ends_free (block_at bs i) && starts_free (block_at bs (i + 1))) ≡ false
    → whole bs ≡ whole (take i bs) ++ knit (block_at bs i) (whole (drop (i + 1) bs))
joined_open bs i l f e =
    let s = add-one i in
    join_open bs i l f (subst (λ (k : ℕ). (ends_free (block_at bs i) && starts_free (block_at bs k)) ≡ false) s e)
    ∙ ap (λ (k : ℕ). whole (take i bs) ++ knit (block_at bs i) (whole (drop k bs))) (sym s)

pub joined_closed : (bs : List (List Piece)) (i : ℕ) → i + 1 < length bs → AreFilled bs → ends_free (block_at bs i) ≡ true → starts_free (block_at bs (i + 1)) ≡ true
    → whole (closed_by i bs) ≡ whole (take i bs) ++ knit (block_at bs i) (whole (drop (i + 1) bs))
joined_closed bs i l f a b =
    let s = add-one i in
    join_closed bs i (omega (arith, l)) f a (subst (λ (k : ℕ). starts_free (block_at bs k) ≡ true) s b)
    ∙ ap (λ (k : ℕ). whole (take i bs) ++ knit (block_at bs i) (whole (drop k bs))) (sym s)

pub joined_front : (bs now : List (List Piece)) (i : ℕ) → i + 1 < length bs → take (i + 1) now ≡ take (i + 1) (closed_by i bs) → take i now ≡ take i bs
joined_front bs now i l e =
    sym (take-take i (i + 1) now (omega arith))
    ∙ (ap (take i) e ∙ (take-take i (i + 1) (closed_by i bs) (omega arith) ∙ front_closed bs i (omega (arith, l))))

-- The block in which a piece is freed.

pub given_some : (test : Piece → Bool) (ps : List Piece) → 0 < length ps → 0 < length (merged (replaced test (λ p. freed p ∷ []) ps))
given_some test ps l = merged_some (replaced test (λ p. freed p ∷ []) ps) (let n = swapped_len test freed ps in omega (arith, n, l))

size_swapped : (test : Piece → Bool) (ps : List Piece) → size_of (replaced test (λ p. freed p ∷ []) ps) ≡ size_of ps
size_swapped test [] = refl
size_swapped test (p ∷ ps) =
    cond_both (test p) (freed p ∷ ps) (p ∷ replaced test (λ p. freed p ∷ []) ps) (λ (l : List Piece). size_of l ≡ p.size + size_of ps)
    (λ e. refl) (λ e. let r = size_swapped test ps in omega (arith, r))

pub given_size : (test : Piece → Bool) (ps : List Piece) → size_of (merged (replaced test (λ p. freed p ∷ []) ps)) ≡ size_of ps
given_size test ps = size_of-merged (replaced test (λ p. freed p ∷ []) ps) ∙ size_swapped test ps

pub given_fit : (bs : List (List Piece)) (i : ℕ) (b : List Piece) → i < length bs → 0 < length b → length b ≤ length (block_at bs i) → StayFit bs (slice_set bs i b)
given_fit bs i b l some few = λ full f. let w = fit_at full bs i l f in fit_set full bs i b some (omega (arith, few, w.1)) f

pub size_set : (bs : List (List Piece)) (i : ℕ) (b : List Piece) → i < length bs → size_of b ≡ size_of (block_at bs i) → size_of (whole (slice_set bs i b)) ≡ size_of (whole bs)
size_set bs i b l e =
    let a = whole (take i bs) in
    let c = whole (drop (suc i) bs) in
    let s = ap size_of (whole_set bs i b l) in
    let t = ap size_of (whole_at bs i l) in
    let p = size_of-append a (b ++ c) in
    let q = size_of-append b c in
    let r = size_of-append a (block_at bs i ++ c) in
    let u = size_of-append (block_at bs i) c in
    omega (arith, s, t, p, q, r, u, e)

pub largest_set : (bs : List (List Piece)) (i : ℕ) (b : List Piece) (more : ℕ) → i < length bs → largest b ≤ max (largest (block_at bs i)) more → largest (whole (slice_set bs i b)) ≤ max (largest (whole bs)) more
largest_set bs i b more l h =
    let a = whole (take i bs) in
    let c = whole (drop (suc i) bs) in
    let s = ap largest (whole_set bs i b l) in
    let t = ap largest (whole_at bs i l) in
    let p = largest_append a (b ++ c) in
    let q = largest_append b c in
    let r = largest_append a (block_at bs i ++ c) in
    let u = largest_append (block_at bs i) c in
    omega (arith, s, t, p, q, r, u, h)

-- what stands before and behind a block of merged blocks is merged
pub apart_before : (bs : List (List Piece)) (i : ℕ) → i < length bs → AreMerged (whole bs) → AreMerged (whole (take i bs))
apart_before bs i l a = merged_left (whole (take i bs)) (block_at bs i ++ whole (drop (suc i) bs)) (subst AreMerged (whole_at bs i l) a)

pub apart_here : (bs : List (List Piece)) (i : ℕ) → i < length bs → AreMerged (whole bs) → AreMerged (block_at bs i)
apart_here bs i l a = merged_left (block_at bs i) (whole (drop (suc i) bs)) (merged_right (whole (take i bs)) (block_at bs i ++ whole (drop (suc i) bs)) (subst AreMerged (whole_at bs i l) a))

pub apart_behind : (bs : List (List Piece)) (i : ℕ) → i < length bs → AreMerged (whole bs) → AreMerged (whole (drop (suc i) bs))
apart_behind bs i l a = merged_right (block_at bs i) (whole (drop (suc i) bs)) (merged_right (whole (take i bs)) (block_at bs i ++ whole (drop (suc i) bs)) (subst AreMerged (whole_at bs i l) a))

-- the joined list with a piece freed: its block between what stands before and behind
pub freed_whole : (test : Piece → Bool) (bs : List (List Piece)) (i : ℕ) → IsFoundIn test bs i → AreMerged (whole bs)
    → merged (replaced test (λ p. freed p ∷ []) (whole bs)) ≡ knit (whole (take i bs)) (knit (merged (replaced test (λ p. freed p ∷ []) (block_at bs i))) (whole (drop (suc i) bs)))
freed_whole test bs i h a =
    let new = replaced test (λ p. freed p ∷ []) (block_at bs i) in
    ap merged (sym (replaced_in test (λ p. freed p ∷ []) bs i h) ∙ whole_set bs i new h.within)
    ∙ knit_around (whole (take i bs)) new (whole (drop (suc i) bs)) (apart_before bs i h.within a) (apart_behind bs i h.within a)

-- the border behind a changed block
pub behind_joined : (bs : List (List Piece)) (i : ℕ) (b : List Piece) → i < length bs
    → whole (take i (slice_set bs i b)) ++ knit (block_at (slice_set bs i b) i) (whole (drop (i + 1) (slice_set bs i b))) ≡ whole (take i bs) ++ knit b (whole (drop (suc i) bs))
behind_joined bs i b l =
    ap (λ (m : List (List Piece)). whole m ++ knit (block_at (slice_set bs i b) i) (whole (drop (i + 1) (slice_set bs i b)))) (take-set bs i b)
    ∙ (ap (λ (m : List Piece). whole (take i bs) ++ knit m (whole (drop (i + 1) (slice_set bs i b)))) (get_or-set_same bs i b [] l)
    ∙ (ap (λ (m : List (List Piece)). whole (take i bs) ++ knit b (whole m)) (drop-set-lt (i + 1) bs i b (omega arith))
    ∙ ap (λ (k : ℕ). whole (take i bs) ++ knit b (whole (drop k bs))) (add-one i)))

-- the size of what is joined
pub size_joined : (bs : List (List Piece)) (i : ℕ) (b now : List Piece) → i < length bs → AreMerged b → AreMerged (whole (drop (suc i) bs)) → size_of b ≡ size_of (block_at bs i)
    → now ≡ whole (take i bs) ++ knit b (whole (drop (suc i) bs)) → size_of now ≡ size_of (whole bs)
size_joined bs i b now l m n e s =
    let a = whole (take i bs) in
    let c = whole (drop (suc i) bs) in
    let k = knit_size b c m n in
    let p = ap size_of s in
    let q = size_of-append a (knit b c) in
    let r = size_of-append b c in
    let t = ap size_of (whole_at bs i l) in
    let u = size_of-append a (block_at bs i ++ c) in
    let v = size_of-append (block_at bs i) c in
    omega (arith, k, p, q, r, t, u, v, e)

-- where no block stands before
pub first_joined : (bs : List (List Piece)) (i : ℕ) (ys : List Piece) → i ≡ 0 → whole (take i bs) ++ ys ≡ knit (whole (take i bs)) ys
first_joined bs i ys z = let e : whole (take i bs) ≡ [] = ap (λ (n : ℕ). whole (take n bs)) z in rw e refl

-- the border before, once the one behind was joined
pub before_joined : (bs now : List (List Piece)) (i : ℕ) (ys : List Piece) → 0 < i → i ≤ length now → AreFilled now → take i now ≡ take i bs → whole now ≡ whole (take i bs) ++ ys
    → whole (take (i - 1) now) ++ knit (block_at now (i - 1)) (whole (drop (i - 1 + 1) now)) ≡ knit (whole (take i bs)) ys
before_joined bs now i ys some within filled front e =
    let at = i - 1 in
    let next : suc at ≡ i = omega (arith, some) in
    let same : at + 1 ≡ suc at = add-one at in
    let rest : whole (drop i now) ≡ ys = after_front (whole (take i bs)) (whole (drop i now)) ys (ap (λ (m : List (List Piece)). whole m ++ whole (drop i now)) (sym front) ∙ (sym (split_whole now i) ∙ e)) in
    ap (λ (k : ℕ). whole (take at now) ++ knit (block_at now at) (whole (drop k now))) same
    ∙ join_before now at (whole (take i bs)) ys (omega (arith, next, within)) (some_block now at filled (omega (arith, next, within)))
    (ap (λ (k : ℕ). whole (take k now)) next ∙ ap whole front)
    (ap (λ (k : ℕ). whole (drop k now)) next ∙ rest)
  where
    some_block : (xs : List (List Piece)) (k : ℕ) → AreFilled xs → k < length xs → 0 < length (block_at xs k)
    some_block [] k f l = absurd (omega arith)
    some_block (x ∷ xs) zero f l = f.0
    some_block (x ∷ xs) (suc k) f l = some_block xs k f.1 (omega arith)

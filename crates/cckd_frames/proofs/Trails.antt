-- The nodes that words name one after another.
use Rattle.std.proofs.Common.{◌≡◌, ◌≢◌, inl, inr, ℕ, zero, suc, ◌+◌, ◌-◌, ◌<◌, List, [], ◌∷◌, length, Some, slice_get, refl, arith}
use Rattle.std.proofs.lemmas.Bool.Decides.{eqb_tells}
use Rattle.cckd_frames.specs.Nodes.{word, trail}
use Rattle.cckd_frames.specs.Table.{node_with, nth_after}

pub node_with-skip : (ws : List ℕ) (key a n : ℕ) → 0 < n → word ws 4 (word ws 2 a) ≢ key
    → node_with ws key (trail ws 2 a n) ≡ node_with ws key (trail ws 2 (word ws 2 a) (n - 1))
node_with-skip ws key a zero h ne = absurd (omega arith)
node_with-skip ws key a (suc m) h ne =
    let e : suc m - 1 ≡ m = omega arith in
    elim (eqb_tells (word ws 4 (word ws 2 a)) key) [ inl t ↦ absurd (ne t.1) | inr f ↦ rw (e, f.0) ]

pub trail-get : (ws : List ℕ) (c a n k : ℕ) → k < n → slice_get (trail ws c a n) k ≡ Some (nth_after ws c a (k + 1))
trail-get ws c a zero k h = absurd (omega arith)
trail-get ws c a (suc n) zero h = refl
trail-get ws c a (suc n) (suc k) h = let e : suc k + 1 ≡ suc (k + 1) = omega arith in rw e (trail-get ws c (word ws c a) n k (omega arith))

pub length-trail : (ws : List ℕ) (c a n : ℕ) → length (trail ws c a n) ≡ n
length-trail ws c a zero = refl
length-trail ws c a (suc n) = let r : length (trail ws c (word ws c a) n) ≡ n = length-trail ws c (word ws c a) n in omega arith

-- For callers: how many pieces there can be.
use Rattle.std.proofs.Common.{◌≡◌, ℕ, suc, ◌+◌, ◌*◌, ◌≤◌, Bool, true, false, cond, not, ◌&&◌, List, [], ◌∷◌, length, refl, ◌∙◌, ap, arith}
use Rattle.cckd_space.specs.declared.piece.Piece.{Piece}
use Rattle.cckd_space.specs.Pieces.{is_free, is_taken, counted, IsLaid}
use Rattle.cckd_space.proofs.CountLemmas.{one}

-- how many pieces there are at most, where the first is Free and where it isn't
both_ways : (p : Piece) (rest n : ℕ) → (is_free p ≡ false → rest ≤ 2 * n + 1) → (is_free p ≡ true → rest ≤ 2 * n) → suc rest ≤ 2 * (cond (is_taken p) 1 0 + n) + cond (is_free p) 1 0
both_ways p rest n a b = by (is_free p) refl
  where
    by : (f : Bool) → is_free p ≡ f → suc rest ≤ 2 * (cond (not (is_free p)) 1 0 + n) + cond (is_free p) 1 0
    by true e = let r = b e in rw e (omega (arith, r))
    by false e = let r = a e in rw e (omega (arith, r))

free_at_most : (p : Piece) → cond (is_free p) 1 0 ≤ 1
free_at_most p = elim (is_free p) as (λ b. cond b 1 0 ≤ 1) [ true ↦ omega arith | false ↦ omega arith ]

first_bound : (at : ℕ) (p : Piece) (ps : List Piece) (end : ℕ) → IsLaid at (p ∷ ps) end → length (p ∷ ps) ≤ 2 * counted is_taken (p ∷ ps) + cond (is_free p) 1 0
first_bound at p [] end l = both_ways p 0 0 (λ e. omega arith) (λ e. omega arith)
first_bound at p (q ∷ qs) end l =
    let r = first_bound (at + p.size) q qs end l.2 in
    both_ways p (length (q ∷ qs)) (counted is_taken (q ∷ qs)) (λ e. let f = free_at_most q in omega (arith, r, f))
    (λ e.
    let n : is_free q ≡ false = (let g : (true && is_free q) ≡ false = rw e at l.1 in g) in
    let z = ap one n in
    omega (arith, r, z))

-- twice as many as aren't Free, and one more
pub pieces_bound : (at : ℕ) (ps : List Piece) (end : ℕ) → IsLaid at ps end → length ps ≤ 2 * counted is_taken ps + 1
pieces_bound at [] end l = omega arith
pieces_bound at (p ∷ ps) end l = let r = first_bound at p ps end l in let f = free_at_most p in omega (arith, r, f)

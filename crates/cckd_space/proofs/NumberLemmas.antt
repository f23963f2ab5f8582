-- The numbers of a list of pieces that cover a file.
use Rattle.std.proofs.Common.{◌≡◌, ℕ, zero, suc, ◌+◌, ◌-◌, ◌*◌, ◌<◌, ◌≤◌, nat_le, Bool, true, false, cond, ◌&&◌, max, List, [], ◌∷◌, ◌++◌, length, get_or, Some, None, refl, arith, position}
use Rattle.std.proofs.lemmas.Bool.{cond_both, leb-true, leb-false, and_parts, false_from_ne_true}
use Rattle.cckd_base.specs.declared.space.Owner.TheVariants.{Nobody}
use Rattle.cckd_space.specs.declared.piece.Kind.TheVariants.{Used, Free, Reserved, Leaving, Pending}
use Rattle.cckd_space.specs.declared.piece.Piece.{Piece}
use Rattle.cckd_space.specs.Pieces.{is_free, is_roomy, is_roomy_from, used_kind, free_kind, first, has_room, aligned_up, piece_end, offer, greatest, largest, summed, counted, used_len, roomy_len, IsFormedAs, IsLaid}
use Rattle.cckd_space.proofs.LaidLemmas.{room_facts, laid_le}
use Rattle.cckd_space.proofs.SearchLemmas.{no_position}

pub greatest_ge : (f : Piece → ℕ) (xs : List Piece) (i : ℕ) (d : Piece) → i < length xs → f (get_or xs i d) ≤ greatest f xs
greatest_ge f [] i d h = absurd (omega arith)
greatest_ge f (x ∷ xs) zero d h = omega arith
greatest_ge f (x ∷ xs) (suc i) d h = let r = greatest_ge f xs i d (omega arith) in omega (arith, r)

pub offers : (need : ℕ) (p : Piece) → has_room need p ≡ true → need ≤ offer p
offers need p e = let r = room_facts need p e in rw r.free (omega (arith, r.fits))

no_offer : (need : ℕ) (p : Piece) → 0 < need → has_room need p ≡ false → offer p < need
no_offer need p some e = by (is_free p) refl
  where
    by : (b : Bool) → is_free p ≡ b → offer p < need
    by true f =
        let l : nat_le (aligned_up p.pos + need) (piece_end p) ≡ false = rw f at e in
        let m = leb-false (aligned_up p.pos + need) (piece_end p) l in
        rw f (omega (arith, m))
    by false f = rw f some

offer_le : (p : Piece) (end : ℕ) → piece_end p ≤ end → offer p ≤ end
offer_le p end h = cond_both (is_free p) (piece_end p - aligned_up p.pos) 0 (λ (n : ℕ). n ≤ end) (λ e. omega arith) (λ e. omega arith)

parts_fit : (p : Piece) → IsFormedAs p.kind p → used_len p + roomy_len p ≤ p.size
parts_fit p h =
    let by : IsFormedAs p.kind p → cond (used_kind p.kind) p.len 0 + cond (free_kind p.kind && nat_le 8 p.size) p.size 0 ≤ p.size =
    elim p.kind as (λ k. IsFormedAs k p → cond (used_kind k) p.len 0 + cond (free_kind k && nat_le 8 p.size) p.size 0 ≤ p.size) [
      | Used ↦ λ f. omega (arith, f.1)
      | Free ↦ λ f. cond_both (nat_le 8 p.size) p.size 0 (λ (n : ℕ). 0 + n ≤ p.size) (λ e. omega arith) (λ e. omega arith)
      | Reserved ↦ λ f. omega arith
      | Leaving ↦ λ f. omega arith
      | Pending ↦ λ f. omega arith
    ] in
    by h

pub sums_fit : (at : ℕ) (ps : List Piece) (end : ℕ) → IsLaid at ps end → at + (summed used_len ps + summed roomy_len ps) ≤ end
sums_fit at [] end h = omega (arith, h)
sums_fit at (p ∷ ps) end h =
    let r = sums_fit (at + p.size) ps end h.2 in
    let s = parts_fit p h.0.formed in
    omega (arith, r, s)

count_fits_one : (p : Piece) → 8 * cond (is_roomy p) 1 0 ≤ roomy_len p
count_fits_one p = by (is_roomy p) refl
  where
    by : (b : Bool) → is_roomy p ≡ b → 8 * cond (is_roomy p) 1 0 ≤ roomy_len p
    by true e = let l = leb-true 8 p.size (and_parts (is_free p) (nat_le 8 p.size) e).1 in rw e (omega (arith, l))
    by false e = rw e (omega arith)

pub count_fits : (ps : List Piece) → 8 * counted is_roomy ps ≤ summed roomy_len ps
count_fits [] = omega arith
count_fits (p ∷ ps) =
    let r = count_fits ps in
    let s = count_fits_one p in
    omega (arith, r, s)

pub largest_fits : (at : ℕ) (ps : List Piece) (end : ℕ) → IsLaid at ps end → largest ps ≤ end
largest_fits at [] end h = omega arith
largest_fits at (p ∷ ps) end h =
    let r = largest_fits (at + p.size) ps end h.2 in
    let s = laid_le (at + p.size) ps end h.2 in
    let o = offer_le p end (omega (arith, s, h.0.place)) in
    omega (arith, r, o)

pub small_none : (test : Piece → Bool) (need : ℕ) → ((p : Piece) → test p ≡ true → has_room need p ≡ true) → (xs : List Piece) → largest xs < need → position test xs ≡ None
small_none test need has xs h =
    let d : Piece = record { pos = 0; len = 0; size = 0; kind = Used; owner = Nobody } in
    no_position test xs d (λ k l. false_from_ne_true (test (get_or xs k d)) (λ e.
    let o = offers need (get_or xs k d) (has (get_or xs k d) e) in
    let g = greatest_ge offer xs k d l in
    omega (arith, o, g)))

-- a Free piece of at least 8 bytes offers some
roomy_offers : (from : ℕ) (p : Piece) → is_roomy_from from p ≡ true → 0 < offer p
roomy_offers from p e =
    let a = and_parts (is_roomy p) (nat_le from p.pos) e in
    let b = and_parts (is_free p) (nat_le 8 p.size) a.0 in
    let l = leb-true 8 p.size b.1 in
    rw b.0 (omega (arith, l))

-- so there is none where nothing is offered
pub no_roomy : (from : ℕ) (ps : List Piece) → largest ps ≤ 0 → first (is_roomy_from from) ps ≡ None
no_roomy from [] h = refl
no_roomy from (p ∷ ps) h =
    let n : is_roomy_from from p ≡ false = false_from_ne_true (is_roomy_from from p) (λ e. let o = roomy_offers from p e in omega (arith, o, h)) in
    rw n (no_roomy from ps (omega (arith, h)))

-- Of two lists one behind the other.

pub summed_append : (f : Piece → ℕ) (xs ys : List Piece) → summed f (xs ++ ys) ≡ summed f xs + summed f ys
summed_append f [] ys = omega arith
summed_append f (x ∷ xs) ys = let r = summed_append f xs ys in omega (arith, r)

pub greatest_append : (f : Piece → ℕ) (xs ys : List Piece) → greatest f (xs ++ ys) ≡ max (greatest f xs) (greatest f ys)
greatest_append f [] ys = omega arith
greatest_append f (x ∷ xs) ys = let r = greatest_append f xs ys in omega (arith, r)

-- whether so many bytes fit, by what is offered
pub nowhere_small : (need : ℕ) → 0 < need → (xs : List Piece) → first (has_room need) xs ≡ None → largest xs < need
nowhere_small need some [] e = some
nowhere_small need some (x ∷ xs) e = by (has_room need x) refl (nowhere_small need some xs)
  where
    by : (b : Bool) → has_room need x ≡ b → (first (has_room need) xs ≡ None → largest xs < need) → largest (x ∷ xs) < need
    by true f more = absurd (let g : Some x ≡ None = rw f at e in cc)
    by false f more = let r = more (rw f at e) in let o = no_offer need x some f in omega (arith, r, o)

pub small_nowhere : (test : Piece → Bool) (need : ℕ) → ((p : Piece) → test p ≡ true → has_room need p ≡ true) → (xs : List Piece) → largest xs < need → first test xs ≡ None
small_nowhere test need has [] h = refl
small_nowhere test need has (x ∷ xs) h =
    let n : test x ≡ false = false_from_ne_true (test x) (λ e. let o = offers need x (has x e) in omega (arith, o, h)) in
    rw n (small_nowhere test need has xs (omega (arith, h)))

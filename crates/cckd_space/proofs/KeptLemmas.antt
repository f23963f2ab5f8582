-- What a `Space` keeps of its list beside the list: a bound of what is offered.
use Rattle.std.proofs.Common.{◌≡◌, ℕ, zero, suc, ◌+◌, ◌-◌, ◌<◌, ◌≤◌, max, min, nat_lt, Bool, true, false, ◌&&◌, List, [], ◌∷◌, ◌++◌, length, take, drop, get_or, map, refl, ◌∙◌, ap, arith}
use Rattle.std.proofs.lemmas.Bool.{cond_both, ltb-true}
use Rattle.std.proofs.lemmas.List.{get_or-append-add, length-take-le}
use Rattle.cckd_space.specs.declared.piece.Kind.TheVariants.{Used, Free, Reserved, Leaving, Pending}
use Rattle.cckd_space.specs.declared.piece.Piece.{Piece}
use Rattle.cckd_space.specs.Pieces.{is_free, replaced, free_piece, free_run, reserved_piece, reserved_in, freed, joined, retired, retired_as, has_room, aligned_up, piece_end, offer, largest, trimmed, used_end, end_place, appended, cut, IsLaid}
use Rattle.cckd_space.proofs.LaidLemmas.{room_facts}
use Rattle.cckd_space.proofs.MergeLemmas.{IsFreedAt}

pub largest_append : (xs ys : List Piece) → largest (xs ++ ys) ≡ max (largest xs) (largest ys)
largest_append [] ys = omega arith
largest_append (x ∷ xs) ys = let r = largest_append xs ys in omega (arith, r)

pub largest_take : (n : ℕ) (xs : List Piece) → largest (take n xs) ≤ largest xs
largest_take zero xs = omega arith
largest_take (suc n) [] = omega arith
largest_take (suc n) (x ∷ xs) = let r = largest_take n xs in omega (arith, r)

pub largest_drop : (n : ℕ) (xs : List Piece) → largest (drop n xs) ≤ largest xs
largest_drop zero xs = omega arith
largest_drop (suc n) [] = omega arith
largest_drop (suc n) (x ∷ xs) = let r = largest_drop n xs in omega (arith, r)

-- pieces that offer no more than the one in whose place they are
pub largest_replaced : (test : Piece → Bool) (news : Piece → List Piece) → ((p : Piece) → test p ≡ true → largest (news p) ≤ offer p) → (ps : List Piece) → largest (replaced test news ps) ≤ largest ps
largest_replaced test news less [] = omega arith
largest_replaced test news less (p ∷ ps) =
    cond_both (test p) (news p ++ ps) (p ∷ replaced test news ps) (λ (l : List Piece). largest l ≤ largest (p ∷ ps))
    (λ e. let a = less p e in let b = largest_append (news p) ps in omega (arith, a, b))
    (λ e. let r = largest_replaced test news less ps in omega (arith, r))

pub offers_none : (p : Piece) → is_free p ≡ false → offer p ≡ 0
offers_none p e = rw e refl

pub largest_swapped : (test : Piece → Bool) (f : Piece → Piece) → ((p : Piece) → is_free (f p) ≡ false) → (ps : List Piece) → largest (replaced test (λ p. f p ∷ []) ps) ≤ largest ps
largest_swapped test f not ps = largest_replaced test (λ p. f p ∷ []) (λ p e. let n = offers_none (f p) (not p) in omega (arith, n)) ps

-- the free bytes up to a multiple of 8 offer none, and those behind no more than the whole
run_before : (at : ℕ) → largest (free_run at (aligned_up at)) ≤ 0
run_before at =
    cond_both (nat_lt at (aligned_up at)) (free_piece at (aligned_up at - at) ∷ []) [] (λ (l : List Piece). largest l ≤ 0)
    (λ e. let l = ltb-true at (aligned_up at) e in omega arith)
    (λ e. omega arith)

run_offers : (from to : ℕ) → largest (free_run from to) ≤ to - aligned_up from
run_offers from to =
    cond_both (nat_lt from to) (free_piece from (to - from) ∷ []) [] (λ (l : List Piece). largest l ≤ to - aligned_up from)
    (λ e. let l = ltb-true from to e in omega arith)
    (λ e. omega arith)

reserved_offers : (need : ℕ) (p : Piece) → has_room need p ≡ true → largest (reserved_in need p) ≤ offer p
reserved_offers need p e =
    let r = room_facts need p e in
    let at = aligned_up p.pos in
    let a = run_before p.pos in
    let b = run_offers (at + need) (piece_end p) in
    let c = largest_append (free_run p.pos at) (reserved_piece at need ∷ free_run (at + need) (piece_end p)) in
    rw r.free (omega (arith, a, b, c, r.fits))

pub largest_reserved : (test : Piece → Bool) (need : ℕ) → ((p : Piece) → test p ≡ true → has_room need p ≡ true) → (ps : List Piece) → largest (replaced test (reserved_in need) ps) ≤ largest ps
largest_reserved test need has ps = largest_replaced test (reserved_in need) (λ p e. reserved_offers need p (has p e)) ps

retired_offers : (p : Piece) → offer (retired p) ≤ offer p
retired_offers p = elim p.kind as (λ k. offer (retired_as k p) ≤ offer p) [ Used ↦ omega arith | Free ↦ omega arith | Reserved ↦ omega arith | Leaving ↦ omega arith | Pending ↦ omega arith ]

pub largest_retired : (ps : List Piece) → largest (map retired ps) ≤ largest ps
largest_retired [] = omega arith
largest_retired (p ∷ ps) = let r = largest_retired ps in let o = retired_offers p in omega (arith, r, o)

largest_trimmed : (ps : List Piece) → largest (trimmed ps) ≤ largest ps
largest_trimmed [] = omega arith
largest_trimmed (p ∷ []) = cond_both (is_free p) [] (p ∷ []) (λ (l : List Piece). largest l ≤ largest (p ∷ [])) (λ e. omega arith) (λ e. omega arith)
largest_trimmed (p ∷ q ∷ qs) = let r = largest_trimmed (q ∷ qs) in omega (arith, r)

pub largest_appended : (need : ℕ) (ps : List Piece) → largest (appended need ps) ≤ largest ps
largest_appended need ps =
    let a = largest_trimmed ps in
    let b = run_before (used_end ps) in
    let c = largest_append (trimmed ps) (free_run (used_end ps) (end_place ps) ++ reserved_piece (end_place ps) need ∷ []) in
    let d = largest_append (free_run (used_end ps) (end_place ps)) (reserved_piece (end_place ps) need ∷ []) in
    omega (arith, a, b, c, d)

-- the last piece, if it is Free, offers what is left of the file behind where the others end
tail_offers : (at : ℕ) (ps : List Piece) (end : ℕ) → IsLaid at ps end → 0 < length ps → end - aligned_up (used_end ps) ≤ largest ps
tail_offers at [] end h l = absurd (omega arith)
tail_offers at (p ∷ []) end h l = by (is_free p) refl
  where
    by : (b : Bool) → is_free p ≡ b → end - aligned_up (used_end (p ∷ [])) ≤ largest (p ∷ [])
    by true e = rw e (omega (arith, h.0.place, h.2))
    by false e = rw e (omega (arith, h.0.place, h.2))
tail_offers at (p ∷ q ∷ qs) end h l = let r = tail_offers (at + p.size) (q ∷ qs) end h.2 (omega arith) in omega (arith, r)

pub largest_cut : (len : ℕ) (ps : List Piece) (end : ℕ) → IsLaid 0 ps end → largest (cut len end ps) ≤ largest ps
largest_cut len [] end h =
    let b = run_offers 0 (min len end) in
    omega (arith, b, h)
largest_cut len (p ∷ ps) end h =
    let a = largest_trimmed (p ∷ ps) in
    let b = run_offers (used_end (p ∷ ps)) (min len end) in
    let c = largest_append (trimmed (p ∷ ps)) (free_run (used_end (p ∷ ps)) (min len end)) in
    let d = tail_offers 0 (p ∷ ps) end h (omega arith) in
    omega (arith, a, b, c, d)

-- a piece joined with the next offers what is then at its place, and the others what they did
joined_offers : (p : Piece) (ys : List Piece) (d : Piece) → largest (joined p ys) ≤ max (offer (get_or (joined p ys) 0 d)) (largest ys)
joined_offers p [] d = omega arith
joined_offers p (y ∷ ys) d = by (is_free p && is_free y) refl
  where
    by : (b : Bool) → (is_free p && is_free y) ≡ b → largest (joined p (y ∷ ys)) ≤ max (offer (get_or (joined p (y ∷ ys)) 0 d)) (largest (y ∷ ys))
    by true e = rw e (omega arith)
    by false e = rw e (omega arith)

-- where the pieces before and behind a place offer no more than a number
pub largest_joined : (xs : List Piece) (p : Piece) (ys now : List Piece) (at : ℕ) (d : Piece) (offered : ℕ) → length xs ≡ at → now ≡ xs ++ joined p ys → offered ≡ offer (get_or now at d)
    → largest now ≤ max (max (largest xs) (largest ys)) offered
largest_joined xs p ys now at d offered l n o =
    let a = ap largest n in
    let b = largest_append xs (joined p ys) in
    let c = joined_offers p ys d in
    let e : get_or now at d ≡ get_or (joined p ys) 0 d = ap (λ (l : List Piece). get_or l at d) n ∙ head_at xs p ys at d l in
    let f = ap offer e in
    omega (arith, a, b, c, o, f)
  where
    head_at : (xs : List Piece) (p : Piece) (ys : List Piece) (at : ℕ) (d : Piece) → length xs ≡ at → get_or (xs ++ joined p ys) at d ≡ get_or (joined p ys) 0 d
    head_at xs p ys at d l =
        ap (λ (n : ℕ). get_or (xs ++ joined p ys) n d) (let s : at ≡ length xs + 0 = omega arith in s) ∙ get_or-append-add xs (joined p ys) 0 d

pub largest_freed : (old now : List Piece) (at : ℕ) (d : Piece) (offered : ℕ) → IsFreedAt old now at d → offered ≡ offer (get_or now at d) → largest now ≤ max (largest old) offered
largest_freed old now at d offered f o =
    let a = largest_joined (take at old) (freed (get_or old at d)) (drop (at + 1) old) now at d offered (length-take-le at old (omega (arith, f.within))) f.is o in
    let b = largest_take at old in
    let c = largest_drop (at + 1) old in
    omega (arith, a, b, c)

pub largest_joined_at : (old now : List Piece) (at : ℕ) (d : Piece) (offered : ℕ) → at < length old → now ≡ take at old ++ joined (get_or old at d) (drop (at + 1) old) → offered ≡ offer (get_or now at d)
    → largest now ≤ max (largest old) offered
largest_joined_at old now at d offered l n o =
    let a = largest_joined (take at old) (get_or old at d) (drop (at + 1) old) now at d offered (length-take-le at old (omega arith)) n o in
    let b = largest_take at old in
    let c = largest_drop (at + 1) old in
    omega (arith, a, b, c)

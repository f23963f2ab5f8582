-- For callers: how many pieces of a kind there are after each call.
use Rattle.std.proofs.Common.{◌≡◌, ℕ, suc, ◌+◌, ◌-◌, min, nat_lt, ◌==◌, Bool, true, false, cond, ◌&&◌, List, [], ◌∷◌, ◌++◌, length, map, Some, refl, sym, ◌∙◌, ap, subst, arith}
use Rattle.std.proofs.lemmas.Bool.{cond_both, and_parts}
use Rattle.cckd_base.specs.declared.space.Extent.{Extent}
use Rattle.cckd_space.specs.declared.piece.Kind.{Kind}
use Rattle.cckd_space.specs.declared.piece.Kind.TheVariants.{Used, Free, Reserved, Leaving, Pending}
use Rattle.cckd_space.specs.declared.piece.Piece.{Piece}
use Rattle.cckd_space.specs.Pieces.{is_free, free_kind, is_used_at, is_reserved_at, used_kind, reserved_kind, first, replaced, free_piece, free_run, reserved_piece, reserved_in, aligned_up, piece_end, trimmed, used_end, end_place, appended, cut, left, retired, retired_as, is_leaving, leaving_kind, released, released_as, is_pending, pending_kind, joined, merged, counted, pieces_of, used_piece}

-- one, or none
abbrev pub one : Bool → ℕ
one b = cond b 1 0

-- so many, or none
abbrev pub many : Bool → ℕ → ℕ
many b n = cond b n 0

many_none : (b : Bool) → many b 0 ≡ 0
many_none true = refl
many_none false = refl

many_sum : (b : Bool) (m n : ℕ) → many b (m + n) ≡ many b m + many b n
many_sum true m n = refl
many_sum false m n = refl

many_more : (b : Bool) (n : ℕ) → many b (suc n) ≡ one b + many b n
many_more true n = omega arith
many_more false n = refl

used_is : (k : Kind) → used_kind k ≡ true → k ≡ Used
used_is Used e = refl
used_is Free e = absurd cc
used_is Reserved e = absurd cc
used_is Leaving e = absurd cc
used_is Pending e = absurd cc

reserved_is : (k : Kind) → reserved_kind k ≡ true → k ≡ Reserved
reserved_is Used e = absurd cc
reserved_is Free e = absurd cc
reserved_is Reserved e = refl
reserved_is Leaving e = absurd cc
reserved_is Pending e = absurd cc

free_is : (k : Kind) → free_kind k ≡ true → k ≡ Free
free_is Used e = absurd cc
free_is Free e = refl
free_is Reserved e = absurd cc
free_is Leaving e = absurd cc
free_is Pending e = absurd cc

-- what is Free is neither Leaving nor Pending
pub free_kinds : (k : Kind) → free_kind k ≡ true → (leaving_kind k ≡ false) × (pending_kind k ≡ false)
free_kinds Used e = (refl, refl)
free_kinds Free e = (refl, refl)
free_kinds Reserved e = (refl, refl)
free_kinds Leaving e = absurd cc
free_kinds Pending e = absurd cc

-- what is found as Used is so, and what is found as Reserved
pub found_used : (pos : ℕ) (p : Piece) → is_used_at pos p ≡ true → p.kind ≡ Used
found_used pos p e = used_is p.kind (and_parts (used_kind p.kind) (p.pos == pos) e).0

pub found_reserved : (pos : ℕ) (p : Piece) → is_reserved_at pos p ≡ true → p.kind ≡ Reserved
found_reserved pos p e = reserved_is p.kind (and_parts (reserved_kind p.kind) (p.pos == pos) e).0

-- what is found passes
first_passes : (test : Piece → Bool) (ps : List Piece) (q : Piece) → first test ps ≡ Some q → test q ≡ true
first_passes test [] q e = absurd cc
first_passes test (p ∷ ps) q e = by (test p) refl (first_passes test ps q)
  where
    by : (b : Bool) → test p ≡ b → (first test ps ≡ Some q → test q ≡ true) → test q ≡ true
    by true f more = let s : p ≡ q = (let g : Some p ≡ Some q = rw f at e in cc) in ap test (sym s) ∙ f
    by false f more = more (rw f at e)

-- the kind that a retired piece has
abbrev retired_kind : Kind → Kind
retired_kind Leaving = Pending
retired_kind Used = Used
retired_kind Free = Free
retired_kind Reserved = Reserved
retired_kind Pending = Pending

retired_has : (p : Piece) → (retired p).kind ≡ retired_kind p.kind
retired_has p = by p.kind refl
  where
    by : (k : Kind) → p.kind ≡ k → (retired_as k p).kind ≡ retired_kind k
    by Used e = e
    by Free e = e
    by Reserved e = e
    by Leaving e = refl
    by Pending e = e

-- the kind that a released piece has
abbrev released_kind : Kind → Kind
released_kind Pending = Free
released_kind Used = Used
released_kind Free = Free
released_kind Reserved = Reserved
released_kind Leaving = Leaving

released_has : (p : Piece) → (released p).kind ≡ released_kind p.kind
released_has p = by p.kind refl
  where
    by : (k : Kind) → p.kind ≡ k → (released_as k p).kind ≡ released_kind k
    by Used e = e
    by Free e = e
    by Reserved e = e
    by Leaving e = e
    by Pending e = refl

-- Of kinds that Free isn't one of.

module _ (of : Kind → Bool) (free : of Free ≡ false) where
  -- how many pieces are of these kinds
  abbrev pub count : List Piece → ℕ
  count = counted (λ p. of p.kind)

  free_none : (p : Piece) → is_free p ≡ true → of p.kind ≡ false
  free_none p e = ap of (free_is p.kind e) ∙ free

  pub count_append : (xs ys : List Piece) → count (xs ++ ys) ≡ count xs + count ys
  count_append [] ys = omega arith
  count_append (x ∷ xs) ys = let r = count_append xs ys in omega (arith, r)

  -- others in place of the first that passes
  pub count_replaced : (test : Piece → Bool) (news : Piece → List Piece) (ps : List Piece) (p : Piece) → first test ps ≡ Some p → count (replaced test news ps) + one (of p.kind) ≡ count ps + count (news p)
  count_replaced test news [] p e = absurd cc
  count_replaced test news (q ∷ qs) p e = by (test q) refl (count_replaced test news qs p)
    where
      by : (b : Bool) → test q ≡ b → (first test qs ≡ Some p → count (replaced test news qs) + one (of p.kind) ≡ count qs + count (news p)) → count (replaced test news (q ∷ qs)) + one (of p.kind) ≡ count (q ∷ qs) + count (news p)
      by true f more =
          let s : q ≡ p = (let g : Some q ≡ Some p = rw f at e in cc) in
          let a = count_append (news q) qs in
          rw f (subst (λ (r : Piece). count (news q ++ qs) + one (of r.kind) ≡ count (q ∷ qs) + count (news r)) s (omega (arith, a)))
      by false f more = let r = more (rw f at e) in rw f (omega (arith, r))

  -- where what comes has as many as what passes, all in all there are as many
  pub count_even : (test : Piece → Bool) (news : Piece → List Piece) → ((p : Piece) → test p ≡ true → count (news p) ≡ one (of p.kind)) → (ps : List Piece) → count (replaced test news ps) ≡ count ps
  count_even test news even [] = refl
  count_even test news even (p ∷ ps) =
      cond_both (test p) (news p ++ ps) (p ∷ replaced test news ps) (λ (l : List Piece). count l ≡ count (p ∷ ps))
      (λ e. let a = even p e in let b = count_append (news p) ps in omega (arith, a, b))
      (λ e. let r = count_even test news even ps in omega (arith, r))

  pub count_run : (from to : ℕ) → count (free_run from to) ≡ 0
  count_run from to = cond_both (nat_lt from to) (free_piece from (to - from) ∷ []) [] (λ (l : List Piece). count l ≡ 0) (λ e. rw free refl) (λ e. refl)

  pub count_reserved_in : (need : ℕ) (p : Piece) → count (reserved_in need p) ≡ one (of Reserved)
  count_reserved_in need p =
      let at = aligned_up p.pos in
      let rest = free_run (at + need) (piece_end p) in
      let a = count_run p.pos at in
      let b = count_run (at + need) (piece_end p) in
      let c = count_append (free_run p.pos at) (reserved_piece at need ∷ rest) in
      omega (arith, a, b, c)

  count_trimmed_all : (ps : List Piece) → count (trimmed ps) ≡ count ps
  count_trimmed_all [] = refl
  count_trimmed_all (p ∷ []) = cond_both (is_free p) [] (p ∷ []) (λ (l : List Piece). count l ≡ count (p ∷ [])) (λ e. let n = free_none p e in rw n refl) (λ e. refl)
  count_trimmed_all (p ∷ q ∷ qs) = let r = count_trimmed_all (q ∷ qs) in omega (arith, r)

  count_end : (ps tail : List Piece) → count (trimmed ps ++ tail) ≡ count ps + count tail
  count_end ps tail = let a = count_trimmed_all ps in let b = count_append (trimmed ps) tail in omega (arith, a, b)

  count_joined : (p : Piece) (qs : List Piece) → count (joined p qs) ≡ count (p ∷ qs)
  count_joined p [] = refl
  count_joined p (q ∷ qs) =
      cond_both (is_free p && is_free q) (free_piece p.pos (p.size + q.size) ∷ qs) (p ∷ q ∷ qs) (λ (l : List Piece). count l ≡ count (p ∷ q ∷ qs))
      (λ e.
      let f = and_parts (is_free p) (is_free q) e in
      let a = free_none p f.0 in
      let b = free_none q f.1 in
      let g = ap one free in
      let h = ap one a in
      let k = ap one b in
      omega (arith, g, h, k))
      (λ e. refl)

  pub count_merged : (ps : List Piece) → count (merged ps) ≡ count ps
  count_merged [] = refl
  count_merged (p ∷ ps) = let r = count_merged ps in let j = count_joined p (merged ps) in omega (arith, r, j)

  -- `from_used`
  pub count_used : (at : ℕ) (es : List Extent) (size : ℕ) → count (pieces_of at es size) ≡ many (of Used) (length es)
  count_used at [] size = let a = count_run at size in let b = many_none (of Used) in omega (arith, a, b)
  count_used at (e ∷ es) size =
      let rest = pieces_of (e.pos + e.size) es size in
      let r = count_used (e.pos + e.size) es size in
      let a = count_run at e.pos in
      let b = count_append (free_run at e.pos) (used_piece e ∷ rest) in
      let m : many (of Used) (suc (length es)) ≡ one (of Used) + many (of Used) (length es) = many_more (of Used) (length es) in
      omega (arith, r, a, b, m)

  -- `leave`
  pub count_left : (pos : ℕ) (ps : List Piece) (p : Piece) → first (is_used_at pos) ps ≡ Some p → count (replaced (is_used_at pos) (λ q. left q ∷ []) ps) + one (of Used) ≡ count ps + one (of Leaving)
  count_left pos ps p e =
      let a = count_replaced (is_used_at pos) (λ q. left q ∷ []) ps p e in
      let k = ap (λ (x : Kind). one (of x)) (found_used pos p (first_passes (is_used_at pos) ps p e)) in
      omega (arith, a, k)

  retired_one : (k : Kind) → one (of (retired_kind k)) + many (of Leaving) (one (leaving_kind k)) ≡ one (of k) + many (of Pending) (one (leaving_kind k))
  retired_one Used = omega (arith, many_none (of Leaving), many_none (of Pending))
  retired_one Free = omega (arith, many_none (of Leaving), many_none (of Pending))
  retired_one Reserved = omega (arith, many_none (of Leaving), many_none (of Pending))
  retired_one Leaving = omega arith
  retired_one Pending = omega (arith, many_none (of Leaving), many_none (of Pending))

  -- `retire_all`
  pub count_retired : (ps : List Piece) → count (map retired ps) + many (of Leaving) (counted is_leaving ps) ≡ count ps + many (of Pending) (counted is_leaving ps)
  count_retired [] = omega (arith, many_none (of Leaving), many_none (of Pending))
  count_retired (p ∷ ps) =
      let r = count_retired ps in
      let s = retired_one p.kind in
      let k = ap (λ (x : Kind). one (of x)) (retired_has p) in
      let l = many_sum (of Leaving) (one (leaving_kind p.kind)) (counted is_leaving ps) in
      let m = many_sum (of Pending) (one (leaving_kind p.kind)) (counted is_leaving ps) in
      omega (arith, r, s, k, l, m)

  released_one : (k : Kind) → one (of (released_kind k)) + many (of Pending) (one (pending_kind k)) ≡ one (of k)
  released_one Used = omega (arith, many_none (of Pending))
  released_one Free = omega (arith, many_none (of Pending))
  released_one Reserved = omega (arith, many_none (of Pending))
  released_one Leaving = omega (arith, many_none (of Pending))
  released_one Pending = let f = ap one free in omega (arith, f)

  count_released_each : (ps : List Piece) → count (map released ps) + many (of Pending) (counted is_pending ps) ≡ count ps
  count_released_each [] = omega (arith, many_none (of Pending))
  count_released_each (p ∷ ps) =
      let r = count_released_each ps in
      let s = released_one p.kind in
      let k = ap (λ (x : Kind). one (of x)) (released_has p) in
      let m = many_sum (of Pending) (one (pending_kind p.kind)) (counted is_pending ps) in
      omega (arith, r, s, k, m)

  -- `release_all`
  pub count_released : (ps : List Piece) → count (merged (map released ps)) + many (of Pending) (counted is_pending ps) ≡ count ps
  count_released ps = let a = count_merged (map released ps) in let b = count_released_each ps in omega (arith, a, b)

  -- `cut_back`
  pub count_cut : (len size : ℕ) (ps : List Piece) → count (cut len size ps) ≡ count ps
  count_cut len size ps =
      let a = count_end ps (free_run (used_end ps) (min len size)) in
      let b = count_run (used_end ps) (min len size) in
      omega (arith, a, b)

  -- a placement at the end
  pub count_appended : (need : ℕ) (ps : List Piece) → count (appended need ps) ≡ count ps + one (of Reserved)
  count_appended need ps =
      let tail = free_run (used_end ps) (end_place ps) ++ reserved_piece (end_place ps) need ∷ [] in
      let a = count_end ps tail in
      let b = count_append (free_run (used_end ps) (end_place ps)) (reserved_piece (end_place ps) need ∷ []) in
      let c = count_run (used_end ps) (end_place ps) in
      omega (arith, a, b, c)

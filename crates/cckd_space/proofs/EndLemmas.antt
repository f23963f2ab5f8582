-- The end of a list of pieces, from its last piece.
use Rattle.std.proofs.Common.{◌≡◌, ℕ, ◌+◌, ◌-◌, ◌<◌, ◌≤◌, min, nat_lt, Bool, true, false, List, [], ◌∷◌, ◌++◌, length, take, drop, get_or, refl, sym, ◌∙◌, ap, arith}
use Rattle.std.proofs.lemmas.Bool.{cond_both, le-ltb}
use Rattle.std.proofs.lemmas.List.{take_more, take_all, drop_all, append-nil, length-append, length-take-le}
use Rattle.cckd_space.specs.Inside.{EndsAt}
use Rattle.cckd_space.specs.declared.piece.Piece.{Piece}
use Rattle.cckd_space.specs.Pieces.{appended, end_place, free_piece, is_free, reserved_piece, piece_end, trimmed, used_end, cut, free_run}

pub trimmed_free : (ys : List Piece) (p : Piece) → is_free p ≡ true → trimmed (ys ++ p ∷ []) ≡ ys
trimmed_free [] p e = rw e refl
trimmed_free (y ∷ []) p e = ap (λ (l : List Piece). y ∷ l) (trimmed_free [] p e)
trimmed_free (y ∷ z ∷ zs) p e = ap (λ (l : List Piece). y ∷ l) (trimmed_free (z ∷ zs) p e)

pub trimmed_kept : (ys : List Piece) (p : Piece) → is_free p ≡ false → trimmed (ys ++ p ∷ []) ≡ ys ++ p ∷ []
trimmed_kept [] p e = rw e refl
trimmed_kept (y ∷ []) p e = ap (λ (l : List Piece). y ∷ l) (trimmed_kept [] p e)
trimmed_kept (y ∷ z ∷ zs) p e = ap (λ (l : List Piece). y ∷ l) (trimmed_kept (z ∷ zs) p e)

pub ends_free : (ys : List Piece) (p : Piece) → is_free p ≡ true → used_end (ys ++ p ∷ []) ≡ p.pos
ends_free [] p e = rw e refl
ends_free (y ∷ []) p e = ends_free [] p e
ends_free (y ∷ z ∷ zs) p e = ends_free (z ∷ zs) p e

pub ends_kept : (ys : List Piece) (p : Piece) → is_free p ≡ false → used_end (ys ++ p ∷ []) ≡ piece_end p
ends_kept [] p e = rw e refl
ends_kept (y ∷ []) p e = ends_kept [] p e
ends_kept (y ∷ z ∷ zs) p e = ends_kept (z ∷ zs) p e

pub split_last : (xs : List Piece) (d : Piece) → 0 < length xs → xs ≡ take (length xs - 1) xs ++ get_or xs (length xs - 1) d ∷ []
split_last xs d h =
    sym (take_all (length xs - 1 + 1) xs (omega arith)) ∙ take_more xs (length xs - 1) d (omega arith)

pub ends_free_at : (xs : List Piece) (d : Piece) → 0 < length xs → is_free (get_or xs (length xs - 1) d) ≡ true → used_end xs ≡ (get_or xs (length xs - 1) d).pos
ends_free_at xs d h e = ap used_end (split_last xs d h) ∙ ends_free (take (length xs - 1) xs) (get_or xs (length xs - 1) d) e

pub ends_kept_at : (xs : List Piece) (d : Piece) (size : ℕ) → EndsAt xs size → 0 < length xs → is_free (get_or xs (length xs - 1) d) ≡ false → used_end xs ≡ size
ends_kept_at xs d size s h e =
    ap used_end (split_last xs d h) ∙ (ends_kept (take (length xs - 1) xs) (get_or xs (length xs - 1) d) e ∙ s.last (take (length xs - 1) xs) (get_or xs (length xs - 1) d) (split_last xs d h))

pub free_run_none : (from to : ℕ) → to ≤ from → free_run from to ≡ []
free_run_none from to h = rw (le-ltb from to h) refl

pub cut_none : (len size : ℕ) → size ≡ 0 → cut len size [] ≡ []
cut_none len size h = free_run_none 0 (min len size) (omega arith)

pub cut_kept : (xs : List Piece) (d : Piece) (len size : ℕ) → EndsAt xs size → 0 < length xs → is_free (get_or xs (length xs - 1) d) ≡ false → cut len size xs ≡ xs
cut_kept xs d len size s h e =
    let t : trimmed xs ≡ xs = ap trimmed (split_last xs d h) ∙ (trimmed_kept (take (length xs - 1) xs) (get_or xs (length xs - 1) d) e ∙ sym (split_last xs d h)) in
    let u = ends_kept_at xs d size s h e in
    ap (λ (l : List Piece). l ++ free_run (used_end xs) (min len size)) t
    ∙ (ap (λ (l : List Piece). xs ++ l) (free_run_none (used_end xs) (min len size) (omega arith)) ∙ append-nil xs)

pub cut_free : (xs : List Piece) (d : Piece) (len size : ℕ) → 0 < length xs → is_free (get_or xs (length xs - 1) d) ≡ true
    → cut len size xs ≡ take (length xs - 1) xs ++ free_run (get_or xs (length xs - 1) d).pos (min len size)
cut_free xs d len size h e =
    let t : trimmed xs ≡ take (length xs - 1) xs = ap trimmed (split_last xs d h) ∙ trimmed_free (take (length xs - 1) xs) (get_or xs (length xs - 1) d) e in
    ap (λ (l : List Piece). l ++ free_run (used_end xs) (min len size)) t
    ∙ ap (λ (n : ℕ). take (length xs - 1) xs ++ free_run n (min len size)) (ends_free_at xs d h e)

pub run_last : (xs : List Piece) (n : ℕ) (run : List Piece) → length xs ≤ n → take n xs ++ (run ++ drop n xs) ≡ xs ++ run
run_last xs n run h =
    ap (λ (l : List Piece). l ++ (run ++ drop n xs)) (take_all n xs h)
    ∙ ap (λ (l : List Piece). xs ++ l) (ap (λ (l : List Piece). run ++ l) (drop_all n xs h) ∙ append-nil run)

-- the list as the code leaves it where the last piece, as it was read, is Free
pub cut_read : (xs ys zs : List Piece) (x : Piece) (n len size : ℕ) → n ≡ length xs → 0 < n → x ≡ get_or xs (n - 1) x → is_free x ≡ true
    → ys ≡ take (n - 1) xs → zs ≡ take (n - 1) ys ++ (free_run x.pos (min len size) ++ drop (n - 1) ys) → zs ≡ cut len size xs
cut_read xs ys zs x n len size e h r f s t =
    let here : x ≡ get_or xs (length xs - 1) x = rw (← e) r in
    let l : length ys ≡ n - 1 = ap length s ∙ length-take-le (n - 1) xs (omega arith) in
    let whole : ys ≡ take (length xs - 1) xs = rw (← e) s in
    t ∙ (run_last ys (n - 1) (free_run x.pos (min len size)) (omega arith)
    ∙ (ap (λ (m : List Piece). m ++ free_run x.pos (min len size)) whole
    ∙ (ap (λ (p : Piece). take (length xs - 1) xs ++ free_run p.pos (min len size)) here
    ∙ sym (cut_free xs x len size (omega arith) (ap is_free (sym here) ∙ f)))))

-- the free bytes between two places are one piece at most
pub run_one : (from to : ℕ) → length (free_run from to) ≤ 1
run_one from to = cond_both (nat_lt from to) (free_piece from (to - from) ∷ []) [] (λ (l : List Piece). length l ≤ 1) (λ e. omega arith) (λ e. omega arith)

-- a cut leaves no more pieces
pub cut_fewer : (len : ℕ) (xs : List Piece) (size : ℕ) → EndsAt xs size → length (cut len size xs) ≤ length xs
cut_fewer len [] size s = let e = ap length (cut_none len size (s.none refl)) in omega (arith, e)
cut_fewer len (x ∷ xs) size s = by (is_free (get_or (x ∷ xs) (length (x ∷ xs) - 1) x)) refl
  where
    by : (b : Bool) → is_free (get_or (x ∷ xs) (length (x ∷ xs) - 1) x) ≡ b → length (cut len size (x ∷ xs)) ≤ length (x ∷ xs)
    by true e =
        let run = free_run (get_or (x ∷ xs) (length (x ∷ xs) - 1) x).pos (min len size) in
        let a = ap length (cut_free (x ∷ xs) x len size (omega arith) e) in
        let b = length-append (take (length (x ∷ xs) - 1) (x ∷ xs)) run in
        let f = run_one (get_or (x ∷ xs) (length (x ∷ xs) - 1) x).pos (min len size) in
        let t = length-take-le (length (x ∷ xs) - 1) (x ∷ xs) (omega arith) in
        omega (arith, a, b, f, t)
    by false e = let a = ap length (cut_kept (x ∷ xs) x len size s (omega arith) e) in omega (arith, a)

-- a cut at the first byte leaves nothing of a Free piece at the end
pub cut_all : (size : ℕ) (xs : List Piece) → cut 0 size xs ≡ trimmed xs
cut_all size xs = ap (λ (l : List Piece). trimmed xs ++ l) (free_run_none (used_end xs) (min 0 size) (omega arith)) ∙ append-nil (trimmed xs)

-- a placement at the end adds two pieces at most
trimmed_fewer : (ps : List Piece) → length (trimmed ps) ≤ length ps
trimmed_fewer [] = omega arith
trimmed_fewer (p ∷ []) = cond_both (is_free p) [] (p ∷ []) (λ (l : List Piece). length l ≤ length (p ∷ [])) (λ e. omega arith) (λ e. omega arith)
trimmed_fewer (p ∷ q ∷ qs) = let r = trimmed_fewer (q ∷ qs) in omega (arith, r)

pub appended_few : (need : ℕ) (ps : List Piece) → length (appended need ps) ≤ length ps + 2
appended_few need ps =
    let run = free_run (used_end ps) (end_place ps) in
    let rest = reserved_piece (end_place ps) need ∷ [] in
    let a = length-append (trimmed ps) (run ++ rest) in
    let b = length-append run rest in
    let c = trimmed_fewer ps in
    let d = run_one (used_end ps) (end_place ps) in
    omega (arith, a, b, c, d)

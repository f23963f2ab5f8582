-- A merge from the end of a list, step by step.
use Rattle.std.proofs.Common.{◌≡◌, ℕ, zero, suc, ◌+◌, ◌^◌, ◌<◌, ◌≤◌, Bool, true, false, ◌&&◌, List, [], ◌∷◌, ◌++◌, length, take, drop, get_or, slice_set, refl, sym, ◌∙◌, ap, subst, arith, add-one, append_assoc, length-append, Some, position}
use Rattle.std.proofs.lemmas.Bool.{cond_both}
use Rattle.std.proofs.lemmas.List.{set_split, get_or_read, drop_more, drop_all, drop_at, take_more, take-take, take-append-le, take-set, drop-set-lt, take-append-drop, get_or-take, get_or-set_same, get_or_append_left, length-take-le}
use Rattle.cckd_base.specs.declared.space.Owner.TheVariants.{Nobody}
use Rattle.cckd_space.specs.declared.piece.Kind.TheVariants.{Used}
use Rattle.cckd_space.specs.declared.piece.Piece.{Piece}
use Rattle.cckd_space.specs.Pieces.{is_free, is_reserved_at, free_piece, freed, joined, merged, replaced, NotBothFree, IsLaid}
use Rattle.cckd_space.specs.Inside.{size_of, AreMerged}
use Rattle.cckd_space.proofs.FirstLemmas.{is_first, replaced_at}

pub size_of-joined : (p : Piece) (qs : List Piece) → size_of (joined p qs) ≡ p.size + size_of qs
size_of-joined p [] = refl
size_of-joined p (q ∷ qs) =
    cond_both (is_free p && is_free q) (free_piece p.pos (p.size + q.size) ∷ qs) (p ∷ q ∷ qs) (λ (l : List Piece). size_of l ≡ p.size + (q.size + size_of qs))
    (λ e. omega arith) (λ e. refl)

pub size_of-merged : (ps : List Piece) → size_of (merged ps) ≡ size_of ps
size_of-merged [] = refl
size_of-merged (p ∷ ps) = size_of-joined p (merged ps) ∙ ap (λ (n : ℕ). p.size + n) (size_of-merged ps)

size_of-drop : (n : ℕ) (ps : List Piece) → size_of (drop n ps) ≤ size_of ps
size_of-drop zero ps = omega arith
size_of-drop (suc n) [] = omega arith
size_of-drop (suc n) (p ∷ ps) = let h = size_of-drop n ps in omega (arith, h)

size_of_first : (ps : List Piece) (n : ℕ) (d : Piece) → n < length ps → (get_or ps n d).size ≤ size_of (drop n ps)
size_of_first ps n d h = omega (arith, ap size_of (drop_more ps n d h))

-- the pieces of a list from a place on are merged behind the others
pub record IsMerging (old now : List Piece) (at kept : ℕ) : Type 0 where
  pub same : length now ≡ length old
  pub before : at ≤ kept
  pub within : kept ≤ length now
  pub front : take at now ≡ take at old
  pub back : drop kept now ≡ merged (drop at old)

pub starts : (old : List Piece) → IsMerging old old (length old) (length old)
starts old = record {
  same = refl;
  before = omega arith;
  within = omega arith;
  front = refl;
  back = drop_all (length old) old (omega arith) ∙ sym (ap merged (drop_all (length old) old (omega arith)));
}

same_here : (old now : List Piece) (at n : ℕ) (d : Piece) → at < n → take n now ≡ take n old → get_or now at d ≡ get_or old at d
same_here old now at n d h e = sym (get_or-take n now at d h) ∙ (ap (λ (l : List Piece). get_or l at d) e ∙ get_or-take n old at d h)

pub small : (old now : List Piece) (at n kept : ℕ) (d : Piece) → IsMerging old now n kept → at + 1 ≡ n → kept < length now → size_of old < 2 ^ 32
    → (get_or now at d).size + (get_or now kept d).size < 2 ^ 32
small old now at n kept d m e h s =
    let a = size_of_first now kept d h in
    let b = ap size_of m.back ∙ size_of-merged (drop n old) in
    let c = ap size_of (drop_more old at d (omega (arith, m.same, m.before))) in
    let f = size_of-drop at old in
    let g = ap (λ (p : Piece). p.size) (same_here old now at n d (omega arith) m.front) in
    let k = ap (λ (i : ℕ). size_of (drop i old)) e in
    omega (arith, a, b, c, f, g, k)

pub step : (old now new : List Piece) (at n kept result : ℕ) → IsMerging old now n kept → at + 1 ≡ n → at ≤ result → result ≤ length now
    → length new ≡ length now → take at new ≡ take at now → ((d : Piece) → drop result new ≡ joined (get_or now at d) (drop kept now)) → IsMerging old new at result
step old now new at n kept result m e b w l f j =
    let d : Piece = record { pos = 0; len = 0; size = 0; kind = Used; owner = Nobody } in
    let shorter : take at now ≡ take at old = sym (take-take at n now (omega arith)) ∙ (ap (take at) m.front ∙ take-take at n old (omega arith)) in
    let rest : drop n old ≡ drop (at + 1) old = ap (λ (i : ℕ). drop i old) (sym e) in
    record {
      same = l ∙ m.same;
      before = b;
      within = omega arith;
      front = f ∙ shorter;
      back = j d
          ∙ (ap (λ (p : Piece). joined p (drop kept now)) (same_here old now at n d (omega arith) m.front)
          ∙ (ap (joined (get_or old at d)) (m.back ∙ ap merged rest)
          ∙ sym (ap merged (drop_more old at d (omega (arith, m.same, m.before))))));
    }

joined_same : (p : Piece) (ps : List Piece) → NotBothFree p ps → joined p ps ≡ p ∷ ps
joined_same p [] h = refl
joined_same p (q ∷ qs) h = rw h refl

-- what is apart stays as it is
pub merged_same : (ps : List Piece) → AreMerged ps → merged ps ≡ ps
merged_same [] h = refl
merged_same (p ∷ ps) h = ap (joined p) (merged_same ps h.1) ∙ joined_same p ps h.0

merged_front : (xs : List Piece) (p : Piece) (ys : List Piece) → AreMerged (xs ++ p ∷ ys) → AreMerged (xs ++ p ∷ [])
merged_front [] p ys h = (tt, tt)
merged_front (x ∷ []) p ys h = (h.0, merged_front [] p ys h.1)
merged_front (x ∷ z ∷ zs) p ys h = (h.0, merged_front (z ∷ zs) p ys h.1)

merged_back : (xs ys : List Piece) → AreMerged (xs ++ ys) → AreMerged ys
merged_back [] ys h = h
merged_back (x ∷ xs) ys h = merged_back xs ys h.1

-- a joined list begins as Free as its first piece was
pub joined_over : (f q : Piece) (ys : List Piece) → (is_free f && is_free q) ≡ false → joined f (joined q ys) ≡ f ∷ joined q ys
joined_over f q [] h = rw h refl
joined_over f q (y ∷ ys) h = by (is_free q && is_free y) refl
  where
    left : (b c : Bool) → (b && c) ≡ true → b ≡ true
    left true c e = refl
    left false c e = absurd cc

    shut : (b c : Bool) → (b && c) ≡ false → c ≡ true → b ≡ false
    shut true c e g = absurd (let k : true ≡ false = sym g ∙ e in cc)
    shut false c e g = refl

    by : (b : Bool) → (is_free q && is_free y) ≡ b → joined f (joined q (y ∷ ys)) ≡ f ∷ joined q (y ∷ ys)
    by true e = rw e (let n = shut (is_free f) (is_free q) h (left (is_free q) (is_free y) e) in rw n refl)
    by false e = rw e (rw h refl)

-- a merge around one piece
merged_around : (xs : List Piece) (q p : Piece) (ys : List Piece) → AreMerged (xs ++ q ∷ []) → AreMerged ys → merged (xs ++ q ∷ p ∷ ys) ≡ xs ++ joined q (joined p ys)
merged_around [] q p ys h a = ap (λ (l : List Piece). joined q (joined p l)) (merged_same ys a)
merged_around (x ∷ []) q p ys h a = ap (joined x) (merged_around [] q p ys h.1 a) ∙ joined_over x q (joined p ys) h.0
merged_around (x ∷ z ∷ zs) q p ys h a = ap (joined x) (merged_around (z ∷ zs) q p ys h.1 a) ∙ joined_same x (z ∷ (zs ++ joined q (joined p ys))) h.0

-- once a piece is Free, and joined with the next
pub record IsFreedAt (old now : List Piece) (at : ℕ) (d : Piece) : Type 0 where
  pub within : at < length old
  pub is : now ≡ take at old ++ joined (freed (get_or old at d)) (drop (at + 1) old)

pub freed_at : (old now : List Piece) (at : ℕ) (p w d : Piece) → at < length old → p ≡ get_or old at p → w ≡ freed p
    → now ≡ take at (slice_set old at w) ++ joined (get_or (slice_set old at w) at d) (drop (at + 1) (slice_set old at w)) → IsFreedAt old now at d
freed_at old now at p w d l r f n =
    let here : w ≡ freed (get_or old at d) = f ∙ ap freed (get_or_read old at p l r d) in
    record { within = l; is = n ∙ rw (take-set old at w, get_or-set_same old at w d l, drop-set-lt (at + 1) old at w (omega arith)) (ap (λ (x : Piece). take at old ++ joined x (drop (at + 1) old)) here) }

split_here : (xs : List Piece) (at : ℕ) (d : Piece) → at < length xs → xs ≡ take at xs ++ get_or xs at d ∷ drop (at + 1) xs
split_here xs at d l = sym (take-append-drop at xs) ∙ ap (λ (ys : List Piece). take at xs ++ ys) (drop_more xs at d l)

pub freed_first : (old now : List Piece) (at : ℕ) (d : Piece) → AreMerged old → IsFreedAt old now at d → at ≡ 0 → now ≡ merged (take at old ++ freed (get_or old at d) ∷ drop (at + 1) old)
freed_first old now at d a f z =
    let back : AreMerged (drop (at + 1) old) = merged_back (take (at + 1) old) (drop (at + 1) old) (subst AreMerged (sym (take-append-drop (at + 1) old)) a) in
    let none : take at old ≡ [] = ap (λ (n : ℕ). take n old) z in
    f.is ∙ (ap (λ (l : List Piece). l ++ joined (freed (get_or old at d)) (drop (at + 1) old)) none
    ∙ (sym (ap (joined (freed (get_or old at d))) (merged_same (drop (at + 1) old) back))
    ∙ sym (ap (λ (l : List Piece). merged (l ++ freed (get_or old at d) ∷ drop (at + 1) old)) none)))

-- a merge once a piece is Free
pub merged_freed : (old : List Piece) (at before : ℕ) (d : Piece) → AreMerged old → at < length old → before + 1 ≡ at
    → merged (take at old ++ freed (get_or old at d) ∷ drop (at + 1) old) ≡ take before old ++ joined (get_or old before d) (joined (freed (get_or old at d)) (drop (at + 1) old))
merged_freed old at before d a l e =
    let x = freed (get_or old at d) in
    let ys = drop (at + 1) old in
    let q = get_or old before d in
    let xs = take before old in
    let back : AreMerged ys = merged_back (take (at + 1) old) ys (subst AreMerged (sym (take-append-drop (at + 1) old)) a) in
    let front : AreMerged (xs ++ q ∷ []) = merged_front xs q (drop (before + 1) old) (subst AreMerged (split_here old before d (omega arith)) a) in
    let fore : take at old ≡ xs ++ q ∷ [] = ap (λ (m : ℕ). take m old) (sym e) ∙ take_more old before d (omega arith) in
    let whole : take at old ++ x ∷ ys ≡ xs ++ q ∷ x ∷ ys = ap (λ (l : List Piece). l ++ x ∷ ys) fore ∙ append_assoc xs (q ∷ []) (x ∷ ys) in
    ap merged whole ∙ merged_around xs q x ys front back

pub freed_later : (old now new : List Piece) (at before : ℕ) (d : Piece) → AreMerged old → IsFreedAt old now at d → before + 1 ≡ at
    → new ≡ take before now ++ joined (get_or now before d) (drop (before + 1) now) → new ≡ merged (take at old ++ freed (get_or old at d) ∷ drop (at + 1) old)
freed_later old now new at before d a f e n =
    let x = freed (get_or old at d) in
    let ys = drop (at + 1) old in
    let q = get_or old before d in
    let xs = take before old in
    let long : length (take at old) ≡ at = length-take-le at old (omega (arith, f.within)) in
    let u : take before now ≡ xs = ap (take before) f.is ∙ (take-append-le before (take at old) (joined x ys) (omega arith) ∙ take-take before at old (omega arith)) in
    let v : get_or now before d ≡ q = ap (λ (l : List Piece). get_or l before d) f.is ∙ (get_or_append_left (take at old) (joined x ys) d before (omega arith) ∙ get_or-take at old before d (omega arith)) in
    let w : drop (before + 1) now ≡ joined x ys = ap (λ (m : ℕ). drop m now) e ∙ (ap (drop at) f.is ∙ drop_at (take at old) (joined x ys) at long) in
    n ∙ (rw (u, v, w) refl ∙ sym (merged_freed old at before d a f.within e))

-- a piece joined with the next, as the code leaves the list

pub join_two : (xs ys zs : List Piece) (at : ℕ) (p n w : Piece) → at + 1 < length xs → p ≡ get_or xs at p → n ≡ get_or xs (at + 1) n → (is_free p && is_free n) ≡ true
    → w ≡ free_piece p.pos (p.size + n.size) → ys ≡ take (at + 1) xs ++ drop (at + 1 + 1) xs → zs ≡ slice_set ys at w
    → (d : Piece) → zs ≡ take at xs ++ joined (get_or xs at d) (drop (at + 1) xs)
join_two xs ys zs at p n w l r q h f s z d =
    let here : p ≡ get_or xs at d = get_or_read xs at p (omega arith) r d in
    let rest : drop (at + 1) xs ≡ n ∷ drop (at + 1 + 1) xs = drop_more xs (at + 1) n l ∙ ap (λ (x : Piece). x ∷ drop (at + 1 + 1) xs) (sym q) in
    let long : length (take (at + 1) xs) ≡ at + 1 = length-take-le (at + 1) xs (omega arith) in
    let longer : at < length ys = let e = ap length s in let k = length-append (take (at + 1) xs) (drop (at + 1 + 1) xs) in omega (arith, e, k, long) in
    let a : take at ys ≡ take at xs = ap (take at) s ∙ (take-append-le at (take (at + 1) xs) (drop (at + 1 + 1) xs) (omega arith) ∙ take-take at (at + 1) xs (omega arith)) in
    let b : drop (suc at) ys ≡ drop (at + 1 + 1) xs = ap (drop (suc at)) s ∙ drop_at (take (at + 1) xs) (drop (at + 1 + 1) xs) (suc at) (long ∙ add-one at) in
    let c : joined p (n ∷ drop (at + 1 + 1) xs) ≡ w ∷ drop (at + 1 + 1) xs = rw h (ap (λ (x : Piece). x ∷ drop (at + 1 + 1) xs) (sym f)) in
    z ∙ (set_split ys at w longer ∙ (rw (a, b) refl ∙ (ap (λ (m : List Piece). take at xs ++ m) (sym c) ∙ rw (← here, rest) refl)))

pub two_fit : (xs : List Piece) (at : ℕ) (p n : Piece) → at + 1 < length xs → p ≡ get_or xs at p → n ≡ get_or xs (at + 1) n → p.size + n.size ≤ size_of xs
two_fit xs at p n l r q =
    let a = ap size_of (drop_more xs at p (omega arith)) in
    let b = size_of_first xs (at + 1) n l in
    let c = size_of-drop at xs in
    let e = ap (λ (x : Piece). x.size) r in
    let f = ap (λ (x : Piece). x.size) q in
    omega (arith, a, b, c, e, f)

size_of_append : (xs ys : List Piece) → size_of (xs ++ ys) ≡ size_of xs + size_of ys
size_of_append [] ys = omega arith
size_of_append (x ∷ xs) ys = let r = size_of_append xs ys in omega (arith, r)

pub size_of_freed : (old now : List Piece) (at : ℕ) (d : Piece) → IsFreedAt old now at d → size_of now ≡ size_of old
size_of_freed old now at d f =
    let a = ap size_of f.is in
    let b = size_of_append (take at old) (joined (freed (get_or old at d)) (drop (at + 1) old)) in
    let c = size_of-joined (freed (get_or old at d)) (drop (at + 1) old) in
    let e = ap size_of (split_here old at d f.within) in
    let g = size_of_append (take at old) (get_or old at d ∷ drop (at + 1) old) in
    omega (arith, a, b, c, e, g)

pub size_of_set : (xs : List Piece) (at : ℕ) (p w : Piece) → at < length xs → p ≡ get_or xs at p → w ≡ freed p → size_of (slice_set xs at w) ≡ size_of xs
size_of_set xs at p w l r f =
    let a = ap size_of (set_split xs at w l) in
    let b = size_of_append (take at xs) (w ∷ drop (suc at) xs) in
    let e = ap size_of (split_here xs at p l) in
    let g = size_of_append (take at xs) (get_or xs at p ∷ drop (at + 1) xs) in
    let h = ap (λ (x : Piece). x.size) f in
    let i = ap (λ (x : Piece). x.size) r in
    let j = ap (λ (n : ℕ). size_of (drop n xs)) (add-one at) in
    omega (arith, a, b, e, g, h, i, j)

joined_some : (p : Piece) (ys : List Piece) → 0 < length (joined p ys)
joined_some p [] = omega arith
joined_some p (y ∷ ys) = cond_both (is_free p && is_free y) (free_piece p.pos (p.size + y.size) ∷ ys) (p ∷ y ∷ ys) (λ (l : List Piece). 0 < length l) (λ e. omega arith) (λ e. omega arith)

pub length_freed : (old now : List Piece) (at : ℕ) (d : Piece) → IsFreedAt old now at d → at < length now
length_freed old now at d f =
    let a = ap length f.is in
    let b = length-append (take at old) (joined (freed (get_or old at d)) (drop (at + 1) old)) in
    let c = length-take-le at old (omega (arith, f.within)) in
    let e = joined_some (freed (get_or old at d)) (drop (at + 1) old) in
    omega (arith, a, b, c, e)

pub laid_are_merged : (at : ℕ) (ps : List Piece) (end : ℕ) → IsLaid at ps end → AreMerged ps
laid_are_merged at [] end h = tt
laid_are_merged at (p ∷ ps) end h = (h.1, laid_are_merged (at + p.size) ps end h.2)

-- the list with a piece freed, by the piece's index
pub freed_items : (test : Piece → Bool) (xs : List Piece) (at : ℕ) (d : Piece) → position test xs ≡ Some at
    → take at xs ++ freed (get_or xs at d) ∷ drop (at + 1) xs ≡ replaced test (λ p. freed p ∷ []) xs
freed_items test xs at d e =
    ap (λ (n : ℕ). take at xs ++ freed (get_or xs at d) ∷ drop n xs) (add-one at) ∙ sym (replaced_at test (λ p. freed p ∷ []) xs at d (is_first test xs at d e))

-- the list now, as what the definition makes of the one before
pub given_back : (pos at : ℕ) (xs ys zs : List Piece) → ys ≡ xs → position (is_reserved_at pos) ys ≡ Some at → ((d : Piece) → zs ≡ merged (take at xs ++ freed (get_or xs at d) ∷ drop (at + 1) xs))
    → zs ≡ merged (replaced (is_reserved_at pos) (λ p. freed p ∷ []) xs)
given_back pos at xs ys zs s e h =
    let d : Piece = record { pos = 0; len = 0; size = 0; kind = Used; owner = Nobody } in
    h d ∙ ap merged (freed_items (is_reserved_at pos) xs at d (subst (λ (l : List Piece). position (is_reserved_at pos) l ≡ Some at) s e))

joined_fewer : (p : Piece) (qs : List Piece) → length (joined p qs) ≤ suc (length qs)
joined_fewer p [] = omega arith
joined_fewer p (q ∷ qs) = cond_both (is_free p && is_free q) (free_piece p.pos (p.size + q.size) ∷ qs) (p ∷ q ∷ qs) (λ (l : List Piece). length l ≤ suc (length (q ∷ qs))) (λ e. omega arith) (λ e. omega arith)

-- a merge leaves no more pieces
pub merged_fewer : (ps : List Piece) → length (merged ps) ≤ length ps
merged_fewer [] = omega arith
merged_fewer (p ∷ ps) = let r = merged_fewer ps in let j = joined_fewer p (merged ps) in omega (arith, r, j)

-- Blocks side by side: an edit inside one block is an edit of the joined list.
use Rattle.std.proofs.Common.{◌≡◌, ℕ, zero, suc, ◌+◌, ◌<◌, ◌≤◌, Bool, true, false, List, [], ◌∷◌, ◌++◌, length, map, take, drop, get_or, slice_set, Option, Some, None, refl, sym, ◌∙◌, ap, subst, arith, add-one, position, IsSome}
use Rattle.std.specs.Option.{is_some}
use Rattle.std.specs.List.{insert, remove}
use Rattle.std.proofs.Common.{◌*◌, ◌-◌, ◌||◌, ◌⊎◌, inl, inr}
use Rattle.std.proofs.lemmas.Bool.{cases_eq, cases_lt, cond_both}
use Rattle.std.proofs.lemmas.List.{get_or-set_other, get_or-set_same, length-set}
use Rattle.std.proofs.lemmas.List.Edits.{length-remove, get_or-remove_below}
use Rattle.std.proofs.Common.{max, add_assoc}
use Rattle.std.proofs.lemmas.List.{append_assoc, append-nil, get_or-append_right, get_or-drop, length-take-le, length-map, length-drop, map-append, length-append, get_or-append-add, get_or_append_left}
use Rattle.cckd_base.specs.declared.space.Owner.TheVariants.{Nobody}
use Rattle.cckd_space.specs.declared.piece.Kind.{Kind}
use Rattle.cckd_space.specs.declared.piece.Kind.TheVariants.{Used, Free, Reserved, Leaving, Pending}
use Rattle.cckd_space.specs.declared.piece.Piece.{Piece}
use Rattle.cckd_space.specs.Pieces.{first, replaced, largest, counted, piece_end, is_free, free_piece, joined, merged, released, released_as}
use Rattle.cckd_space.proofs.MergeLemmas.{merged_same}
use Rattle.std.proofs.Common.{◌&&◌}
use Rattle.cckd_space.specs.Pieces.{NotBothFree}
use Rattle.cckd_space.specs.Inside.{AreMerged, EndsBelow, size_of}
use Rattle.cckd_space.specs.Pieces.{is_leaving, is_pending, leaving_kind, pending_kind}
use Rattle.cckd_space.specs.Blocks.{AreMarked}
use Rattle.cckd_space.proofs.FirstLemmas.{first_at, is_first, none_passes}
use Rattle.cckd_space.proofs.BlockMarkLemmas.{block_fewer}
use Rattle.cckd_space.specs.Blocks.{block_at, whole, IsFoundIn, IsDense, ends_free, starts_free, first_size, grown, closed_at, AreClosed, AreTidy}

abbrev some_piece : Piece
some_piece = record { pos = 0; len = 0; size = 0; kind = Used; owner = Nobody }

-- The joined list.

pub whole_append : (xs ys : List (List Piece)) → whole (xs ++ ys) ≡ whole xs ++ whole ys
whole_append [] ys = refl
whole_append (x ∷ xs) ys = ap (λ (l : List Piece). x ++ l) (whole_append xs ys) ∙ sym (append_assoc x (whole xs) (whole ys))

-- the blocks before an index, the block there, and those behind it
pub whole_at : (bs : List (List Piece)) (i : ℕ) → i < length bs → whole bs ≡ whole (take i bs) ++ (block_at bs i ++ whole (drop (suc i) bs))
whole_at [] i h = absurd (omega arith)
whole_at (b ∷ bs) zero h = refl
whole_at (b ∷ bs) (suc i) h =
    ap (λ (l : List Piece). b ++ l) (whole_at bs i (omega arith)) ∙ sym (append_assoc b (whole (take i bs)) (block_at bs i ++ whole (drop (suc i) bs)))

pub whole_set : (bs : List (List Piece)) (i : ℕ) (b : List Piece) → i < length bs → whole (slice_set bs i b) ≡ whole (take i bs) ++ (b ++ whole (drop (suc i) bs))
whole_set [] i b h = absurd (omega arith)
whole_set (x ∷ xs) zero b h = refl
whole_set (x ∷ xs) (suc i) b h =
    ap (λ (l : List Piece). x ++ l) (whole_set xs i b (omega arith)) ∙ sym (append_assoc x (whole (take i xs)) (b ++ whole (drop (suc i) xs)))

pub whole_more : (bs : List (List Piece)) (i : ℕ) → i < length bs → whole (take (suc i) bs) ≡ whole (take i bs) ++ block_at bs i
whole_more [] i h = absurd (omega arith)
whole_more (b ∷ bs) zero h = cut b
  where
    cut : (xs : List Piece) → xs ++ [] ≡ xs
    cut [] = refl
    cut (x ∷ xs) = ap (λ (l : List Piece). x ∷ l) (cut xs)
whole_more (b ∷ bs) (suc i) h =
    ap (λ (l : List Piece). b ++ l) (whole_more bs i (omega arith)) ∙ sym (append_assoc b (whole (take i bs)) (block_at bs i))

-- one block cut in two is the same list
pub whole_cut : (bs : List (List Piece)) (i : ℕ) (a b : List Piece) → i < length bs → block_at bs i ≡ a ++ b
    → whole (take (suc i) (slice_set bs i a) ++ b ∷ drop (suc i) (slice_set bs i a)) ≡ whole bs
whole_cut [] i a b h e = absurd (omega arith)
whole_cut (x ∷ xs) zero a b h e = sym (append_assoc a b (whole xs)) ∙ ap (λ (l : List Piece). l ++ whole xs) (sym e)
whole_cut (x ∷ xs) (suc i) a b h e = ap (λ (l : List Piece). x ++ l) (whole_cut xs i a b (omega arith) e)

pub whole_map : (f : Piece → Piece) (bs : List (List Piece)) → whole (map (map f) bs) ≡ map f (whole bs)
whole_map f [] = refl
whole_map f (b ∷ bs) = ap (λ (l : List Piece). map f b ++ l) (whole_map f bs) ∙ sym (map-append f b (whole bs))

-- The first piece that passes a test.

module _ (test : Piece → Bool) where
  pub first_behind : (xs ys : List Piece) → first test xs ≡ None → first test (xs ++ ys) ≡ first test ys
  first_behind [] ys e = refl
  first_behind (x ∷ xs) ys e = by (test x) refl (first_behind xs ys)
    where
      by : (b : Bool) → test x ≡ b → (first test xs ≡ None → first test (xs ++ ys) ≡ first test ys) → first test (x ∷ xs ++ ys) ≡ first test ys
      by true f more = absurd (let g = rw f at e in cc)
      by false f more = rw f (more (rw f at e))

  pub first_before : (xs ys : List Piece) → IsSome (first test xs) → first test (xs ++ ys) ≡ first test xs
  first_before [] ys h = absurd cc
  first_before (x ∷ xs) ys h = by (test x) refl (first_before xs ys)
    where
      by : (b : Bool) → test x ≡ b → (IsSome (first test xs) → first test (xs ++ ys) ≡ first test xs) → first test (x ∷ xs ++ ys) ≡ first test (x ∷ xs)
      by true f more = rw f refl
      by false f more = rw f (more (rw f at h))

  pub replaced_behind : (news : Piece → List Piece) (xs ys : List Piece) → first test xs ≡ None → replaced test news (xs ++ ys) ≡ xs ++ replaced test news ys
  replaced_behind news [] ys e = refl
  replaced_behind news (x ∷ xs) ys e = by (test x) refl (replaced_behind news xs ys)
    where
      by : (b : Bool) → test x ≡ b → (first test xs ≡ None → replaced test news (xs ++ ys) ≡ xs ++ replaced test news ys) → replaced test news (x ∷ xs ++ ys) ≡ x ∷ xs ++ replaced test news ys
      by true f more = absurd (let g = rw f at e in cc)
      by false f more = rw f (ap (λ (l : List Piece). x ∷ l) (more (rw f at e)))

  pub replaced_before : (news : Piece → List Piece) (xs ys : List Piece) → IsSome (first test xs) → replaced test news (xs ++ ys) ≡ replaced test news xs ++ ys
  replaced_before news [] ys h = absurd cc
  replaced_before news (x ∷ xs) ys h = by (test x) refl (replaced_before news xs ys)
    where
      by : (b : Bool) → test x ≡ b → (IsSome (first test xs) → replaced test news (xs ++ ys) ≡ replaced test news xs ++ ys) → replaced test news (x ∷ xs ++ ys) ≡ replaced test news (x ∷ xs) ++ ys
      by true f more = rw f (sym (append_assoc (news x) xs ys))
      by false f more = rw f (ap (λ (l : List Piece). x ∷ l) (more (rw f at h)))

  -- it is the first of its block
  pub first_in : (bs : List (List Piece)) (i : ℕ) → IsFoundIn test bs i → first test (whole bs) ≡ first test (block_at bs i)
  first_in bs i h =
      let rest = whole (drop (suc i) bs) in
      ap (first test) (whole_at bs i h.within) ∙ (first_behind (whole (take i bs)) (block_at bs i ++ rest) h.before ∙ first_before (block_at bs i) rest h.here)

  -- the edit in its block is the edit of the joined list
  pub replaced_in : (news : Piece → List Piece) (bs : List (List Piece)) (i : ℕ) → IsFoundIn test bs i
      → whole (slice_set bs i (replaced test news (block_at bs i))) ≡ replaced test news (whole bs)
  replaced_in news bs i h =
      let rest = whole (drop (suc i) bs) in
      whole_set bs i (replaced test news (block_at bs i)) h.within
      ∙ sym (ap (replaced test news) (whole_at bs i h.within)
      ∙ (replaced_behind news (whole (take i bs)) (block_at bs i ++ rest) h.before
      ∙ ap (λ (l : List Piece). whole (take i bs) ++ l) (replaced_before news (block_at bs i) rest h.here)))

  -- a block in which none passes
  pub none_more : (bs : List (List Piece)) (i : ℕ) → i < length bs → first test (whole (take i bs)) ≡ None → is_some (first test (block_at bs i)) ≡ false → first test (whole (take (i + 1) bs)) ≡ None
  none_more bs i l e n =
      subst (λ (m : ℕ). first test (whole (take m bs)) ≡ None) (sym (add-one i))
      (ap (first test) (whole_more bs i l) ∙ (first_behind (whole (take i bs)) (block_at bs i) e ∙ none_of (first test (block_at bs i)) n))
    where
      none_of : (o : Option Piece) → is_some o ≡ false → o ≡ None
      none_of None e = refl
      none_of (Some p) e = absurd cc

  pub some_alike : (xs : List Piece) → is_some (position test xs) ≡ is_some (first test xs)
  some_alike xs = by (position test xs) refl
    where
      by : (o : Option ℕ) → position test xs ≡ o → is_some o ≡ is_some (first test xs)
      by None e = ap is_some (sym (none_passes test xs e))
      by (Some i) e = ap is_some (sym (first_at test xs i some_piece (is_first test xs i some_piece e)))

pub some_is : {X : Type 0} (o : Option X) → is_some o ≡ true → IsSome o
some_is o e = e

-- as `insert` says it
pub whole_inserted : (bs : List (List Piece)) (i : ℕ) (a b : List Piece) → i < length bs → block_at bs i ≡ a ++ b → whole (insert (slice_set bs i a) (i + 1) b) ≡ whole bs
whole_inserted bs i a b h e = subst (λ (m : ℕ). whole (insert (slice_set bs i a) m b) ≡ whole bs) (sym (add-one i)) (whole_cut bs i a b h e)

-- What a block knows of its pieces, for a part of them.

pub ends_in : (bs : List (List Piece)) (i most : ℕ) → i < length bs → EndsBelow (whole bs) most → EndsBelow (block_at bs i) most
ends_in bs i most l h =
    let pre = whole (take i bs) in
    let rest = whole (drop (suc i) bs) in
    let b = block_at bs i in
    let g : EndsBelow (pre ++ (b ++ rest)) most = subst (λ (ps : List Piece). EndsBelow ps most) (whole_at bs i l) h in
    record {
      each = λ k d m.
          let n = length-append pre (b ++ rest) in
          let o = length-append b rest in
          let q : piece_end (get_or (pre ++ (b ++ rest)) (length pre + k) d) < most = g.each (length pre + k) d (omega (arith, n, o)) in
          subst (λ (p : Piece). piece_end p < most) (get_or-append-add pre (b ++ rest) k d ∙ get_or_append_left b rest d k m) q;
    }

pub largest_append : (xs ys : List Piece) → largest (xs ++ ys) ≡ max (largest xs) (largest ys)
largest_append [] ys = omega arith
largest_append (x ∷ xs) ys = let r = largest_append xs ys in omega (arith, r)

pub counted_append : (test : Piece → Bool) (xs ys : List Piece) → counted test (xs ++ ys) ≡ counted test xs + counted test ys
counted_append test [] ys = omega arith
counted_append test (x ∷ xs) ys = let r = counted_append test xs ys in omega (arith, r)

pub marked_front : (old xs ys : List Piece) (leaving pending : Bool) → old ≡ xs ++ ys → AreMarked old leaving pending → AreMarked xs leaving pending
marked_front old xs ys leaving pending e m =
    let a = counted_append is_leaving xs ys in
    let b = counted_append is_pending xs ys in
    let c = ap (counted is_leaving) e in
    let d = ap (counted is_pending) e in
    block_fewer old xs leaving pending (omega (arith, a, c)) (omega (arith, b, d)) m

pub marked_rest : (old xs ys : List Piece) (leaving pending : Bool) → old ≡ xs ++ ys → AreMarked old leaving pending → AreMarked ys leaving pending
marked_rest old xs ys leaving pending e m =
    let a = counted_append is_leaving xs ys in
    let b = counted_append is_pending xs ys in
    let c = ap (counted is_leaving) e in
    let d = ap (counted is_pending) e in
    block_fewer old ys leaving pending (omega (arith, a, c)) (omega (arith, b, d)) m

-- Merging, part by part.

size_released : (p : Piece) → (released p).size ≡ p.size
size_released p = elim p.kind as (λ k. (released_as k p).size ≡ p.size) [ Used ↦ refl | Free ↦ refl | Reserved ↦ refl | Leaving ↦ refl | Pending ↦ refl ]

pub size_of-released : (ps : List Piece) → size_of (map released ps) ≡ size_of ps
size_of-released [] = refl
size_of-released (p ∷ ps) = let r = size_of-released ps in let s = size_released p in omega (arith, r, s)

-- two free pieces before a list, one after the other or as one
pub joined_twice : (x m : Piece) (qs : List Piece) → is_free x ≡ true → is_free m ≡ true → joined x (joined m qs) ≡ joined (free_piece x.pos (x.size + m.size)) qs
joined_twice x m [] a b = rw (a, b) refl
joined_twice x m (q ∷ qs) a b = by (is_free q) refl
  where
    by : (f : Bool) → is_free q ≡ f → joined x (joined m (q ∷ qs)) ≡ joined (free_piece x.pos (x.size + m.size)) (q ∷ qs)
    by true e = rw (b, e, a) (ap (λ (n : ℕ). free_piece x.pos n ∷ qs) (sym (add_assoc x.size m.size q.size)))
    by false e = rw (b, e, a, b) refl

joined_part : (x : Piece) (ms ys : List Piece) → merged (joined x ms ++ ys) ≡ joined x (merged (ms ++ ys))
joined_part x [] ys = refl
joined_part x (m ∷ ms) ys = by (is_free x) (is_free m) refl refl
  where
    by : (a b : Bool) → is_free x ≡ a → is_free m ≡ b → merged (joined x (m ∷ ms) ++ ys) ≡ joined x (merged (m ∷ ms ++ ys))
    by true true e f = rw (e, f) (sym (joined_twice x m (merged (ms ++ ys)) e f))
    by true false e f = rw (e, f) refl
    by false b e f = rw e refl

-- the front may be merged before
pub merged_before : (xs ys : List Piece) → merged (merged xs ++ ys) ≡ merged (xs ++ ys)
merged_before [] ys = refl
merged_before (x ∷ xs) ys = joined_part x (merged xs) ys ∙ ap (joined x) (merged_before xs ys)

pub merged_twice : (xs : List Piece) → merged (merged xs) ≡ merged xs
merged_twice xs = ap merged (sym (append-nil (merged xs))) ∙ (merged_before xs [] ∙ ap merged (append-nil xs))

-- the rest may be merged before
pub merged_behind_too : (xs ys : List Piece) → merged (xs ++ merged ys) ≡ merged (xs ++ ys)
merged_behind_too [] ys = merged_twice ys
merged_behind_too (x ∷ xs) ys = ap (joined x) (merged_behind_too xs ys)

-- each block released by itself, and the joined list merged then
pub released_blocks : (bs : List (List Piece)) → merged (whole (map (λ b. merged (map released b)) bs)) ≡ merged (map released (whole bs))
released_blocks [] = refl
released_blocks (b ∷ bs) =
    let g : List (List Piece) = map (λ (c : List Piece). merged (map released c)) bs in
    merged_before (map released b) (whole g)
    ∙ (sym (merged_behind_too (map released b) (whole g))
    ∙ (ap (λ (l : List Piece). merged (map released b ++ l)) (released_blocks bs)
    ∙ (merged_behind_too (map released b) (map released (whole bs)) ∙ ap merged (sym (map-append released b (whole bs))))))

-- The number of blocks.

-- of dense blocks there are few
pub dense_few : (full : ℕ) (bs : List (List Piece)) → IsDense full (length bs - 1) bs → (full + 1) * length bs + length (block_at bs 0) ≤ 2 * length (whole bs) + (full + 1)
dense_few full [] h = omega arith
dense_few full (b ∷ []) h = let e = length-append b [] in omega (arith, e)
dense_few full (b ∷ c ∷ bs) h =
    let r = dense_few full (c ∷ bs) (λ i l. let e : suc i + 1 ≡ suc (i + 1) = omega arith in subst (λ (k : ℕ). full < length (block_at (b ∷ c ∷ bs) (suc i)) + length (block_at (b ∷ c ∷ bs) k)) e (h (suc i) (omega arith))) in
    let g : full < length b + length c = h 0 (omega arith) in
    let e = length-append b (whole (c ∷ bs)) in
    omega (arith, r, g, e)

-- two neighbours made one are the same list
pub whole_united : (bs : List (List Piece)) (i : ℕ) → suc i < length bs → whole (slice_set (remove bs (suc i)) i (block_at bs i ++ block_at bs (suc i))) ≡ whole bs
whole_united [] i h = absurd (omega arith)
whole_united (x ∷ []) i h = absurd (omega arith)
whole_united (x ∷ y ∷ ys) zero h = append_assoc x y (whole ys)
whole_united (x ∷ y ∷ ys) (suc i) h = ap (λ (l : List Piece). x ++ l) (whole_united (y ∷ ys) i (omega arith))

pub whole_united_at : (bs : List (List Piece)) (i : ℕ) → i + 1 < length bs → whole (slice_set (remove bs (i + 1)) i (block_at bs i ++ block_at bs (i + 1))) ≡ whole bs
whole_united_at bs i h = subst (λ (m : ℕ). whole (slice_set (remove bs m) i (block_at bs i ++ block_at bs m)) ≡ whole bs) (sym (add-one i)) (whole_united bs i (omega arith))

-- the blocks before stay dense
pub dense_united : (full : ℕ) (bs : List (List Piece)) (n : ℕ) → n + 1 < length bs → IsDense full n bs → IsDense full n (slice_set (remove bs (n + 1)) n (block_at bs n ++ block_at bs (n + 1)))
dense_united full bs n l h = λ i m.
    let cut = remove bs (n + 1) in
    let b = block_at bs n ++ block_at bs (n + 1) in
    let len = length-remove bs (n + 1) l in
    let g = h i m in
    let first_same = get_or-set_other cut n i b [] (λ e. omega (arith, m, e)) ∙ get_or-remove_below bs (n + 1) [] i (omega arith) l in
    let e1 = ap length first_same in
    let more = length-append (block_at bs n) (block_at bs (n + 1)) in
    elim (cases_eq (i + 1) n) [
      | inl e ↦
          let s = ap length (ap (λ (k : ℕ). block_at (slice_set cut n b) k) e ∙ get_or-set_same cut n b [] (omega (arith, len))) in
          let t = ap (λ (k : ℕ). length (block_at bs k)) e in
          omega (arith, g, e1, more, s, t)
      | inr ne ↦
          let s = ap length (get_or-set_other cut n (i + 1) b [] ne ∙ get_or-remove_below bs (n + 1) [] (i + 1) (omega arith) l) in
          omega (arith, g, e1, s)
    ]

pub marked_both : (xs ys : List Piece) (a b c d : Bool) → AreMarked xs a b → AreMarked ys c d → AreMarked (xs ++ ys) (a || c) (b || d)
marked_both xs ys a b c d m n = record {
  none_leaving = λ e. let h = m.none_leaving (or_left a c e) in let k = n.none_leaving (or_right a c e) in let s = counted_append is_leaving xs ys in omega (arith, h, k, s);
  none_pending = λ e. let h = m.none_pending (or_left b d e) in let k = n.none_pending (or_right b d e) in let s = counted_append is_pending xs ys in omega (arith, h, k, s);
}
  where
    or_left : (p q : Bool) → (p || q) ≡ false → p ≡ false
    or_left true q e = absurd cc
    or_left false q e = refl

    or_right : (p q : Bool) → (p || q) ≡ false → q ≡ false
    or_right true q e = absurd cc
    or_right false q e = e

-- A border.

pub grown_is : (xs : List Piece) (n more : ℕ) (p w : Piece) → length xs ≡ suc n → p ≡ get_or xs n p → w ≡ free_piece p.pos (p.size + more) → slice_set xs n w ≡ grown more xs
grown_is [] n more p w h r e = absurd (omega (arith, h))
grown_is (x ∷ []) zero more p w h r e = ap (λ (q : Piece). q ∷ []) (e ∙ ap (λ (q : Piece). free_piece q.pos (q.size + more)) r)
grown_is (x ∷ []) (suc n) more p w h r e = absurd (omega (arith, h))
grown_is (x ∷ y ∷ ys) zero more p w h r e = absurd (omega (arith, h))
grown_is (x ∷ y ∷ ys) (suc n) more p w h r e = ap (λ (l : List Piece). x ∷ l) (grown_is (y ∷ ys) n more p w (omega (arith, h)) r e)

pub some_end : (xs : List Piece) → ends_free xs ≡ true → 0 < length xs
some_end [] e = absurd cc
some_end (x ∷ xs) e = omega arith

pub some_start : (xs : List Piece) → starts_free xs ≡ true → 0 < length xs
some_start [] e = absurd cc
some_start (x ∷ xs) e = omega arith

pub end_at : (xs : List Piece) (n : ℕ) (d : Piece) → length xs ≡ suc n → ends_free xs ≡ is_free (get_or xs n d)
end_at [] n d h = absurd (omega (arith, h))
end_at (x ∷ []) zero d h = refl
end_at (x ∷ []) (suc n) d h = absurd (omega (arith, h))
end_at (x ∷ y ∷ ys) zero d h = absurd (omega (arith, h))
end_at (x ∷ y ∷ ys) (suc n) d h = end_at (y ∷ ys) n d (omega (arith, h))

pub start_at : (xs : List Piece) (d : Piece) → 0 < length xs → (starts_free xs ≡ is_free (get_or xs 0 d)) × (first_size xs ≡ (get_or xs 0 d).size)
start_at [] d h = absurd (omega (arith, h))
start_at (x ∷ xs) d h = (refl, refl)

pub size_in : (xs : List Piece) (n : ℕ) (d : Piece) → n < length xs → (get_or xs n d).size ≤ size_of xs
size_in [] n d h = absurd (omega (arith, h))
size_in (x ∷ xs) zero d h = omega arith
size_in (x ∷ xs) (suc n) d h = let r = size_in xs n d (omega (arith, h)) in omega (arith, r)

pub size_of-append : (xs ys : List Piece) → size_of (xs ++ ys) ≡ size_of xs + size_of ys
size_of-append [] ys = omega arith
size_of-append (x ∷ xs) ys = let r = size_of-append xs ys in omega (arith, r)

pub first_size_le : (xs : List Piece) → first_size xs ≤ size_of xs
first_size_le [] = omega arith
first_size_le (x ∷ xs) = omega arith

-- two neighbours fit
pub two_blocks_fit : (bs : List (List Piece)) (i : ℕ) → suc i < length bs → size_of (block_at bs i) + first_size (block_at bs (suc i)) ≤ size_of (whole bs)
two_blocks_fit [] i h = absurd (omega arith)
two_blocks_fit (x ∷ []) i h = absurd (omega arith)
two_blocks_fit (x ∷ y ∷ ys) zero h =
    let a = size_of-append x (y ++ whole ys) in
    let b = size_of-append y (whole ys) in
    let c = first_size_le y in
    omega (arith, a, b, c)
two_blocks_fit (x ∷ y ∷ ys) (suc i) h =
    let r = two_blocks_fit (y ∷ ys) i (omega arith) in
    let a = size_of-append x (whole (y ∷ ys)) in
    omega (arith, r, a)

counted_grown : (of : Kind → Bool) → of Free ≡ false → (more : ℕ) (xs : List Piece) → counted (λ p. of p.kind) (grown more xs) ≤ counted (λ p. of p.kind) xs
counted_grown of e more [] = omega arith
counted_grown of e more (x ∷ []) = rw e (omega arith)
counted_grown of e more (x ∷ y ∷ ys) = let r = counted_grown of e more (y ∷ ys) in omega (arith, r)

pub marked_grown : (more : ℕ) (xs : List Piece) (leaving pending : Bool) → AreMarked xs leaving pending → AreMarked (grown more xs) leaving pending
marked_grown more xs leaving pending m = block_fewer xs (grown more xs) leaving pending (counted_grown leaving_kind refl more xs) (counted_grown pending_kind refl more xs) m

grown_border : (a : List Piece) (c rest : List Piece) → ends_free a ≡ true → starts_free c ≡ true → merged (grown (first_size c) a ++ (drop 1 c ++ rest)) ≡ merged (a ++ (c ++ rest))
grown_border [] c rest e f = absurd cc
grown_border (p ∷ []) [] rest e f = absurd cc
grown_border (p ∷ []) (q ∷ qs) rest e f = sym (joined_twice p q (merged (qs ++ rest)) e f)
grown_border (p ∷ x ∷ xs) c rest e f = ap (joined p) (grown_border (x ∷ xs) c rest e f)

merged_behind : (xs ys zs : List Piece) → merged ys ≡ merged zs → merged (xs ++ ys) ≡ merged (xs ++ zs)
merged_behind [] ys zs e = e
merged_behind (x ∷ xs) ys zs e = ap (joined x) (merged_behind xs ys zs e)

border : (bs : List (List Piece)) (i : ℕ) → suc i < length bs → ends_free (block_at bs i) ≡ true → starts_free (block_at bs (suc i)) ≡ true
    → merged (whole (slice_set (slice_set bs i (grown (first_size (block_at bs (suc i))) (block_at bs i))) (suc i) (drop 1 (block_at bs (suc i))))) ≡ merged (whole bs)
border [] i h e f = absurd (omega arith)
border (x ∷ []) i h e f = absurd (omega arith)
border (x ∷ y ∷ ys) zero h e f = grown_border x y (whole ys) e f
border (x ∷ y ∷ ys) (suc i) h e f =
    let bs = y ∷ ys in
    merged_behind x (whole (slice_set (slice_set bs i (grown (first_size (block_at bs (suc i))) (block_at bs i))) (suc i) (drop 1 (block_at bs (suc i))))) (whole bs) (border bs i (omega arith) e f)

-- the joined list after a border was closed
pub border_closed : (bs : List (List Piece)) (i more : ℕ) (a b : List Piece) → i + 1 < length bs → ends_free (block_at bs i) ≡ true → starts_free (block_at bs (i + 1)) ≡ true
    → more ≡ first_size (block_at bs (i + 1)) → a ≡ grown more (block_at bs i) → b ≡ drop 1 (block_at bs (i + 1)) → merged (whole (slice_set (slice_set bs i a) (i + 1) b)) ≡ merged (whole bs)
border_closed bs i more a b h e f m p q =
    let s : i + 1 ≡ suc i = add-one i in
    let f' : starts_free (block_at bs (suc i)) ≡ true = subst (λ (k : ℕ). starts_free (block_at bs k) ≡ true) s f in
    let p' : a ≡ grown (first_size (block_at bs (suc i))) (block_at bs i) = p ∙ ap (λ (n : ℕ). grown n (block_at bs i)) (m ∙ ap (λ (k : ℕ). first_size (block_at bs k)) s) in
    let q' : b ≡ drop 1 (block_at bs (suc i)) = q ∙ ap (λ (k : ℕ). drop 1 (block_at bs k)) s in
    ap (λ (k : ℕ). merged (whole (slice_set (slice_set bs i a) k b))) s
    ∙ (ap (λ (l : List Piece). merged (whole (slice_set (slice_set bs i l) (suc i) b))) p'
    ∙ (ap (λ (l : List Piece). merged (whole (slice_set (slice_set bs i (grown (first_size (block_at bs (suc i))) (block_at bs i))) (suc i) l))) q'
    ∙ border bs i (omega arith) e f'))

-- Where all borders are closed.

start_of : (x : Piece) (ys : List Piece) → (is_free x && starts_free ys) ≡ false → NotBothFree x ys
start_of x [] e = tt
start_of x (y ∷ ys) e = e

pub merged_append : (xs ys : List Piece) → AreMerged xs → AreMerged ys → (ends_free xs && starts_free ys) ≡ false → AreMerged (xs ++ ys)
merged_append [] ys a b e = b
merged_append (x ∷ []) ys a b e = (start_of x ys e, b)
merged_append (x ∷ y ∷ xs) ys a b e = (a.0, merged_append (y ∷ xs) ys a.1 b e)

pub start_whole : (b : List Piece) (ys : List Piece) → 0 < length b → starts_free (b ++ ys) ≡ starts_free b
start_whole [] ys h = absurd (omega arith)
start_whole (x ∷ xs) ys h = refl

pub no_end : (b : Bool) → (b && false) ≡ false
no_end true = refl
no_end false = refl

-- no two Free pieces of the joined list are neighbours
pub whole_is_merged : (bs : List (List Piece)) → AreTidy bs → AreClosed (length bs - 1) bs → AreMerged (whole bs)
whole_is_merged [] t h = tt
whole_is_merged (b ∷ []) t h = merged_append b [] t.1 tt (no_end (ends_free b))
whole_is_merged (b ∷ c ∷ cs) t h =
    let rest = whole_is_merged (c ∷ cs) t.2 (λ i l.
    let e : suc i + 1 ≡ suc (i + 1) = omega arith in
    subst (λ (k : ℕ). (ends_free (block_at (b ∷ c ∷ cs) (suc i)) && starts_free (block_at (b ∷ c ∷ cs) k)) ≡ false) e (h (suc i) (omega arith))) in
    let first_border : (ends_free b && starts_free c) ≡ false = h 0 (omega arith) in
    let s = start_whole c (whole cs) t.2.0 in
    merged_append b (whole (c ∷ cs)) t.1 rest (subst (λ (f : Bool). (ends_free b && f) ≡ false) (sym s) first_border)

-- then it is the merged list
pub whole_merged : (bs : List (List Piece)) (old : List Piece) → AreTidy bs → AreClosed (length bs - 1) bs → merged (whole bs) ≡ merged old → whole bs ≡ merged old
whole_merged bs old t h e = sym (merged_same (whole bs) (whole_is_merged bs t h)) ∙ e

-- A border that is closed.

pub grown_len : (more : ℕ) (xs : List Piece) → length (grown more xs) ≡ length xs
grown_len more [] = refl
grown_len more (x ∷ []) = refl
grown_len more (x ∷ y ∷ ys) = ap suc (grown_len more (y ∷ ys))

grown_start : (more : ℕ) (xs : List Piece) → ends_free xs ≡ true → starts_free (grown more xs) ≡ starts_free xs
grown_start more [] e = refl
grown_start more (x ∷ []) e = sym e
grown_start more (x ∷ y ∷ ys) e = refl

pub grown_merged : (more : ℕ) (xs : List Piece) → ends_free xs ≡ true → AreMerged xs → AreMerged (grown more xs)
grown_merged more [] e a = tt
grown_merged more (x ∷ []) e a = (tt, tt)
grown_merged more (x ∷ y ∷ []) e a = (subst (λ (b : Bool). (is_free x && b) ≡ false) e a.0, grown_merged more (y ∷ []) e a.1)
grown_merged more (x ∷ y ∷ z ∷ zs) e a = (a.0, grown_merged more (y ∷ z ∷ zs) e a.1)

pub tail_merged : (xs : List Piece) → AreMerged xs → AreMerged (drop 1 xs)
tail_merged [] a = tt
tail_merged (x ∷ xs) a = a.1

-- the same by cases on the list
abbrev pub closed_by : ℕ → List (List Piece) → List (List Piece)
closed_by i bs = slice_set (slice_set bs i (grown (first_size (block_at bs (suc i))) (block_at bs i))) (suc i) (drop 1 (block_at bs (suc i)))

pub tidy_by : (bs : List (List Piece)) (i : ℕ) → suc i < length bs → ends_free (block_at bs i) ≡ true → 1 < length (block_at bs (suc i)) → AreTidy bs → AreTidy (closed_by i bs)
tidy_by [] i h e m t = absurd (omega arith)
tidy_by (x ∷ []) i h e m t = absurd (omega arith)
tidy_by (x ∷ y ∷ ys) zero h e m t =
    let n = grown_len (first_size y) x in
    let d = length-drop 1 y in
    (omega (arith, n, t.0), grown_merged (first_size y) x e t.1, (omega (arith, d, m), tail_merged y t.2.1, t.2.2))
tidy_by (x ∷ y ∷ ys) (suc i) h e m t = (t.0, t.1, tidy_by (y ∷ ys) i (omega arith) e m t.2)

pub tidy_without : (bs : List (List Piece)) (i : ℕ) → suc i < length bs → ends_free (block_at bs i) ≡ true → AreTidy bs → AreTidy (remove (closed_by i bs) (suc i))
tidy_without [] i h e t = absurd (omega arith)
tidy_without (x ∷ []) i h e t = absurd (omega arith)
tidy_without (x ∷ y ∷ ys) zero h e t = let n = grown_len (first_size y) x in (omega (arith, n, t.0), grown_merged (first_size y) x e t.1, t.2.2)
tidy_without (x ∷ y ∷ ys) (suc i) h e t = (t.0, t.1, tidy_without (y ∷ ys) i (omega arith) e t.2)

pub fewer_by : (bs : List (List Piece)) (i : ℕ) → suc i < length bs → starts_free (block_at bs (suc i)) ≡ true → length (whole (closed_by i bs)) < length (whole bs)
fewer_by [] i h e = absurd (omega arith)
fewer_by (x ∷ []) i h e = absurd (omega arith)
fewer_by (x ∷ y ∷ ys) zero h e =
    let n = grown_len (first_size y) x in
    let a = length-append (grown (first_size y) x) (drop 1 y ++ whole ys) in
    let b = length-append (drop 1 y) (whole ys) in
    let c = length-append x (y ++ whole ys) in
    let d = length-append y (whole ys) in
    let s = some_start y e in
    let l = length-drop 1 y in
    omega (arith, n, a, b, c, d, s, l)
fewer_by (x ∷ y ∷ ys) (suc i) h e =
    let r = fewer_by (y ∷ ys) i (omega arith) e in
    let a = length-append x (whole (closed_by i (y ∷ ys))) in
    let b = length-append x (whole (y ∷ ys)) in
    omega (arith, r, a, b)

pub closed_front : (bs : List (List Piece)) (i n : ℕ) → suc i < length bs → ends_free (block_at bs i) ≡ true → n ≤ i → AreClosed n bs → AreClosed n (closed_by i bs)
closed_front bs i n h e l c = λ k m.
    let a = grown (first_size (block_at bs (suc i))) (block_at bs i) in
    let b = drop 1 (block_at bs (suc i)) in
    let one = slice_set bs i a in
    let s = get_or-set_other one (suc i) k b [] (λ q. omega (arith, q, m)) ∙ get_or-set_other bs i k a [] (λ q. omega (arith, q, m)) in
    let t : starts_free (block_at (closed_by i bs) (k + 1)) ≡ starts_free (block_at bs (k + 1)) = elim (cases_eq (k + 1) i) [
      | inl q ↦
          subst (λ (j : ℕ). starts_free (block_at (closed_by i bs) j) ≡ starts_free (block_at bs j)) (sym q)
          (ap starts_free (get_or-set_other one (suc i) i b [] (λ z. omega (arith, z)) ∙ get_or-set_same bs i a [] (omega arith)) ∙ grown_start (first_size (block_at bs (suc i))) (block_at bs i) e)
      | inr q ↦ ap starts_free (get_or-set_other one (suc i) (k + 1) b [] (λ z. omega (arith, z, m)) ∙ get_or-set_other bs i (k + 1) a [] q)
    ] in
    subst (λ (x : List Piece). (ends_free x && starts_free (block_at (closed_by i bs) (k + 1))) ≡ false) (sym s)
    (subst (λ (x : Bool). (ends_free (block_at bs k) && x) ≡ false) (sym t) (c k m))

pub closed_without : (bs : List (List Piece)) (i n : ℕ) → suc i < length bs → n ≤ i → AreClosed n bs → AreClosed n (remove bs (suc i))
closed_without bs i n h l c = λ k m.
    subst (λ (x : List Piece). (ends_free x && starts_free (block_at (remove bs (suc i)) (k + 1))) ≡ false) (sym (get_or-remove_below bs (suc i) [] k (omega arith) h))
    (subst (λ (x : List Piece). (ends_free (block_at bs k) && starts_free x) ≡ false) (sym (get_or-remove_below bs (suc i) [] (k + 1) (omega arith) h)) (c k m))

pub whole_without : (bs : List (List Piece)) (i : ℕ) → i < length bs → block_at bs i ≡ [] → whole (remove bs i) ≡ whole bs
whole_without [] i h e = absurd (omega arith)
whole_without (x ∷ xs) zero h e = ap (λ (l : List Piece). l ++ whole xs) (sym e)
whole_without (x ∷ xs) (suc i) h e = ap (λ (l : List Piece). x ++ l) (whole_without xs i (omega arith) e)

pub closed_is : (bs : List (List Piece)) (i : ℕ) → closed_at i bs ≡ closed_by i bs
closed_is bs i = ap (λ (k : ℕ). slice_set (slice_set bs i (grown (first_size (block_at bs k)) (block_at bs i))) k (drop 1 (block_at bs k))) (add-one i)

pub nil_of : (xs : List Piece) → length xs ≡ 0 → xs ≡ []
nil_of [] e = refl
nil_of (x ∷ xs) e = absurd (omega (arith, e))

-- what is left of the block behind the border
pub behind_len : (bs : List (List Piece)) (i : ℕ) → suc i < length bs → length (block_at (closed_by i bs) (suc i)) + 1 ≤ length (block_at bs (suc i)) ⊎ (length (block_at bs (suc i)) ≡ 0)
behind_len bs i h =
    let a = grown (first_size (block_at bs (suc i))) (block_at bs i) in
    let b = drop 1 (block_at bs (suc i)) in
    let n = length-set bs i a in
    let e = ap length (get_or-set_same (slice_set bs i a) (suc i) b [] (omega (arith, n))) in
    let d = length-drop 1 (block_at bs (suc i)) in
    elim (cases_lt 0 (length (block_at bs (suc i)))) [ inl l ↦ inl (omega (arith, e, d, l)) | inr g ↦ inr (omega (arith, g)) ]

-- After a release.

joined_merged : (p : Piece) (qs : List Piece) → AreMerged qs → AreMerged (joined p qs)
joined_merged p [] a = (tt, tt)
joined_merged p (q ∷ qs) a = by (is_free p && is_free q) refl
  where
    by : (b : Bool) → (is_free p && is_free q) ≡ b → AreMerged (joined p (q ∷ qs))
    by true e = rw e (after (is_free q) refl qs a.0, a.1)
      where
        after : (f : Bool) → is_free q ≡ f → (ys : List Piece) → NotBothFree q ys → NotBothFree (free_piece p.pos (p.size + q.size)) ys
        after f g [] h = tt
        after true g (y ∷ ys) h = rw g at h
        after false g (y ∷ ys) h = absurd (let n : (is_free p && false) ≡ true = rw g at e in let m = no_end (is_free p) in cc)
    by false e = rw e (e, a)

pub merged_is_merged : (ps : List Piece) → AreMerged (merged ps)
merged_is_merged [] = tt
merged_is_merged (p ∷ ps) = joined_merged p (merged ps) (merged_is_merged ps)

joined_some : (p : Piece) (qs : List Piece) → 0 < length (joined p qs)
joined_some p [] = omega arith
joined_some p (q ∷ qs) = cond_both (is_free p && is_free q) (free_piece p.pos (p.size + q.size) ∷ qs) (p ∷ q ∷ qs) (λ (l : List Piece). 0 < length l) (λ e. omega arith) (λ e. omega arith)

pub merged_some : (ps : List Piece) → 0 < length ps → 0 < length (merged ps)
merged_some [] h = absurd (omega arith)
merged_some (p ∷ ps) h = joined_some p (merged ps)

pub tidy_released : (bs : List (List Piece)) → AreTidy bs → AreTidy (map (λ (b : List Piece). merged (map released b)) bs)
tidy_released [] t = tt
tidy_released (b ∷ bs) t = let n = length-map b released in (merged_some (map released b) (omega (arith, n, t.0)), merged_is_merged (map released b), tidy_released bs t.2)

pub tidy_at : (bs : List (List Piece)) (i : ℕ) (d : List Piece) → i < length bs → AreTidy bs → AreMerged (get_or bs i d)
tidy_at [] i d h t = absurd (omega arith)
tidy_at (b ∷ bs) zero d h t = t.1
tidy_at (b ∷ bs) (suc i) d h t = tidy_at bs i d (omega arith) t.2

pub size_at : (bs : List (List Piece)) (i : ℕ) (d : List Piece) → i < length bs → size_of (get_or bs i d) ≤ size_of (whole bs)
size_at [] i d h = absurd (omega arith)
size_at (b ∷ bs) zero d h = let a = size_of-append b (whole bs) in omega (arith, a)
size_at (b ∷ bs) (suc i) d h = let r = size_at bs i d (omega arith) in let a = size_of-append b (whole bs) in omega (arith, r, a)

pub at_rest : (f : List Piece → List Piece) (xs ys : List (List Piece)) (i : ℕ) (d : List Piece) → i < length xs → ys ≡ map f (take i xs) ++ drop i xs → get_or ys i d ≡ get_or xs i d
at_rest f xs ys i d h e =
    let n : length (map f (take i xs)) ≡ i = length-map (take i xs) f ∙ length-take-le i xs (omega (arith, h)) in
    let z : i + (i - i) ≡ i = omega arith in
    ap (λ (l : List (List Piece)). get_or l i d) e ∙ (get_or-append_right (map f (take i xs)) (drop i xs) i i d n (omega arith) ∙ (get_or-drop i xs (i - i) d ∙ ap (λ (k : ℕ). get_or xs k d) z))

-- a list ends with its last piece
pub ends_with : (xs : List Piece) (p : Piece) → ends_free (xs ++ p ∷ []) ≡ is_free p
ends_with [] p = refl
ends_with (x ∷ []) p = refl
ends_with (x ∷ y ∷ ys) p = ends_with (y ∷ ys) p

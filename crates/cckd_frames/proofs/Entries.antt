-- Entries that are read off a list of frames.
use Rattle.std.proofs.Common.{◌≡◌, ◌≢◌, inl, inr, ℕ, zero, suc, ◌+◌, ◌≤◌, false, List, [], ◌∷◌, length, take, map, None, Some, IsSome, slice_get, refl, sym, ap, ◌∙◌, subst, arith}
use Rattle.std.proofs.lemmas.Bool.Decides.{eqb_tells}
use Rattle.std.specs.List.{IsDistinct, AllByRecursion}
use Rattle.std.specs.Bool.{nat_eq}
use Rattle.cckd_frames.specs.Frames.{Entry, keys, frames, entry_of, entry_in, without, changed}
use Rattle.cckd_frames.specs.Nodes.{word, In, IsApart, leave_out, IsPath}
use Rattle.cckd_frames.proofs.RingLemmas.{leave_out-same, leave_out-other}

pub map-take : (f : ℕ → Entry) (n : ℕ) (xs : List ℕ) → map f (take n xs) ≡ take n (map f xs)
map-take f zero xs = refl
map-take f (suc n) [] = refl
map-take f (suc n) (x ∷ xs) = ap (λ l. f x ∷ l) (map-take f n xs)

pub map-same : (f g : ℕ → Entry) (xs : List ℕ) → ((x : ℕ) → In x xs → f x ≡ g x) → map f xs ≡ map g xs
map-same f g [] h = refl
map-same f g (x ∷ xs) h = let e = h x (inl refl) in let r = map-same f g xs (λ y i. h y (inr i)) in λ i. e i ∷ r i

pub length-map : (f : ℕ → Entry) (xs : List ℕ) → length (map f xs) ≡ length xs
length-map f [] = refl
length-map f (x ∷ xs) = ap (λ n. suc n) (length-map f xs)

-- the last node of a path is the one before its end
pub last_in : (c d : ℕ) (ws : List ℕ) (a x : ℕ) (xs : List ℕ) (z : ℕ) → IsPath c d ws a (x ∷ xs) z → In (word ws d z) (x ∷ xs)
last_in c d ws a x [] z p = inl p.2.1
last_in c d ws a x (y ∷ ys) z p = inr (last_in c d ws x y ys z p.2)

pub last_out : (c d : ℕ) (ws : List ℕ) (a : ℕ) (xs : List ℕ) (z n : ℕ) → IsPath c d ws a xs z → IsApart xs → length xs ≡ n + 1
    → leave_out (word ws d z) xs ≡ take n xs
last_out c d ws a [] z n p ap e = absurd (omega arith)
last_out c d ws a (x ∷ []) z zero p apart e = subst (λ u. leave_out u (x ∷ []) ≡ []) (sym p.2.1) (leave_out-same x [])
last_out c d ws a (x ∷ []) z (suc n) p apart e = absurd (omega arith)
last_out c d ws a (x ∷ y ∷ ys) z zero p apart e = absurd (omega arith)
last_out c d ws a (x ∷ y ∷ ys) z (suc n) p apart e =
    let i = last_in c d ws x y ys z p.2 in
    leave_out-other (word ws d z) x (y ∷ ys) (λ at. apart.0 (subst (λ u. In u (y ∷ ys)) at i))
    ∙ ap (λ l. x ∷ l) (last_out c d ws x (y ∷ ys) z n p.2 apart.1 (omega arith))

pub last_get : (c d : ℕ) (ws : List ℕ) (a : ℕ) (xs : List ℕ) (z n : ℕ) → IsPath c d ws a xs z → length xs ≡ n + 1
    → slice_get xs n ≡ Some (word ws d z)
last_get c d ws a [] z n p e = absurd (omega arith)
last_get c d ws a (x ∷ []) z zero p e = ap (λ k. Some k) (sym p.2.1)
last_get c d ws a (x ∷ []) z (suc n) p e = absurd (omega arith)
last_get c d ws a (x ∷ y ∷ ys) z zero p e = absurd (omega arith)
last_get c d ws a (x ∷ y ∷ ys) z (suc n) p e = last_get c d ws x (y ∷ ys) z n p.2 (omega arith)

module _ (f : ℕ → Entry) where
  pub entry_of-found : (key x : ℕ) (xs : List ℕ) → In x xs → (f x).key ≡ key → ((y : ℕ) → In y xs → (f y).key ≡ key → y ≡ x) → entry_of key (map f xs) ≡ Some (f x)
  entry_of-found key x [] i e only = absurd i
  entry_of-found key x (y ∷ ys) i e only =
      elim (eqb_tells (f y).key key) [
        | inl t ↦ rw t.0 (ap (λ k. Some (f k)) (only y (inl refl) t.1))
        | inr no_key ↦ rw no_key.0 (entry_of-found key x ys (elim i [ inl at ↦ absurd (no_key.1 (subst (λ k. (f k).key ≡ key) at e)) | inr r ↦ r ]) e (λ z z_in. only z (inr z_in)))
      ]

  pub entry_of-none : (key : ℕ) (xs : List ℕ) → ((y : ℕ) → In y xs → (f y).key ≢ key) → entry_of key (map f xs) ≡ None
  entry_of-none key [] h = refl
  entry_of-none key (y ∷ ys) h =
      elim (eqb_tells (f y).key key) [ inl t ↦ absurd (h y (inl refl) t.1) | inr e ↦ rw e.0 (entry_of-none key ys (λ z z_in. h z (inr z_in))) ]

  -- a key that no entry has is that of no frame
  pub entry_of-absent : (key : ℕ) (xs : List ℕ) → entry_of key (map f xs) ≡ None → (y : ℕ) → In y xs → (f y).key ≢ key
  entry_of-absent key [] h y i = absurd i
  entry_of-absent key (x ∷ xs) h y i =
      elim (eqb_tells (f x).key key) [
        | inl t ↦ absurd (let h2 = rw t.0 at h in cc)
        | inr e ↦ (let h2 = rw e.0 at h in elim i [ inl at ↦ (λ k. e.1 (subst (λ u. (f u).key ≡ key) at k)) | inr r ↦ entry_of-absent key xs h2 y r ])
      ]

  pub without-none : (key : ℕ) (xs : List ℕ) → ((y : ℕ) → In y xs → (f y).key ≢ key) → without key (map f xs) ≡ map f xs
  without-none key [] h = refl
  without-none key (y ∷ ys) h =
      elim (eqb_tells (f y).key key) [ inl t ↦ absurd (h y (inl refl) t.1) | inr e ↦ rw e.0 (ap (λ l. f y ∷ l) (without-none key ys (λ z z_in. h z (inr z_in)))) ]

  pub without-map : (key x : ℕ) (xs : List ℕ) → In x xs → IsApart xs → (f x).key ≡ key → ((y : ℕ) → In y xs → (f y).key ≡ key → y ≡ x)
      → without key (map f xs) ≡ map f (leave_out x xs)
  without-map key x [] i apart e only = absurd i
  without-map key x (y ∷ ys) i apart e only =
      elim (eqb_tells (f y).key key) [
        | inl t ↦ (let at : x ≡ y = sym (only y (inl refl) t.1) in
            rw t.0 (without-none key ys (λ z z_in k. apart.0 (subst (λ u. In u ys) (only z (inr z_in) k ∙ at) z_in))
            ∙ ap (λ l. map f l) (sym (subst (λ u. leave_out u (y ∷ ys) ≡ ys) (sym at) (leave_out-same y ys)))))
        | inr differs ↦ (let ne : x ≢ y = λ at. differs.1 (subst (λ k. (f k).key ≡ key) at e) in
            rw differs.0 (ap (λ l. f y ∷ l) (without-map key x ys (elim i [ inl at ↦ absurd (ne at) | inr r ↦ r ]) apart.1 e (λ z z_in. only z (inr z_in)))
            ∙ ap (λ l. map f l) (sym (leave_out-other x y ys ne))))
      ]

  pub entry_in-found : ((y : ℕ) → (f y).frame ≡ y) → (x : ℕ) (xs : List ℕ) → In x xs → entry_in x (map f xs) ≡ Some (f x)
  entry_in-found at x [] i = absurd i
  entry_in-found at x (y ∷ ys) i =
      elim (eqb_tells (f y).frame x) [
        | inl t ↦ rw t.0 (ap (λ k. Some (f k)) (sym (at y) ∙ t.1))
        | inr e ↦ rw e.0 (entry_in-found at x ys (elim i [ inl here ↦ absurd (e.1 (at y ∙ sym here)) | inr r ↦ r ]))
      ]

  pub entry_in-used : ((y : ℕ) → (f y).frame ≡ y) → (x : ℕ) (xs : List ℕ) → IsSome (entry_in x (map f xs)) → In x xs
  entry_in-used at x [] h = absurd cc
  entry_in-used at x (y ∷ ys) h =
      elim (eqb_tells (f y).frame x) [
        | inl t ↦ inl (sym t.1 ∙ at y)
        | inr e ↦ (let h2 = rw e.0 at h in inr (entry_in-used at x ys h2))
      ]

  pub changed-map : ((y : ℕ) → (f y).frame ≡ y) → (g : ℕ → Entry) (x : ℕ) (change : Entry → Entry) (xs : List ℕ)
      → g x ≡ change (f x) → ((y : ℕ) → In y xs → y ≢ x → g y ≡ f y) → changed x change (map f xs) ≡ map g xs
  changed-map at g x change [] h k = refl
  changed-map at g x change (y ∷ ys) h k =
      let r : changed x change (map f ys) ≡ map g ys = changed-map at g x change ys h (λ z i. k z (inr i)) in
      elim (eqb_tells (f y).frame x) [
        | inl t ↦ (let e : x ≡ y = sym t.1 ∙ at y in rw t.0 (let head : change (f y) ≡ g y = subst (λ u. change (f u) ≡ g u) e (sym h) in λ i. head i ∷ r i))
        | inr e ↦ rw e.0 (let head : f y ≡ g y = sym (k y (inl refl) (λ q. e.1 (at y ∙ q))) in λ i. head i ∷ r i)
      ]

  pub frames-map : ((y : ℕ) → (f y).frame ≡ y) → (xs : List ℕ) → frames (map f xs) ≡ xs
  frames-map at [] = refl
  frames-map at (x ∷ xs) = let r = frames-map at xs in let e = at x in λ i. e i ∷ r i

  pub key-get : (xs : List ℕ) (k x : ℕ) → slice_get xs k ≡ Some x → slice_get (keys (map f xs)) k ≡ Some (f x).key
  key-get [] k x h = absurd cc
  key-get (y ∷ ys) zero x h = ap (λ u. Some (f u).key) (cc)
  key-get (y ∷ ys) (suc k) x h = key-get ys k x h

  pub key-get-past : (xs : List ℕ) (k : ℕ) → length xs ≤ k → slice_get (keys (map f xs)) k ≡ None
  key-get-past [] k h = refl
  key-get-past (y ∷ ys) zero h = absurd (omega arith)
  key-get-past (y ∷ ys) (suc k) h = key-get-past ys k (omega arith)

-- lists in which no number comes twice, in std's words
pub none_equal : (x : ℕ) (xs : List ℕ) → (In x xs → ⊥) → AllByRecursion (λ y. nat_eq x y ≡ false) xs
none_equal x [] h = tt
none_equal x (y ∷ ys) h = (elim (eqb_tells x y) [ inl t ↦ absurd (h (inl t.1)) | inr e ↦ e.0 ], none_equal x ys (λ i. h (inr i)))

pub distinct_of : (xs : List ℕ) → IsApart xs → IsDistinct nat_eq xs
unfolding IsDistinct
distinct_of [] a = tt
distinct_of (x ∷ xs) a = (none_equal x xs a.0, distinct_of xs a.1)

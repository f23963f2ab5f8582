-- Rings of nodes: one node is taken out or put in, and the other rings stay.
use Rattle.std.proofs.Common.{◌≡◌, ◌≢◌, ◌⊎◌, inl, inr, ℕ, ◌+◌, ◌*◌, ◌<◌, List, [], ◌∷◌, length, refl, sym, ap, ◌∙◌, subst, arith, length-set}
use Rattle.std.proofs.lemmas.List.{get_or-set_same, get_or-set_other}
use Rattle.std.proofs.lemmas.Bool.Decides.{eqb_tells}
use Rattle.cckd_frames.specs.Nodes.{word, with_word, In, IsApart, leave_out, IsPath, trail, IsRing, unlinked, linked}

-- a node is x, or it is not
pub same_or_not : (x y : ℕ) → (x ≡ y) ⊎ (x ≢ y)
same_or_not x y = elim (eqb_tells x y) [ inl t ↦ inl t.1 | inr f ↦ inr f.1 ]

pub leave_out-same : (x : ℕ) (ys : List ℕ) → leave_out x (x ∷ ys) ≡ ys
leave_out-same x ys = elim (eqb_tells x x) [ inl t ↦ rw t.0 | inr f ↦ absurd (f.1 refl) ]

pub leave_out-other : (x y : ℕ) (ys : List ℕ) → x ≢ y → leave_out x (y ∷ ys) ≡ y ∷ leave_out x ys
leave_out-other x y ys ne = elim (eqb_tells x y) [ inl t ↦ absurd (ne t.1) | inr f ↦ rw f.0 ]

pub in_rest : (x y : ℕ) (xs : List ℕ) → In y (leave_out x xs) → In y xs
in_rest x y [] i = i
in_rest x y (z ∷ zs) i =
    elim (same_or_not x z) [
      | inl e ↦ inr (subst (λ l. In y l) (subst (λ u. leave_out u (z ∷ zs) ≡ zs) (sym e) (leave_out-same z zs)) i)
      | inr ne ↦ elim (subst (λ l. In y l) (leave_out-other x z zs ne) i) [ inl e ↦ inl e | inr r ↦ inr (in_rest x y zs r) ]
    ]

pub in_left_out : (x y : ℕ) (xs : List ℕ) → In y xs → y ≢ x → In y (leave_out x xs)
in_left_out x y [] i ne = i
in_left_out x y (z ∷ zs) i ne =
    elim (same_or_not x z) [
      | inl e ↦ subst (λ l. In y l) (sym (subst (λ u. leave_out u (z ∷ zs) ≡ zs) (sym e) (leave_out-same z zs))) (elim i [ inl at ↦ absurd (ne (at ∙ sym e)) | inr r ↦ r ])
      | inr differ ↦ subst (λ l. In y l) (sym (leave_out-other x z zs differ)) (elim i [ inl at ↦ inl at | inr r ↦ inr (in_left_out x y zs r ne) ])
    ]

pub apart_left_out : (x : ℕ) (xs : List ℕ) → IsApart xs → IsApart (leave_out x xs)
apart_left_out x [] a = a
apart_left_out x (z ∷ zs) a =
    elim (same_or_not x z) [
      | inl e ↦ subst (λ l. IsApart l) (sym (subst (λ u. leave_out u (z ∷ zs) ≡ zs) (sym e) (leave_out-same z zs))) a.1
      | inr differ ↦ subst (λ l. IsApart l) (sym (leave_out-other x z zs differ)) (λ i. a.0 (in_rest x z zs i), apart_left_out x zs a.1)
    ]

-- where no number comes twice, what is left out is gone
pub gone : (x : ℕ) (xs : List ℕ) → IsApart xs → In x (leave_out x xs) → ⊥
gone x [] a i = i
gone x (z ∷ zs) a i =
    elim (same_or_not x z) [
      | inl e ↦ a.0 (subst (λ u. In u zs) e (subst (λ l. In x l) (subst (λ u. leave_out u (z ∷ zs) ≡ zs) (sym e) (leave_out-same z zs)) i))
      | inr differ ↦ elim (subst (λ l. In x l) (leave_out-other x z zs differ) i) [ inl e ↦ differ e | inr r ↦ gone x zs a.1 r ]
    ]

pub length-leave_out : (x : ℕ) (xs : List ℕ) → In x xs → length (leave_out x xs) + 1 ≡ length xs
length-leave_out x [] i = absurd i
length-leave_out x (z ∷ zs) i =
    elim (same_or_not x z) [
      | inl e ↦ (let k = ap (λ (l : List ℕ). length l) (subst (λ u. leave_out u (z ∷ zs) ≡ zs) (sym e) (leave_out-same z zs)) in omega arith)
      | inr differ ↦ (let k = ap (λ (l : List ℕ). length l) (leave_out-other x z zs differ) in
          let r : length (leave_out x zs) + 1 ≡ length zs = length-leave_out x zs (elim i [ inl e ↦ absurd (differ e) | inr r ↦ r ]) in omega arith)
    ]

-- words that agree on the nodes of a path
pub path_stays : (c d : ℕ) (ws vs : List ℕ) (a : ℕ) (xs : List ℕ) (z : ℕ)
    → ((k : ℕ) → (k ≡ a) ⊎ In k xs → word vs c k ≡ word ws c k)
    → ((k : ℕ) → (k ≡ z) ⊎ In k xs → word vs d k ≡ word ws d k)
    → IsPath c d ws a xs z → IsPath c d vs a xs z
path_stays c d ws vs a [] z f g p = (f a (inl refl) ∙ p.0, g z (inl refl) ∙ p.1)
path_stays c d ws vs a (x ∷ xs) z f g p =
    (f a (inl refl) ∙ p.0, g x (inr (inl refl)) ∙ p.1, path_stays c d ws vs x xs z (λ k i. f k (inr i)) (λ k i. g k (elim i [ inl e ↦ inl e | inr r ↦ inr (inr r) ])) p.2)

-- the node before one on a path is on it, or is where it begins
pub before_in : (c d : ℕ) (ws : List ℕ) (a : ℕ) (xs : List ℕ) (z x : ℕ) → IsPath c d ws a xs z → In x xs → In (word ws d x) (a ∷ xs)
before_in c d ws a [] z x p i = absurd i
before_in c d ws a (y ∷ ys) z x p i =
    elim i [ inl e ↦ inl (ap (λ k. word ws d k) e ∙ p.1) | inr r ↦ inr (before_in c d ws y ys z x p.2 r) ]

-- the node after one on a path is on it, or is where it ends
pub after_in : (c d : ℕ) (ws : List ℕ) (a : ℕ) (xs : List ℕ) (z x : ℕ) → IsPath c d ws a xs z → (x ≡ a) ⊎ In x xs → (word ws c x ≡ z) ⊎ In (word ws c x) xs
after_in c d ws a [] z x p i = elim i [ inl e ↦ inl (ap (λ k. word ws c k) e ∙ p.0) | inr r ↦ absurd r ]
after_in c d ws a (y ∷ ys) z x p i =
    elim i [
      | inl e ↦ inr (inl (ap (λ k. word ws c k) e ∙ p.0))
      | inr r ↦ elim (after_in c d ws y ys z x p.2 r) [ inl e ↦ inl e | inr q ↦ inr (inr q) ]
    ]

-- vs is ws with n after p and p before n
pub record IsJoined (c d : ℕ) (ws vs : List ℕ) (p n : ℕ) : Type 0 where
  pub ahead : word vs c p ≡ n
  pub ahead_kept : (k : ℕ) → k ≢ p → word vs c k ≡ word ws c k
  pub back : word vs d n ≡ p
  pub back_kept : (k : ℕ) → k ≢ n → word vs d k ≡ word ws d k

-- a path without x
pub path_without : (c d : ℕ) (ws vs : List ℕ) (x a : ℕ) (xs : List ℕ) (z : ℕ)
    → IsJoined c d ws vs (word ws d x) (word ws c x) → IsPath c d ws a xs z → In x xs → IsApart (a ∷ xs) → (In z xs → ⊥)
    → IsPath c d vs a (leave_out x xs) z
path_without c d ws vs x a [] z j p i ap nz = absurd i
path_without c d ws vs x a (y ∷ []) z j p i apart nz =
    let e : x ≡ y = elim i [ inl e ↦ e | inr r ↦ absurd r ] in
    let b : word ws d x ≡ a = ap (λ k. word ws d k) e ∙ p.1 in
    let n : word ws c x ≡ z = ap (λ k. word ws c k) e ∙ p.2.0 in
    subst (λ l. IsPath c d vs a l z) (sym (subst (λ u. leave_out u (y ∷ []) ≡ []) (sym e) (leave_out-same y [])))
    (subst (λ k. word vs c k ≡ z) b (j.ahead ∙ n), subst (λ k. word vs d k ≡ a) n (j.back ∙ b))
path_without c d ws vs x a (y ∷ w ∷ ys) z j p i apart nz =
    elim (same_or_not x y) [
      | inl e ↦ (
          let b : word ws d x ≡ a = ap (λ k. word ws d k) e ∙ p.1 in
          let n : word ws c x ≡ w = ap (λ k. word ws c k) e ∙ p.2.0 in
          subst (λ l. IsPath c d vs a l z) (sym (subst (λ u. leave_out u (y ∷ w ∷ ys) ≡ w ∷ ys) (sym e) (leave_out-same y (w ∷ ys)))) (
            subst (λ k. word vs c k ≡ w) b (j.ahead ∙ n),
            subst (λ k. word vs d k ≡ a) n (j.back ∙ b),
            path_stays c d ws vs w ys z
                (λ k k_in. j.ahead_kept k (λ at. apart.0 (subst (λ u. In u (y ∷ w ∷ ys)) (at ∙ b) (inr k_in))))
                (λ k k_in. j.back_kept k (λ at. elim k_in [ inl e' ↦ nz (inr (inl (sym e' ∙ at ∙ n))) | inr r ↦ apart.1.1.0 (subst (λ u. In u ys) (at ∙ n) r) ]))
                p.2.2,
          ))
      | inr ne ↦ (
          let r : In x (w ∷ ys) = elim i [ inl e ↦ absurd (ne e) | inr r ↦ r ] in
          subst (λ l. IsPath c d vs a l z) (sym (leave_out-other x y (w ∷ ys) ne)) (
            j.ahead_kept a (λ at. apart.0 (subst (λ u. In u (y ∷ w ∷ ys)) (sym at) (before_in c d ws y (w ∷ ys) z x p.2 r))) ∙ p.0,
            j.back_kept y (λ at. elim (after_in c d ws y (w ∷ ys) z x p.2 (inr r)) [ inl e ↦ nz (inl (sym (at ∙ e))) | inr q ↦ apart.1.0 (subst (λ u. In u (w ∷ ys)) (sym at) q) ]) ∙ p.1,
            path_without c d ws vs x y (w ∷ ys) z j p.2 r apart.1 (λ q. nz (inr q)),
          ))
    ]

-- vs is ws with x between a and b
pub record IsBetween (c d : ℕ) (ws vs : List ℕ) (a x b : ℕ) : Type 0 where
  pub to_new : word vs c a ≡ x
  pub ahead : word vs c x ≡ b
  pub ahead_kept : (k : ℕ) → k ≢ a → k ≢ x → word vs c k ≡ word ws c k
  pub to_old : word vs d b ≡ x
  pub back : word vs d x ≡ a
  pub back_kept : (k : ℕ) → k ≢ x → k ≢ b → word vs d k ≡ word ws d k

-- a path with x as its first
pub path_with : (c d : ℕ) (ws vs : List ℕ) (x a : ℕ) (xs : List ℕ) (z : ℕ)
    → IsBetween c d ws vs a x (word ws c a) → IsPath c d ws a xs z → (In x (a ∷ xs) → ⊥) → x ≢ z → IsApart (a ∷ xs) → (In z xs → ⊥)
    → IsPath c d vs a (x ∷ xs) z
path_with c d ws vs x a [] z b p nx nxz apart nz = (b.to_new, b.back, (b.ahead ∙ p.0, subst (λ k. word vs d k ≡ x) p.0 b.to_old))
path_with c d ws vs x a (y ∷ ys) z b p nx nxz apart nz = (
  b.to_new,
  b.back,
  (
    b.ahead ∙ p.0,
    subst (λ k. word vs d k ≡ x) p.0 b.to_old,
    path_stays c d ws vs y ys z
        (λ k i. b.ahead_kept k (λ at. apart.0 (subst (λ u. In u (y ∷ ys)) at i)) (λ at. nx (inr (subst (λ u. In u (y ∷ ys)) at i))))
        (λ k i. b.back_kept k
        (λ at. elim i [ inl e ↦ nxz (sym at ∙ e) | inr r ↦ nx (inr (inr (subst (λ u. In u ys) at r))) ])
        (λ at. elim i [ inl e ↦ nz (inl (sym e ∙ at ∙ p.0)) | inr r ↦ apart.1.0 (subst (λ u. In u ys) (at ∙ p.0) r) ]))
        p.2,
  ),
)

-- the node that ends a path is found by going back from its end
pub word-set_here : (ws : List ℕ) (c x v : ℕ) → 9 * x + c < length ws → word (with_word ws c x v) c x ≡ v
word-set_here ws c x v h = get_or-set_same ws (9 * x + c) v 0 h

pub word-set_node : (ws : List ℕ) (c d x y v : ℕ) → c < 9 → d < 9 → x ≢ y → word (with_word ws d y v) c x ≡ word ws c x
word-set_node ws c d x y v a b ne = get_or-set_other ws (9 * y + d) (9 * x + c) v 0 (omega arith)

pub word-set_column : (ws : List ℕ) (c d x y v : ℕ) → c < 9 → d < 9 → c ≢ d → word (with_word ws d y v) c x ≡ word ws c x
word-set_column ws c d x y v a b ne = get_or-set_other ws (9 * y + d) (9 * x + c) v 0 (omega arith)

-- the columns of a ring
pub record AreColumns (c d : ℕ) : Type 0 where
  pub first : c < 9
  pub second : d < 9
  pub differ : c ≢ d

pub unlinked_joins : (c d x : ℕ) (ws : List ℕ) → AreColumns c d → 9 * word ws d x + c < length ws → 9 * word ws c x + d < length ws
    → IsJoined c d ws (unlinked c d x ws) (word ws d x) (word ws c x)
unlinked_joins c d x ws cs hp hn =
    let p = word ws d x in let n = word ws c x in let vs = with_word ws c p n in
    let same : length vs ≡ length ws = length-set ws (9 * p + c) n in
    record {
      ahead = word-set_column vs c d p n p cs.first cs.second cs.differ ∙ word-set_here ws c p n hp;
      ahead_kept = λ k ne. word-set_column vs c d k n p cs.first cs.second cs.differ ∙ word-set_node ws c c k p n cs.first cs.first ne;
      back = word-set_here vs d n p (omega arith);
      back_kept = λ k ne. word-set_node vs d d k n p cs.second cs.second ne ∙ word-set_column ws d c k p n cs.second cs.first (λ e. cs.differ (sym e));
    }

pub linked_between : (c d a x : ℕ) (ws : List ℕ) → AreColumns c d → x ≢ a → x ≢ word ws c a
    → 9 * a + c < length ws → 9 * x + c < length ws → 9 * x + d < length ws → 9 * word ws c a + d < length ws
    → IsBetween c d ws (linked c d a x ws) a x (word ws c a)
linked_between c d a x ws cs xa xb ha hxc hxd hb =
    let b = word ws c a in let v1 = with_word ws d x a in let v2 = with_word v1 c x b in let v3 = with_word v2 d b x in
    let s1 : length v1 ≡ length ws = length-set ws (9 * x + d) a in
    let s2 : length v2 ≡ length v1 = length-set v1 (9 * x + c) b in
    let s3 : length v3 ≡ length v2 = length-set v2 (9 * b + d) x in
    let dc : d ≢ c = λ e. cs.differ (sym e) in
    record {
      to_new = word-set_here v3 c a x (omega arith);
      ahead = word-set_node v3 c c x a x cs.first cs.first xa ∙ (word-set_column v2 c d x b x cs.first cs.second cs.differ ∙ word-set_here v1 c x b (omega arith));
      ahead_kept = λ k ka kx. word-set_node v3 c c k a x cs.first cs.first ka ∙ (word-set_column v2 c d k b x cs.first cs.second cs.differ ∙ (word-set_node v1 c c k x b cs.first cs.first kx ∙ word-set_column ws c d k x a cs.first cs.second cs.differ));
      to_old = word-set_column v3 d c b a x cs.second cs.first dc ∙ word-set_here v2 d b x (omega arith);
      back = word-set_column v3 d c x a x cs.second cs.first dc ∙ (word-set_node v2 d d x b x cs.second cs.second xb ∙ (word-set_column v1 d c x x b cs.second cs.first dc ∙ word-set_here ws d x a hxd));
      back_kept = λ k kx kb. word-set_column v3 d c k a x cs.second cs.first dc ∙ (word-set_node v2 d d k b x cs.second cs.second kb ∙ (word-set_column v1 d c k x b cs.second cs.first dc ∙ word-set_node ws d d k x a cs.second cs.second kx));
    }

-- other columns stay
pub unlinked_column : (c d x e k : ℕ) (ws : List ℕ) → AreColumns c d → e < 9 → e ≢ c → e ≢ d → word (unlinked c d x ws) e k ≡ word ws e k
unlinked_column c d x e k ws cs he ec ed =
    word-set_column (with_word ws c (word ws d x) (word ws c x)) e d k (word ws c x) (word ws d x) he cs.second ed ∙ word-set_column ws e c k (word ws d x) (word ws c x) he cs.first ec

pub linked_column : (c d a x e k : ℕ) (ws : List ℕ) → AreColumns c d → e < 9 → e ≢ c → e ≢ d → word (linked c d a x ws) e k ≡ word ws e k
linked_column c d a x e k ws cs he ec ed =
    let b = word ws c a in let v1 = with_word ws d x a in let v2 = with_word v1 c x b in let v3 = with_word v2 d b x in
    word-set_column v3 e c k a x he cs.first ec ∙ (word-set_column v2 e d k b x he cs.second ed ∙ (word-set_column v1 e c k x b he cs.first ec ∙ word-set_column ws e d k x a he cs.second ed))

pub length-unlinked : (c d x : ℕ) (ws : List ℕ) → length (unlinked c d x ws) ≡ length ws
length-unlinked c d x ws = length-set (with_word ws c (word ws d x) (word ws c x)) (9 * word ws c x + d) (word ws d x) ∙ length-set ws (9 * word ws d x + c) (word ws c x)

pub length-linked : (c d a x : ℕ) (ws : List ℕ) → length (linked c d a x ws) ≡ length ws
length-linked c d a x ws =
    let b = word ws c a in let v1 = with_word ws d x a in let v2 = with_word v1 c x b in let v3 = with_word v2 d b x in
    length-set v3 (9 * a + c) x ∙ (length-set v2 (9 * b + d) x ∙ (length-set v1 (9 * x + c) b ∙ length-set ws (9 * x + d) a))

module _ (c d : ℕ) (ws : List ℕ) (a : ℕ) (P : ℕ → Type 0) (xs : List ℕ) where
  -- the nodes beside one of a ring
  pub ring_before : IsRing c d ws a P xs → (x : ℕ) → P x → (word ws d x ≡ a) ⊎ P (word ws d x)
  ring_before r x px = elim (before_in c d ws a xs a x r.path (r.each x px)) [ inl e ↦ inl e | inr i ↦ inr (r.only (word ws d x) i) ]

  pub ring_after : IsRing c d ws a P xs → (x : ℕ) → (x ≡ a) ⊎ P x → (word ws c x ≡ a) ⊎ P (word ws c x)
  ring_after r x px =
      elim (after_in c d ws a xs a x r.path (elim px [ inl e ↦ inl e | inr q ↦ inr (r.each x q) ])) [ inl e ↦ inl e | inr i ↦ inr (r.only (word ws c x) i) ]

  pub ring_stays : (vs : List ℕ) (Q : ℕ → Type 0) → ((k : ℕ) → P k → Q k) → ((k : ℕ) → Q k → P k)
      → ((k : ℕ) → (k ≡ a) ⊎ P k → word vs c k ≡ word ws c k) → ((k : ℕ) → (k ≡ a) ⊎ P k → word vs d k ≡ word ws d k)
      → IsRing c d ws a P xs → IsRing c d vs a Q xs
  ring_stays vs Q to from f g r = record {
    path = path_stays c d ws vs a xs a (λ k i. f k (elim i [ inl e ↦ inl e | inr q ↦ inr (r.only k q) ])) (λ k i. g k (elim i [ inl e ↦ inl e | inr q ↦ inr (r.only k q) ])) r.path;
    apart = r.apart;
    only = λ x i. to x (r.only x i);
    each = λ x q. r.each x (from x q);
  }

  pub ring_without : (vs : List ℕ) (x : ℕ) → P x → IsJoined c d ws vs (word ws d x) (word ws c x)
      → IsRing c d ws a P xs → IsRing c d vs a (λ y. P y × y ≢ x) (leave_out x xs)
  ring_without vs x px j r = record {
    path = path_without c d ws vs x a xs a j r.path (r.each x px) r.apart r.apart.0;
    apart = (λ i. r.apart.0 (in_rest x a xs i), apart_left_out x xs r.apart.1);
    only = λ y i. (r.only y (in_rest x y xs i), λ e. gone x xs r.apart.1 (subst (λ u. In u (leave_out x xs)) e i));
    each = λ y q. in_left_out x y xs (r.each y q.0) q.1;
  }

  pub ring_with : (vs : List ℕ) (x : ℕ) → (P x → ⊥) → x ≢ a → IsBetween c d ws vs a x (word ws c a)
      → IsRing c d ws a P xs → IsRing c d vs a (λ y. P y ⊎ (y ≡ x)) (x ∷ xs)
  ring_with vs x npx xa b r =
      let nx : In x xs → ⊥ = λ i. npx (r.only x i) in record {
        path = path_with c d ws vs x a xs a b r.path (λ i. elim i [ inl e ↦ xa e | inr q ↦ nx q ]) xa r.apart r.apart.0;
        apart = (λ i. elim i [ inl e ↦ xa (sym e) | inr q ↦ r.apart.0 q ], (nx, r.apart.1));
        only = λ y i. elim i [ inl e ↦ inr e | inr q ↦ inl (r.only y q) ];
        each = λ y q. elim q [ inl p ↦ inr (r.each y p) | inr e ↦ inl e ];
      }

-- the nodes of a path, read off its words
pub trail_of_path : (c d : ℕ) (ws : List ℕ) (a : ℕ) (xs : List ℕ) (z : ℕ) → IsPath c d ws a xs z → trail ws c a (length xs) ≡ xs
trail_of_path c d ws a [] z p = refl
trail_of_path c d ws a (x ∷ xs) z p =
    let rest : trail ws c x (length xs) ≡ xs = trail_of_path c d ws x xs z p.2 in
    subst (λ y. y ∷ trail ws c y (length xs) ≡ x ∷ xs) (sym p.0) (ap (λ l. x ∷ l) rest)

-- The order and the index after one frame is brought to the front, gives its entry up or takes one.
use Rattle.std.proofs.Common.{◌≡◌, ◌≢◌, ◌⊎◌, inl, inr, ℕ, ◌+◌, ◌-◌, ◌*◌, ◌<◌, ◌≤◌, List, ◌∷◌, length, refl, sym, ap, ◌∙◌, subst, arith, lit<}
use Rattle.cckd_frames.specs.Nodes.{word, leave_out, IsRing, unlinked, linked}
use Rattle.cckd_frames.specs.Table.{IsIndex, IsMember, bucket_of, brought, one_less, one_more}
use Rattle.cckd_frames.proofs.RingLemmas.{same_or_not, length-leave_out, AreColumns, unlinked_joins, linked_between, unlinked_column, linked_column, length-unlinked, length-linked, ring_before, ring_after, ring_stays, ring_without, ring_with, IsJoined, IsBetween, word-set_node, word-set_column, word-set_here}

pub recency : AreColumns 0 1
recency = record { first = lit< tt; second = lit< tt; differ = omega arith }

pub chained : AreColumns 2 3
chained = record { first = lit< tt; second = lit< tt; differ = omega arith }

module _ (count c d a x : ℕ) (ws : List ℕ) (P : ℕ → Type 0) (xs : List ℕ) where
  pub ring_joined : AreColumns c d → length ws ≡ 9 * (2 * count + 1) → a ≤ 2 * count → ((y : ℕ) → P y → y < count) → P x
      → IsRing c d ws a P xs → IsJoined c d ws (unlinked c d x ws) (word ws d x) (word ws c x)
  ring_joined cs size ha within px r =
      let first = cs.first in let second = cs.second in
      let p : word ws d x ≤ 2 * count = elim (ring_before c d ws a P xs r x px) [ inl e ↦ omega (arith, e) | inr q ↦ (let h = within (word ws d x) q in omega arith) ] in
      let n : word ws c x ≤ 2 * count = elim (ring_after c d ws a P xs r x (inr px)) [ inl e ↦ omega (arith, e) | inr q ↦ (let h = within (word ws c x) q in omega arith) ] in
      unlinked_joins c d x ws cs (omega arith) (omega arith)

  pub ring_unlinked : AreColumns c d → length ws ≡ 9 * (2 * count + 1) → a ≤ 2 * count → ((y : ℕ) → P y → y < count) → P x
      → IsRing c d ws a P xs → IsRing c d (unlinked c d x ws) a (λ y. P y × y ≢ x) (leave_out x xs)
  ring_unlinked cs size ha within px r = ring_without c d ws a P xs (unlinked c d x ws) x px (ring_joined cs size ha within px r) r

  pub ring_between : AreColumns c d → length ws ≡ 9 * (2 * count + 1) → count ≤ a → a ≤ 2 * count → ((y : ℕ) → P y → y < count) → x < count → (P x → ⊥)
      → IsRing c d ws a P xs → IsBetween c d ws (linked c d a x ws) a x (word ws c a)
  ring_between cs size low ha within hx npx r =
      let first = cs.first in let second = cs.second in
      let b = ring_after c d ws a P xs r a (inl refl) in
      let n : word ws c a ≤ 2 * count = elim b [ inl e ↦ omega (arith, e) | inr q ↦ (let h = within (word ws c a) q in omega arith) ] in
      let xa : x ≢ a = omega arith in
      let xb : x ≢ word ws c a = λ e. elim b [ inl f ↦ xa (e ∙ f) | inr q ↦ npx (subst P (sym e) q) ] in
      linked_between c d a x ws cs xa xb (omega arith) (omega arith) (omega arith) (omega arith)

  pub ring_linked : AreColumns c d → length ws ≡ 9 * (2 * count + 1) → count ≤ a → a ≤ 2 * count → ((y : ℕ) → P y → y < count) → x < count → (P x → ⊥)
      → IsRing c d ws a P xs → IsRing c d (linked c d a x ws) a (λ y. P y ⊎ (y ≡ x)) (x ∷ xs)
  ring_linked cs size low ha within hx npx r =
      let xa : x ≢ a = omega arith in
      ring_with c d ws a P xs (linked c d a x ws) x npx xa (ring_between cs size low ha within hx npx r) r

  -- the same ring, of nodes that are said in another way
  pub ring_as : (Q : ℕ → Type 0) → ((k : ℕ) → P k → Q k) → ((k : ℕ) → Q k → P k) → IsRing c d ws a P xs → IsRing c d ws a Q xs
  ring_as Q to from r = record { path = r.path; apart = r.apart; only = λ k i. to k (r.only k i); each = λ k q. r.each k (from k q) }

module _ (count x : ℕ) (ws : List ℕ) (P : ℕ → Type 0) where
  pub ring_brought : (xs : List ℕ) → length ws ≡ 9 * (2 * count + 1) → ((y : ℕ) → P y → y < count) → P x
      → IsRing 0 1 ws (2 * count) P xs → IsRing 0 1 (brought count x ws) (2 * count) P (x ∷ leave_out x xs)
  ring_brought xs size within px r =
      let vs = unlinked 0 1 x ws in let Q : ℕ → Type 0 = λ y. P y × y ≢ x in let hx = within x px in
      let out = ring_unlinked count 0 1 (2 * count) x ws P xs recency size (omega arith) within px r in
      let back = ring_linked count 0 1 (2 * count) x vs Q (leave_out x xs) recency (length-unlinked 0 1 x ws ∙ size) (omega arith) (omega arith) (λ y q. within y q.0) hx (λ q. q.1 refl) out in
      ring_as count 0 1 (2 * count) x (brought count x ws) (λ y. Q y ⊎ (y ≡ x)) (x ∷ leave_out x xs) P
      (λ y q. elim q [ inl h ↦ h.0 | inr e ↦ subst P (sym e) px ])
      (λ y py. elim (same_or_not y x) [ inl e ↦ inr e | inr ne ↦ inl (py, ne) ]) back

-- an index depends on four columns
pub index_kept : (count : ℕ) (ws vs : List ℕ) (P : ℕ → Type 0)
    → ((k : ℕ) → word vs 2 k ≡ word ws 2 k) → ((k : ℕ) → word vs 3 k ≡ word ws 3 k) → ((k : ℕ) → word vs 4 k ≡ word ws 4 k) → ((k : ℕ) → word vs 5 k ≡ word ws 5 k)
    → IsIndex count ws P → IsIndex count vs P
index_kept count ws vs P s2 s3 s4 s5 i = record {
  within = i.within;
  one_key_each = λ x y px py e. i.one_key_each x y px py (sym (s4 x) ∙ (e ∙ s4 y));
  bucket = λ b low high. let t = i.bucket b low high in (
    t.0,
    ring_stays 2 3 ws b (IsMember count ws P b) t.0 vs (IsMember count vs P b)
        (λ k m. (m.0, rw (s4 k) m.1)) (λ k m. (m.0, rw (s4 k) at m.1)) (λ k _. s2 k) (λ k _. s3 k) t.1,
    t.2 ∙ sym (s5 b),
  );
}

-- a bucket's node lies between the frames and the head
pub bucket_low : (count key : ℕ) → count ≤ bucket_of count key
bucket_low count key = omega arith

pub bucket_high : (count key : ℕ) → 0 < count → bucket_of count key < 2 * count
bucket_high count key h = omega arith

-- frame x leaves its bucket
pub index_without : (count x : ℕ) (ws : List ℕ) (P : ℕ → Type 0) → length ws ≡ 9 * (2 * count + 1) → P x → IsIndex count ws P
    → IsIndex count (one_less (bucket_of count (word ws 4 x)) (unlinked 2 3 x ws)) (λ y. P y × y ≢ x)
index_without count x ws P size px i =
    let b = bucket_of count (word ws 4 x) in let vs = unlinked 2 3 x ws in let us = one_less b vs in
    let hx = i.within x px in let low = bucket_low count (word ws 4 x) in let high = bucket_high count (word ws 4 x) (omega arith) in
    let mine = i.bucket b low high in
    let within : (c : ℕ) (y : ℕ) → IsMember count ws P c y → y < count = λ c y m. i.within y m.0 in
    let joined = ring_joined count 2 3 b x ws (IsMember count ws P b) mine.0 chained size (omega arith) (within b) (px, refl) mine.1 in
    let s2 : (k : ℕ) → word us 2 k ≡ word vs 2 k = λ k. word-set_column vs 2 5 k b (word vs 5 b - 1) (lit< tt) (lit< tt) (omega arith) in
    let s3 : (k : ℕ) → word us 3 k ≡ word vs 3 k = λ k. word-set_column vs 3 5 k b (word vs 5 b - 1) (lit< tt) (lit< tt) (omega arith) in
    let s4 : (k : ℕ) → word us 4 k ≡ word ws 4 k = λ k. word-set_column vs 4 5 k b (word vs 5 b - 1) (lit< tt) (lit< tt) (omega arith) ∙ unlinked_column 2 3 x 4 k ws chained (lit< tt) (omega arith) (omega arith) in
    let v5 : (k : ℕ) → word vs 5 k ≡ word ws 5 k = λ k. unlinked_column 2 3 x 5 k ws chained (lit< tt) (omega arith) (omega arith) in
    record {
      within = λ y q. i.within y q.0;
      one_key_each = λ y z py pz e. i.one_key_each y z py.0 pz.0 (sym (s4 y) ∙ (e ∙ s4 z));
      bucket = λ c lo hi. elim (same_or_not c b) [
        | inl e ↦ subst (λ u. (xs : List ℕ) × IsRing 2 3 us u (IsMember count us (λ y. P y × y ≢ x) u) xs × (length xs ≡ word us 5 u)) (sym e) (
          leave_out x mine.0,
          ring_stays 2 3 vs b (λ y. IsMember count ws P b y × y ≢ x) (leave_out x mine.0) us (IsMember count us (λ y. P y × y ≢ x) b)
              (λ k m. ((m.0.0, m.1), rw (s4 k) m.0.1)) (λ k m. ((m.0.0, rw (s4 k) at m.1), m.0.1)) (λ k _. s2 k) (λ k _. s3 k)
              (ring_unlinked count 2 3 b x ws (IsMember count ws P b) mine.0 chained size (omega arith) (within b) (px, refl) mine.1),
          (let one = length-leave_out x mine.0 (mine.1.each x (px, refl)) in
              let at : word us 5 b ≡ word vs 5 b - 1 = word-set_here vs 5 b (word vs 5 b - 1) (let l = length-unlinked 2 3 x ws in omega arith) in
              let was = v5 b in let all = mine.2 in omega arith),
        )
        | inr ne ↦
            (let t = i.bucket c lo hi in
            let before = ring_before 2 3 ws b (IsMember count ws P b) mine.0 mine.1 x (px, refl) in
            let after = ring_after 2 3 ws b (IsMember count ws P b) mine.0 mine.1 x (inr (px, refl)) in
            let apart : (k p : ℕ) → (k ≡ c) ⊎ IsMember count ws P c k → (p ≡ b) ⊎ IsMember count ws P b p → k ≢ p =
            λ k p mk mp e. elim mk [
              | inl kc ↦ elim mp [ inl pb ↦ ne (sym kc ∙ (e ∙ pb)) | inr q ↦ (let h = i.within p q.0 in omega arith) ]
              | inr q ↦ elim mp [ inl pb ↦ (let h = i.within k q.0 in omega arith) | inr q' ↦ ne (sym q.1 ∙ (ap (λ u. bucket_of count (word ws 4 u)) e ∙ q'.1)) ]
            ] in (
              t.0,
              ring_stays 2 3 ws c (IsMember count ws P c) t.0 us (IsMember count us (λ y. P y × y ≢ x) c)
                  (λ k m. ((m.0, λ e. ne (sym m.1 ∙ ap (λ u. bucket_of count (word ws 4 u)) e)), rw (s4 k) m.1)) (λ k m. (m.0.0, rw (s4 k) at m.1))
                  (λ k q. s2 k ∙ joined.ahead_kept k (apart k (word ws 3 x) q before)) (λ k q. s3 k ∙ joined.back_kept k (apart k (word ws 2 x) q after)) t.1,
              t.2 ∙ sym (word-set_node vs 5 5 c b (word vs 5 b - 1) (lit< tt) (lit< tt) ne ∙ v5 c),
            ))
      ];
    }

-- frame x comes into the bucket of its key
pub index_with : (count x : ℕ) (ws : List ℕ) (P : ℕ → Type 0) → length ws ≡ 9 * (2 * count + 1) → x < count → (P x → ⊥) → ((y : ℕ) → P y → word ws 4 y ≢ word ws 4 x) → IsIndex count ws P
    → IsIndex count (one_more (bucket_of count (word ws 4 x)) (linked 2 3 (bucket_of count (word ws 4 x)) x ws)) (λ y. P y ⊎ (y ≡ x))
index_with count x ws P size hx npx fresh i =
    let b = bucket_of count (word ws 4 x) in let vs = linked 2 3 b x ws in let us = one_more b vs in
    let low = bucket_low count (word ws 4 x) in let high = bucket_high count (word ws 4 x) (omega arith) in
    let mine = i.bucket b low high in
    let within : (c : ℕ) (y : ℕ) → IsMember count ws P c y → y < count = λ c y m. i.within y m.0 in
    let between = ring_between count 2 3 b x ws (IsMember count ws P b) mine.0 chained size low (omega arith) (within b) hx (λ m. npx m.0) mine.1 in
    let s2 : (k : ℕ) → word us 2 k ≡ word vs 2 k = λ k. word-set_column vs 2 5 k b (word vs 5 b + 1) (lit< tt) (lit< tt) (omega arith) in
    let s3 : (k : ℕ) → word us 3 k ≡ word vs 3 k = λ k. word-set_column vs 3 5 k b (word vs 5 b + 1) (lit< tt) (lit< tt) (omega arith) in
    let s4 : (k : ℕ) → word us 4 k ≡ word ws 4 k = λ k. word-set_column vs 4 5 k b (word vs 5 b + 1) (lit< tt) (lit< tt) (omega arith) ∙ linked_column 2 3 b x 4 k ws chained (lit< tt) (omega arith) (omega arith) in
    let v5 : (k : ℕ) → word vs 5 k ≡ word ws 5 k = λ k. linked_column 2 3 b x 5 k ws chained (lit< tt) (omega arith) (omega arith) in
    record {
      within = λ y q. elim q [ inl p ↦ i.within y p | inr e ↦ omega (arith, e) ];
      one_key_each = λ y z py pz e.
          let f : word ws 4 y ≡ word ws 4 z = sym (s4 y) ∙ (e ∙ s4 z) in
          elim py [
            | inl p ↦ elim pz [ inl q ↦ i.one_key_each y z p q f | inr ez ↦ absurd (fresh y p (f ∙ ap (λ u. word ws 4 u) ez)) ]
            | inr ey ↦ elim pz [ inl q ↦ absurd (fresh z q (sym f ∙ ap (λ u. word ws 4 u) ey)) | inr ez ↦ ey ∙ sym ez ]
          ];
      bucket = λ c lo hi. elim (same_or_not c b) [
        | inl e ↦ subst (λ u. (xs : List ℕ) × IsRing 2 3 us u (IsMember count us (λ y. P y ⊎ (y ≡ x)) u) xs × (length xs ≡ word us 5 u)) (sym e) (
          x ∷ mine.0,
          ring_stays 2 3 vs b (λ y. IsMember count ws P b y ⊎ (y ≡ x)) (x ∷ mine.0) us (IsMember count us (λ y. P y ⊎ (y ≡ x)) b)
              (λ k m. elim m [ inl q ↦ (inl q.0, rw (s4 k) q.1) | inr at ↦ (inr at, rw (s4 k) (ap (λ u. bucket_of count (word ws 4 u)) at)) ])
              (λ k m. elim m.0 [ inl p ↦ inl (p, rw (s4 k) at m.1) | inr at ↦ inr at ]) (λ k _. s2 k) (λ k _. s3 k)
              (ring_linked count 2 3 b x ws (IsMember count ws P b) mine.0 chained size low (omega arith) (within b) hx (λ m. npx m.0) mine.1),
          (let at : word us 5 b ≡ word vs 5 b + 1 = word-set_here vs 5 b (word vs 5 b + 1) (let l = length-linked 2 3 b x ws in omega arith) in
              let was = v5 b in let all = mine.2 in omega arith),
        )
        | inr ne ↦
            (let t = i.bucket c lo hi in
            let after = ring_after 2 3 ws b (IsMember count ws P b) mine.0 mine.1 b (inl refl) in
            let apart : (k p : ℕ) → (k ≡ c) ⊎ IsMember count ws P c k → (p ≡ b) ⊎ IsMember count ws P b p → k ≢ p =
            λ k p mk mp e. elim mk [
              | inl kc ↦ elim mp [ inl pb ↦ ne (sym kc ∙ (e ∙ pb)) | inr q ↦ (let h = i.within p q.0 in omega arith) ]
              | inr q ↦ elim mp [ inl pb ↦ (let h = i.within k q.0 in omega arith) | inr q' ↦ ne (sym q.1 ∙ (ap (λ u. bucket_of count (word ws 4 u)) e ∙ q'.1)) ]
            ] in
            let not_new : (k : ℕ) → (k ≡ c) ⊎ IsMember count ws P c k → k ≢ x =
            λ k mk e. elim mk [ inl kc ↦ omega arith | inr q ↦ npx (subst P e q.0) ] in (
              t.0,
              ring_stays 2 3 ws c (IsMember count ws P c) t.0 us (IsMember count us (λ y. P y ⊎ (y ≡ x)) c)
                  (λ k m. (inl m.0, rw (s4 k) m.1))
                  (λ k m. elim m.0 [ inl p ↦ (p, rw (s4 k) at m.1) | inr at ↦ absurd (ne (sym (rw (s4 k) at m.1) ∙ ap (λ u. bucket_of count (word ws 4 u)) at)) ])
                  (λ k q. s2 k ∙ between.ahead_kept k (apart k b q (inl refl)) (not_new k q)) (λ k q. s3 k ∙ between.back_kept k (not_new k q) (apart k (word ws 2 b) q after)) t.1,
              t.2 ∙ sym (word-set_node vs 5 5 c b (word vs 5 b + 1) (lit< tt) (lit< tt) ne ∙ v5 c),
            ))
      ];
    }

-- The order and the index together, of whichever frames are in use.
use Rattle.std.proofs.Common.{◌≡◌, ◌≢◌, ◌⊎◌, ℕ, ◌+◌, ◌-◌, ◌*◌, ◌<◌, List, ◌∷◌, length, sym, ◌∙◌, subst, arith, lit<, length-set}
use Rattle.cckd_frames.specs.Nodes.{word, leave_out, IsRing, unlinked, linked}
use Rattle.cckd_frames.specs.Table.{IsIndex, IsMember, bucket_of, given_up, taken, blanked, one_less, one_more}
use Rattle.cckd_frames.proofs.RingLemmas.{ring_stays, word-set_column, unlinked_column, linked_column, length-unlinked, length-linked}
use Rattle.cckd_frames.proofs.Tables.{recency, chained, ring_unlinked, ring_linked, ring_as, index_kept, index_without, index_with}
use Rattle.cckd_frames.proofs.Contents.{blanked_other, blanked_link, blanked_key, length-blanked}

-- the frames of which P holds are linked in this order and indexed
pub record IsPart (count : ℕ) (ws : List ℕ) (P : ℕ → Type 0) (xs : List ℕ) : Type 0 where
  pub size : length ws ≡ 9 * (2 * count + 1)
  pub ring : IsRing 0 1 ws (2 * count) P xs
  pub index : IsIndex count ws P

pub part_as : (count : ℕ) (ws : List ℕ) (P Q : ℕ → Type 0) (xs : List ℕ) → ((k : ℕ) → P k → Q k) → ((k : ℕ) → Q k → P k) → IsPart count ws P xs → IsPart count ws Q xs
part_as count ws P Q xs to from p = record {
  size = p.size;
  ring = ring_as count 0 1 (2 * count) 0 ws P xs Q to from p.ring;
  index = record {
    within = λ x q. p.index.within x (from x q);
    one_key_each = λ x y qx qy e. p.index.one_key_each x y (from x qx) (from y qy) e;
    bucket = λ b lo hi. let t = p.index.bucket b lo hi in
        (t.0, ring_as count 2 3 b 0 ws (IsMember count ws P b) t.0 (IsMember count ws Q b) (λ k m. (to k m.0, m.1)) (λ k m. (from k m.0, m.1)) t.1, t.2);
  };
}

pub part_given_up : (count x : ℕ) (ws : List ℕ) (P : ℕ → Type 0) (xs : List ℕ) → P x → IsPart count ws P xs
    → IsPart count (given_up count x ws) (λ y. P y × y ≢ x) (leave_out x xs)
part_given_up count x ws P xs px p =
    let v1 = unlinked 0 1 x ws in let v2 = unlinked 2 3 x v1 in let b = bucket_of count (word ws 4 x) in let v3 = one_less b v2 in
    let l1 : length v1 ≡ length ws = length-unlinked 0 1 x ws in let l2 : length v2 ≡ length v1 = length-unlinked 2 3 x v1 in
    let k4 : (k : ℕ) → word v1 4 k ≡ word ws 4 k = λ k. unlinked_column 0 1 x 4 k ws recency (lit< tt) (omega arith) (omega arith) in
    let out = ring_unlinked count 0 1 (2 * count) x ws P xs recency p.size (omega arith) p.index.within px p.ring in
    let i1 : IsIndex count v1 P = index_kept count ws v1 P
    (λ k. unlinked_column 0 1 x 2 k ws recency (lit< tt) (omega arith) (omega arith)) (λ k. unlinked_column 0 1 x 3 k ws recency (lit< tt) (omega arith) (omega arith))
    k4 (λ k. unlinked_column 0 1 x 5 k ws recency (lit< tt) (omega arith) (omega arith)) p.index in
    let Q : ℕ → Type 0 = λ y. P y × y ≢ x in record {
      size = length-set v2 (9 * b + 5) (word v2 5 b - 1) ∙ (l2 ∙ (l1 ∙ p.size));
      ring = ring_stays 0 1 v1 (2 * count) Q (leave_out x xs) v3 Q (λ k q. q) (λ k q. q)
          (λ k _. word-set_column v2 0 5 k b (word v2 5 b - 1) (lit< tt) (lit< tt) (omega arith) ∙ unlinked_column 2 3 x 0 k v1 chained (lit< tt) (omega arith) (omega arith))
          (λ k _. word-set_column v2 1 5 k b (word v2 5 b - 1) (lit< tt) (lit< tt) (omega arith) ∙ unlinked_column 2 3 x 1 k v1 chained (lit< tt) (omega arith) (omega arith)) out;
      index = subst (λ key. IsIndex count (one_less (bucket_of count key) v2) Q) (k4 x) (index_without count x v1 P (l1 ∙ p.size) px i1);
    }

pub part_taken : (count x key : ℕ) (ws : List ℕ) (P : ℕ → Type 0) (xs : List ℕ) → x < count → (P x → ⊥) → ((y : ℕ) → P y → word ws 4 y ≢ key) → IsPart count ws P xs
    → IsPart count (taken count x key ws) (λ y. P y ⊎ (y ≡ x)) (x ∷ xs)
part_taken count x key ws P xs hx npx fresh p =
    let v0 = blanked x key ws in let v1 = linked 0 1 (2 * count) x v0 in let b = bucket_of count key in let v2 = linked 2 3 b x v1 in let v3 = one_more b v2 in
    let size = p.size in
    let l0 : length v0 ≡ length ws = length-blanked count x key ws in let l1 : length v1 ≡ length v0 = length-linked 0 1 (2 * count) x v0 in let l2 : length v2 ≡ length v1 = length-linked 2 3 b x v1 in
    let other : (y : ℕ) → P y → y ≢ x = λ y py e. npx (subst P e py) in
    let m4 : (y : ℕ) → P y → word v0 4 y ≡ word ws 4 y = λ y py. (blanked_other count x key ws y (other y py)).key in
    let r0 : IsRing 0 1 v0 (2 * count) P xs = ring_stays 0 1 ws (2 * count) P xs v0 P (λ k q. q) (λ k q. q)
    (λ k _. blanked_link count x key ws 0 k (lit< tt) (omega arith) (omega arith) (omega arith) (omega arith)) (λ k _. blanked_link count x key ws 1 k (lit< tt) (omega arith) (omega arith) (omega arith) (omega arith)) p.ring in
    let i0 : IsIndex count v0 P = record {
      within = p.index.within;
      one_key_each = λ y z py pz e. p.index.one_key_each y z py pz (sym (m4 y py) ∙ (e ∙ m4 z pz));
      bucket = λ c lo hi. let t = p.index.bucket c lo hi in (
        t.0,
        ring_stays 2 3 ws c (IsMember count ws P c) t.0 v0 (IsMember count v0 P c)
            (λ k m. (m.0, rw (m4 k m.0) m.1)) (λ k m. (m.0, rw (m4 k m.0) at m.1))
            (λ k _. blanked_link count x key ws 2 k (lit< tt) (omega arith) (omega arith) (omega arith) (omega arith)) (λ k _. blanked_link count x key ws 3 k (lit< tt) (omega arith) (omega arith) (omega arith) (omega arith)) t.1,
        t.2 ∙ sym (blanked_link count x key ws 5 c (lit< tt) (omega arith) (omega arith) (omega arith) (omega arith)),
      );
    } in
    let k4 : (k : ℕ) → word v1 4 k ≡ word v0 4 k = λ k. linked_column 0 1 (2 * count) x 4 k v0 recency (lit< tt) (omega arith) (omega arith) in
    let i1 : IsIndex count v1 P = index_kept count v0 v1 P
    (λ k. linked_column 0 1 (2 * count) x 2 k v0 recency (lit< tt) (omega arith) (omega arith)) (λ k. linked_column 0 1 (2 * count) x 3 k v0 recency (lit< tt) (omega arith) (omega arith))
    k4 (λ k. linked_column 0 1 (2 * count) x 5 k v0 recency (lit< tt) (omega arith) (omega arith)) i0 in
    let mine : word v1 4 x ≡ key = k4 x ∙ blanked_key count x key ws (omega arith) in
    let Q : ℕ → Type 0 = λ y. P y ⊎ (y ≡ x) in record {
      size = length-set v2 (9 * b + 5) (word v2 5 b + 1) ∙ (l2 ∙ (l1 ∙ (l0 ∙ p.size)));
      ring = ring_stays 0 1 v1 (2 * count) Q (x ∷ xs) v3 Q (λ k q. q) (λ k q. q)
          (λ k _. word-set_column v2 0 5 k b (word v2 5 b + 1) (lit< tt) (lit< tt) (omega arith) ∙ linked_column 2 3 b x 0 k v1 chained (lit< tt) (omega arith) (omega arith))
          (λ k _. word-set_column v2 1 5 k b (word v2 5 b + 1) (lit< tt) (lit< tt) (omega arith) ∙ linked_column 2 3 b x 1 k v1 chained (lit< tt) (omega arith) (omega arith))
          (ring_linked count 0 1 (2 * count) x v0 P xs recency (l0 ∙ p.size) (omega arith) (omega arith) p.index.within hx npx r0);
      index = subst (λ k. IsIndex count (one_more (bucket_of count k) (linked 2 3 (bucket_of count k) x v1)) Q) mine
          (index_with count x v1 P (l1 ∙ (l0 ∙ p.size)) hx npx (λ y py e. fresh y py (sym (m4 y py) ∙ (sym (k4 y) ∙ (e ∙ mine)))) i1);
    }

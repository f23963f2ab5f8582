-- The entries after their marks, lengths or bytes are written, and what holds of them at each time.
use Rattle.std.proofs.Common.{◌≡◌, ◌≢◌, inl, inr, ℕ, zero, suc, ◌+◌, ◌-◌, ◌*◌, ◌<◌, ◌≤◌, List, [], ◌∷◌, ◌++◌, length, get_or, take, drop, map, replicate, Option, None, Some, IsNone, All, min, refl, sym, ap, ◌∙◌, subst, arith, lit<, length-take, length-set, false}
use Rattle.std.proofs.lemmas.List.{length-replicate}
use Rattle.std.proofs.Math.Seq.{take-add}
use Rattle.std.proofs.Math.Nat.{mul-le-mul_right}
use Rattle.std.proofs.lemmas.Bool.Decides.{eqb_tells}
use Rattle.std.specs.List.{IsDistinct, AllByRecursion}
use Rattle.std.specs.Bool.{nat_eq}
use Rattle.cckd_frames.specs.Frames.{Entry, IsKept, keys, frames, entry_of, changed, refilled, resized, with_body, with_len, with_mark, with_writes}
use Rattle.cckd_frames.specs.Nodes.{word, with_word, flag_of, mark_word, In, IsApart, IsRing, trail}
use Rattle.cckd_frames.specs.Store.{over, filled}
use Rattle.cckd_frames.specs.Table.{IsTable, IsSound, IsEmptied, marked, mark_of, entry_at, entries_of}
use Rattle.cckd_frames.proofs.RingLemmas.{same_or_not, ring_stays, trail_of_path, word-set_node, word-set_column, word-set_here}
use Rattle.cckd_frames.proofs.Tables.{index_kept}
use Rattle.cckd_frames.proofs.Entries.{map-same, changed-map, frames-map, distinct_of, length-map, entry_of-absent}
use Rattle.cckd_frames.proofs.States.{entries_are}
use Rattle.cckd_frames.proofs.ByteLemmas.{filled_longer, part_filled, length-over, over-here, over-beside, frames_apart, length-part, refilled-same}

pub mark_back : (m : Option ℕ) → mark_of (flag_of m) (mark_word m) ≡ m
mark_back None = refl
mark_back (Some m) = refl

pub none_is : {A : Type 0} (o : Option A) → IsNone o → o ≡ None
none_is None h = refl
none_is (Some x) h = absurd cc

in_at : (xs : List ℕ) (k d : ℕ) → k < length xs → In (get_or xs k d) xs
in_at [] k d h = absurd (omega arith)
in_at (x ∷ xs) zero d h = inl refl
in_at (x ∷ xs) (suc k) d h = inr (in_at xs k d (omega arith))

all_mapped : (f : ℕ → Entry) (P : Entry → Type 0) (xs : List ℕ) → ((x : ℕ) → In x xs → P (f x)) → All P (map f xs)
all_mapped f P [] h k d lt = absurd (omega arith)
all_mapped f P (x ∷ xs) h zero d lt = h x (inl refl)
all_mapped f P (x ∷ xs) h (suc k) d lt = all_mapped f P xs (λ y i. h y (inr i)) k d (omega arith)

keys_differ : (f : ℕ → Entry) (x : ℕ) (xs : List ℕ) → ((y : ℕ) → In y xs → (f x).key ≢ (f y).key) → AllByRecursion (λ y. nat_eq (f x).key y ≡ false) (keys (map f xs))
keys_differ f x [] h = tt
keys_differ f x (y ∷ ys) h = (elim (eqb_tells (f x).key (f y).key) [ inl t ↦ absurd (h y (inl refl) t.1) | inr e ↦ e.0 ], keys_differ f x ys (λ z i. h z (inr i)))

keys_distinct : (f : ℕ → Entry) (xs : List ℕ) → IsApart xs → ((x y : ℕ) → In x xs → In y xs → (f x).key ≡ (f y).key → x ≡ y) → IsDistinct nat_eq (keys (map f xs))
unfolding IsDistinct
keys_distinct f [] a h = tt
keys_distinct f (x ∷ xs) a h =
    (keys_differ f x xs (λ y i e. a.0 (subst (λ u. In u xs) (sym (h x y (inl refl) (inr i) e)) i)), keys_distinct f xs a.1 (λ y z i j. h y z (inr i) (inr j)))

drop_nothing : (n : ℕ) → drop {A = ℕ} n [] ≡ []
drop_nothing zero = refl
drop_nothing (suc n) = refl

drop_of_drop : (p q : ℕ) (xs : List ℕ) → drop q (drop p xs) ≡ drop (p + q) xs
drop_of_drop zero q xs = ap (λ n. drop n xs) (omega arith)
drop_of_drop (suc p) q [] = drop_nothing q ∙ sym (drop_nothing (suc p + q))
drop_of_drop (suc p) q (x ∷ xs) = drop_of_drop p q xs ∙ ap (λ n. drop n (x ∷ xs)) (let e : suc (p + q) ≡ suc p + q = omega arith in e)

take_least : (n m : ℕ) (xs : List ℕ) → take n (take m xs) ≡ take (min m n) xs
take_least zero m xs = let e : min m 0 ≡ 0 = omega arith in rw e
take_least (suc n) zero xs = let e : min 0 (suc n) ≡ 0 = omega arith in rw e
take_least (suc n) (suc m) [] = let e : min (suc m) (suc n) ≡ suc (min m n) = omega arith in rw e
take_least (suc n) (suc m) (x ∷ xs) = let e : min (suc m) (suc n) ≡ suc (min m n) = omega arith in rw e (ap (λ l. x ∷ l) (take_least n m xs))

module _ (count frame_len used : ℕ) (ws bs : List ℕ) (s : IsSound count frame_len used ws bs) where
  entries : List Entry
  entries = entries_of count frame_len used ws bs

  pub length-entries : length (entries_of count frame_len used ws bs) ≡ used
  length-entries = ap (λ (l : List Entry). length l) (entries_are count frame_len used ws bs s) ∙ (length-map (entry_at frame_len ws bs) s.order.0 ∙ s.order.2)

  pub no_such_key : (key : ℕ) → IsNone (entry_of key (entries_of count frame_len used ws bs)) → (y : ℕ) → y < used → word ws 4 y ≢ key
  no_such_key key h y hy =
      entry_of-absent (entry_at frame_len ws bs) key s.order.0 (ap (λ (l : List Entry). entry_of key l) (sym (entries_are count frame_len used ws bs s)) ∙ none_is _ h) y (s.order.1.each y hy)

  pub sound_kept : IsKept record { count = count; frame_len = frame_len; entries = entries_of count frame_len used ws bs }
  sound_kept =
      let f = entry_at frame_len ws bs in let xs = s.order.0 in
      let is : map f xs ≡ entries_of count frame_len used ws bs = sym (entries_are count frame_len used ws bs s) in
      let named : frames (map f xs) ≡ xs = frames-map f (λ y. refl) xs in
      subst (λ (l : List Entry). IsKept record { count = count; frame_len = frame_len; entries = l }) is record {
        some_frames = s.some_frames;
        most_frames = s.most_frames;
        some_room = s.some_room;
        most_room = s.most_room;
        bounded = (let l = length-map f xs in let e = s.order.2 in let b = s.bounded in omega arith);
        numbered = subst (λ (l : List ℕ). All (λ n. n < count) l) (sym named) (λ k d h. s.index.within (get_or xs k d) (s.order.1.only (get_or xs k d) (in_at xs k d h)));
        one_frame_each = subst (λ (l : List ℕ). IsDistinct nat_eq l) (sym named) (distinct_of xs s.order.1.apart.1);
        one_key_each = keys_distinct f xs s.order.1.apart.1 (λ x y i j e. s.index.one_key_each x y (s.order.1.only x i) (s.order.1.only y j) e);
        fitting = all_mapped f (λ e. length e.body ≤ frame_len) xs (λ x i.
            let fits = s.fitting x (s.index.within x (s.order.1.only x i)) in omega (arith, length-take (word ws 6 x) (drop (x * frame_len) bs)));
      }

  module _ (vs cs : List ℕ) (links : (c k : ℕ) → c < 6 → word vs c k ≡ word ws c k) where
    ring_same : IsRing 0 1 vs (2 * count) (λ x. x < used) s.order.0
    ring_same = ring_stays 0 1 ws (2 * count) (λ x. x < used) s.order.0 vs (λ x. x < used) (λ k q. q) (λ k q. q) (λ k _. links 0 k (lit< tt)) (λ k _. links 1 k (lit< tt)) s.order.1

    pub sound_same : IsTable count vs → ((x : ℕ) → x < count → word vs 6 x ≤ frame_len) → used * frame_len ≤ length cs → IsSound count frame_len used vs cs
    sound_same table fitting room = record {
      some_frames = s.some_frames;
      most_frames = s.most_frames;
      some_room = s.some_room;
      most_room = s.most_room;
      bounded = s.bounded;
      table = table;
      order = (s.order.0, ring_same, s.order.2);
      index = index_kept count ws vs (λ x. x < used) (λ k. links 2 k (lit< tt)) (λ k. links 3 k (lit< tt)) (λ k. links 4 k (lit< tt)) (λ k. links 5 k (lit< tt)) s.index;
      fitting = fitting;
      room = room;
    }

    pub entries_changed : (x : ℕ) (change : Entry → Entry) → entry_at frame_len vs cs x ≡ change (entry_at frame_len ws bs x)
        → ((y : ℕ) → y < used → y ≢ x → entry_at frame_len vs cs y ≡ entry_at frame_len ws bs y)
        → entries_of count frame_len used vs cs ≡ changed x change (entries_of count frame_len used ws bs)
    entries_changed x change here others =
        let f = entry_at frame_len ws bs in let g = entry_at frame_len vs cs in let xs = s.order.0 in
        let read : entries_of count frame_len used vs cs ≡ map g xs = ap (λ l. map g l) (subst (λ m. trail vs 0 (2 * count) m ≡ xs) s.order.2 (trail_of_path 0 1 vs (2 * count) xs (2 * count) ring_same.path)) in
        read ∙ (sym (changed-map f (λ y. refl) g x change xs here (λ y i ne. others y (s.order.1.only y i) ne)) ∙ ap (λ (l : List Entry). changed x change l) (sym (entries_are count frame_len used ws bs s)))

  -- the mark of one entry
  marked_links : (x : ℕ) (mark : Option ℕ) (c k : ℕ) → c < 7 → word (marked x mark ws) c k ≡ word ws c k
  marked_links x mark c k h =
      word-set_column (with_word ws 7 x (flag_of mark)) c 8 k x (mark_word mark) (omega arith) (lit< tt) (omega arith) ∙ word-set_column ws c 7 k x (flag_of mark) (omega arith) (lit< tt) (omega arith)

  marked_others : (x : ℕ) (mark : Option ℕ) (c k : ℕ) → c < 9 → k ≢ x → word (marked x mark ws) c k ≡ word ws c k
  marked_others x mark c k h ne = word-set_node (with_word ws 7 x (flag_of mark)) c 8 k x (mark_word mark) h (lit< tt) ne ∙ word-set_node ws c 7 k x (flag_of mark) h (lit< tt) ne

  marked_here : (x : ℕ) (mark : Option ℕ) → x < count → mark_of (word (marked x mark ws) 7 x) (word (marked x mark ws) 8 x) ≡ mark
  marked_here x mark h =
      let size = s.table.size in let l = length-set ws (9 * x + 7) (flag_of mark) in let v = with_word ws 7 x (flag_of mark) in
      let a : word (marked x mark ws) 7 x ≡ flag_of mark = word-set_column v 7 8 x x (mark_word mark) (lit< tt) (lit< tt) (omega arith) ∙ word-set_here ws 7 x (flag_of mark) (omega arith) in
      let b : word (marked x mark ws) 8 x ≡ mark_word mark = word-set_here v 8 x (mark_word mark) (omega arith) in
      (λ i. mark_of (a i) (b i)) ∙ mark_back mark

  pub sound_marked : (x : ℕ) (mark : Option ℕ) → IsTable count (marked x mark ws) → IsSound count frame_len used (marked x mark ws) bs
  sound_marked x mark table = sound_same (marked x mark ws) bs (λ c k h. marked_links x mark c k (omega arith)) table (λ y h. rw (marked_links x mark 6 y (lit< tt)) (s.fitting y h)) s.room

  pub entries_marked : (x : ℕ) (mark : Option ℕ) → x < used → entries_of count frame_len used (marked x mark ws) bs ≡ with_mark x mark (entries_of count frame_len used ws bs)
  entries_marked x mark h =
      let vs = marked x mark ws in
      let k : (c y : ℕ) → c < 7 → word vs c y ≡ word ws c y = λ c y. marked_links x mark c y in
      let m = marked_here x mark (s.index.within x h) in
      entries_changed vs bs (λ c y lt. k c y (omega arith)) x (λ e. record { frame = e.frame; key = e.key; mark = mark; body = e.body })
      (λ i. record { frame = x; key = k 4 x (lit< tt) i; mark = m i; body = take (k 6 x (lit< tt) i) (drop (x * frame_len) bs) })
      (λ y hy ne i. record { frame = y; key = k 4 y (lit< tt) i; mark = mark_of (marked_others x mark 7 y (lit< tt) ne i) (marked_others x mark 8 y (lit< tt) ne i); body = take (k 6 y (lit< tt) i) (drop (y * frame_len) bs) })

  -- the part of a frame lies in the bytes
  pub frame_inside : (x : ℕ) → x < used → x * frame_len + frame_len ≤ length bs
  frame_inside x h = let r = s.room in omega (arith, mul-le-mul_right frame_len (let lt : x + 1 ≤ used = omega arith in lt))

  -- bytes in one frame are written
  pub other_body : (x y p n : ℕ) (cs : List ℕ) → x < used → y ≢ x → x * frame_len ≤ p → p + n ≤ x * frame_len + frame_len → word ws 6 y ≤ frame_len
      → take (word ws 6 y) (drop (y * frame_len) (over p n bs cs)) ≡ take (word ws 6 y) (drop (y * frame_len) bs)
  other_body x y p n cs hx ne lo hi fits =
      let inside = frame_inside x hx in
      over-beside p n bs cs (omega arith) (y * frame_len) (word ws 6 y) (elim (frames_apart x y frame_len (λ e. ne (sym e))) [ inl b ↦ inl (omega arith) | inr a ↦ inr (omega arith) ])

  pub sound_written : (x p n : ℕ) (cs : List ℕ) → x < used → x * frame_len ≤ p → p + n ≤ x * frame_len + frame_len → IsSound count frame_len used ws (over p n bs cs)
  sound_written x p n cs hx lo hi =
      let inside = frame_inside x hx in
      sound_same ws (over p n bs cs) (λ c k h. refl) s.table s.fitting (let l = length-over p n bs cs (omega arith) in let r = s.room in omega arith)

  pub entries_written : (x : ℕ) (cs : List ℕ) → x < used
      → entries_of count frame_len used ws (over (x * frame_len) (word ws 6 x) bs cs) ≡ with_writes x cs (entries_of count frame_len used ws bs)
  entries_written x cs h =
      let hx = s.index.within x h in let fits = s.fitting x hx in let inside = frame_inside x h in
      let p = x * frame_len in let n = word ws 6 x in
      entries_changed ws (over p n bs cs) (λ c y lt. refl) x (λ e. record { frame = e.frame; key = e.key; mark = e.mark; body = refilled e.body cs })
      (λ i. record { frame = x; key = word ws 4 x; mark = mark_of (word ws 7 x) (word ws 8 x); body = over-here p n bs cs (omega arith) i })
      (λ y hy ne i. record {
        frame = y;
        key = word ws 4 y;
        mark = mark_of (word ws 7 y) (word ws 8 y);
        body = other_body x y p n cs h ne (omega arith) (omega arith) (s.fitting y (s.index.within y hy)) i;
      })

  -- the length of one entry
  len_links : (x n c k : ℕ) → c < 6 → word (with_word ws 6 x n) c k ≡ word ws c k
  len_links x n c k h = word-set_column ws c 6 k x n (omega arith) (lit< tt) (omega arith)

  len_others : (x n c k : ℕ) → c < 9 → k ≢ x → word (with_word ws 6 x n) c k ≡ word ws c k
  len_others x n c k h ne = word-set_node ws c 6 k x n h (lit< tt) ne

  len_fits : (x n : ℕ) → x < count → n ≤ frame_len → (y : ℕ) → y < count → word (with_word ws 6 x n) 6 y ≤ frame_len
  len_fits x n hx fits y hy =
      let size = s.table.size in
      elim (same_or_not y x) [
        | inl e ↦ subst (λ u. word (with_word ws 6 x n) 6 u ≤ frame_len) (sym e) (rw (word-set_here ws 6 x n (omega arith)) fits)
        | inr ne ↦ rw (word-set_node ws 6 6 y x n (lit< tt) (lit< tt) ne) (s.fitting y hy)
      ]

  pub sound_len : (x n : ℕ) (cs : List ℕ) → x < count → n ≤ frame_len → length cs ≡ length bs → IsTable count (with_word ws 6 x n) → IsSound count frame_len used (with_word ws 6 x n) cs
  sound_len x n cs hx fits same table = sound_same (with_word ws 6 x n) cs (λ c k h. len_links x n c k h) table (len_fits x n hx fits) (let r = s.room in omega arith)

  entries_len : (x n : ℕ) (cs : List ℕ) → x < used → take n (drop (x * frame_len) cs) ≡ resized n (take (word ws 6 x) (drop (x * frame_len) bs))
      → ((y : ℕ) → y < used → y ≢ x → take (word ws 6 y) (drop (y * frame_len) cs) ≡ take (word ws 6 y) (drop (y * frame_len) bs))
      → entries_of count frame_len used (with_word ws 6 x n) cs ≡ with_len x n (entries_of count frame_len used ws bs)
  entries_len x n cs h body others =
      let vs = with_word ws 6 x n in let hx = s.index.within x h in let size = s.table.size in
      let col : (c : ℕ) → c < 9 → c ≢ 6 → word vs c x ≡ word ws c x = λ c lt ne. word-set_column ws c 6 x x n lt (lit< tt) ne in
      let mine : word vs 6 x ≡ n = word-set_here ws 6 x n (omega arith) in
      entries_changed vs cs (λ c k lt. len_links x n c k lt) x (λ e. record { frame = e.frame; key = e.key; mark = e.mark; body = resized n e.body })
      (λ i. record { frame = x; key = col 4 (lit< tt) (omega arith) i; mark = mark_of (col 7 (lit< tt) (omega arith) i) (col 8 (lit< tt) (omega arith) i); body = (ap (λ m. take m (drop (x * frame_len) cs)) mine ∙ body) i })
      (λ y hy ne i. record {
        frame = y;
        key = len_others x n 4 y (lit< tt) ne i;
        mark = mark_of (len_others x n 7 y (lit< tt) ne i) (len_others x n 8 y (lit< tt) ne i);
        body = (ap (λ m. take m (drop (y * frame_len) cs)) (len_others x n 6 y (lit< tt) ne) ∙ others y hy ne) i;
      })

  pub entries_resized : (x n kept : ℕ) (zs : List ℕ) → x < used → n ≤ frame_len → kept ≡ min (word ws 6 x) n → zs ≡ replicate (n - kept) 0
      → entries_of count frame_len used (with_word ws 6 x n) (over (x * frame_len + kept) (n - kept) bs zs) ≡ with_len x n (entries_of count frame_len used ws bs)
  entries_resized x n kept zs h fits least zeros =
      let hx = s.index.within x h in let inside = frame_inside x h in let was_fits = s.fitting x hx in
      let p = x * frame_len in let was = word ws 6 x in let m = n - kept in
      let D = drop p bs in let O = over (p + kept) m bs zs in
      let l : length (take was D) ≡ was = length-part p was bs (omega arith) in
      let lz : length zs ≡ m = ap (λ (q : List ℕ). length q) zeros ∙ length-replicate m 0 in
      let sum : kept + m ≡ n = omega arith in
      let front : take kept (drop p O) ≡ take kept D = over-beside (p + kept) m bs zs (omega arith) p kept (inl (omega arith)) in
      let back : take m (drop (p + kept) O) ≡ zs = over-here (p + kept) m bs zs (omega arith) ∙ refilled-same (take m (drop (p + kept) bs)) zs (lz ∙ sym (length-part (p + kept) m bs (omega arith))) in
      let new : take n (drop p O) ≡ take kept D ++ zs = subst (λ k. take k (drop p O) ≡ take kept D ++ zs) sum
      (take-add kept m (drop p O) ∙ (λ i. front i ++ (ap (λ (q : List ℕ). take m q) (drop_of_drop p kept O) ∙ back) i)) in
      let gap : n - length (take was D) ≡ m = omega arith in
      let cut : take n (take was D) ≡ take kept D = subst (λ k. take n (take was D) ≡ take k D) (sym least) (take_least n was D) in
      let old : resized n (take was D) ≡ take kept D ++ replicate m 0 = (λ i. cut i ++ replicate (gap i) 0) in
      entries_len x n O h (new ∙ (ap (λ (q : List ℕ). take kept D ++ q) zeros ∙ sym old))
      (λ y hy ne. other_body x y (p + kept) m zs h ne (omega arith) (omega arith) (s.fitting y (s.index.within y hy)))

-- other bytes come in the place of those of one entry
module _ (count frame_len used : ℕ) (ws bs : List ℕ) (s : IsSound count frame_len used ws bs) where
  pub entries_copied : (x : ℕ) (cs : List ℕ) → x < used → length cs ≤ frame_len
      → entries_of count frame_len used (with_word ws 6 x (length cs)) (over (x * frame_len) (length cs) bs cs) ≡ with_body x cs (entries_of count frame_len used ws bs)
  entries_copied x cs h fits =
      let n = length cs in let p = x * frame_len in let vs = with_word ws 6 x n in let O = over p n bs cs in
      let hx = s.index.within x h in let size = s.table.size in let inside = frame_inside count frame_len used ws bs s x h in
      let col : (c : ℕ) → c < 9 → c ≢ 6 → word vs c x ≡ word ws c x = λ c lt ne. word-set_column ws c 6 x x n lt (lit< tt) ne in
      let mine : word vs 6 x ≡ n = word-set_here ws 6 x n (omega arith) in
      let body : take n (drop p O) ≡ cs = over-here p n bs cs (omega arith) ∙ refilled-same (take n (drop p bs)) cs (sym (length-part p n bs (omega arith))) in
      entries_changed count frame_len used ws bs s vs O (λ c k lt. len_links count frame_len used ws bs s x n c k lt) x (λ e. record { frame = e.frame; key = e.key; mark = e.mark; body = cs })
      (λ i. record { frame = x; key = col 4 (lit< tt) (omega arith) i; mark = mark_of (col 7 (lit< tt) (omega arith) i) (col 8 (lit< tt) (omega arith) i); body = (ap (λ m. take m (drop p O)) mine ∙ body) i })
      (λ y hy ne i. record {
        frame = y;
        key = len_others count frame_len used ws bs s x n 4 y (lit< tt) ne i;
        mark = mark_of (len_others count frame_len used ws bs s x n 7 y (lit< tt) ne i) (len_others count frame_len used ws bs s x n 8 y (lit< tt) ne i);
        body = (ap (λ m. take m (drop (y * frame_len) O)) (len_others count frame_len used ws bs s x n 6 y (lit< tt) ne)
            ∙ other_body count frame_len used ws bs s x y p n cs h ne (omega arith) (omega arith) (s.fitting y (s.index.within y hy))) i;
      })

-- more bytes are made behind those of the frames in use
module _ (count frame_len used : ℕ) (ws bs : List ℕ) (s : IsSound count frame_len used ws bs) (n : ℕ) where
  pub sound_filled : IsSound count frame_len used ws (filled n bs)
  sound_filled =
      sound_same count frame_len used ws bs s ws (filled n bs) (λ c k h. refl) s.table s.fitting (let r = s.room in let l = filled_longer n bs in omega arith)

  pub entries_filled : entries_of count frame_len used ws (filled n bs) ≡ entries_of count frame_len used ws bs
  unfolding sound_filled sound_same
  entries_filled =
      let f = entry_at frame_len ws bs in let g = entry_at frame_len ws (filled n bs) in let xs = s.order.0 in
      entries_are count frame_len used ws (filled n bs) sound_filled
      ∙ (map-same g f xs (λ y y_in i.
      let h = s.order.1.only y y_in in
      let fits = s.fitting y (s.index.within y h) in let inside = frame_inside count frame_len used ws bs s y h in
      record {
        frame = y;
        key = word ws 4 y;
        mark = mark_of (word ws 7 y) (word ws 8 y);
        body = part_filled (y * frame_len) (word ws 6 y) n bs (omega arith) i;
      })
      ∙ sym (entries_are count frame_len used ws bs s))

  pub sound_reached : (cs : List ℕ) → cs ≡ filled n bs → IsSound count frame_len used ws cs
  sound_reached cs e = subst (λ (l : List ℕ). IsSound count frame_len used ws l) (sym e) sound_filled

-- nothing is in use after the rings are emptied
pub sound_emptied : (count frame_len : ℕ) (ws vs bs : List ℕ) → 1 ≤ count → count ≤ 4096 → 1 ≤ frame_len → frame_len ≤ 65536
    → ((x : ℕ) → x < count → word ws 6 x ≤ frame_len) → IsTable count vs → IsEmptied count ws vs → IsSound count frame_len 0 vs bs
sound_emptied count frame_len ws vs bs a b c d fits table e = record {
  some_frames = a;
  most_frames = b;
  some_room = c;
  most_room = d;
  bounded = omega arith;
  table = table;
  order = ([], record { path = (e.older, e.newer); apart = (λ i. i, tt); only = λ x i. absurd i; each = λ x h. absurd (omega arith) }, refl);
  index = record {
    within = λ x h. absurd (omega arith);
    one_key_each = λ x y h. absurd (omega arith);
    bucket = λ k lo hi. ([], record { path = (e.after k lo hi, e.before k lo hi); apart = (λ i. i, tt); only = λ x i. absurd i; each = λ x m. absurd (let h = m.0 in omega arith) }, sym (e.members k lo hi));
  };
  fitting = λ x h. rw (e.lengths x) (fits x h);
  room = omega arith;
}

-- What each call leaves, said of the parts of a `Frames`.
use Rattle.std.proofs.Common.{◌≡◌, ◌≢◌, ◌⊎◌, inl, inr, ℕ, zero, suc, Bool, if◌then◌else◌, ◌+◌, ◌-◌, ◌*◌, ◌<◌, ◌≤◌, List, [], ◌∷◌, length, take, drop, map, None, Some, IsSome, min, refl, sym, ap, ◌∙◌, subst, arith, lit<}
use Rattle.std.proofs.lemmas.Bool.Decides.{eqb_tells}
use Rattle.cckd_frames.specs.Frames.{Entry, entry_of, entry_in, frame_of, without, promoted, blank}
use Rattle.cckd_frames.specs.Nodes.{word, In, IsApart, leave_out, IsPath, trail, unlinked}
use Rattle.cckd_frames.specs.Table.{IsTable, IsIndex, IsSound, bucket_of, node_with, brought, given_up, taken, blanked, chosen, cleared, mark_of, entry_at, entries_of}
use Rattle.cckd_frames.proofs.RingLemmas.{same_or_not, trail_of_path, unlinked_column, linked_column, in_rest, length-leave_out, apart_left_out, gone}
use Rattle.cckd_frames.proofs.Tables.{recency, ring_brought, index_kept, bucket_low, bucket_high}
use Rattle.cckd_frames.proofs.Entries.{map-same, map-take, last_in, last_out, entry_of-found, entry_of-none, without-map, entry_in-found, entry_in-used}
use Rattle.cckd_frames.proofs.Contents.{KeepsContent, entry_kept, brought_content, given_up_content, placed_content, blanked_other, blanked_key, blanked_len, blanked_mark}
use Rattle.cckd_frames.proofs.Parts.{IsPart, part_as, part_given_up, part_taken}

-- either no node of the list has the key, or one is found
pub node_with-tells : (ws : List ℕ) (key : ℕ) (xs : List ℕ)
    → ((node_with ws key xs ≡ None) × ((y : ℕ) → In y xs → word ws 4 y ≢ key)) ⊎ ((x : ℕ) × (node_with ws key xs ≡ Some x) × In x xs × (word ws 4 x ≡ key))
node_with-tells ws key [] = inl (refl, λ y i. absurd i)
node_with-tells ws key (x ∷ xs) =
    elim (eqb_tells (word ws 4 x) key) [
      | inl t ↦ inr (x, (rw t.0), inl refl, t.1)
      | inr f ↦ elim (node_with-tells ws key xs) [
        | inl r ↦ inl ((rw f.0 r.0), λ y i. elim i [ inl e ↦ (λ k. f.1 (subst (λ u. word ws 4 u ≡ key) e k)) | inr q ↦ r.1 y q ])
        | inr r ↦ inr (r.0, (rw f.0 r.1), inr r.2, r.3)
      ]
    ]

module _ (count frame_len used : ℕ) (ws bs : List ℕ) (s : IsSound count frame_len used ws bs) where
  -- the entries are those of the ring's frames
  pub entries_are : entries_of count frame_len used ws bs ≡ map (entry_at frame_len ws bs) s.order.0
  entries_are = ap (λ l. map (entry_at frame_len ws bs) l) (subst (λ n. trail ws 0 (2 * count) n ≡ s.order.0) s.order.2 (trail_of_path 0 1 ws (2 * count) s.order.0 (2 * count) s.order.1.path))

  -- the same, of what the words are after a call
  pub in_use : (x : ℕ) → IsSome (entry_in x (entries_of count frame_len used ws bs)) → x < used
  in_use x u = s.order.1.only x (entry_in-used (entry_at frame_len ws bs) (λ y. refl) x s.order.0 (subst (λ (l : List Entry). IsSome (entry_in x l)) entries_are u))

  pub entry_found : (x : ℕ) → x < used → entry_in x (entries_of count frame_len used ws bs) ≡ Some (entry_at frame_len ws bs x)
  entry_found x h = ap (λ (l : List Entry). entry_in x l) entries_are ∙ entry_in-found (entry_at frame_len ws bs) (λ y. refl) x s.order.0 (s.order.1.each x h)

  -- a look-up by the buckets finds the entry of the list
  pub looked_up : (key : ℕ) → let found = node_with ws key (trail ws 2 (bucket_of count key) (word ws 5 (bucket_of count key))) in
      ((found ≡ None) × (entry_of key (entries_of count frame_len used ws bs) ≡ None))
      ⊎ ((x : ℕ) × (found ≡ Some x) × (x < used) × (word ws 4 x ≡ key) × (entry_of key (entries_of count frame_len used ws bs) ≡ Some (entry_at frame_len ws bs x)))
  looked_up key =
      let b = bucket_of count key in let some = s.some_frames in
      let t = s.index.bucket b (bucket_low count key) (bucket_high count key (omega arith)) in
      let same : trail ws 2 b (word ws 5 b) ≡ t.0 = subst (λ n. trail ws 2 b n ≡ t.0) t.2 (trail_of_path 2 3 ws b t.0 b t.1.path) in
      let f = entry_at frame_len ws bs in
      elim (node_with-tells ws key t.0) [
        | inl r ↦ inl (
          ap (λ l. node_with ws key l) same ∙ r.0,
          ap (λ (l : List Entry). entry_of key l) entries_are
              ∙ entry_of-none f key s.order.0 (λ y i e. r.1 y (t.1.each y (s.order.1.only y i, ap (λ k. bucket_of count k) e)) e),
        )
        | inr r ↦ (let used_x = (t.1.only r.0 r.2).0 in
            inr (
              r.0,
              ap (λ l. node_with ws key l) same ∙ r.1,
              used_x,
              r.3,
              ap (λ (l : List Entry). entry_of key l) entries_are
                  ∙ entry_of-found f key r.0 s.order.0 (s.order.1.each r.0 used_x) r.3 (λ y i e. s.index.one_key_each y r.0 (s.order.1.only y i) used_x (e ∙ sym r.3)),
            ))
      ]

  pub peeked : (key : ℕ) → node_with ws key (trail ws 2 (bucket_of count key) (word ws 5 (bucket_of count key))) ≡ frame_of key (entries_of count frame_len used ws bs)
  peeked key =
      elim (looked_up key) [
        | inl r ↦ r.0 ∙ sym (rw r.1)
        | inr r ↦ r.1 ∙ sym (rw r.4)
      ]

  pub sound_brought : (x : ℕ) → x < used → IsTable count (brought count x ws) → IsSound count frame_len used (brought count x ws) bs
  sound_brought x h table =
      let vs = brought count x ws in
      let within : (y : ℕ) → y < used → y < count = λ y hy. s.index.within y hy in record {
        some_frames = s.some_frames;
        most_frames = s.most_frames;
        some_room = s.some_room;
        most_room = s.most_room;
        bounded = s.bounded;
        table = table;
        order = (
          x ∷ leave_out x s.order.0,
          ring_brought count x ws (λ y. y < used) s.order.0 s.table.size within h s.order.1,
          (let l = length-leave_out x s.order.0 (s.order.1.each x h) in let m = s.order.2 in omega arith),
        );
        index = index_kept count ws vs (λ y. y < used)
            (λ k. linked_column 0 1 (2 * count) x 2 k (unlinked 0 1 x ws) recency (lit< tt) (omega arith) (omega arith) ∙ unlinked_column 0 1 x 2 k ws recency (lit< tt) (omega arith) (omega arith))
            (λ k. linked_column 0 1 (2 * count) x 3 k (unlinked 0 1 x ws) recency (lit< tt) (omega arith) (omega arith) ∙ unlinked_column 0 1 x 3 k ws recency (lit< tt) (omega arith) (omega arith))
            (λ k. (brought_content count x k ws).key)
            (λ k. linked_column 0 1 (2 * count) x 5 k (unlinked 0 1 x ws) recency (lit< tt) (omega arith) (omega arith) ∙ unlinked_column 0 1 x 5 k ws recency (lit< tt) (omega arith) (omega arith)) s.index;
        fitting = λ y hy. rw (brought_content count x y ws).len (s.fitting y hy);
        room = s.room;
      }

  pub entries_brought : (key x : ℕ) → x < used → word ws 4 x ≡ key
      → entries_of count frame_len used (brought count x ws) bs ≡ promoted key (entries_of count frame_len used ws bs)
  entries_brought key x h e =
      let vs = brought count x ws in let f = entry_at frame_len ws bs in let g = entry_at frame_len vs bs in let xs = s.order.0 in
      let within : (y : ℕ) → y < used → y < count = λ y hy. s.index.within y hy in
      let r = ring_brought count x ws (λ y. y < used) xs s.table.size within h s.order.1 in
      let i = s.order.1.each x h in
      let n : length (x ∷ leave_out x xs) ≡ used = (let l = length-leave_out x xs i in let m = s.order.2 in omega arith) in
      let only : (y : ℕ) → In y xs → (f y).key ≡ key → y ≡ x = λ y y_in k. s.index.one_key_each y x (s.order.1.only y y_in) h (k ∙ sym e) in
      let found : entry_of key (entries_of count frame_len used ws bs) ≡ Some (f x) = ap (λ (l : List Entry). entry_of key l) entries_are ∙ entry_of-found f key x xs i e only in
      let read : entries_of count frame_len used vs bs ≡ map g (x ∷ leave_out x xs) = ap (λ l. map g l) (subst (λ m. trail vs 0 (2 * count) m ≡ x ∷ leave_out x xs) n (trail_of_path 0 1 vs (2 * count) (x ∷ leave_out x xs) (2 * count) r.path)) in
      let same : map g (x ∷ leave_out x xs) ≡ map f (x ∷ leave_out x xs) = map-same g f (x ∷ leave_out x xs) (λ y _. entry_kept frame_len ws vs bs y (brought_content count x y ws)) in
      let rest : without key (entries_of count frame_len used ws bs) ≡ map f (leave_out x xs) = ap (λ (l : List Entry). without key l) entries_are ∙ without-map f key x xs i s.order.1.apart.1 e only in
      read ∙ (same ∙ sym (rw (found, promoted) (ap (λ (l : List Entry). f x ∷ l) rest)))

  -- the frame of the last entry
  pub last_used : 0 < used → word ws 1 (2 * count) < used
  last_used h = s.order.1.only (word ws 1 (2 * count)) (go s.order.0 s.order.1.path (let e = s.order.2 in omega arith)) where
    go : (xs : List ℕ) → IsPath 0 1 ws (2 * count) xs (2 * count) → 0 < length xs → In (word ws 1 (2 * count)) xs
    go [] p n = absurd (omega arith)
    go (x ∷ xs) p n = last_in 0 1 ws (2 * count) x xs (2 * count) p

pub take-all : {A : Type 0} (n : ℕ) (xs : List A) → length xs ≤ n → take n xs ≡ xs
take-all zero [] h = refl
take-all zero (x ∷ xs) h = absurd (omega arith)
take-all (suc n) [] h = refl
take-all (suc n) (x ∷ xs) h = ap (λ l. x ∷ l) (take-all n xs (omega arith))

-- frames below n that are listed once are at most n
pub at_most : (n : ℕ) (xs : List ℕ) → IsApart xs → ((x : ℕ) → In x xs → x < n) → length xs ≤ n
at_most n [] a h = omega arith
at_most zero (x ∷ xs) a h = absurd (let z = h x (inl refl) in omega arith)
at_most (suc n) (x ∷ xs) a h =
    elim (in_or_not n (x ∷ xs)) [
      | inl i ↦ (
          let l : length (leave_out n (x ∷ xs)) + 1 ≡ length (x ∷ xs) = length-leave_out n (x ∷ xs) i in
          let r : length (leave_out n (x ∷ xs)) ≤ n = at_most n (leave_out n (x ∷ xs)) (apart_left_out n (x ∷ xs) a)
          (λ y y_in. let b = h y (in_rest n y (x ∷ xs) y_in) in let ne : y ≢ n = λ e. gone n (x ∷ xs) a (subst (λ u. In u (leave_out n (x ∷ xs))) e y_in) in omega arith) in
          omega arith)
      | inr no_n ↦ (
          let r : length (x ∷ xs) ≤ n = at_most n (x ∷ xs) a (λ y y_in. let b = h y y_in in let ne : y ≢ n = λ e. no_n (subst (λ u. In u (x ∷ xs)) e y_in) in omega arith) in
          omega arith)
    ] where
      in_or_not : (m : ℕ) (ys : List ℕ) → In m ys ⊎ (In m ys → ⊥)
      in_or_not m [] = inr (λ i. i)
      in_or_not m (y ∷ ys) =
          elim (same_or_not m y) [
            | inl e ↦ inl (inl e)
            | inr ne ↦ elim (in_or_not m ys) [ inl i ↦ inl (inr i) | inr out ↦ inr (λ i. elim i [ inl e ↦ ne e | inr q ↦ out q ]) ]
          ]

-- a bucket has at most as many members as there are frames
pub members_at_most : (count key : ℕ) (ws : List ℕ) (P : ℕ → Type 0) → 0 < count → IsIndex count ws P → word ws 5 (bucket_of count key) ≤ count
members_at_most count key ws P h i =
    let b = bucket_of count key in let t = i.bucket b (bucket_low count key) (bucket_high count key h) in
    let l : length t.0 ≤ count = at_most count t.0 t.1.apart.1 (λ x x_in. i.within x (t.1.only x x_in).0) in
    omega (arith, t.2)

pub member_at_least : (count x : ℕ) (ws : List ℕ) (P : ℕ → Type 0) → 0 < count → IsIndex count ws P → P x → 1 ≤ word ws 5 (bucket_of count (word ws 4 x))
member_at_least count x ws P h i px =
    let b = bucket_of count (word ws 4 x) in let t = i.bucket b (bucket_low count (word ws 4 x)) (bucket_high count (word ws 4 x) h) in
    let l = length-leave_out x t.0 (t.1.each x (px, refl)) in
    omega (arith, t.2)

module _ (count frame_len used : ℕ) (ws bs : List ℕ) (s : IsSound count frame_len used ws bs) where
  -- what is there before the new entry comes
  pub record IsFree (free : ℕ) (left : List ℕ) : Type 0 where
    pub rest : List ℕ
    pub part : IsPart count left (λ y. (y < min count (used + 1)) × y ≢ free) rest
    pub number : free < count
    pub taken_up : free < min count (used + 1)
    pub kept : (y : ℕ) → KeepsContent ws left y
    pub were : (y : ℕ) → In y rest → y < used
    pub others : (y : ℕ) → y < min count (used + 1) → y ≢ free → y < used
    pub front : rest ≡ take (count - 1) s.order.0
    pub many : length rest + 1 ≡ min count (used + 1)

  by_test : Bool → Type 0
  by_test t = IsFree (if t then word ws 1 (2 * count) else used) (if t then given_up count (word ws 1 (2 * count)) ws else ws)

  pub now_free : IsFree (chosen count used ws) (cleared count used ws)
  unfolding by_test
  now_free =
      let some = s.some_frames in let most = s.bounded in
      let whole : IsPart count ws (λ y. y < used) s.order.0 = record { size = s.table.size; ring = s.order.1; index = s.index } in
      elim (eqb_tells used count) [
        | inl t ↦ (
            let x = word ws 1 (2 * count) in
            let full : used ≡ count = t.1 in
            let hx : x < used = last_used count frame_len used ws bs s (omega arith) in
            let out = part_given_up count x ws (λ y. y < used) s.order.0 hx whole in
            subst (λ (b : Bool). by_test b) (sym t.0) record {
              rest = leave_out x s.order.0;
              part = part_as count (given_up count x ws) (λ y. (y < used) × y ≢ x) (λ y. (y < min count (used + 1)) × y ≢ x) (leave_out x s.order.0)
                  (λ k q. (let h = q.0 in omega arith, q.1)) (λ k q. (let h = q.0 in omega arith, q.1)) out;
              number = omega arith;
              taken_up = omega arith;
              kept = λ y. given_up_content count x y ws;
              were = λ y i. s.order.1.only y (in_rest x y s.order.0 i);
              others = λ y h ne. omega arith;
              front = last_out 0 1 ws (2 * count) s.order.0 (2 * count) (count - 1) s.order.1.path s.order.1.apart.1 (let e = s.order.2 in omega arith);
              many = (let l = length-leave_out x s.order.0 (s.order.1.each x hx) in let e = s.order.2 in omega arith);
            })
        | inr f ↦ (
            let few : used < count = (let ne = f.1 in omega arith) in
            subst (λ (b : Bool). by_test b) (sym f.0) record {
              rest = s.order.0;
              part = part_as count ws (λ y. y < used) (λ y. (y < min count (used + 1)) × y ≢ used) s.order.0
                  (λ k q. (omega arith, omega arith)) (λ k q. (let h = q.0 in let ne = q.1 in omega arith)) whole;
              number = few;
              taken_up = omega arith;
              kept = λ y. record { key = refl; len = refl; is_marked = refl; mark = refl };
              were = λ y i. s.order.1.only y i;
              others = λ y h ne. omega arith;
              front = sym (take-all (count - 1) s.order.0 (let e = s.order.2 in omega arith));
              many = (let e = s.order.2 in omega arith);
            })
      ]

  pub sound_taken : (key : ℕ) → ((y : ℕ) → y < used → word ws 4 y ≢ key)
      → IsTable count (taken count (chosen count used ws) key (cleared count used ws))
      → min count (used + 1) * frame_len ≤ length bs
      → IsSound count frame_len (min count (used + 1)) (taken count (chosen count used ws) key (cleared count used ws)) bs
  sound_taken key fresh table made =
      let x = chosen count used ws in let left = cleared count used ws in let n = min count (used + 1) in let f = now_free in
      let P : ℕ → Type 0 = λ y. (y < n) × y ≢ x in let some = s.some_frames in
      let t = part_taken count x key left P f.rest f.number (λ q. q.1 refl) (λ y q e. fresh y (f.others y q.0 q.1) (sym (f.kept y).key ∙ e)) f.part in
      let p = part_as count (taken count x key left) (λ y. P y ⊎ (y ≡ x)) (λ y. y < n) (x ∷ f.rest)
      (λ k q. elim q [ inl h ↦ h.0 | inr e ↦ subst (λ u. u < n) (sym e) f.taken_up ])
      (λ k h. elim (same_or_not k x) [ inl e ↦ inr e | inr ne ↦ inl (h, ne) ]) t in
      let size = f.part.size in let number = f.number in record {
        some_frames = s.some_frames;
        most_frames = s.most_frames;
        some_room = s.some_room;
        most_room = s.most_room;
        bounded = omega arith;
        table = table;
        order = (x ∷ f.rest, p.ring, (let m = f.many in omega arith));
        index = p.index;
        fitting = λ y hy. rw (placed_content count x key left y).len (elim (same_or_not y x) [
          | inl e ↦ (let z = blanked_len count x key left (omega arith) in let room = s.some_room in subst (λ u. word (blanked x key left) 6 u ≤ frame_len) (sym e) (omega arith))
          | inr ne ↦ rw ((blanked_other count x key left y ne).len, (f.kept y).len) (s.fitting y hy)
        ]);
        room = made;
      }

  pub entries_taken : (key : ℕ) → ((y : ℕ) → y < used → word ws 4 y ≢ key)
      → entries_of count frame_len (min count (used + 1)) (taken count (chosen count used ws) key (cleared count used ws)) bs
      ≡ blank (chosen count used ws) key ∷ take (count - 1) (entries_of count frame_len used ws bs)
  entries_taken key fresh =
      let x = chosen count used ws in let left = cleared count used ws in let vs = taken count x key left in let n = min count (used + 1) in let f = now_free in
      let P : ℕ → Type 0 = λ y. (y < n) × y ≢ x in
      let t = part_taken count x key left P f.rest f.number (λ q. q.1 refl) (λ y q e. fresh y (f.others y q.0 q.1) (sym (f.kept y).key ∙ e)) f.part in
      let g = entry_at frame_len vs bs in let old = entry_at frame_len ws bs in
      let size = f.part.size in let number = f.number in
      let many : length (x ∷ f.rest) ≡ n = (let m = f.many in omega arith) in
      let read : entries_of count frame_len n vs bs ≡ map g (x ∷ f.rest) = ap (λ l. map g l) (subst (λ m. trail vs 0 (2 * count) m ≡ x ∷ f.rest) many (trail_of_path 0 1 vs (2 * count) (x ∷ f.rest) (2 * count) t.ring.path)) in
      let head : g x ≡ blank x key = entry_kept frame_len (blanked x key left) vs bs x (placed_content count x key left x)
      ∙ (λ i. record { frame = x; key = blanked_key count x key left (omega arith) i; mark = mark_of (blanked_mark count x key left (omega arith) i) (word (blanked x key left) 8 x); body = take (blanked_len count x key left (omega arith) i) (drop (x * frame_len) bs) }) in
      let tail : map g f.rest ≡ map old f.rest = map-same g old f.rest (λ y y_in.
      let ne : y ≢ x = λ e. t.ring.apart.1.0 (subst (λ u. In u f.rest) e y_in) in
      entry_kept frame_len (blanked x key left) vs bs y (placed_content count x key left y)
      ∙ (entry_kept frame_len left (blanked x key left) bs y (blanked_other count x key left y ne) ∙ entry_kept frame_len ws left bs y (f.kept y))) in
      let fronts : map old f.rest ≡ take (count - 1) (entries_of count frame_len used ws bs) = ap (λ l. map old l) f.front ∙ (map-take old (count - 1) s.order.0 ∙ ap (λ (l : List Entry). take (count - 1) l) (sym (entries_are count frame_len used ws bs s))) in
      let both : map g f.rest ≡ take (count - 1) (entries_of count frame_len used ws bs) = tail ∙ fronts in
      read ∙ (λ i. head i ∷ both i)

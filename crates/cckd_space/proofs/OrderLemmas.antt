-- Where a piece that begins at a place stands among blocks in order.
use Rattle.std.proofs.Common.{◌≡◌, ℕ, zero, suc, ◌+◌, ◌-◌, ◌<◌, ◌≤◌, Bool, true, false, List, [], ◌∷◌, ◌++◌, length, take, drop, get_or, slice_set, min, nat_le, Option, Some, None, IsSome, refl, sym, ◌∙◌, ap, subst, inl, inr, arith, add-one}
use Rattle.std.proofs.lemmas.Bool.{and_parts, cases_lt, cond_both, false_from_ne_true, le-leb, leb-true, lt-leb}
use Rattle.std.proofs.lemmas.List.{append_assoc, append-nil, get_or-take, get_or_read, length-take-le, take-take}
use Rattle.std.specs.Option.{option_or}
use Rattle.std.specs.Prelude.{if◌then◌else◌, slice_get}
use Rattle.cckd_space.specs.declared.piece.Piece.{Piece}
use Rattle.cckd_space.specs.Pieces.{Has, aligned_up, begins_by, cut, first, free_run, has_room, has_room_below, is_roomy_from, last, replaced, trimmed, used_end, IsLaid}
use Rattle.cckd_space.specs.Inside.{EndsAt, IsInOrder}
use Rattle.cckd_space.specs.Blocks.{block_at, whole, AreFilled, AreInOrder, first_pos, StandsIn, IsFoundIn}
use Rattle.cckd_space.proofs.CallerLemmas.{laid_has}
use Rattle.cckd_space.proofs.LaidLemmas.{up}
use Rattle.cckd_space.proofs.SearchLemmas.{too_near}
use Rattle.cckd_space.proofs.BlockLemmas.{whole_at, whole_set, first_behind}

pub has_left : (p : Piece) (xs ys : List Piece) → Has p xs → Has p (xs ++ ys)
has_left p [] ys h = absurd h
has_left p (x ∷ xs) ys h = elim h [ inl e ↦ inl e | inr m ↦ inr (has_left p xs ys m) ]

pub has_right : (p : Piece) (xs ys : List Piece) → Has p ys → Has p (xs ++ ys)
has_right p [] ys h = h
has_right p (x ∷ xs) ys h = inr (has_right p xs ys h)

pub has_index : (ps : List Piece) (i : ℕ) (d : Piece) → i < length ps → Has (get_or ps i d) ps
has_index [] i d l = absurd (omega arith)
has_index (q ∷ qs) zero d l = inl refl
has_index (q ∷ qs) (suc i) d l = inr (has_index qs i d (omega arith))

-- the pieces of a file are in order
pub laid_in_order : (at : ℕ) (ps : List Piece) (end : ℕ) → IsLaid at ps end → AreInOrder ps
laid_in_order at [] end l = tt
laid_in_order at (p ∷ ps) end l = (λ q h. let r = laid_has (at + p.size) ps end q l.2 h in omega (arith, r, l.0.place, l.0.some), laid_in_order (at + p.size) ps end l.2)

-- the same by indices
pub order_by_index : (ps : List Piece) → AreInOrder ps → IsInOrder ps
order_by_index ps o = record { each = λ i j d l m. rises ps o i j d l m }
  where
    rises : (xs : List Piece) → AreInOrder xs → (i j : ℕ) (d : Piece) → i < j → j < length xs → (get_or xs i d).pos < (get_or xs j d).pos
    rises [] o i j d l m = absurd (omega arith)
    rises (x ∷ xs) o i zero d l m = absurd (omega arith)
    rises (x ∷ xs) o zero (suc j) d l m = o.0 (get_or xs j d) (has_index xs j d (omega arith))
    rises (x ∷ xs) o (suc i) (suc j) d l m = rises xs o.1 i j d (omega arith) (omega arith)

-- the parts of a list in order are in order, and all of the first begins before all of the second
pub order_front : (xs ys : List Piece) → AreInOrder (xs ++ ys) → AreInOrder xs
order_front [] ys o = tt
order_front (x ∷ xs) ys o = (λ q h. o.0 q (has_left q xs ys h), order_front xs ys o.1)

pub order_rest : (xs ys : List Piece) → AreInOrder (xs ++ ys) → AreInOrder ys
order_rest [] ys o = o
order_rest (x ∷ xs) ys o = order_rest xs ys o.1

pub order_across : (xs ys : List Piece) (p q : Piece) → AreInOrder (xs ++ ys) → Has p xs → Has q ys → p.pos < q.pos
order_across [] ys p q o h k = absurd h
order_across (x ∷ xs) ys p q o h k = elim h [
  | inl e ↦ let l = o.0 q (has_right q xs ys k) in let s = ap (λ (r : Piece). r.pos) e in omega (arith, l, s)
  | inr m ↦ order_across xs ys p q o.1 m k
]

-- one block of blocks in order
pub order_block : (bs : List (List Piece)) (i : ℕ) → i < length bs → AreInOrder (whole bs) → AreInOrder (block_at bs i)
order_block bs i l o =
    order_front (block_at bs i) (whole (drop (suc i) bs))
    (order_rest (whole (take i bs)) (block_at bs i ++ whole (drop (suc i) bs)) (subst AreInOrder (whole_at bs i l) o))

-- a piece that begins a block begins before the other pieces from there on
pub first_first : (xs : List Piece) (p : Piece) → AreInOrder xs → Has p xs → first_pos xs ≤ p.pos
first_first [] p o h = absurd h
first_first (x ∷ xs) p o h = elim h [
  | inl e ↦ let s = ap (λ (r : Piece). r.pos) e in omega (arith, s)
  | inr m ↦ let l = o.0 p m in omega (arith, l)
]

first_has_pos : (xs : List Piece) → 0 < length xs → (p : Piece) × Has p xs × (p.pos ≡ first_pos xs)
first_has_pos [] l = absurd (omega arith)
first_has_pos (x ∷ xs) l = (x, inl refl, refl)

first_pos_append : (xs ys : List Piece) → 0 < length xs → first_pos (xs ++ ys) ≡ first_pos xs
first_pos_append [] ys l = absurd (omega arith)
first_pos_append (x ∷ xs) ys l = refl

pub filled_at : (bs : List (List Piece)) (i : ℕ) (d : List Piece) → AreFilled bs → i < length bs → 0 < length (get_or bs i d)
filled_at [] i d f l = absurd (omega arith)
filled_at (b ∷ bs) zero d f l = f.0
filled_at (b ∷ bs) (suc i) d f l = filled_at bs i d f.1 (omega arith)

has_block : (bs : List (List Piece)) (i : ℕ) (d : List Piece) (p : Piece) → i < length bs → Has p (get_or bs i d) → Has p (whole bs)
has_block [] i d p l h = absurd (omega arith)
has_block (b ∷ bs) zero d p l h = has_left p b (whole bs) h
has_block (b ∷ bs) (suc i) d p l h = has_right p b (whole bs) (has_block bs i d p (omega arith) h)

-- blocks in order begin in order
pub first_rises : (bs : List (List Piece)) (i j : ℕ) (d : List Piece) → AreFilled bs → AreInOrder (whole bs) → i ≤ j → j < length bs → first_pos (get_or bs i d) ≤ first_pos (get_or bs j d)
first_rises [] i j d f o l m = absurd (omega arith)
first_rises (b ∷ bs) zero zero d f o l m = omega arith
first_rises (b ∷ bs) (suc i) zero d f o l m = absurd (omega arith)
first_rises (b ∷ bs) zero (suc j) d f o l m =
    let p = first_has_pos b f.0 in
    let q = first_has_pos (get_or bs j d) (filled_at bs j d f.1 (omega arith)) in
    let r = order_across b (whole bs) p.0 q.0 o p.1 (has_block bs j d q.0 (omega arith) q.1) in
    omega (arith, r, p.2, q.2)
first_rises (b ∷ bs) (suc i) (suc j) d f o l m = first_rises bs i j d f.1 (order_rest b (whole bs) o) (omega arith) (omega arith)

-- the blocks from an index on
pub split_whole : (bs : List (List Piece)) (i : ℕ) → whole bs ≡ whole (take i bs) ++ whole (drop i bs)
split_whole [] zero = refl
split_whole [] (suc i) = refl
split_whole (b ∷ bs) zero = refl
split_whole (b ∷ bs) (suc i) = ap (λ (l : List Piece). b ++ l) (split_whole bs i) ∙ assoc b (whole (take i bs)) (whole (drop i bs))
  where
    assoc : (xs ys zs : List Piece) → xs ++ (ys ++ zs) ≡ (xs ++ ys) ++ zs
    assoc [] ys zs = refl
    assoc (x ∷ xs) ys zs = ap (λ (l : List Piece). x ∷ l) (assoc xs ys zs)

pub first_of_rest : (bs : List (List Piece)) (i : ℕ) → AreFilled bs → i < length bs → first_pos (whole (drop i bs)) ≡ first_pos (block_at bs i)
first_of_rest [] i f l = absurd (omega arith)
first_of_rest (b ∷ bs) zero f l = first_pos_append b (whole bs) f.0
first_of_rest (b ∷ bs) (suc i) f l = first_of_rest bs i f.1 (omega arith)

pub none_past : (bs : List (List Piece)) (i : ℕ) (p : Piece) → length bs ≤ i → Has p (whole (drop i bs)) → ⊥
none_past [] zero p l h = h
none_past [] (suc i) p l h = h
none_past (b ∷ bs) zero p l h = omega arith
none_past (b ∷ bs) (suc i) p l h = none_past bs i p (omega arith) h

-- the block of a place, from how many blocks begin at or before it
pub stands_in : (pos : ℕ) (bs : List (List Piece)) (n at : ℕ) → AreFilled bs → AreInOrder (whole bs) → 0 < length bs → n ≤ length bs → at ≡ n - 1
    → ((k : ℕ) → k < n → first_pos (block_at bs k) ≤ pos) → ((k : ℕ) → n ≤ k → k < length bs → pos < first_pos (block_at bs k)) → StandsIn pos bs at
stands_in pos bs n at f o some w e low high = record {
  within = omega arith;
  before = λ p h. elim (cases_lt 0 n) [
    | inl l ↦
        let q = first_has_pos (block_at bs at) (filled_at bs at [] f (omega arith)) in
        let parts = subst AreInOrder (whole_at bs at (omega arith)) o in
        let r = order_across (whole (take at bs)) (block_at bs at ++ whole (drop (suc at) bs)) p q.0 parts h (has_left q.0 (block_at bs at) (whole (drop (suc at) bs)) q.1) in
        let b = low at (omega arith) in
        omega (arith, r, b, q.2)
    | inr z ↦ absurd (let s : at ≡ 0 = omega arith in let g : Has p (whole (take 0 bs)) = subst (λ (k : ℕ). Has p (whole (take k bs))) s h in g)
  ];
  behind = λ p h. elim (cases_lt (at + 1) (length bs)) [
    | inl l ↦
        let a = first_of_rest bs (at + 1) f l in
        let b = high (at + 1) (omega arith) l in
        let c = first_first (whole (drop (at + 1) bs)) p (order_rest (whole (take (at + 1) bs)) (whole (drop (at + 1) bs)) (subst AreInOrder (split_whole bs (at + 1)) o)) h in
        omega (arith, a, b, c)
    | inr ge ↦ absurd (none_past bs (at + 1) p ge h)
  ];
}

-- A test that only a piece at the place passes.

pub none_has : (test : Piece → Bool) (xs : List Piece) → ((p : Piece) → Has p xs → test p ≡ false) → first test xs ≡ None
none_has test [] h = refl
none_has test (x ∷ xs) h = rw (h x (inl refl)) (none_has test xs (λ p k. h p (inr k)))

module _ (test : Piece → Bool) (pos : ℕ) (only : (p : Piece) → test p ≡ true → p.pos ≡ pos) where
  none_before : (bs : List (List Piece)) (at : ℕ) → StandsIn pos bs at → first test (whole (take at bs)) ≡ None
  none_before bs at s = none_has test (whole (take at bs)) (λ p h. false_from_ne_true (test p) (λ e. let l = s.before p h in omega (arith, l, only p e)))

  none_behind : (bs : List (List Piece)) (at : ℕ) → StandsIn pos bs at → first test (whole (drop (at + 1) bs)) ≡ None
  none_behind bs at s = none_has test (whole (drop (at + 1) bs)) (λ p h. false_from_ne_true (test p) (λ e. let l = s.behind p h in omega (arith, l, only p e)))

  first_alone : (xs ys : List Piece) → first test ys ≡ None → first test (xs ++ ys) ≡ first test xs
  first_alone [] ys e = e
  first_alone (x ∷ xs) ys e = by (test x) refl (first_alone xs ys e)
    where
      by : (b : Bool) → test x ≡ b → first test (xs ++ ys) ≡ first test xs → first test (x ∷ xs ++ ys) ≡ first test (x ∷ xs)
      by true f more = rw f refl
      by false f more = rw f more

  -- is looked for in its block alone
  pub first_stands : (bs : List (List Piece)) (at : ℕ) → StandsIn pos bs at → first test (whole bs) ≡ first test (block_at bs at)
  first_stands bs at s =
      let rest = whole (drop (suc at) bs) in
      ap (first test) (whole_at bs at s.within)
      ∙ (first_behind test (whole (take at bs)) (block_at bs at ++ rest) (none_before bs at s)
      ∙ first_alone (block_at bs at) rest (subst (λ (k : ℕ). first test (whole (drop k bs)) ≡ None) (add-one at) (none_behind bs at s)))

  pub found_stands : (bs : List (List Piece)) (at : ℕ) → StandsIn pos bs at → IsSome (first test (whole bs)) → IsFoundIn test bs at
  found_stands bs at s there = record {
    within = s.within;
    before = none_before bs at s;
    here = subst (λ (o : Option Piece). IsSome o) (first_stands bs at s) there;
  }

-- none is found where there is no block
pub nothing_found : (test : Piece → Bool) (bs : List (List Piece)) → length bs ≡ 0 → first test (whole bs) ≡ None
nothing_found test [] e = refl
nothing_found test (b ∷ bs) e = absurd (omega (arith, e))

pub some_block : (test : Piece → Bool) (bs : List (List Piece)) → IsSome (first test (whole bs)) → 0 < length bs
some_block test [] h = absurd (let g : false ≡ true = h in cc)
some_block test (b ∷ bs) h = omega arith

pub swapped_len : (test : Piece → Bool) (f : Piece → Piece) (xs : List Piece) → length (replaced test (λ p. f p ∷ []) xs) ≡ length xs
swapped_len test f [] = refl
swapped_len test f (x ∷ xs) =
    cond_both (test x) (f x ∷ xs) (x ∷ replaced test (λ p. f p ∷ []) xs) (λ (l : List Piece). length l ≡ suc (length xs))
    (λ e. refl) (λ e. ap suc (swapped_len test f xs))

-- a block that was read is the one at its index
pub read_at : (bs : List (List Piece)) (i : ℕ) (b : List Piece) → i < length bs → b ≡ get_or bs i b → get_or bs i b ≡ block_at bs i
read_at bs i b l e = sym e ∙ get_or_read bs i b l e []

-- The last piece that passes a test.

module _ (test : Piece → Bool) where
  last_before : (xs ys : List Piece) → last test ys ≡ None → last test (xs ++ ys) ≡ last test xs
  last_before [] ys e = e
  last_before (x ∷ xs) ys e = ap (λ (o : Option Piece). option_or o (if test x then Some x else None)) (last_before xs ys e)

  some_over : (o : Option Piece) (r : Option Piece) → IsSome o → option_or o r ≡ o
  some_over None r h = absurd (let g : false ≡ true = h in cc)
  some_over (Some p) r h = refl

  last_behind : (xs ys : List Piece) → IsSome (last test ys) → last test (xs ++ ys) ≡ last test ys
  last_behind [] ys h = refl
  last_behind (x ∷ xs) ys h =
      ap (λ (o : Option Piece). option_or o (if test x then Some x else None)) (last_behind xs ys h)
      ∙ some_over (last test ys) (if test x then Some x else None) h

  none_last : (xs : List Piece) → ((p : Piece) → Has p xs → test p ≡ false) → last test xs ≡ None
  none_last [] h = refl
  none_last (x ∷ xs) h = rw (none_last xs (λ p k. h p (inr k)), h x (inl refl)) refl

  some_last : (xs : List Piece) (p : Piece) → Has p xs → test p ≡ true → IsSome (last test xs)
  some_last [] p h e = absurd h
  some_last (x ∷ xs) p h e = by (λ later. some_last xs p later e) (last test xs) refl
    where
      by : (Has p xs → IsSome (last test xs)) → (o : Option Piece) → last test xs ≡ o → IsSome (option_or (last test xs) (if test x then Some x else None))
      by more (Some q) f = rw f refl
      by more None f = rw f (elim h [
        | inl same ↦ let t : test x ≡ true = ap test same ∙ e in rw t refl
        | inr later ↦ absurd (let g : IsSome (last test xs) = more later in let k : false ≡ true = rw f at g in cc)
      ])

-- the last piece that begins at or before a place is in the block of the place
pub last_stands : (pos : ℕ) (bs : List (List Piece)) (n : ℕ) → AreFilled bs → AreInOrder (whole bs) → n ≤ length bs → 0 < n
    → ((k : ℕ) → k < n → first_pos (block_at bs k) ≤ pos) → ((k : ℕ) → n ≤ k → k < length bs → pos < first_pos (block_at bs k)) → last (begins_by pos) (whole bs) ≡ last (begins_by pos) (block_at bs (n - 1))
last_stands pos bs n f o w some low high =
    let at = n - 1 in
    let s = stands_in pos bs n at f o (omega (arith, w, some)) w refl low high in
    let b = block_at bs at in
    let rest = whole (drop (suc at) bs) in
    let q = first_has_pos b (filled_at bs at [] f s.within) in
    let l = low at (omega arith) in
    let here = some_last (begins_by pos) b q.0 q.1 (le-leb q.0.pos pos (omega (arith, l, q.2))) in
    let past = none_last (begins_by pos) rest (λ p h.
    let g : Has p (whole (drop (at + 1) bs)) = subst (λ (k : ℕ). Has p (whole (drop k bs))) (sym (add-one at)) h in
    let a = s.behind p g in
    lt-leb p.pos pos a) in
    let alone = last_before (begins_by pos) b rest past in
    ap (last (begins_by pos)) (whole_at bs at s.within)
    ∙ (last_behind (begins_by pos) (whole (take at bs)) (b ++ rest) (subst (λ (x : Option Piece). IsSome x) (sym alone) here) ∙ alone)

-- and there is none where no block begins so early
pub none_stands : (pos : ℕ) (bs : List (List Piece)) → AreFilled bs → AreInOrder (whole bs) → ((k : ℕ) → k < length bs → pos < first_pos (block_at bs k)) → last (begins_by pos) (whole bs) ≡ None
none_stands pos [] f o high = refl
none_stands pos (b ∷ bs) f o high = none_last (begins_by pos) (b ++ whole bs) (λ p h.
    let a = high 0 (omega arith) in
    let c = first_first (b ++ whole bs) p o h in
    let e = first_pos_append b (whole bs) f.0 in
    lt-leb p.pos pos (omega (arith, a, c, e)))

-- Going over the blocks from the first on.

-- the blocks from an index on begin with the one there
pub rest_more : (bs : List (List Piece)) (i : ℕ) (b : List Piece) → i < length bs → b ≡ block_at bs i → whole (drop i bs) ≡ b ++ whole (drop (i + 1) bs)
rest_more bs i b l e = at bs i l ∙ (ap (λ (c : List Piece). c ++ whole (drop (suc i) bs)) (sym e) ∙ ap (λ (k : ℕ). b ++ whole (drop k bs)) (sym (add-one i)))
  where
    at : (xs : List (List Piece)) (k : ℕ) → k < length xs → whole (drop k xs) ≡ block_at xs k ++ whole (drop (suc k) xs)
    at [] k l = absurd (omega arith)
    at (x ∷ xs) zero l = refl
    at (x ∷ xs) (suc k) l = at xs k (omega arith)

pub rest_none : (bs : List (List Piece)) (i : ℕ) → length bs ≤ i → whole (drop i bs) ≡ []
rest_none [] zero l = refl
rest_none [] (suc i) l = refl
rest_none (b ∷ bs) zero l = absurd (omega arith)
rest_none (b ∷ bs) (suc i) l = rest_none bs i (omega arith)

-- the last block ends the list
pub whole_last : (bs : List (List Piece)) (i : ℕ) → i + 1 ≡ length bs → whole bs ≡ whole (take i bs) ++ block_at bs i
whole_last bs i e =
    let l : i < length bs = omega (arith, e) in
    let n = rest_none bs (suc i) (omega (arith, e)) in
    whole_at bs i l ∙ (ap (λ (m : List Piece). whole (take i bs) ++ (block_at bs i ++ m)) n ∙ ap (λ (m : List Piece). whole (take i bs) ++ m) (append-nil (block_at bs i)))

pub ends_at_last : (xs ys : List Piece) (size : ℕ) → 0 < length ys → EndsAt (xs ++ ys) size → EndsAt ys size
ends_at_last xs ys size some h = record {
  none = λ e. absurd (let n = ap length e in omega (arith, n, some));
  last = λ front p e. h.last (xs ++ front) p (ap (λ (m : List Piece). xs ++ m) e ∙ sym (append_assoc xs front (p ∷ [])));
}

pub used_end_last : (xs ys : List Piece) → 0 < length ys → used_end (xs ++ ys) ≡ used_end ys
used_end_last [] ys l = refl
used_end_last (x ∷ []) [] l = absurd (omega arith)
used_end_last (x ∷ []) (y ∷ ys) l = refl
used_end_last (x ∷ z ∷ zs) ys l = used_end_last (z ∷ zs) ys l

pub trimmed_last : (xs ys : List Piece) → 0 < length ys → trimmed (xs ++ ys) ≡ xs ++ trimmed ys
trimmed_last [] ys l = refl
trimmed_last (x ∷ []) [] l = absurd (omega arith)
trimmed_last (x ∷ []) (y ∷ ys) l = refl
trimmed_last (x ∷ z ∷ zs) ys l = ap (λ (m : List Piece). x ∷ m) (trimmed_last (z ∷ zs) ys l)

-- and is cut where the list is
pub cut_last : (xs ys : List Piece) (len size : ℕ) → 0 < length ys → cut len size (xs ++ ys) ≡ xs ++ cut len size ys
cut_last xs ys len size l =
    ap (λ (n : ℕ). trimmed (xs ++ ys) ++ free_run n (min len size)) (used_end_last xs ys l)
    ∙ (ap (λ (m : List Piece). m ++ free_run (used_end ys) (min len size)) (trimmed_last xs ys l)
    ∙ append_assoc xs (trimmed ys) (free_run (used_end ys) (min len size)))

pub none_filled : (bs : List (List Piece)) → length bs ≡ 0 → whole bs ≡ []
none_filled [] e = refl
none_filled (b ∷ bs) e = absurd (omega (arith, e))

-- blocks that begin behind a place have no room at or below it
pub none_below : (need before : ℕ) (bs : List (List Piece)) (n : ℕ) → AreFilled bs → AreInOrder (whole bs) → ((k : ℕ) → n ≤ k → k < length bs → before < first_pos (block_at bs k))
    → first (has_room_below need before) (whole (drop n bs)) ≡ None
none_below need before bs n f o high = none_has (has_room_below need before) (whole (drop n bs)) (λ p h. elim (cases_lt n (length bs)) [
  | inl l ↦
      let a = first_of_rest bs n f l in
      let b = high n (omega arith) l in
      let c = first_first (whole (drop n bs)) p (order_rest (whole (take n bs)) (whole (drop n bs)) (subst AreInOrder (split_whole bs n) o)) h in
      false_from_ne_true (has_room_below need before p) (λ e.
      let m = leb-true (aligned_up p.pos + need) before (and_parts (has_room need p) (nat_le (aligned_up p.pos + need) before) e).1 in
      let u = up p.pos in
      omega (arith, a, b, c, m, u))
  | inr ge ↦ absurd (none_past bs n p ge h)
])

-- what is found among the first blocks is found among all
pub found_wider : (test : Piece → Bool) (bs : List (List Piece)) (n at : ℕ) → n ≤ length bs → IsFoundIn test (take n bs) at → IsFoundIn test bs at
found_wider test bs n at w h =
    let l = length-take-le n bs w in
    let a : at < n = omega (arith, h.within, l) in
    record {
      within = omega (arith, a, w);
      before = subst (λ (m : List (List Piece)). first test (whole m) ≡ None) (take-take at n bs (omega (arith, a))) h.before;
      here = subst (λ (b : List Piece). IsSome (first test b)) (get_or-take n bs at [] a) h.here;
    }

-- and what isn't found among them, nor behind, isn't found
pub none_wider : (test : Piece → Bool) (bs : List (List Piece)) (n : ℕ) → first test (whole (take n bs)) ≡ None → first test (whole (drop n bs)) ≡ None → first test (whole bs) ≡ None
none_wider test bs n a b = ap (first test) (split_whole bs n) ∙ (first_behind test (whole (take n bs)) (whole (drop n bs)) a ∙ b)

-- a roomy piece from a place on isn't before the place's block
pub roomy_rest : (from : ℕ) (bs : List (List Piece)) (at : ℕ) → StandsIn from bs at → first (is_roomy_from from) (whole (drop at bs)) ≡ first (is_roomy_from from) (whole bs)
roomy_rest from bs at s =
    let none = none_has (is_roomy_from from) (whole (take at bs)) (λ p h. too_near from p (s.before p h)) in
    sym (ap (first (is_roomy_from from)) (split_whole bs at) ∙ first_behind (is_roomy_from from) (whole (take at bs)) (whole (drop at bs)) none)

-- another last block
pub whole_set_last : (bs : List (List Piece)) (i : ℕ) (b : List Piece) → i + 1 ≡ length bs → whole (slice_set bs i b) ≡ whole (take i bs) ++ b
whole_set_last bs i b e =
    let n = rest_none bs (suc i) (omega (arith, e)) in
    whole_set bs i b (omega (arith, e)) ∙ (ap (λ (m : List Piece). whole (take i bs) ++ (b ++ m)) n ∙ ap (λ (m : List Piece). whole (take i bs) ++ m) (append-nil b))

pub whole_grown : (bs : List (List Piece)) (i : ℕ) (more : List Piece) → i + 1 ≡ length bs → whole (slice_set bs i (block_at bs i ++ more)) ≡ whole bs ++ more
whole_grown bs i more e =
    whole_set_last bs i (block_at bs i ++ more) e
    ∙ (sym (append_assoc (whole (take i bs)) (block_at bs i) more) ∙ ap (λ (m : List Piece). m ++ more) (sym (whole_last bs i e)))

-- a block that was read and changed
pub edited : (f : List Piece → List Piece) (bs : List (List Piece)) (i : ℕ) (x y : List Piece) → i < length bs → x ≡ get_or bs i x → y ≡ f x → y ≡ f (block_at bs i)
edited f bs i x y l r e = e ∙ ap f (get_or_read bs i x l r [])

-- the piece of a number, in one list or the other
pub get_left : (xs ys : List Piece) (k : ℕ) → k < length xs → slice_get (xs ++ ys) k ≡ slice_get xs k
get_left [] ys k l = absurd (omega arith)
get_left (x ∷ xs) ys zero l = refl
get_left (x ∷ xs) ys (suc k) l = get_left xs ys k (omega arith)

pub get_right : (xs ys : List Piece) (k : ℕ) → length xs ≤ k → slice_get (xs ++ ys) k ≡ slice_get ys (k - length xs)
get_right [] ys k l = ap (slice_get ys) (let e : k ≡ k - 0 = omega arith in e)
get_right (x ∷ xs) ys zero l = absurd (omega arith)
get_right (x ∷ xs) ys (suc k) l = get_right xs ys k (omega arith) ∙ ap (slice_get ys) (let e : k - length xs ≡ suc k - suc (length xs) = omega arith in e)

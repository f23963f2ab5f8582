-- A search in a part of the list, outside which nothing passes.
use Rattle.std.proofs.Common.{◌≡◌, ℕ, zero, suc, ◌+◌, ◌-◌, ◌<◌, ◌≤◌, nat_le, Bool, true, false, cond, ◌&&◌, ◌==◌, List, [], ◌∷◌, length, take, drop, get_or, Option, Some, None, refl, sym, ◌∙◌, ap, subst, arith, position, nat_lt, IsSome, inl, inr}
use Rattle.std.specs.List.{position_or_len}
use Rattle.std.proofs.lemmas.Bool.{lt-ltb, le-ltb, cases_lt, ltb-false, and_parts, leb-true, le-leb, lt-leb, eqb-true, false_from_ne_true}
use Rattle.std.proofs.lemmas.List.{get_or-take, get_or-drop, length-take, length-drop}
use Rattle.cckd_base.specs.declared.space.Owner.TheVariants.{Nobody}
use Rattle.cckd_space.specs.declared.piece.Kind.TheVariants.{Used}
use Rattle.cckd_space.specs.declared.piece.Piece.{Piece}
use Rattle.cckd_space.specs.Pieces.{begins_by, last, is_roomy, is_roomy_from, is_reserved_at, is_used_at, used_kind, reserved_kind, first}
use Rattle.cckd_space.specs.Inside.{IsInOrder, StartsAt}
use Rattle.cckd_space.proofs.FirstLemmas.{IsFirstAt, first_at, is_first, none_passes}

module _ (test : Piece → Bool) where
  passed_len : (xs : List Piece) (i : ℕ) (d : Piece) → IsFirstAt test xs i d → position_or_len test xs ≡ i
  passed_len [] i d h = absurd (omega (arith, h.within))
  passed_len (x ∷ xs) zero d h = rw h.here refl
  passed_len (x ∷ xs) (suc i) d h =
      let r = passed_len xs i d (record { within = omega (arith, h.within); here = h.here; before = λ k l. h.before (suc k) (omega arith) }) in
      rw (h.before 0 (omega arith)) (omega (arith, r))

  pub at_position : (xs : List Piece) (i : ℕ) (d : Piece) → IsFirstAt test xs i d → position test xs ≡ Some i
  at_position xs i d h = rw (passed_len xs i d h, lt-ltb i (length xs) h.within) refl

  failed_len : (xs : List Piece) (d : Piece) → ((k : ℕ) → k < length xs → test (get_or xs k d) ≡ false) → position_or_len test xs ≡ length xs
  failed_len [] d h = refl
  failed_len (x ∷ xs) d h =
      let r = failed_len xs d (λ k l. h (suc k) (omega arith)) in
      rw (h 0 (omega arith)) (omega (arith, r))

  pub no_position : (xs : List Piece) (d : Piece) → ((k : ℕ) → k < length xs → test (get_or xs k d) ≡ false) → position test xs ≡ None
  no_position xs d h = rw (failed_len xs d h, le-ltb (length xs) (length xs) (omega arith)) refl

  none_len : (xs : List Piece) → position test xs ≡ None → length xs ≤ position_or_len test xs
  none_len xs e = far (nat_lt (position_or_len test xs) (length xs)) refl
    where
      far : (b : Bool) → nat_lt (position_or_len test xs) (length xs) ≡ b → length xs ≤ position_or_len test xs
      far true f = absurd (let g = rw f at e in cc)
      far false f = ltb-false (position_or_len test xs) (length xs) f

  fails_at : (xs : List Piece) (k : ℕ) (d : Piece) → length xs ≤ position_or_len test xs → k < length xs → test (get_or xs k d) ≡ false
  fails_at [] k d h l = absurd (omega arith)
  fails_at (x ∷ xs) k d h l = by (test x) refl (λ j. fails_at xs j d) k l
    where
      by : (b : Bool) → test x ≡ b → ((j : ℕ) → length xs ≤ position_or_len test xs → j < length xs → test (get_or xs j d) ≡ false) → (j : ℕ) → j < length (x ∷ xs) → test (get_or (x ∷ xs) j d) ≡ false
      by true e more j m = absurd (let s : suc (length xs) ≤ 0 = rw e at h in omega arith)
      by false e more zero m = e
      by false e more (suc j) m = more j (let s : suc (length xs) ≤ 1 + position_or_len test xs = rw e at h in omega arith) (omega arith)

  pub none_at : (xs : List Piece) (k : ℕ) (d : Piece) → position test xs ≡ None → k < length xs → test (get_or xs k d) ≡ false
  none_at xs k d e l = fails_at xs k d (none_len xs e) l

  -- a part of the list, outside which no piece passes
  pub record IsWhere (xs : List Piece) (from len : ℕ) : Type 0 where
    pub within : from + len ≤ length xs
    pub before : (k : ℕ) (d : Piece) → k < from → test (get_or xs k d) ≡ false
    pub behind : (k : ℕ) (d : Piece) → from + len ≤ k → k < length xs → test (get_or xs k d) ≡ false

  part_at : (xs : List Piece) (from len k : ℕ) (d : Piece) → k < len → get_or (take len (drop from xs)) k d ≡ get_or xs (from + k) d
  part_at xs from len k d l = get_or-take len (drop from xs) k d l ∙ get_or-drop from xs k d

  part_len : (xs : List Piece) (from len : ℕ) → from + len ≤ length xs → length (take len (drop from xs)) ≡ len
  part_len xs from len h = omega (arith, length-take len (drop from xs), length-drop from xs)

  pub part_some : (xs : List Piece) (from len i : ℕ) → IsWhere xs from len → position test (take len (drop from xs)) ≡ Some i → position test xs ≡ Some (from + i)
  part_some xs from len i w e =
      let d : Piece = record { pos = 0; len = 0; size = 0; kind = Used; owner = Nobody } in
      let f = is_first test (take len (drop from xs)) i d e in
      let l = part_len xs from len w.within in
      at_position xs (from + i) d (record {
        within = omega (arith, f.within, l, w.within);
        here = ap test (sym (part_at xs from len i d (omega (arith, f.within, l)))) ∙ f.here;
        before = λ k m. elim (cases_lt k from) [
          | inl lt ↦ w.before k d lt
          | inr ge ↦
              let s : from + (k - from) ≡ k = omega arith in
              ap (λ (n : ℕ). test (get_or xs n d)) (sym s) ∙ (ap test (sym (part_at xs from len (k - from) d (omega (arith, f.within, l)))) ∙ f.before (k - from) (omega arith))
        ];
      })

  pub part_none : (xs : List Piece) (from len : ℕ) → IsWhere xs from len → position test (take len (drop from xs)) ≡ None → position test xs ≡ None
  part_none xs from len w e =
      let d : Piece = record { pos = 0; len = 0; size = 0; kind = Used; owner = Nobody } in
      let l = part_len xs from len w.within in
      no_position xs d (λ k m. elim (cases_lt k from) [
        | inl lt ↦ w.before k d lt
        | inr ge ↦ elim (cases_lt k (from + len)) [
          | inl under ↦
              let s : from + (k - from) ≡ k = omega arith in
              ap (λ (n : ℕ). test (get_or xs n d)) (sym s) ∙ (ap test (sym (part_at xs from len (k - from) d (omega arith))) ∙ none_at (take len (drop from xs)) (k - from) d e (omega (arith, l)))
          | inr over ↦ w.behind k d over m
        ]
      ])

-- a piece that starts before a place isn't one from it on
pub too_near : (from : ℕ) (p : Piece) → p.pos < from → is_roomy_from from p ≡ false
too_near from p h = false_from_ne_true (is_roomy_from from p) (λ e.
    let l = leb-true from p.pos (and_parts (is_roomy p) (nat_le from p.pos) e).1 in
    omega (arith, l))

pub where_from : (from : ℕ) (xs : List Piece) (at : ℕ) → StartsAt from xs at → IsWhere (is_roomy_from from) xs at (length xs - at)
where_from from xs at s = record {
  within = omega (arith, s.within);
  before = λ k d m. too_near from (get_or xs k d) (s.before k d m);
  behind = λ k d u m. absurd (omega (arith, s.within));
}

-- the piece that passes a test which only one at this place can pass is the one that a search finds
pub found_at : (test : Piece → Bool) (pos : ℕ) (xs : List Piece) (at : ℕ) (d : Piece) → ((p : Piece) → test p ≡ true → p.pos ≡ pos) → IsInOrder xs → StartsAt pos xs at → IsSome (first test xs) → IsFirstAt test xs at d
found_at test pos xs at d only order s there = by (position test xs) refl
  where
    by : (o : Option ℕ) → position test xs ≡ o → IsFirstAt test xs at d
    by None e = absurd (let n : first test xs ≡ None = none_passes test xs e in let g : false ≡ true = rw n at there in cc)
    by (Some i) e =
        let f = is_first test xs i d e in
        let here = only (get_or xs i d) f.here in
        let same : i ≡ at = elim (cases_lt i at) [
          | inl lt ↦ let a = s.before i d lt in absurd (omega (arith, a, here))
          | inr ge ↦ elim (cases_lt at i) [
            | inl lt ↦
                let a = order.each at i d lt f.within in
                let b = s.behind at d (omega arith) (omega (arith, f.within)) in
                absurd (omega (arith, a, b, here))
            | inr le ↦ let r : i ≡ at = omega arith in r
          ]
        ] in
        subst (λ (n : ℕ). IsFirstAt test xs n d) same f

-- what stands where pieces at a place begin, and passes, is the first that does
pub first_there : (test : Piece → Bool) (pos : ℕ) (xs : List Piece) (at : ℕ) (d : Piece) → ((p : Piece) → test p ≡ true → p.pos ≡ pos) → StartsAt pos xs at → at < length xs → test (get_or xs at d) ≡ true
    → first test xs ≡ Some (get_or xs at d)
first_there test pos xs at d only s within here = first_at test xs at d (record {
  within = within;
  here = here;
  before = λ k l. false_from_ne_true (test (get_or xs k d)) (λ e. let a = s.before k d l in omega (arith, a, only (get_or xs k d) e));
})

-- and where it doesn't pass, or there is none, none does
pub none_there : (test : Piece → Bool) (pos : ℕ) (xs : List Piece) (at : ℕ) (d : Piece) → ((p : Piece) → test p ≡ true → p.pos ≡ pos) → IsInOrder xs → StartsAt pos xs at → (at < length xs → test (get_or xs at d) ≡ false)
    → first test xs ≡ None
none_there test pos xs at d only order s not = by (first test xs) refl
  where
    by : (o : Option Piece) → first test xs ≡ o → first test xs ≡ None
    by None e = e
    by (Some q) e =
        let f = found_at test pos xs at d only order s (rw e refl) in
        absurd (let g : true ≡ false = sym f.here ∙ not f.within in cc)

-- none of the pieces passes
last_none : (test : Piece → Bool) (xs : List Piece) (d : Piece) → ((k : ℕ) → k < length xs → test (get_or xs k d) ≡ false) → last test xs ≡ None
last_none test [] d h = refl
last_none test (x ∷ xs) d h = rw (last_none test xs d (λ k l. h (suc k) (omega arith)), h 0 (omega arith)) refl

-- the piece behind which none passes
last_at : (test : Piece → Bool) (xs : List Piece) (i : ℕ) (d : Piece) → i < length xs → test (get_or xs i d) ≡ true → ((k : ℕ) → i < k → k < length xs → test (get_or xs k d) ≡ false) → last test xs ≡ Some (get_or xs i d)
last_at test [] i d l t h = absurd (omega arith)
last_at test (x ∷ xs) zero d l t h = rw (last_none test xs d (λ k m. h (suc k) (omega arith) (omega arith)), t) refl
last_at test (x ∷ xs) (suc i) d l t h = rw (last_at test xs i d (omega arith) t (λ k a b. h (suc k) (omega arith) (omega arith))) refl

-- the last piece that begins at or before a place stands before those that begin behind it
pub last_begun : (pos : ℕ) (xs : List Piece) (n : ℕ) (d : Piece) → StartsAt (pos + 1) xs n → 0 < n → last (begins_by pos) xs ≡ Some (get_or xs (n - 1) d)
last_begun pos xs n d s some =
    let w = s.within in
    last_at (begins_by pos) xs (n - 1) d (omega (arith, w))
    (let a = s.before (n - 1) d (omega arith) in le-leb (get_or xs (n - 1) d).pos pos (omega (arith, a)))
    (λ k a l. let b = s.behind k d (omega arith) l in lt-leb (get_or xs k d).pos pos (omega (arith, b)))

pub none_begun : (pos : ℕ) (xs : List Piece) (n : ℕ) (d : Piece) → StartsAt (pos + 1) xs n → n ≡ 0 → last (begins_by pos) xs ≡ None
none_begun pos xs n d s none = last_none (begins_by pos) xs d (λ k l. let b = s.behind k d (omega arith) l in lt-leb (get_or xs k d).pos pos (omega (arith, b)))

pub reserved_there : (pos : ℕ) (p : Piece) → is_reserved_at pos p ≡ true → p.pos ≡ pos
reserved_there pos p e = eqb-true p.pos pos (and_parts (reserved_kind p.kind) (p.pos == pos) e).1

pub used_there : (pos : ℕ) (p : Piece) → is_used_at pos p ≡ true → p.pos ≡ pos
used_there pos p e = eqb-true p.pos pos (and_parts (used_kind p.kind) (p.pos == pos) e).1

first_same : (f g : Piece → Bool) → ((p : Piece) → f p ≡ g p) → (ps : List Piece) → first f ps ≡ first g ps
first_same f g e [] = refl
first_same f g e (p ∷ ps) = rw (e p) (ap (cond (g p) (Some p)) (first_same f g e ps))

-- one that starts at or after 0 starts anywhere
pub first_roomy : (ps : List Piece) → first (is_roomy_from 0) ps ≡ first is_roomy ps
first_roomy ps = first_same (is_roomy_from 0) is_roomy (λ p. and_right (is_roomy p) (nat_le 0 p.pos) (le-leb 0 p.pos (omega arith))) ps
  where
    and_right : (a b : Bool) → b ≡ true → (a && b) ≡ a
    and_right true b e = e
    and_right false b e = refl

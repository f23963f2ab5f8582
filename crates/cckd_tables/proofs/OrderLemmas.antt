-- Spaces in order of position.
use Rattle.std.proofs.Common.{◌≡◌, ℕ, suc, ◌+◌, ◌<◌, ◌≤◌, nat_le, Bool, true, false, List, [], ◌∷◌, refl, sym, ◌∙◌, ap, arith, inl, inr, ◌⊎◌}
use Rattle.std.specs.List.{AllByRecursion, sum_by}
use Rattle.std.specs.List.Sorted.{IsPermutation, IsNonDecreasingBy}
use Rattle.std.proofs.lemmas.Bool.{leb-true, leb-false, and_parts, and_cases, cond_both, cases_lt}
use Rattle.std.proofs.lemmas.List.Elements.{All-from_recursion, recursion_from_All}
use Rattle.std.proofs.lemmas.List.Sums.{sum_by-cons}
use Rattle.std.proofs.lemmas.List.Sorted.{IsPermutation-refl, IsPermutation-sym, IsPermutation-trans, IsPermutation-append_right, IsPermutation-middle, All-permutation, sum_by-IsPermutation}
use Rattle.cckd_base.specs.declared.space.Extent.{Extent}
use Rattle.cckd_base.specs.declared.space.Owner.TheVariants.{Nobody}
use Rattle.cckd_base.specs.Survey.{placed_among, by_position, StandApart}
use Rattle.cckd_tables.specs.Inside.{IsFormed, AreFormed}
use Rattle.cckd_tables.specs.Kept.{holding, holders, ShareNone, HaveBytes, stand_apart}
use Rattle.cckd_tables.proofs.MeetLemmas.{hold_in, hold_before, hold_past, hold_once}

-- each begins at or behind the one before
abbrev pub Ascend : List Extent → Type 0
Ascend [] = Unit {0}
Ascend (x ∷ []) = Unit {0}
Ascend (x ∷ y ∷ ys) = (x.pos ≤ y.pos) × Ascend (y ∷ ys)

blank : Extent
blank = record { pos = 0; len = 0; size = 0; owner = Nobody }

pub ascend_from : (xs : List Extent) → IsNonDecreasingBy (λ (e : Extent). e.pos) xs → Ascend xs
ascend_from [] h = tt
ascend_from (x ∷ []) h = tt
ascend_from (x ∷ y ∷ ys) h = (
  h 0 1 blank (omega arith) (omega arith),
  ascend_from (y ∷ ys) (λ i j d a b. h (suc i) (suc j) d (omega arith) (omega arith)),
)

pub all_between : (P Q : Extent → Type 0) → ((e : Extent) → P e → Q e) → (xs : List Extent) → AllByRecursion P xs → AllByRecursion Q xs
all_between P Q f [] h = tt
all_between P Q f (x ∷ xs) h = (f x h.0, all_between P Q f xs h.1)

-- what it says that spaces stand apart
pub stand_parts : (at : ℕ) (x : Extent) (xs : List Extent) → stand_apart at (x ∷ xs) ≡ true → (at ≤ x.pos) × (stand_apart (x.pos + x.size) xs ≡ true)
stand_parts at x xs h =
    let p : (nat_le at x.pos ≡ true) × (stand_apart (x.pos + x.size) xs ≡ true) = and_parts _ _ h in
    (leb-true at x.pos p.0, p.1)

pub stand_from : (at : ℕ) (xs : List Extent) → stand_apart at xs ≡ true → AllByRecursion (λ (e : Extent). at ≤ e.pos) xs
stand_from at [] h = tt
stand_from at (x ∷ xs) h =
    let p = stand_parts at x xs h in
    let low = p.0 in
    (low, all_between (λ (e : Extent). x.pos + x.size ≤ e.pos) (λ (e : Extent). at ≤ e.pos) (λ e l. omega arith) xs (stand_from (x.pos + x.size) xs p.1))

none_before : (at : ℕ) (xs : List Extent) → stand_apart at xs ≡ true → (b : ℕ) → b < at → holders b xs ≡ 0
none_before at [] h b l = refl
none_before at (x ∷ xs) h b l =
    let p = stand_parts at x xs h in
    let low = p.0 in
    let z = hold_before b x (omega arith) in
    let r = none_before (x.pos + x.size) xs p.1 b (omega arith) in
    omega arith

pub apart_in_order : (at : ℕ) (xs : List Extent) → stand_apart at xs ≡ true → (b : ℕ) → holders b xs ≤ 1
apart_in_order at [] h b = omega arith
apart_in_order at (x ∷ xs) h b =
    let p = stand_parts at x xs h in
    elim (cases_lt b (x.pos + x.size)) [
      | inl inside ↦ let z = none_before (x.pos + x.size) xs p.1 b inside in let o = hold_once b x in omega arith
      | inr past ↦ let z = hold_past b x past in let r = apart_in_order (x.pos + x.size) xs p.1 b in omega arith
    ]

-- some byte is in two of them
record AreShared (spaces : List Extent) : Type 0 where
  at : ℕ
  two : 2 ≤ holders at spaces

two_more : (x : Extent) (xs : List Extent) → AreShared xs → AreShared (x ∷ xs)
two_more x xs s = record { at = s.at; two = let t = s.two in omega arith }

shared_behind : (x : Extent) (xs : List Extent) → HaveBytes (x ∷ xs) → Ascend (x ∷ xs)
    → stand_apart (x.pos + x.size) xs ≡ false → AreShared (x ∷ xs)
shared_behind x [] f a h = absurd cc
shared_behind x (y ∷ ys) f a h = elim (and_cases _ _ h) [
  | inl near ↦ let l : y.pos < x.pos + x.size = leb-false _ _ near in
      let s = f.1.0 in
      let g = hold_in y.pos x a.0 l in
      let e = hold_in y.pos y (omega arith) (omega arith) in
      record { at = y.pos; two = omega arith }
  | inr later ↦ two_more x (y ∷ ys) (shared_behind y ys f.1 a.1 later)
]

-- spaces in order of position that don't stand apart share a byte
shared_in_order : (xs : List Extent) → HaveBytes xs → Ascend xs → stand_apart 0 xs ≡ false → AreShared xs
shared_in_order [] f a h = absurd cc
shared_in_order (x ∷ xs) f a h = elim (and_cases _ _ h) [
  | inl below ↦ absurd (let l : x.pos < 0 = leb-false _ _ below in omega arith)
  | inr behind ↦ shared_behind x xs f a behind
]

-- the same in the words of callers
pub in_order_within : (n at : ℕ) (xs : List Extent) → AreFormed n xs → at ≤ n → stand_apart at xs ≡ true → StandApart at xs n
in_order_within n at [] f l h = l
in_order_within n at (x ∷ xs) f l h =
    let p = stand_parts at x xs h in
    (p.0, f.0.some, f.0.holds, in_order_within n (x.pos + x.size) xs f.1 f.0.within p.1)

holders_sum : (b : ℕ) (xs : List Extent) → holders b xs ≡ sum_by (holding b) xs
holders_sum b [] = refl
holders_sum b (x ∷ xs) = ap (λ n. holding b x + n) (holders_sum b xs) ∙ sym (sum_by-cons (holding b) x xs)

holders_moved : (xs ys : List Extent) → IsPermutation xs ys → (b : ℕ) → holders b ys ≡ holders b xs
holders_moved xs ys p b = holders_sum b ys ∙ sum_by-IsPermutation (holding b) xs ys p ∙ sym (holders_sum b xs)

pub formed_moved : (n : ℕ) (xs ys : List Extent) → IsPermutation xs ys → AreFormed n xs → AreFormed n ys
formed_moved n xs ys p f =
    recursion_from_All (IsFormed n) ys (All-permutation (IsFormed n) xs ys p (All-from_recursion (IsFormed n) xs f))

pub apart_moved : (xs ys : List Extent) → IsPermutation xs ys → ShareNone ys → ShareNone xs
apart_moved xs ys p a = record { each = λ b. let h = a.each b in let e = holders_moved xs ys p b in omega arith }

-- putting a space at its place only moves it
pub placed_moves : (x : Extent) (ys : List Extent) → IsPermutation (x ∷ ys) (placed_among x ys)
placed_moves x [] = IsPermutation-refl (x ∷ [])
placed_moves x (y ∷ ys) =
    cond_both (nat_le x.pos y.pos) (x ∷ y ∷ ys) (y ∷ placed_among x ys) (λ (zs : List Extent). IsPermutation (x ∷ y ∷ ys) zs)
    (λ e. IsPermutation-refl (x ∷ y ∷ ys))
    (λ e. IsPermutation-trans (x ∷ y ∷ ys) (y ∷ x ∷ ys) (y ∷ placed_among x ys)
    (IsPermutation-sym (y ∷ x ∷ ys) (x ∷ y ∷ ys) (IsPermutation-middle (y ∷ []) x ys))
    (IsPermutation-append_right (y ∷ []) (x ∷ ys) (placed_among x ys) (placed_moves x ys)))

pub position_moves : (xs : List Extent) → IsPermutation xs (by_position xs)
position_moves [] = IsPermutation-refl []
position_moves (x ∷ xs) =
    IsPermutation-trans (x ∷ xs) (x ∷ by_position xs) (placed_among x (by_position xs))
    (IsPermutation-append_right (x ∷ []) xs (by_position xs) (position_moves xs))
    (placed_moves x (by_position xs))

-- what is put behind y is behind y
placed_behind : (x y : Extent) (ys : List Extent) → y.pos ≤ x.pos → Ascend (y ∷ ys) → Ascend (placed_among x ys) → Ascend (y ∷ placed_among x ys)
placed_behind x y [] l a h = (l, tt)
placed_behind x y (z ∷ zs) l a h =
    cond_both (nat_le x.pos z.pos) (x ∷ z ∷ zs) (z ∷ placed_among x zs) (λ (ws : List Extent). Ascend ws → Ascend (y ∷ ws))
    (λ e g. (l, g))
    (λ e g. (a.0, g)) h

placed_ascends : (x : Extent) (ys : List Extent) → Ascend ys → Ascend (placed_among x ys)
placed_ascends x [] a = tt
placed_ascends x (y ∷ ys) a =
    cond_both (nat_le x.pos y.pos) (x ∷ y ∷ ys) (y ∷ placed_among x ys) Ascend
    (λ e. (leb-true x.pos y.pos e, a))
    (λ e. let l = leb-false x.pos y.pos e in placed_behind x y ys (omega arith) a (placed_ascends x ys (tail y ys a)))
  where
    tail : (y : Extent) (ys : List Extent) → Ascend (y ∷ ys) → Ascend ys
    tail y [] b = tt
    tail y (z ∷ zs) b = b.1

position_ascends : (xs : List Extent) → Ascend (by_position xs)
position_ascends [] = tt
position_ascends (x ∷ xs) = placed_ascends x (by_position xs) (position_ascends xs)

-- what holds of all of one list holds of all of the other
abbrev Covers : List Extent → List Extent → Type 1
Covers xs ys = (P : Extent → Type 0) → AllByRecursion P xs → AllByRecursion P ys

pub covers_moved : (xs ys : List Extent) → IsPermutation xs ys → Covers xs ys
covers_moved xs ys p P h = recursion_from_All P ys (All-permutation P xs ys p (All-from_recursion P xs h))

-- the first of two lists
first_is : (x y : Extent) (xs ys : List Extent) → AllByRecursion (λ (e : Extent). x.pos < e.pos) xs → Covers (x ∷ xs) (y ∷ ys)
    → (y ≡ x) ⊎ (x.pos < y.pos)
first_is x y xs ys h c =
    (c (λ (e : Extent). (e ≡ x) ⊎ (x.pos < e.pos)) (inl refl, all_between (λ (e : Extent). x.pos < e.pos) (λ (e : Extent). (e ≡ x) ⊎ (x.pos < e.pos)) (λ e l. inr l) xs h)).0

same_first : (x y : Extent) (xs ys : List Extent) → AllByRecursion (λ (e : Extent). x.pos < e.pos) xs → AllByRecursion (λ (e : Extent). y.pos < e.pos) ys
    → Covers (x ∷ xs) (y ∷ ys) → Covers (y ∷ ys) (x ∷ xs) → y ≡ x
same_first x y xs ys h k c d = elim (first_is x y xs ys h c) [
  | inl e ↦ e
  | inr l ↦ elim (first_is y x ys xs k d) [ inl e ↦ sym e | inr m ↦ absurd (omega arith) ]
]

both_all : (P Q : Extent → Type 0) (xs : List Extent) → AllByRecursion P xs → AllByRecursion Q xs → AllByRecursion (λ e. P e × Q e) xs
both_all P Q [] h k = tt
both_all P Q (x ∷ xs) h k = ((h.0, k.0), both_all P Q xs h.1 k.1)

rest_covers : (x y : Extent) (xs ys : List Extent) → y ≡ x → AllByRecursion (λ (e : Extent). y.pos < e.pos) ys → Covers (x ∷ xs) (y ∷ ys) → Covers xs ys
rest_covers x y xs ys e k c P h =
    let all = (c (λ (f : Extent). (f ≡ x) ⊎ P f) (inl refl, all_between P (λ (f : Extent). (f ≡ x) ⊎ P f) (λ f p. inr p) xs h)).1 in
    all_between (λ (f : Extent). (y.pos < f.pos) × ((f ≡ x) ⊎ P f)) P (only P) ys
    (both_all (λ (f : Extent). y.pos < f.pos) (λ (f : Extent). (f ≡ x) ⊎ P f) ys k all)
  where
    only : (P : Extent → Type 0) (f : Extent) → (y.pos < f.pos) × ((f ≡ x) ⊎ P f) → P f
    only P f (l, inl g) = absurd (let s : f.pos ≡ y.pos = ap (λ (w : Extent). w.pos) (g ∙ sym e) in omega arith)
    only P f (l, inr p) = p

behind : (at : ℕ) (x : Extent) (xs : List Extent) → HaveBytes (x ∷ xs) → stand_apart at (x ∷ xs) ≡ true
    → AllByRecursion (λ (e : Extent). x.pos < e.pos) xs
behind at x xs f h =
    let p = stand_parts at x xs h in
    let s = f.0 in
    all_between (λ (e : Extent). x.pos + x.size ≤ e.pos) (λ (e : Extent). x.pos < e.pos) (λ e l. omega arith) xs (stand_from (x.pos + x.size) xs p.1)

-- two lists of the same spaces that stand apart in order are one
one_order : (at bt : ℕ) (xs ys : List Extent) → HaveBytes xs → HaveBytes ys → stand_apart at xs ≡ true → stand_apart bt ys ≡ true
    → Covers xs ys → Covers ys xs → ys ≡ xs
one_order at bt [] [] f g h k c d = refl
one_order at bt [] (y ∷ ys) f g h k c d = absurd ((c (λ _. ⊥) tt).0)
one_order at bt (x ∷ xs) [] f g h k c d = absurd ((d (λ _. ⊥) tt).0)
one_order at bt (x ∷ xs) (y ∷ ys) f g h k c d =
    let hx = behind at x xs f h in
    let hy = behind bt y ys g k in
    let e = same_first x y xs ys hx hy c d in
    let rest : ys ≡ xs = one_order (x.pos + x.size) (y.pos + y.size) xs ys f.1 g.1 (stand_parts at x xs h).1 (stand_parts bt y ys k).1
    (rest_covers x y xs ys e hy c) (rest_covers y x ys xs (sym e) hx d) in
    cc

bytes_moved : (xs ys : List Extent) → IsPermutation xs ys → HaveBytes xs → HaveBytes ys
bytes_moved xs ys p h = covers_moved xs ys p (λ (e : Extent). 1 ≤ e.size) h

-- spaces in order of position that are apart stand apart
ascending_stand : (zs : List Extent) → HaveBytes zs → Ascend zs → ShareNone zs → (b : Bool) → stand_apart 0 zs ≡ b → stand_apart 0 zs ≡ true
ascending_stand zs f a apart true e = e
ascending_stand zs f a apart false e =
    absurd (let s = shared_in_order zs f a e in let x = apart.each s.at in let y = s.two in omega arith)

pub position_stands : (xs : List Extent) → HaveBytes xs → ShareNone xs → stand_apart 0 (by_position xs) ≡ true
position_stands xs f a =
    let p = position_moves xs in
    ascending_stand (by_position xs) (bytes_moved xs (by_position xs) p f) (position_ascends xs)
    (apart_moved (by_position xs) xs (IsPermutation-sym xs (by_position xs) p) a) _ refl

-- spaces that stand apart are those in order of position
pub stand_is_order : (xs ys : List Extent) → HaveBytes xs → IsPermutation xs ys → stand_apart 0 ys ≡ true → ys ≡ by_position xs
stand_is_order xs ys f p h =
    let q = position_moves xs in
    let yz : IsPermutation ys (by_position xs) = IsPermutation-trans ys xs (by_position xs) (IsPermutation-sym xs ys p) q in
    let apart : ShareNone ys = record { each = apart_in_order 0 ys h } in
    one_order 0 0 (by_position xs) ys (bytes_moved xs (by_position xs) q f) (bytes_moved xs ys p f)
    (position_stands xs f (apart_moved xs ys p apart)) h
    (covers_moved (by_position xs) ys (IsPermutation-sym ys (by_position xs) yz)) (covers_moved ys (by_position xs) yz)

-- the order in which spaces came makes no difference
pub same_order : (xs ys : List Extent) → HaveBytes xs → ShareNone xs → IsPermutation xs ys → by_position ys ≡ by_position xs
same_order xs ys f a p =
    let q = IsPermutation-trans xs ys (by_position ys) p (position_moves ys) in
    stand_is_order xs (by_position ys) f q
    (position_stands ys (bytes_moved xs ys p f) (apart_moved ys xs (IsPermutation-sym xs ys p) a))

-- what a sort leaves of spaces that are apart
pub sorted_order : (xs ys : List Extent) → HaveBytes xs → ShareNone xs → IsPermutation xs ys → IsNonDecreasingBy (λ (e : Extent). e.pos) ys → ys ≡ by_position xs
sorted_order xs ys f a p s =
    stand_is_order xs ys f p
    (ascending_stand ys (bytes_moved xs ys p f) (ascend_from ys s) (apart_moved ys xs (IsPermutation-sym xs ys p) a) _ refl)

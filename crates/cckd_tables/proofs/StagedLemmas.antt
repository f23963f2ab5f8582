-- What is staged for a track or a group, and the entry and the word that it makes.
use Rattle.std.proofs.Common.{◌≡◌, ◌≢◌, ◌⊎◌, ℕ, zero, suc, ◌+◌, ◌<◌, ◌==◌, Bool, true, false, List, [], ◌∷◌, length, map, get_or, Option, Some, None, unwrap_or, refl, sym, ◌∙◌, ap, subst, inl, inr, arith}
use Rattle.std.specs.Prelude.{is_some, slice_index}
use Rattle.std.specs.List.{AllByRecursion}
use Rattle.std.specs.List.Sorted.{IsStrictlyIncreasing}
use Rattle.std.proofs.lemmas.Bool.{cases_eq, cond-true, cond-false, eq-eqb, ne_eqb}
use Rattle.std.proofs.lemmas.List.{get_or-map, length-map}
use Rattle.std.proofs.lemmas.List.Kept.{AllPairs-from_increasing}
use Rattle.cckd_base.specs.declared.geometry.Layout.{Layout}
use Rattle.cckd_base.specs.declared.entry.L2Entry.{L2Entry}
use Rattle.cckd_base.specs.Entry.{word_at, entry_at}
use Rattle.cckd_tables.specs.declared.staged.StagedEntry.{StagedEntry}
use Rattle.cckd_tables.specs.declared.staged.StagedWord.{StagedWord}
use Rattle.cckd_tables.specs.Staging.{Stages, entry_for, place_for, IsMoved, new_entry, new_word}

-- there is a value, or none
pub some_or_none : {X : Type 0} (o : Option X) → ((x : X) × (o ≡ Some x)) ⊎ (o ≡ None)
some_or_none None = inr refl
some_or_none (Some x) = inl (x, refl)

pub some_of : {X : Type 0} (o : Option X) → is_some o ≡ true → (x : X) × (o ≡ Some x)
some_of None h = absurd cc
some_of (Some x) h = (x, refl)

pub none_of : {X : Type 0} (o : Option X) → (is_some o ≡ true → ⊥) → o ≡ None
none_of None h = refl
none_of (Some x) h = absurd (h refl)

pub not_some : {X : Type 0} (o : Option X) → o ≡ None → is_some o ≡ true → ⊥
not_some o e h = let k : false ≡ true = sym (ap is_some e) ∙ h in cc

pub one_value : {X : Type 0} (o : Option X) (x y : X) → o ≡ Some x → o ≡ Some y → x ≡ y
one_value o x y e f = let k : Some x ≡ Some y = sym e ∙ f in cc

-- ---- the entry and the word that they make

pub new_entry_at : (l : Layout) (s : Stages) (file : List ℕ) (t : ℕ) (e : L2Entry) → entry_for t s.entries ≡ Some e → new_entry l s file t ≡ e
new_entry_at l s file t e h = ap (λ (o : Option L2Entry). unwrap_or o (entry_at l file t)) h

pub new_entry_plain : (l : Layout) (s : Stages) (file : List ℕ) (t : ℕ) → entry_for t s.entries ≡ None → new_entry l s file t ≡ entry_at l file t
new_entry_plain l s file t h = ap (λ (o : Option L2Entry). unwrap_or o (entry_at l file t)) h

pub new_word_at : (l : Layout) (s : Stages) (file : List ℕ) (g p : ℕ) → place_for g s.words ≡ Some p → new_word l s file g ≡ p
new_word_at l s file g p h = ap (λ (o : Option ℕ). unwrap_or o (word_at l file g)) h

pub new_word_plain : (l : Layout) (s : Stages) (file : List ℕ) (g : ℕ) → (IsMoved g s → ⊥) → new_word l s file g ≡ word_at l file g
new_word_plain l s file g not = ap (λ (o : Option ℕ). unwrap_or o (word_at l file g)) (none_of (place_for g s.words) not)

-- a new word comes of the list alone
pub moved_word : (l : Layout) (s : Stages) (old new : List ℕ) (g : ℕ) → IsMoved g s → new_word l s new g ≡ new_word l s old g
moved_word l s old new g moved =
    let p = some_of (place_for g s.words) moved in
    new_word_at l s new g p.0 p.1 ∙ sym (new_word_at l s old g p.0 p.1)

-- new entries of two files are the same where the old ones are
pub same_entry : (l : Layout) (s : Stages) (old new : List ℕ) (t : ℕ) → entry_at l new t ≡ entry_at l old t → new_entry l s new t ≡ new_entry l s old t
same_entry l s old new t e = ap (unwrap_or (entry_for t s.entries)) e

pub same_word : (l : Layout) (s : Stages) (old new : List ℕ) (g : ℕ) → word_at l new g ≡ word_at l old g → new_word l s new g ≡ new_word l s old g
same_word l s old new g e = ap (unwrap_or (place_for g s.words)) e

-- what holds of the staged entry and of the file's, holds of the new one
pub entry_case : (l : Layout) (s : Stages) (file : List ℕ) (t : ℕ) (P : L2Entry → Type 0)
    → ((e : L2Entry) → entry_for t s.entries ≡ Some e → P e) → P (entry_at l file t) → P (new_entry l s file t)
entry_case l s file t P given plain = elim (some_or_none (entry_for t s.entries)) [
  | inl h ↦ subst P (sym (new_entry_at l s file t h.0 h.1)) (given h.0 h.1)
  | inr none ↦ subst P (sym (new_entry_plain l s file t none)) plain
]

pub word_case : (l : Layout) (s : Stages) (file : List ℕ) (g : ℕ) (P : ℕ → Type 0)
    → ((p : ℕ) → place_for g s.words ≡ Some p → P p) → P (word_at l file g) → P (new_word l s file g)
word_case l s file g P given plain = elim (some_or_none (place_for g s.words)) [
  | inl h ↦ subst P (sym (new_word_at l s file g h.0 h.1)) (given h.0 h.1)
  | inr none ↦ subst P (sym (ap (λ (o : Option ℕ). unwrap_or o (word_at l file g)) none)) plain
]

-- ---- lists in order

pub increasing_lt : (xs : List ℕ) (i j : ℕ) → IsStrictlyIncreasing xs → i < j → j < length xs → slice_index xs i < slice_index xs j
increasing_lt xs i j h low high = AllPairs-from_increasing xs h i j 0 low high

tail_increasing : (x : ℕ) (xs : List ℕ) → IsStrictlyIncreasing (x ∷ xs) → IsStrictlyIncreasing xs
tail_increasing x xs h = λ k low.
    let e : suc k + 1 ≡ suc (k + 1) = omega arith in
    subst (λ (n : ℕ). slice_index xs k < slice_index (x ∷ xs) n) e (h (suc k) (omega (arith, low)))

-- each staged word is its group's
pub place_own : (ss : List StagedWord) (i : ℕ) (d : StagedWord) → IsStrictlyIncreasing (map (λ s. s.group) ss) → i < length ss
    → place_for (get_or ss i d).group ss ≡ Some (get_or ss i d).pos
place_own [] i d h low = absurd (omega (arith, low))
place_own (s ∷ ss) zero d h low = cond-true (s.group == s.group) (Some s.pos) (place_for s.group ss) (eq-eqb s.group s.group refl)
place_own (s ∷ ss) (suc i) d h low =
    let x = get_or ss i d in
    let inside : i < length ss = omega (arith, low) in
    let above : s.group < slice_index (map (λ (y : StagedWord). y.group) ss) i =
    increasing_lt (map (λ (y : StagedWord). y.group) (s ∷ ss)) 0 (suc i) h (omega arith) (omega (arith, low, length-map (s ∷ ss) (λ (y : StagedWord). y.group))) in
    let own : slice_index (map (λ (y : StagedWord). y.group) ss) i ≡ x.group = get_or-map (λ (y : StagedWord). y.group) ss i d 0 inside in
    let other : s.group ≢ x.group = λ e. omega (arith, above, own, e) in
    cond-false (s.group == x.group) (Some s.pos) (place_for x.group ss) (ne_eqb s.group x.group other)
    ∙ place_own ss i d (tail_increasing s.group (map (λ (y : StagedWord). y.group) ss) h) inside

-- each staged entry is its track's
pub entry_own : (ss : List StagedEntry) (i : ℕ) (d : StagedEntry) → IsStrictlyIncreasing (map (λ s. s.track) ss) → i < length ss
    → entry_for (get_or ss i d).track ss ≡ Some (get_or ss i d).entry
entry_own [] i d h low = absurd (omega (arith, low))
entry_own (s ∷ ss) zero d h low = cond-true (s.track == s.track) (Some s.entry) (entry_for s.track ss) (eq-eqb s.track s.track refl)
entry_own (s ∷ ss) (suc i) d h low =
    let x = get_or ss i d in
    let inside : i < length ss = omega (arith, low) in
    let above : s.track < slice_index (map (λ (y : StagedEntry). y.track) ss) i =
    increasing_lt (map (λ (y : StagedEntry). y.track) (s ∷ ss)) 0 (suc i) h (omega arith) (omega (arith, low, length-map (s ∷ ss) (λ (y : StagedEntry). y.track))) in
    let own : slice_index (map (λ (y : StagedEntry). y.track) ss) i ≡ x.track = get_or-map (λ (y : StagedEntry). y.track) ss i d 0 inside in
    let other : s.track ≢ x.track = λ e. omega (arith, above, own, e) in
    cond-false (s.track == x.track) (Some s.entry) (entry_for x.track ss) (ne_eqb s.track x.track other)
    ∙ entry_own ss i d (tail_increasing s.track (map (λ (y : StagedEntry). y.track) ss) h) inside

-- what is staged stands somewhere in the list
pub place_index : (ss : List StagedWord) (g p : ℕ) (d : StagedWord) → place_for g ss ≡ Some p
    → (i : ℕ) × (i < length ss) × ((get_or ss i d).group ≡ g) × ((get_or ss i d).pos ≡ p)
place_index [] g p d h = absurd (cc h)
place_index (s ∷ ss) g p d h = elim (cases_eq s.group g) [
  | inl same ↦ (0, omega arith, same, one_value (place_for g (s ∷ ss)) s.pos p (cond-true (s.group == g) (Some s.pos) (place_for g ss) (eq-eqb s.group g same)) h)
  | inr other ↦
      let r = place_index ss g p d (sym (cond-false (s.group == g) (Some s.pos) (place_for g ss) (ne_eqb s.group g other)) ∙ h) in
      (suc r.0, omega (arith, r.1), r.2, r.3)
]

pub entry_index : (ss : List StagedEntry) (t : ℕ) (e : L2Entry) (d : StagedEntry) → entry_for t ss ≡ Some e
    → (i : ℕ) × (i < length ss) × ((get_or ss i d).track ≡ t) × ((get_or ss i d).entry ≡ e)
entry_index [] t e d h = absurd (cc h)
entry_index (s ∷ ss) t e d h = elim (cases_eq s.track t) [
  | inl same ↦ (0, omega arith, same, one_value (entry_for t (s ∷ ss)) s.entry e (cond-true (s.track == t) (Some s.entry) (entry_for t ss) (eq-eqb s.track t same)) h)
  | inr other ↦
      let r = entry_index ss t e d (sym (cond-false (s.track == t) (Some s.entry) (entry_for t ss) (ne_eqb s.track t other)) ∙ h) in
      (suc r.0, omega (arith, r.1), r.2, r.3)
]

pub all_at : {X : Type 0} (P : X → Type 0) (xs : List X) (i : ℕ) (d : X) → AllByRecursion P xs → i < length xs → P (get_or xs i d)
all_at P [] i d h low = absurd (omega (arith, low))
all_at P (x ∷ xs) zero d h low = h.0
all_at P (x ∷ xs) (suc i) d h low = all_at P xs i d h.1 (omega (arith, low))

-- a test that came out false didn't come out true
pub true_not_false : (b : Bool) → b ≡ false → b ≡ true → ⊥
true_not_false b e h = let k : false ≡ true = sym e ∙ h in cc

-- the track at a place of a list
pub track_of : (ss : List StagedEntry) (i : ℕ) (d : StagedEntry) → i < length ss → slice_index (map (λ s. s.track) ss) i ≡ (get_or ss i d).track
track_of ss i d low = get_or-map (λ (s : StagedEntry). s.track) ss i d 0 low

-- a group is moved, or isn't
pub moved_or_not : (g : ℕ) (s : Stages) → IsMoved g s ⊎ (IsMoved g s → ⊥)
moved_or_not g s = elim (some_or_none (place_for g s.words)) [
  | inl h ↦ inl (ap is_some h.1)
  | inr none ↦ inr (not_some (place_for g s.words) none)
]

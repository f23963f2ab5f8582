-- Writing staged words one after another.
use Rattle.std.proofs.Common.{◌≡◌, ◌≢◌, ℕ, zero, suc, ◌+◌, ◌*◌, ◌<◌, ◌≤◌, ◌==◌, cond, List, [], ◌∷◌, ◌++◌, length, take, get_or, Option, Some, None, unwrap_or, Result, Ok, sym, ◌∙◌, ap, subst, inl, inr, arith}
use Rattle.std.specs.Int.{w32}
use Rattle.std.specs.List.{AllByRecursion}
use Rattle.std.specs.List.Sorted.{IsStrictlyIncreasing}
use Rattle.std.proofs.lemmas.Bool.{cases_eq, cond-true, cond-false, eq-eqb, ne_eqb}
use Rattle.std.proofs.Math.Seq.{take-suc}
use Rattle.std.proofs.lemmas.List.{take_all}
use Rattle.cckd_shelf.specs.declared.fault.Failed.{Failed}
use Rattle.cckd_shelf.specs.Files.{overlaid}
use Rattle.cckd_shelf.specs.World.{file_of}
use Rattle.cckd_shelf.specs.Seen.{Seen, Tells, Called}
use Rattle.cckd_shelf.specs.Outcomes.{WriteLeaves}
use Rattle.cckd_shelf.specs.Stops.{StopLeaves, StopsLeave}
use Rattle.cckd_base.specs.declared.geometry.Layout.{Layout}
use Rattle.cckd_base.specs.Numbers.{number_of}
use Rattle.cckd_base.specs.Entry.{word_at}
use Rattle.cckd_tables.specs.declared.staged.StagedEntry.{StagedEntry}
use Rattle.cckd_tables.specs.declared.staged.StagedWord.{StagedWord}
use Rattle.cckd_tables.specs.Staging.{Stages, place_for, new_word}
use Rattle.cckd_tables.specs.Blend.{Blend}
use Rattle.cckd_tables.specs.Commit.{staged_groups}
use Rattle.cckd_tables.specs.Cells.{OneWrite, IsReady, AreWordsWritten}
use Rattle.cckd_tables.proofs.StagedLemmas.{some_or_none, one_value, new_word_at, place_own, all_at}
use Rattle.cckd_tables.proofs.WrittenLemmas.{reworded}
use Rattle.cckd_tables.proofs.BlendLemmas.{blend_image, blend_word}
use Rattle.cckd_tables.proofs.TableLoopLemmas.{Went, went_more, stop_then, file_then}

-- ---- the first so many of a list

pub one_more : {X : Type 0} (xs : List X) (i : ℕ) (d : X) → i < length xs → take (i + 1) xs ≡ take i xs ++ get_or xs i d ∷ []
one_more xs i d low = let one : i + 1 ≡ suc i = omega arith in ap (λ (n : ℕ). take n xs) one ∙ take-suc xs i d low

place_in_front : (ss : List StagedWord) (n g p : ℕ) → place_for g (take n ss) ≡ Some p → place_for g ss ≡ Some p
place_in_front [] zero g p h = h
place_in_front [] (suc n) g p h = h
place_in_front (s ∷ ss) zero g p h = absurd (cc h)
place_in_front (s ∷ ss) (suc n) g p h = elim (cases_eq s.group g) [
  | inl same ↦ let e = eq-eqb s.group g same in
      cond-true (s.group == g) (Some s.pos) (place_for g ss) e ∙ (sym (cond-true (s.group == g) (Some s.pos) (place_for g (take n ss)) e) ∙ h)
  | inr other ↦ let e = ne_eqb s.group g other in
      cond-false (s.group == g) (Some s.pos) (place_for g ss) e
      ∙ place_in_front ss n g p (sym (cond-false (s.group == g) (Some s.pos) (place_for g (take n ss)) e) ∙ h)
]

place_before : (front : List StagedWord) (s : StagedWord) (g : ℕ) → s.group ≢ g → place_for g (front ++ s ∷ []) ≡ place_for g front
place_before [] s g other = cond-false (s.group == g) (Some s.pos) None (ne_eqb s.group g other)
place_before (x ∷ front) s g other = ap (λ (o : Option ℕ). cond (x.group == g) (Some x.pos) o) (place_before front s g other)

-- ---- one word more

word_left : (l : Layout) (was bytes : List ℕ) (stages : Stages) (g p : ℕ) → IsReady l stages was → g < l.groups → place_for g stages.words ≡ Some p → length bytes ≡ 4 → number_of l.order w32 bytes ≡ p
    → (old file : List ℕ) → Blend l was stages old → WriteLeaves (1024 + 4 * g) bytes old file → Blend l was stages file
word_left l was bytes stages g p ready low own four spelled old file b leaves = elim (leaves.whole (omega (arith, four))) [
  | inl same ↦ subst (Blend l was stages) (sym same) b
  | inr made ↦ subst (Blend l was stages) (sym made) (blend_word l was bytes stages old g p ready low own four spelled b)
]

words_more : (l : Layout) (was bytes : List ℕ) (stages : Stages) (i : ℕ) (d : StagedWord) (file : List ℕ) → IsReady l stages was → IsStrictlyIncreasing (staged_groups stages.words)
    → AllByRecursion (λ s. s.group < l.groups) stages.words → i < length stages.words → length bytes ≡ 4 → number_of l.order w32 bytes ≡ (get_or stages.words i d).pos
    → AreWordsWritten l was stages i file → AreWordsWritten l was stages (i + 1) (overlaid file (1024 + 4 * (get_or stages.words i d).group) bytes)
words_more l was bytes stages i d file ready order there low four spelled h =
    let s = get_or stages.words i d in
    let inside : s.group < l.groups = all_at (λ (x : StagedWord). x.group < l.groups) stages.words i d there low in
    let own = place_own stages.words i d order low in
    let next = overlaid file (1024 + 4 * s.group) bytes in
    let r = reworded l file bytes s.group s.pos ready.layout (blend_image l was stages file ready.image ready.can_move h.blend) inside four spelled in
    record {
      blend = blend_word l was bytes stages file s.group s.pos ready inside own four spelled h.blend;
      words = λ g p below placed. elim (cases_eq s.group g) [
        | inl same ↦
            let p_is : s.pos ≡ p = one_value (place_for s.group stages.words) s.pos p own (ap (λ (x : ℕ). place_for x stages.words) same ∙ place_in_front stages.words (i + 1) g p placed) in
            subst (λ (x : ℕ). word_at l next x ≡ p) same (r.word ∙ p_is)
        | inr other ↦
            r.others g below other ∙ h.words g p below
            (sym (place_before (take i stages.words) s g other) ∙ (sym (ap (place_for g) (one_more stages.words i d low)) ∙ placed))
      ];
      behind = λ k far below. r.outside k (omega (arith, below, h.blend.size)) (inr (omega (arith, far, inside))) ∙ h.behind k far below;
    }

-- the first n words are written
pub record WordsSoFar (l : Layout) (slot : ℕ) (words : List StagedWord) (n : ℕ) (old new : Seen) : Type 0 where
  pub stopped : (was : List ℕ) (entries : List StagedEntry) → IsReady l (record { entries = entries; words = words }) was
      → StopLeaves slot (Blend l was (record { entries = entries; words = words })) old → StopsLeave slot (Blend l was (record { entries = entries; words = words })) old new
  pub now : (was : List ℕ) (entries : List StagedEntry) → IsReady l (record { entries = entries; words = words }) was → Tells old
      → file_of old.world slot ≡ was → AreWordsWritten l was (record { entries = entries; words = words }) n (file_of new.world slot)
  pub went : Went slot old new
  pub calls : new.calls ≤ old.calls + n

module _ (l : Layout) (slot : ℕ) (words : List StagedWord) (bytes : List ℕ) (i : ℕ) (d : StagedWord) (old mid new : Seen) (tells : Tells old → Tells mid)
    (order : IsStrictlyIncreasing (staged_groups words)) (there : AllByRecursion (λ s. s.group < l.groups) words) (low : i < length words)
    (four : length bytes ≡ 4) (spelled : number_of l.order w32 bytes ≡ (get_or words i d).pos) (so : WordsSoFar l slot words i old mid) where
  pub words_stopped : (result : Result (Unit {0}) Failed) → OneWrite slot (1024 + 4 * (get_or words i d).group) bytes result mid new
      → (was : List ℕ) (entries : List StagedEntry) → IsReady l (record { entries = entries; words = words }) was
      → StopLeaves slot (Blend l was (record { entries = entries; words = words })) old → StopsLeave slot (Blend l was (record { entries = entries; words = words })) old new
  words_stopped result one = λ was entries ready each.
      let stages : Stages = record { entries = entries; words = words } in
      let s = get_or words i d in
      stop_then (Blend l was stages) slot (1024 + 4 * s.group) bytes old mid new result tells one
      (word_left l was bytes stages s.group s.pos ready (all_at (λ (x : StagedWord). x.group < l.groups) words i d there low) (place_own words i d order low) four spelled)
      (so.stopped was entries ready each)

  pub words_next : OneWrite slot (1024 + 4 * (get_or words i d).group) bytes (Ok tt) mid new → Called mid new → WordsSoFar l slot words (i + 1) old new
  words_next one called = record {
    stopped = words_stopped (Ok tt) one;
    now = λ was entries ready told same.
        let stages : Stages = record { entries = entries; words = words } in
        subst (AreWordsWritten l was stages (i + 1)) (sym (file_then slot (1024 + 4 * (get_or words i d).group) bytes mid new one (tells told)))
        (words_more l was bytes stages i d (file_of mid.world slot) ready order there low four spelled (so.now was entries ready told same));
    went = went_more slot (1024 + 4 * (get_or words i d).group) bytes old mid new tells one so.went;
    calls = (let c = so.calls in let d = called.once in omega arith);
  }

-- with all of them each group has its new word
pub all_words : (l : Layout) (was : List ℕ) (stages : Stages) (file : List ℕ) → AreWordsWritten l was stages (length stages.words) file
    → (g : ℕ) → g < l.groups → word_at l file g ≡ new_word l stages was g
all_words l was stages file h g low = elim (some_or_none (place_for g stages.words)) [
  | inl k ↦ h.words g k.0 low (ap (place_for g) (take_all (length stages.words) stages.words (omega arith)) ∙ k.1) ∙ sym (new_word_at l stages was g k.0 k.1)
  | inr none ↦ elim (h.blend.words g low) [
    | inl e ↦ e ∙ sym (ap (λ (o : Option ℕ). unwrap_or o (word_at l was g)) none)
    | inr e ↦ e
  ]
]

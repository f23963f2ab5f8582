-- For callers: that all passes are back.
use Rattle.std.proofs.Common.{◌≡◌, ℕ, zero, suc, ◌<◌, List, [], ◌∷◌, ◌++◌, length, take, drop, refl, sym, ap, ◌∙◌, subst, arith, Some}
use Rattle.std.specs.Prelude.{slice_get, slice_index_or}
use Rattle.cckd_turn.specs.Passes.{number_of, callers_of, IsResting, IsReady, IsBack, AreDealt, AreAll}
use Rattle.cckd_turn.specs.declared.pass.Pass.{Pass}
use Rattle.cckd_turn.specs.declared.table.TurnTable.{TurnTable}

module _ {A : Type 0} where
  pub get_of_index : (xs : List A) (k : ℕ) (x : A) → k < length xs → x ≡ slice_index_or xs k x → slice_get xs k ≡ Some x
  get_of_index [] k x below is = absurd (omega arith)
  get_of_index (y ∷ ys) zero x below is = ap Some (sym is)
  get_of_index (y ∷ ys) (suc k) x below is = get_of_index ys k x (omega arith) is

  pub index_of_get : (xs : List A) (k : ℕ) (x d : A) → slice_get xs k ≡ Some x → (k < length xs) × (slice_index_or xs k d ≡ x)
  index_of_get [] k x d at = absurd (cc at)
  index_of_get (y ∷ ys) zero x d at = (omega arith, cc at)
  index_of_get (y ∷ ys) (suc k) x d at = let later = index_of_get ys k x d at in (omega arith, later.1)

  pub there : (xs : List A) (k : ℕ) → k < length xs → (x : A) × (slice_get xs k ≡ Some x)
  there [] k below = absurd (omega arith)
  there (y ∷ ys) zero below = (y, refl)
  there (y ∷ ys) (suc k) below = there ys k (omega arith)

  -- what a `Vec` has after all its elements were written through a slice
  pub written_back : (xs ys : List A) (n : ℕ) → length xs ≡ length ys → n ≡ length ys → take n (xs ++ drop (length xs) ys) ≡ xs
  written_back [] [] n same is = rw is refl
  written_back [] (y ∷ ys) n same is = absurd (omega arith)
  written_back (x ∷ xs) [] n same is = absurd (omega arith)
  written_back (x ∷ xs) (y ∷ ys) n same is = rw is (ap (λ (l : List A). x ∷ l) (written_back xs ys (length ys) (omega arith) refl))

module _ {V E : Type 0} (t : TurnTable V E) where
  pub all_of_two : (first second : Pass E) (passes : List (Pass E)) → callers_of t ≡ 2 → IsResting t first × (number_of first ≡ 0) → IsResting t second × (number_of second ≡ 1) → passes ≡ first ∷ second ∷ [] → AreAll t passes
  all_of_two first second passes two a b is = subst (AreAll t) (sym is) (record { resting = resting; every = every })
    where
      resting : (k : ℕ) (p : Pass E) → slice_get (first ∷ second ∷ []) k ≡ Some p → IsResting t p
      resting zero p at = let same : first ≡ p = cc at in subst (IsResting t) same a.0
      resting (suc zero) p at = let same : second ≡ p = cc at in subst (IsResting t) same b.0
      resting (suc (suc k)) p at = absurd (cc at)

      every : (n : ℕ) → n < callers_of t → (k : ℕ) × (p : Pass E) × (slice_get (first ∷ second ∷ []) k ≡ Some p) × (number_of p ≡ n)
      every zero below = (0, first, refl, a.1)
      every (suc zero) below = (1, second, refl, b.1)
      every (suc (suc n)) below = absurd (omega arith)

  -- each pass of a new table may make all its calls
  pub dealt_are_ready : (callers each : ℕ) (passes : List (Pass E)) → AreDealt t callers each passes → (k : ℕ) (p : Pass E) → k < length passes → p ≡ slice_index_or passes k p → IsReady t p each
  dealt_are_ready callers each passes dealt k p below is =
      let new = dealt.new k p (get_of_index passes k p below is) in
      let left = new.left ∙ dealt.each_is in
      (new.resting, omega arith)

  -- the passes of a new table, once each is back in its place
  pub all_are_back : (callers each : ℕ) (old new : List (Pass E)) → AreDealt t callers each old → length new ≡ length old
      → ((k : ℕ) (p : Pass E) → k < length old → IsBack t (slice_index_or old k p) (slice_index_or new k p)) → AreAll t new
  all_are_back callers each old new dealt same back =
      record {
        resting = λ k p at. let is = index_of_get new k p p at in subst (IsResting t) is.1 (back k p (omega arith)).0;
        every = λ n below.
            let count = dealt.count in
            let callers_are = dealt.callers_are in
            let p = there new n (omega arith) in
            let was = there old n (omega arith) in
            let now_is = index_of_get new n p.0 p.0 p.1 in
            let was_is = index_of_get old n was.0 p.0 was.1 in
            let b = back n p.0 (omega arith) in
            (n, p.0, p.1, ap number_of (sym now_is.1) ∙ (b.1 ∙ (ap number_of was_is.1 ∙ (dealt.new n was.0 was.1).number)));
      }

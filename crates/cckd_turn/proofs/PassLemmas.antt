-- The passes of a new table.
use Rattle.std.proofs.Common.{◌≡◌, ◌⊎◌, inl, inr, ⊎_elim, ℕ, zero, suc, ◌+◌, ◌-◌, ◌*◌, ◌≤◌, List, [], ◌∷◌, ◌++◌, length, refl, sym, ap, ◌∙◌, subst, arith, Some, suc-mul}
use Rattle.std.specs.Prelude.{slice_get}
use Rattle.cckd_turn.specs.Views.{first_own, new_names, blank, after_dealing}
use Rattle.cckd_turn.specs.Passes.{number_of, known, view_of, callers_of, calls_each_of, table_id_of, IsNew}
use Rattle.cckd_turn.specs.declared.view.Terms.{Terms}
use Rattle.cckd_turn.specs.declared.view.View.{View}
use Rattle.cckd_turn.specs.declared.pass.Pass.{Pass}
use Rattle.cckd_turn.specs.declared.table.TurnTable.{TurnTable}

-- what stands in a list with one element more
pub get_after_push : {A : Type 0} (xs : List A) (x y : A) (k : ℕ) → slice_get (xs ++ x ∷ []) k ≡ Some y → (slice_get xs k ≡ Some y) ⊎ ((k ≡ length xs) × (x ≡ y))
get_after_push [] x y zero at = inr (refl, cc at)
get_after_push [] x y (suc k) at = absurd (cc at)
get_after_push (z ∷ zs) x y zero at = inl at
get_after_push (z ∷ zs) x y (suc k) at = ⊎_elim (λ was. inl was) (λ t. inr (ap suc t.0, t.1)) (get_after_push zs x y k at)

pub get_pushed : {A : Type 0} (xs : List A) (x : A) → slice_get (xs ++ x ∷ []) (length xs) ≡ Some x
get_pushed [] x = refl
get_pushed (z ∷ zs) x = get_pushed zs x

pub get_kept : {A : Type 0} (xs ys : List A) (x : A) (k : ℕ) → slice_get xs k ≡ Some x → slice_get (xs ++ ys) k ≡ Some x
get_kept [] ys x k at = absurd (cc at)
get_kept (z ∷ zs) ys x zero at = at
get_kept (z ∷ zs) ys x (suc k) at = get_kept zs ys x k at

-- what holds of all elements holds of the last, and of the others
module _ {A : Type 0} (P : A → Type 0) (all rest : List A) (x : A) (is : all ≡ rest ++ x ∷ []) (each : (k : ℕ) (y : A) → slice_get all k ≡ Some y → P y) where
  pub last_of_all : P x
  last_of_all = each (length rest) x (subst (λ (xs : List A). slice_get xs (length rest) ≡ Some x) (sym is) (get_pushed rest x))

  pub others_of_all : (k : ℕ) (y : A) → slice_get rest k ≡ Some y → P y
  others_of_all k y at = each k y (subst (λ (xs : List A). slice_get xs k ≡ Some y) (sym is) (get_kept rest (x ∷ []) y k at))

module _ {E : Type 0} where
  -- the dealer's view, once the numbers below `number` are dealt and `others` are left beside its own
  abbrev pub dealing : Terms → ℕ → ℕ → View E
  dealing t number others = blank t.callers t.each (suc others * t.each) ((t.callers - 1, []) ∷ new_names number others)

  pub dealing_goes_on : (t : Terms) (number others : ℕ) → after_dealing (dealing t number (suc others)) ≡ dealing t (number + 1) others
  dealing_goes_on t number others =
      let lower : suc (suc others) * t.each - t.each ≡ suc others * t.each = (let more = suc-mul (suc others) t.each in omega arith) in
      ap (λ (n : ℕ). blank t.callers t.each n ((t.callers - 1, []) ∷ new_names (number + 1) others)) lower

  pub dealer_goes_on : {X : Type 0} (t : Terms) (number others : ℕ) (v : View E) (held : List X) (now : View E × List X) → v ≡ dealing t number (suc others) → held ≡ [] → now ≡ (after_dealing v, held)
      → now ≡ (dealing t (number + 1) others, [])
  dealer_goes_on {X} t number others v held now is none e =
      e
      ∙ (ap (λ (u : View E). (after_dealing u, held)) is
      ∙ (ap (λ (u : View E). (u, held)) (dealing_goes_on t number others) ∙ ap (λ (h : List X). (dealing t (number + 1) others, h)) none))

  pub enough_left : (t : Terms) (number others : ℕ) (v : View E) → v ≡ dealing t number others → v.each ≤ v.left
  enough_left t number others v e =
      let each = ap (λ (u : View E). u.each) e in
      let left = ap (λ (u : View E). u.left) e in
      let more = suc-mul others t.each in
      omega arith

  -- the last number is the dealer's own
  pub last_dealt : (terms : Terms) (number others : ℕ) (v : View E) → v ≡ dealing terms number others → others ≡ 0 → v ≡ blank terms.callers terms.each terms.each ((terms.callers - 1, []) ∷ [])
  last_dealt terms number others v is none =
      is
      ∙ (ap (dealing terms number) none
      ∙ ap (λ (n : ℕ). blank terms.callers terms.each n ((terms.callers - 1, []) ∷ [])) (let one : suc zero * terms.each ≡ terms.each = omega arith in one))

module _ {V E : Type 0} (t : TurnTable V E) where
  pub is_new : (k : ℕ) (p : Pass E) (v : View E) → p.badge.views ≡ v ∷ [] → p.badge.table_id ≡ table_id_of t
      → v ≡ blank (callers_of t) (calls_each_of t) (calls_each_of t) ((k, []) ∷ []) → number_of p ≡ k → p.left ≡ calls_each_of t → p.front ≡ 0 → IsNew t k p
  is_new k p v here table fresh number left front =
      let is : view_of p ≡ blank (callers_of t) (calls_each_of t) (calls_each_of t) ((k, []) ∷ []) = ap known here ∙ fresh in
      let own = ap (λ (u : View E). first_own u.names) is in
      record {
        resting = record {
          here = here ∙ ap (λ (u : View E). u ∷ []) (sym (ap known here));
          table = table;
          idle = ap (λ (u : View E). u.state) is;
          name = ap (λ (u : View E). u.names) is ∙ (ap (λ (n : ℕ). (n, []) ∷ []) (sym number) ∙ ap (λ (l : List E). (number_of p, l) ∷ []) (sym own));
          left = ap (λ (u : View E). u.left) is ∙ sym left;
          front = ap (λ (u : View E). length u.seen) is ∙ sym front;
          callers = ap (λ (u : View E). u.callers) is;
          each = ap (λ (u : View E). u.each) is;
        };
        number = number;
        left = left;
        seen = ap (λ (u : View E). u.seen) is;
        own = own;
        looks = ap (λ (u : View E). u.looks) is;
        tries = ap (λ (u : View E). u.tries) is;
      }

  -- a pass that was just made of the seat `seat`
  pub made_new : (terms : Terms) (k number : ℕ) (p : Pass E) (v : View E) → terms ≡ t.table.shared.key → k ≡ number
      → p.badge.views ≡ v ∷ [] → p.badge.table_id ≡ table_id_of t → v ≡ blank terms.callers terms.each terms.each ((number, []) ∷ [])
      → number_of p ≡ number → p.left ≡ terms.each → p.front ≡ 0 → IsNew t k p
  made_new terms k number p v is at here table fresh numbered left front =
      is_new k p v here table
      (fresh ∙ (ap (λ (x : Terms). blank x.callers x.each x.each ((number, []) ∷ [])) is ∙ ap (λ (n : ℕ). blank (callers_of t) (calls_each_of t) (calls_each_of t) ((n, []) ∷ [])) (sym at)))
      (numbered ∙ sym at)
      (left ∙ ap (λ (x : Terms). x.each) is)
      front

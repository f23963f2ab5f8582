-- A seat that takes in all passes, and what the rule then says.
use Rattle.std.proofs.Common.{◌≡◌, inl, inr, ⊎_elim, ℕ, zero, suc, ◌<◌, List, [], ◌∷◌, ◌++◌, refl, sym, ap, subst, arith, Option, Some}
use Rattle.std.specs.Prelude.{slice_get}
use mathlib.Core.Option as maybe
use mathlib.Core.List.{IsPrefix}
use lib.ListN.{get_elem?}
use Rattle.atomic_table.specs.Table.{State}
use Rattle.cckd_turn.specs.Entries.{entries_of, Each}
use Rattle.cckd_turn.specs.Views.{times, joined}
use Rattle.cckd_turn.specs.Rule.{IsKept}
use Rattle.cckd_turn.specs.Passes.{view_of, number_of, own_of, seen_by, callers_of, AreAll, Closes}
use Rattle.cckd_turn.specs.Gathered.{Among, HasTakenIn, HasAll}
use Rattle.cckd_turn.specs.declared.view.View.{View}
use Rattle.cckd_turn.specs.declared.pass.Pass.{Pass}
use Rattle.cckd_turn.specs.declared.table.TurnTable.{TurnTable}
use Rattle.cckd_turn.proofs.EntryLemmas.{as_one}
use Rattle.cckd_turn.proofs.DealLemmas.{nobody_left}

module _ {A : Type 0} where
  among_front : (x : A) (xs ys : List A) → Among x xs → Among x (xs ++ ys)
  among_front x [] ys h = absurd h
  among_front x (z ∷ zs) ys h = ⊎_elim (λ same. inl same) (λ later. inr (among_front x zs ys later)) h

  among_back : (x : A) (xs ys : List A) → Among x ys → Among x (xs ++ ys)
  among_back x [] ys h = h
  among_back x (z ∷ zs) ys h = inr (among_back x zs ys h)

  each_among : (P : A → Type 0) (x : A) (xs : List A) → Each P xs → Among x xs → P x
  each_among P x [] p h = absurd h
  each_among P x (z ∷ zs) p h = ⊎_elim (λ same. subst P (sym same) p.0) (λ later. each_among P x zs p.1 later) h

  each_get : (P : A → Type 0) (xs : List A) (k : ℕ) (x : A) → Each P xs → slice_get xs k ≡ Some x → P x
  each_get P [] k x p at = absurd (cc at)
  each_get P (z ∷ zs) zero x p at = let same : z ≡ x = cc at in subst P same p.0
  each_get P (z ∷ zs) (suc k) x p at = each_get P zs k x p.1 at

module _ {E : Type 0} where
  times_among : (n : ℕ) (own : List E) (names : List (ℕ × List E)) → Among (n, own) names → 0 < times n names
  times_among n own [] h = absurd h
  times_among n own (x ∷ xs) h =
      ⊎_elim
      (λ (same : (n, own) ≡ x). let one = as_one x.0 n (sym (ap (λ (y : ℕ × List E). y.0) same)) in omega arith)
      (λ (later : Among (n, own) xs). let more = times_among n own xs later in omega arith)
      h

  -- a pass is taken in by its own seat
  pub first_taken_in : (p : Pass E) (v : View E) → v ≡ view_of p → (view_of p).names ≡ (number_of p, own_of p) ∷ [] → HasTakenIn p v
  first_taken_in p v is name =
      subst (HasTakenIn p) (sym is) (subst (Among (number_of p, own_of p)) (sym name) (inl refl), inl refl)

  pub still_taken_in : (p : Pass E) (v x : View E) → HasTakenIn p v → HasTakenIn p (joined v x)
  still_taken_in p v x h = (
    among_front (number_of p, own_of p) v.names x.names h.0,
    ⊎_elim (λ (same : seen_by p ≡ v.seen). inl same) (λ (later : Among (seen_by p) v.heard). inr (among_front (seen_by p) v.heard (x.seen ∷ x.heard) later)) h.1,
  )

  pub newly_taken_in : (p : Pass E) (v x : View E) → x ≡ view_of p → (view_of p).names ≡ (number_of p, own_of p) ∷ [] → HasTakenIn p (joined v x)
  newly_taken_in p v x is name = (
    among_back (number_of p, own_of p) v.names x.names (subst (λ (u : View E). Among (number_of p, own_of p) u.names) (sym is) (subst (Among (number_of p, own_of p)) (sym name) (inl refl))),
    inr (among_back (seen_by p) v.heard (x.seen ∷ x.heard) (inl (sym (ap (λ (u : View E). u.seen) is)))),
  )

module _ {V E : Type 0} (stands : V → List E → Type 0) (by : E → ℕ) (t : TurnTable V E) where
  pub ends : (s : State (Option V) (View E)) (id : ℕ) (v : View E) (passes : List (Pass E)) → IsKept stands by t.table.shared.key s → get_elem? s.views id ≡ maybe.some v
      → HasAll passes v → AreAll t passes
      → (value : V) × (get_elem? s.homes 0 ≡ maybe.some (maybe.some (Some value))) × Closes stands by passes value
  ends s id v passes k at has all =
      let f = k.fits id v at in
      let numbers : (n : ℕ) → n < callers_of t → 0 < times n v.names = λ n below.
      let one = all.every n below in
      subst (λ (m : ℕ). 0 < times m v.names) one.3 (times_among (number_of one.1) (own_of one.1) v.names (has.each one.0 one.1 one.2).0) in
      let home = k.home (nobody_left stands by t.table.shared.key s k id v at has.idle numbers) in (
        home.0,
        home.1,
        record {
          log = k.log;
          stands_for = home.2;
          own = λ j p there. each_among (λ name. entries_of by name.0 k.log ≡ name.1) (number_of p, own_of p) v.names f.own (has.each j p there).0;
          begins = λ j p there. each_among (λ xs. IsPrefix xs k.log) (seen_by p) (v.seen ∷ v.heard) (f.seen, f.heard) (has.each j p there).1;
          no_others = λ j e there. all.every (by e) (each_get (λ x. by x < callers_of t) k.log j e k.named there);
        },
      )

-- What the rule says of one view among the others, and the steps that leave the list and the value as they are.
use Rattle.std.proofs.Common.{◌≡◌, ◌≢◌, ⊎_elim, ℕ, zero, suc, ◌+◌, ◌%◌, ◌^◌, ◌<◌, List, [], ◌∷◌, length, set, eqb, refl, sym, ap, ◌∙◌, subst, arith, Option}
use Rattle.std.specs.Prelude.{slice_index, slice_set}
use mathlib.Core.Logic.{dite}
use native.Mathlib.Decide.{ℕ_discrete}
use mathlib.Core.Option as maybe
use lib.ListN.{get_elem?}
use prog.Atomic.{either}
use Rattle.atomic_table.specs.Table.{State, Act, keeps, Valid, Allows, homes_after, carried_after}
use Rattle.atomic_table.proofs.Lists.{at_set, exchanged}
use Rattle.cckd_turn.specs.Entries.{total, one_if}
use Rattle.cckd_turn.specs.Views.{with_ticket, has_turn, waiting, refused, looking}
use Rattle.cckd_turn.specs.Rule.{has_ticket, has_number, turns, left, IsInTurn, Fits, IsKept}
use Rattle.cckd_turn.specs.Steps.{Sat, drawn, tried, looked}
use Rattle.cckd_turn.specs.declared.view.PassState.{PassState}
use Rattle.cckd_turn.specs.declared.view.PassState.TheVariants.{Idle, Waiting, Holding, Returning}
use Rattle.cckd_turn.specs.declared.view.Terms.{Terms}
use Rattle.cckd_turn.specs.declared.view.View.{View}
use Rattle.cckd_turn.proofs.EntryLemmas.{total-set, none_of, as_one, as_none}
use Rattle.cckd_turn.proofs.FrontLemmas.{front_self}

-- a sum below 2 ^ 64 doesn't wrap
pub unwrapped : (n : ℕ) → n + 1 < 2 ^ 64 → (n + 1) % 2 ^ 64 ≡ n + 1
unwrapped n small = omega arith

pub total_none : {A : Type 0} (f : A → ℕ) (xs : List A) → ((j : ℕ) (x : A) → get_elem? xs j ≡ maybe.some x → f x ≡ 0) → total f xs ≡ 0
total_none f [] none = refl
total_none f (x ∷ xs) none = let here = none zero x refl in let later = total_none f xs (λ j y at. none (suc j) y at) in omega arith

module _ {V E : Type 0} (stands : V → List E → Type 0) (by : E → ℕ) where
  abbrev pub Homes : Type 0
  Homes = List (maybe.Option (Option V))

  abbrev pub AllFit : Homes → List E → List (View E) → Type 0
  AllFit homes log views = (id : ℕ) (v : View E) → get_elem? views id ≡ maybe.some v → Fits stands by homes log v

  -- all fit after one was replaced, where the others still do
  pub fit_after : (homes : Homes) (log : List E) (views : List (View E)) (id : ℕ) (w : View E)
      → ((j : ℕ) (u : View E) → j ≢ id → get_elem? views j ≡ maybe.some u → Fits stands by homes log u) → Fits stands by homes log w → AllFit homes log (set views id w)
  fit_after homes log views id w others mine j u at =
      ⊎_elim
      (λ (t : (j ≡ id) × (w ≡ u)). subst (Fits stands by homes log) t.1 mine)
      (λ (t : (j ≢ id) × (get_elem? views j ≡ maybe.some u)). others j u t.0 t.1)
      (at_set views id j w u at)

  module _ (terms : Terms) where
    abbrev pub Kept : State (Option V) (View E) → Type 0
    Kept s = IsKept stands by terms s

    -- a view that draws the next ticket
    pub kept_after_drawing : (s : State (Option V) (View E)) (id up : ℕ) (v : View E) (k : Kept s) → up ≡ k.next + 1 → get_elem? s.views id ≡ maybe.some v
        → v.state ≡ Idle → 0 < v.left → 0 < length v.names
        → Kept (record { words = up ∷ length k.log ∷ []; homes = s.homes; views = set s.views id (waiting v k.next) })
    kept_after_drawing s id up v k is_up at idle some_left some_name =
        let w = waiting v k.next in
        let lefts = total-set left s.views id v w at in
        let was_out : (t : ℕ) → has_ticket t v ≡ 0 = λ t. ap (λ (g : PassState). with_ticket g (one_if (eqb v.ticket t))) idle in
        let old_turn : turns v ≡ 0 = ap has_turn idle in
        let sum : (t : ℕ) → total (has_ticket t) (set s.views id w) ≡ total (has_ticket t) s.views + one_if (eqb k.next t) = λ t. omega (arith, total-set (has_ticket t) s.views id v w at, was_out t) in
        record {
          log = k.log;
          next = k.next + 1;
          words = ap (λ (n : ℕ). n ∷ length k.log ∷ []) is_up;
          behind = omega (arith, k.behind);
          ticket_once = λ t from below. dite (ℕ_discrete k.next t)
              (λ same. let one = as_one k.next t same in let none = none_of (total (has_ticket t) s.views) (λ some. absurd (let out = k.ticket_out t some in omega arith)) in omega (arith, sum t))
              (λ apart. let none = as_none k.next t apart in omega (arith, sum t, k.ticket_once t from (omega arith)));
          ticket_out = λ t some. dite (ℕ_discrete k.next t)
              (λ same. let from = k.behind in (omega arith, omega arith))
              (λ apart. let none = as_none k.next t apart in let out = k.ticket_out t (omega (arith, sum t)) in (omega arith, omega arith));
          number_once = λ n below. omega (arith, total-set (has_number n) s.views id v w at, k.number_once n below);
          number_of_caller = λ n some. k.number_of_caller n (omega (arith, total-set (has_number n) s.views id v w at));
          room = omega (arith, k.room, lefts);
          bounded = k.bounded;
          named = k.named;
          fits = fit_after s.homes k.log s.views id w (λ j u apart there. k.fits j u there)
              (let f = k.fits id v at in record { seen = f.seen; heard = f.heard; own = f.own; turn = some_name });
          home = λ nobody. k.home (omega (arith, total-set turns s.views id v w at));
        }

    -- a view that changes in what no sum counts
    pub kept_after_change : (s : State (Option V) (View E)) (id : ℕ) (v w : View E) (k : Kept s) → get_elem? s.views id ≡ maybe.some v
        → ((t : ℕ) → has_ticket t w ≡ has_ticket t v) → ((n : ℕ) → has_number n w ≡ has_number n v) → turns w ≡ turns v → left w ≡ left v
        → Fits stands by s.homes k.log w
        → Kept (record { words = k.next ∷ length k.log ∷ []; homes = s.homes; views = set s.views id w })
    kept_after_change s id v w k at tickets numbers turn lefts fit =
        let sum : (f : View E → ℕ) → f w ≡ f v → total f (set s.views id w) ≡ total f s.views = λ f same. omega (arith, total-set f s.views id v w at) in
        record {
          log = k.log;
          next = k.next;
          words = refl;
          behind = k.behind;
          ticket_once = λ t from below. sum (has_ticket t) (tickets t) ∙ k.ticket_once t from below;
          ticket_out = λ t some. k.ticket_out t (omega (arith, sum (has_ticket t) (tickets t)));
          number_once = λ n below. sum (has_number n) (numbers n) ∙ k.number_once n below;
          number_of_caller = λ n some. k.number_of_caller n (omega (arith, sum (has_number n) (numbers n)));
          room = omega (arith, k.room, sum left lefts);
          bounded = k.bounded;
          named = k.named;
          fits = fit_after s.homes k.log s.views id w (λ j u apart there. k.fits j u there) fit;
          home = λ nobody. k.home (omega (arith, sum turns turn));
        }

    turn_after_look : (homes : Homes) (log : List E) (v : View E) (r : ℕ) (g : PassState) → IsInTurn stands homes log v g → IsInTurn stands homes log (looking v log r) g
    turn_after_look homes log v r Idle h = tt
    turn_after_look homes log v r Waiting h = h
    turn_after_look homes log v r Holding h = (h.0, h.1, refl)
    turn_after_look homes log v r Returning h = (h.0, h.1, refl, h.3)

    turn_after_refusal : (homes : Homes) (log : List E) (v : View E) (r : ℕ) (g : PassState) → IsInTurn stands homes log v g → IsInTurn stands homes log (refused v r) g
    turn_after_refusal homes log v r Idle h = tt
    turn_after_refusal homes log v r Waiting h = h
    turn_after_refusal homes log v r Holding h = h
    turn_after_refusal homes log v r Returning h = h

    pub draws : (slots id : ℕ) (m : Sat V E) → m.0.state ≡ Idle → 0 < m.0.left → 0 < length m.0.names
        → Allows Kept slots id m 0 (λ n. (n + 1) % 2 ^ 64) (drawn m)
    draws slots id m idle some_left some_name s k wide at small =
        let v = m.0 in
        let Goes : List ℕ → Type 0 = λ ws. (w : View E) × (a : Act (Option V)) × Valid s.homes m.1 a
        × Kept (record { words = slice_set ws 0 ((slice_index ws 0 + 1) % 2 ^ 64); homes = homes_after s.homes m.1 a; views = slice_set s.views id w })
        × drawn m (slice_index ws 0) (w, carried_after m.1 a) in
        subst Goes (sym k.words)
        (waiting v k.next, keeps, tt, kept_after_drawing s id _ v k (unwrapped k.next (omega (arith, k.room, k.bounded))) at idle some_left some_name, refl)

    pub tries : (slots id old : ℕ) (m : Sat V E) → m.0.state ≡ Idle → 0 < m.0.left → 0 < length m.0.names
        → Allows Kept slots id m 0 (λ n. either (eqb n old) (old + 1) n) (tried old m)
    tries slots id old m idle some_left some_name s k wide at small =
        let v = m.0 in
        let f = k.fits id v at in
        let Goes : ℕ → Type 0 = λ up. (w : View E) × (a : Act (Option V)) × Valid s.homes m.1 a
        × Kept (record { words = up ∷ length k.log ∷ []; homes = homes_after s.homes m.1 a; views = slice_set s.views id w })
        × tried old m k.next (w, carried_after m.1 a) in
        let There : List ℕ → Type 0 = λ ws. (w : View E) × (a : Act (Option V)) × Valid s.homes m.1 a
        × Kept (record { words = slice_set ws 0 (either (eqb (slice_index ws 0) old) (old + 1) (slice_index ws 0)); homes = homes_after s.homes m.1 a; views = slice_set s.views id w })
        × tried old m (slice_index ws 0) (w, carried_after m.1 a) in
        subst There (sym k.words) (exchanged k.next old (old + 1) Goes
        (λ same. (waiting v k.next, keeps, tt, kept_after_drawing s id (old + 1) v k (ap (λ (n : ℕ). n + 1) (sym same)) at idle some_left some_name, ((λ e. refl), (λ apart. absurd (apart same)))))
        (λ apart. (
          refused v k.next,
          keeps,
          tt,
          kept_after_change s id v (refused v k.next) k at (λ t. refl) (λ n. refl) refl refl
              (record { seen = f.seen; heard = f.heard; own = f.own; turn = turn_after_refusal s.homes k.log v k.next v.state f.turn }),
          ((λ e. absurd (apart e)), (λ e. refl)),
        )))

    pub looks : (slots id : ℕ) (m : Sat V E) → Allows Kept slots id m 1 (λ n. n) (looked by m)
    looks slots id m s k wide at small =
        let v = m.0 in
        let w = looking v k.log (length k.log) in
        let f = k.fits id v at in
        let Goes : List ℕ → Type 0 = λ ws. (w : View E) × (a : Act (Option V)) × Valid s.homes m.1 a
        × Kept (record { words = slice_set ws 1 (slice_index ws 1); homes = homes_after s.homes m.1 a; views = slice_set s.views id w })
        × looked by m (slice_index ws 1) (w, carried_after m.1 a) in
        subst Goes (sym k.words) (
          w,
          keeps,
          tt,
          kept_after_change s id v w k at (λ t. refl) (λ n. refl) refl refl
              (record { seen = front_self k.log; heard = f.heard; own = f.own; turn = turn_after_look s.homes k.log v (length k.log) v.state f.turn }),
          (k.log, refl, refl, omega (arith, k.behind, k.room, k.bounded), f.seen, f.own),
        )

-- The rule at the start, as numbers are dealt and taken in, and what it says at the end.
use Rattle.std.proofs.Common.{◌≡◌, ◌≢◌, ⊎_elim, ℕ, zero, suc, ◌+◌, ◌-◌, ◌*◌, ◌^◌, ◌<◌, ◌≤◌, List, [], ◌∷◌, ◌++◌, length, set, eqb, refl, sym, ap, ◌∙◌, subst, arith, Option, Some}
use mathlib.Core.Logic.{dite}
use native.Mathlib.Decide.{ℕ_discrete}
use mathlib.Core.Option as maybe
use mathlib.Core.List.{IsPrefix}
use lib.ListN.{get_elem?}
use Rattle.atomic_table.specs.Table.{State, Splits, Joins, opening}
use Rattle.atomic_table.proofs.Lists.{at_set, at_snoc}
use Rattle.cckd_turn.specs.Entries.{entries_of, total, one_if}
use Rattle.cckd_turn.specs.Views.{with_ticket, has_turn, times, new_names, opening_view, after_dealing, dealt, joined, spent}
use Rattle.cckd_turn.specs.Rule.{has_ticket, has_number, turns, left, IsInTurn, Fits, IsKept}
use Rattle.cckd_turn.specs.declared.view.PassState.{PassState}
use Rattle.cckd_turn.specs.declared.view.PassState.TheVariants.{Idle, Waiting, Holding, Returning}
use Rattle.cckd_turn.specs.declared.view.Terms.{Terms}
use Rattle.cckd_turn.specs.declared.view.View.{View}
use Rattle.cckd_turn.proofs.EntryLemmas.{total-append, total-set, one_of_total, two_of_total, none_of, as_one, as_none, each_append}
use Rattle.cckd_turn.proofs.FrontLemmas.{front_self, front_of_none}
use Rattle.cckd_turn.proofs.ViewLemmas.{times-append, times-second, each_without_second, each_second, new_once, new_only, each_new}
use Rattle.cckd_turn.proofs.RuleLemmas.{total_none, fit_after}

module _ {V E : Type 0} (stands : V → List E → Type 0) (by : E → ℕ) (terms : Terms) where
  abbrev Homes : Type 0
  Homes = List (maybe.Option (Option V))

  abbrev Kept : State (Option V) (View E) → Type 0
  Kept s = IsKept stands by terms s

  pub opens : (value : V) → stands value [] → 0 < terms.callers → terms.callers * terms.each < 2 ^ 63
      → Kept (opening (0 ∷ 0 ∷ []) (Some value ∷ []) (opening_view terms))
  opens value empty some_caller bounded =
      let last : ℕ = terms.callers - 1 in
      record {
        log = [];
        next = 0;
        words = refl;
        behind = omega arith;
        ticket_once = λ t from below. absurd (omega arith);
        ticket_out = λ t some. absurd (omega arith);
        number_once = λ n below. dite (ℕ_discrete last n)
            (λ same. let one = as_one last n same in let none = none_of (times {E = E} n (new_names 0 last)) (λ more. let out = new_only E n 0 last more in absurd (omega arith)) in omega arith)
            (λ apart. let none = as_none last n apart in let once = new_once E n 0 last (omega arith) (omega arith) in omega arith);
        number_of_caller = λ n some. dite (ℕ_discrete last n)
            (λ same. omega arith)
            (λ apart. let none = as_none last n apart in let out = new_only E n 0 last (omega arith) in omega arith);
        room = omega arith;
        bounded = bounded;
        named = tt;
        fits = first;
        home = λ nobody. (value, refl, empty);
      }
    where
      first : (id : ℕ) (v : View E) → get_elem? (opening_view terms ∷ []) id ≡ maybe.some v → Fits stands by (maybe.some (Some value) ∷ []) [] v
      first zero v at = subst (Fits stands by (maybe.some (Some value) ∷ []) []) (maybe.some-injective _ _ at)
          (record { seen = front_self []; heard = tt; own = (refl, each_new E (λ name. entries_of by name.0 [] ≡ name.1) (λ n. refl) 0 (terms.callers - 1)); turn = tt })
      first (suc id) v at = absurd (maybe.some-ne-none v (sym at))

  -- a number is dealt to a new seat
  pub deals : (id : ℕ) (v : View E) → v.state ≡ Idle → v.each ≤ v.left → Splits Kept id v (after_dealing v) (dealt v)
  deals id v idle enough s k at =
      let w = after_dealing v in
      let d = dealt v in
      let f = k.fits id v at in
      let sum : (g : View E → ℕ) → g w + g d ≡ g v → total g (set s.views id w ++ d ∷ []) ≡ total g s.views =
      λ g same. omega (arith, total-append g (set s.views id w) (d ∷ []), total-set g s.views id v w at) in
      let tickets : (t : ℕ) → total (has_ticket t) (set s.views id w ++ d ∷ []) ≡ total (has_ticket t) s.views = λ t. sum (has_ticket t) (omega arith) in
      let numbers : (n : ℕ) → total (has_number n) (set s.views id w ++ d ∷ []) ≡ total (has_number n) s.views = λ n. sum (has_number n) (times-second n v.names) in
      record {
        log = k.log;
        next = k.next;
        words = k.words;
        behind = k.behind;
        ticket_once = λ t from below. tickets t ∙ k.ticket_once t from below;
        ticket_out = λ t some. k.ticket_out t (omega (arith, tickets t));
        number_once = λ n below. numbers n ∙ k.number_once n below;
        number_of_caller = λ n some. k.number_of_caller n (omega (arith, numbers n));
        room = omega (arith, k.room, sum left (omega arith));
        bounded = k.bounded;
        named = k.named;
        fits = λ j u there. ⊎_elim
            (λ was. fit_after stands by s.homes k.log s.views id w (λ i x apart here. k.fits i x here)
            (record {
              seen = f.seen;
              heard = f.heard;
              own = each_without_second (λ name. entries_of by name.0 k.log ≡ name.1) v.names f.own;
              turn = subst (IsInTurn stands s.homes k.log w) (sym idle) tt;
            })
            j u was)
            (λ (same : d ≡ u). subst (Fits stands by s.homes k.log) same
            (record {
              seen = front_of_none k.log;
              heard = tt;
              own = each_second (λ name. entries_of by name.0 k.log ≡ name.1) v.names f.own;
              turn = tt;
            }))
            (at_snoc (set s.views id w) d u j there);
        home = λ nobody. k.home (omega (arith, sum turns (omega arith)));
      }

  -- a seat takes in another's numbers, and what it had seen
  pub joins : (id : ℕ) (v : View E) (other : ℕ) (x : View E) → v.state ≡ Idle → x.state ≡ Idle → Joins Kept id v other x (joined v x) spent
  joins id v other x idle idle' s k at apart there =
      let w = joined v x in
      let f = k.fits id v at in
      let was : get_elem? s.views other ≡ maybe.some x = ⊎_elim (λ (t : (other ≡ id) × (w ≡ x)). absurd (apart t.0)) (λ (t : (other ≢ id) × (get_elem? s.views other ≡ maybe.some x)). t.1) (at_set s.views id other w x there) in
      let g = k.fits other x was in
      let views : List (View E) = set (set s.views id w) other spent in
      let sum : (h : View E → ℕ) → total h views + h x + h v ≡ total h s.views + h w + h spent =
      λ h. omega (arith, total-set h s.views id v w at, total-set h (set s.views id w) other x spent there) in
      let out : (t : ℕ) → has_ticket t x ≡ 0 = λ t. ap (λ (q : PassState). with_ticket q (one_if (eqb x.ticket t))) idle' in
      let tickets : (t : ℕ) → total (has_ticket t) views ≡ total (has_ticket t) s.views = λ t. omega (arith, sum (has_ticket t), out t) in
      let numbers : (n : ℕ) → total (has_number n) views ≡ total (has_number n) s.views = λ n. omega (arith, sum (has_number n), times-append n v.names x.names) in
      let no_turn : turns x ≡ 0 = ap has_turn idle' in
      record {
        log = k.log;
        next = k.next;
        words = k.words;
        behind = k.behind;
        ticket_once = λ t from below. tickets t ∙ k.ticket_once t from below;
        ticket_out = λ t some. k.ticket_out t (omega (arith, tickets t));
        number_once = λ n below. numbers n ∙ k.number_once n below;
        number_of_caller = λ n some. k.number_of_caller n (omega (arith, numbers n));
        room = omega (arith, k.room, sum left);
        bounded = k.bounded;
        named = k.named;
        fits = fit_after stands by s.homes k.log (set s.views id w) other spent
            (λ j u apart' here. fit_after stands by s.homes k.log s.views id w (λ i y apart'' here'. k.fits i y here')
            (record {
              seen = f.seen;
              heard = each_append (λ xs. IsPrefix xs k.log) v.heard (x.seen ∷ x.heard) f.heard (g.seen, g.heard);
              own = each_append (λ name. entries_of by name.0 k.log ≡ name.1) v.names x.names f.own g.own;
              turn = subst (IsInTurn stands s.homes k.log w) (sym idle) tt;
            })
            j u here)
            (record { seen = front_of_none k.log; heard = tt; own = tt; turn = tt });
        home = λ nobody. k.home (omega (arith, sum turns));
      }

  first_of : (names : List (ℕ × List E)) → 0 < length names → (n : ℕ) × (0 < times n names)
  first_of [] some = absurd (omega arith)
  first_of (x ∷ xs) some = (x.0, (let one = as_one x.0 x.0 refl in omega arith))

  name_in_turn : (homes : Homes) (log : List E) (u : View E) (g : PassState) → 0 < has_turn g → IsInTurn stands homes log u g → 0 < length u.names
  name_in_turn homes log u Idle some h = absurd (omega arith)
  name_in_turn homes log u Waiting some h = absurd (omega arith)
  name_in_turn homes log u Holding some h = h.0
  name_in_turn homes log u Returning some h = h.0

  -- once an idle view has every number, nobody has the turn
  pub nobody_left : (s : State (Option V) (View E)) (k : Kept s) (id : ℕ) (v : View E) → get_elem? s.views id ≡ maybe.some v → v.state ≡ Idle
      → ((n : ℕ) → n < terms.callers → 0 < times n v.names) → total turns s.views ≡ 0
  nobody_left s k id v at idle every = total_none turns s.views (λ j u there.
      dite (ℕ_discrete j id)
      (λ same. ap turns (maybe.some-injective u v (sym there ∙ (ap (get_elem? s.views) same ∙ at))) ∙ ap has_turn idle)
      (λ apart. none_of (turns u) (λ some.
      let number = first_of u.names (name_in_turn s.homes k.log u u.state some (k.fits j u there).turn) in
      let caller = k.number_of_caller number.0 (omega (arith, number.1, one_of_total (has_number number.0) s.views j u there)) in
      absurd (omega (arith, number.1, every number.0 caller, k.number_once number.0 caller, two_of_total (has_number number.0) s.views id j v u apart at there)))))

-- The steps of the view that is served: it takes the value, puts it back, and serves the next ticket.
use Rattle.std.proofs.Common.{◌≡◌, ◌≢◌, ℕ, ◌+◌, ◌*◌, ◌%◌, ◌^◌, ◌<◌, List, [], ◌∷◌, ◌++◌, length, set, eqb, refl, sym, ap, ◌∙◌, subst, arith, Option, Some, length-append}
use Rattle.std.specs.Prelude.{slice_index, slice_set}
use mathlib.Core.Logic.{dite}
use native.Mathlib.Decide.{ℕ_discrete}
use mathlib.Core.Option as maybe
use mathlib.Core.List.{IsPrefix}
use lib.ListN.{get_elem?}
use Rattle.atomic_table.specs.Table.{State, Act, keeps, takes, gives, Valid, Allows, homes_after, carried_after}
use Rattle.atomic_table.proofs.Lists.{set_here}
use Rattle.cckd_turn.specs.Entries.{total, one_if, Owns}
use Rattle.cckd_turn.specs.Views.{with_ticket, has_turn, times, holding, returning, served, with_made}
use Rattle.cckd_turn.specs.Rule.{has_ticket, has_number, turns, left, IsHome, IsInTurn, IsKept}
use Rattle.cckd_turn.specs.Steps.{Sat, took, put_back, passed_on}
use Rattle.cckd_turn.specs.declared.view.PassState.{PassState}
use Rattle.cckd_turn.specs.declared.view.PassState.TheVariants.{Idle, Waiting, Holding, Returning}
use Rattle.cckd_turn.specs.declared.view.Terms.{Terms}
use Rattle.cckd_turn.specs.declared.view.View.{View}
use Rattle.cckd_turn.proofs.EntryLemmas.{total-set, one_of_total, two_of_total, none_of, as_one, as_none, each_append, each_weaker}
use Rattle.cckd_turn.proofs.FrontLemmas.{front_self, front_longer, front_whole}
use Rattle.cckd_turn.proofs.ViewLemmas.{times-with_made, names_of_others, names_of_maker}
use Rattle.cckd_turn.proofs.RuleLemmas.{unwrapped, total_none, fit_after}

module _ {V E : Type 0} (stands : V → List E → Type 0) (by : E → ℕ) (terms : Terms) where
  abbrev Homes : Type 0
  Homes = List (maybe.Option (Option V))

  abbrev Kept : State (Option V) (View E) → Type 0
  Kept s = IsKept stands by terms s

  -- a view with the turn has the ticket that is served
  ticket_in_turn : (homes : Homes) (log : List E) (u : View E) (g : PassState) → 0 < has_turn g → IsInTurn stands homes log u g → with_ticket g (one_if (eqb u.ticket (length log))) ≡ 1
  ticket_in_turn homes log u Idle some h = absurd (omega arith)
  ticket_in_turn homes log u Waiting some h = absurd (omega arith)
  ticket_in_turn homes log u Holding some h = as_one u.ticket (length log) h.1
  ticket_in_turn homes log u Returning some h = as_one u.ticket (length log) h.1

  -- where a view has the ticket that is served, no other has the turn
  alone : (s : State (Option V) (View E)) (k : Kept s) (id : ℕ) (v : View E) → get_elem? s.views id ≡ maybe.some v → has_ticket (length k.log) v ≡ 1
      → (j : ℕ) (u : View E) → j ≢ id → get_elem? s.views j ≡ maybe.some u → turns u ≡ 0
  alone s k id v at mine j u apart there =
      none_of (turns u) (λ some. absurd (
      let other = ticket_in_turn s.homes k.log u u.state some (k.fits j u there).turn in
      let both = two_of_total (has_ticket (length k.log)) s.views id j v u apart at there in
      let out = k.ticket_out (length k.log) (omega (arith, one_of_total (has_ticket (length k.log)) s.views id v at)) in
      let once = k.ticket_once (length k.log) out.0 out.1 in
      omega arith))

  -- what is said of a view without the turn rests on neither the list nor the value
  without_turn : (homes homes' : Homes) (log log' : List E) (u : View E) (g : PassState) → has_turn g ≡ 0 → IsInTurn stands homes log u g → IsInTurn stands homes' log' u g
  without_turn homes homes' log log' u Idle none h = tt
  without_turn homes homes' log log' u Waiting none h = h
  without_turn homes homes' log log' u Holding none h = absurd (omega arith)
  without_turn homes homes' log log' u Returning none h = absurd (omega arith)

  -- a view whose ticket is as high as its list is long is served, and has seen the whole list
  served_now : (s : State (Option V) (View E)) (k : Kept s) (id : ℕ) (v : View E) → get_elem? s.views id ≡ maybe.some v → v.state ≡ Waiting → v.ticket ≡ length v.seen
      → (v.seen ≡ k.log) × (has_ticket (length k.log) v ≡ 1) × (length k.log < k.next)
  served_now s k id v at waits is =
      let has : (t : ℕ) → has_ticket t v ≡ one_if (eqb v.ticket t) = λ t. ap (λ (g : PassState). with_ticket g (one_if (eqb v.ticket t))) waits in
      let own : has_ticket v.ticket v ≡ 1 = has v.ticket ∙ as_one v.ticket v.ticket refl in
      let out = k.ticket_out v.ticket (omega (arith, one_of_total (has_ticket v.ticket) s.views id v at)) in
      let whole : v.seen ≡ k.log = front_whole v.seen k.log (k.fits id v at).seen (omega arith) in
      let at_end : v.ticket ≡ length k.log = is ∙ ap length whole in
      (whole, has (length k.log) ∙ as_one v.ticket (length k.log) at_end, omega arith)

  kept_after_taking : (s : State (Option V) (View E)) (id : ℕ) (v : View E) (k : Kept s) → get_elem? s.views id ≡ maybe.some v
      → v.state ≡ Waiting → v.ticket ≡ length v.seen
      → Kept (record { words = k.next ∷ length k.log ∷ []; homes = slice_set s.homes 0 maybe.none; views = set s.views id (holding v) })
  kept_after_taking s id v k at waits is =
      let w = holding v in
      let f = k.fits id v at in
      let now = served_now s k id v at waits is in
      let some_name : 0 < length v.names = subst (IsInTurn stands s.homes k.log v) waits f.turn in
      let ticket : (t : ℕ) → has_ticket t v ≡ has_ticket t w = λ t. ap (λ (g : PassState). with_ticket g (one_if (eqb v.ticket t))) waits in
      let sum : (t : ℕ) → total (has_ticket t) (set s.views id w) ≡ total (has_ticket t) s.views = λ t. omega (arith, total-set (has_ticket t) s.views id v w at, ticket t) in
      let names : (n : ℕ) → total (has_number n) (set s.views id w) ≡ total (has_number n) s.views = λ n. omega (arith, total-set (has_number n) s.views id v w at) in
      let old_turn : turns v ≡ 0 = ap has_turn waits in
      record {
        log = k.log;
        next = k.next;
        words = refl;
        behind = k.behind;
        ticket_once = λ t from below. sum t ∙ k.ticket_once t from below;
        ticket_out = λ t some. k.ticket_out t (omega (arith, sum t));
        number_once = λ n below. names n ∙ k.number_once n below;
        number_of_caller = λ n some. k.number_of_caller n (omega (arith, names n));
        room = omega (arith, k.room, total-set left s.views id v w at);
        bounded = k.bounded;
        named = k.named;
        fits = fit_after stands by (slice_set s.homes 0 maybe.none) k.log s.views id w
            (λ j u apart there. let g = k.fits j u there in record {
              seen = g.seen;
              heard = g.heard;
              own = g.own;
              turn = without_turn s.homes (slice_set s.homes 0 maybe.none) k.log k.log u u.state (alone s k id v at now.1 j u apart there) g.turn;
            })
            (record { seen = f.seen; heard = f.heard; own = f.own; turn = (some_name, is ∙ ap length now.0, now.0) });
        home = λ nobody. absurd (omega (arith, total-set turns s.views id v w at));
      }

  -- nobody has the turn where the one who is served still waits
  nobody_yet : (s : State (Option V) (View E)) (k : Kept s) (id : ℕ) (v : View E) → get_elem? s.views id ≡ maybe.some v → v.state ≡ Waiting → has_ticket (length k.log) v ≡ 1
      → total turns s.views ≡ 0
  nobody_yet s k id v at waits mine = total_none turns s.views (λ j u there.
      dite (ℕ_discrete j id)
      (λ same. ap turns (maybe.some-injective u v (sym there ∙ (ap (get_elem? s.views) same ∙ at))) ∙ ap has_turn waits)
      (λ apart. alone s k id v at mine j u apart there))

  pub takes_turn : (slots id : ℕ) (m : Sat V E) → m.0.state ≡ Waiting → m.0.ticket ≡ length m.0.seen → m.0.callers ≡ terms.callers → m.0.each ≡ terms.each
      → Allows Kept slots id m 1 (λ n. n) (took stands m)
  takes_turn slots id m waits is callers each s k wide at small =
      let v = m.0 in
      let now = served_now s k id v at waits is in
      let home = k.home (nobody_yet s k id v at waits now.1) in
      let calls : v.callers * v.each ≡ terms.callers * terms.each = ap (λ (n : ℕ). n * v.each) callers ∙ ap (λ (n : ℕ). terms.callers * n) each in
      let Goes : List ℕ → Type 0 = λ ws. (w : View E) × (a : Act (Option V)) × Valid s.homes m.1 a
      × Kept (record { words = slice_set ws 1 (slice_index ws 1); homes = homes_after s.homes m.1 a; views = slice_set s.views id w })
      × took stands m (slice_index ws 1) (w, carried_after m.1 a) in
      subst Goes (sym k.words) (
        holding v,
        takes 0 (Some home.0),
        home.1,
        kept_after_taking s id v k at waits is,
        (home.0, refl, subst (stands home.0) (sym now.0) home.2, omega (arith, k.room, ap length now.0, calls), omega (arith, k.room, k.bounded, ap length now.0)),
      )

  kept_after_putting_back : (s : State (Option V) (View E)) (id : ℕ) (v : View E) (value : V) (entry : E) (k : Kept s) → length s.homes ≡ 1 → get_elem? s.views id ≡ maybe.some v
      → v.state ≡ Holding → stands value (v.seen ++ entry ∷ [])
      → Kept (record { words = k.next ∷ length k.log ∷ []; homes = slice_set s.homes 0 (maybe.some (Some value)); views = set s.views id (returning v (entry ∷ [])) })
  kept_after_putting_back s id v value entry k wide at holds ok =
      let w = returning v (entry ∷ []) in
      let homes : Homes = slice_set s.homes 0 (maybe.some (Some value)) in
      let f = k.fits id v at in
      let turn : IsInTurn stands s.homes k.log v Holding = subst (IsInTurn stands s.homes k.log v) holds f.turn in
      let ticket : (t : ℕ) → has_ticket t v ≡ has_ticket t w = λ t. ap (λ (g : PassState). with_ticket g (one_if (eqb v.ticket t))) holds in
      let mine : has_ticket (length k.log) v ≡ 1 = ticket (length k.log) ∙ as_one v.ticket (length k.log) turn.1 in
      let sum : (t : ℕ) → total (has_ticket t) (set s.views id w) ≡ total (has_ticket t) s.views = λ t. omega (arith, total-set (has_ticket t) s.views id v w at, ticket t) in
      let names : (n : ℕ) → total (has_number n) (set s.views id w) ≡ total (has_number n) s.views = λ n. omega (arith, total-set (has_number n) s.views id v w at) in
      let old_turn : turns v ≡ 1 = ap has_turn holds in
      let is_home : IsHome stands homes (k.log ++ entry ∷ []) = (value, set_here s.homes 0 (maybe.some (Some value)) (omega arith), subst (λ (l : List E). stands value (l ++ entry ∷ [])) turn.2 ok) in
      record {
        log = k.log;
        next = k.next;
        words = refl;
        behind = k.behind;
        ticket_once = λ t from below. sum t ∙ k.ticket_once t from below;
        ticket_out = λ t some. k.ticket_out t (omega (arith, sum t));
        number_once = λ n below. names n ∙ k.number_once n below;
        number_of_caller = λ n some. k.number_of_caller n (omega (arith, names n));
        room = omega (arith, k.room, total-set left s.views id v w at);
        bounded = k.bounded;
        named = k.named;
        fits = fit_after stands by homes k.log s.views id w
            (λ j u apart there. let g = k.fits j u there in record {
              seen = g.seen;
              heard = g.heard;
              own = g.own;
              turn = without_turn s.homes homes k.log k.log u u.state (alone s k id v at mine j u apart there) g.turn;
            })
            (record { seen = f.seen; heard = f.heard; own = f.own; turn = (turn.0, turn.1, turn.2, is_home) });
        home = λ nobody. absurd (omega (arith, total-set turns s.views id v w at, one_of_total turns s.views id v at));
      }

  puts_back : (slots id : ℕ) (v : View E) (value : V) (more : List (ℕ × Option V)) (entry : E) → slots ≡ 1 → v.state ≡ Holding → stands value (v.seen ++ entry ∷ [])
      → Allows Kept slots id (v, (0, Some value) ∷ more) 1 (λ n. n) (put_back entry (v, (0, Some value) ∷ more))
  puts_back slots id v value more entry one holds ok s k wide at small =
      let m : Sat V E = (v, (0, Some value) ∷ more) in
      let Goes : List ℕ → Type 0 = λ ws. (w : View E) × (a : Act (Option V)) × Valid s.homes m.1 a
      × Kept (record { words = slice_set ws 1 (slice_index ws 1); homes = homes_after s.homes m.1 a; views = slice_set s.views id w })
      × put_back entry m (slice_index ws 1) (w, carried_after m.1 a) in
      subst Goes (sym k.words) (returning v (entry ∷ []), gives, tt, kept_after_putting_back s id v value entry k (wide ∙ one) at holds ok, refl)

  pub puts_back_as : (slots id : ℕ) (m : Sat V E) (value : V) (more : List (ℕ × Option V)) (entry : E) → slots ≡ 1 → m.1 ≡ (0, Some value) ∷ more
      → m.0.state ≡ Holding → stands value (m.0.seen ++ entry ∷ [])
      → Allows Kept slots id m 1 (λ n. n) (put_back entry m)
  puts_back_as slots id m value more entry one out holds ok =
      subst (λ (held : List (ℕ × Option V)). Allows Kept slots id (m.0, held) 1 (λ n. n) (put_back entry (m.0, held))) (sym out) (puts_back slots id m.0 value more entry one holds ok)

  -- the list has the entry that was made, and the next ticket is served
  kept_after_passing : (s : State (Option V) (View E)) (id up number : ℕ) (v : View E) (own : List E) (e : E) (k : Kept s) → up ≡ length k.log + 1 → get_elem? s.views id ≡ maybe.some v
      → v.state ≡ Returning → v.made ≡ e ∷ [] → by e ≡ number → v.names ≡ (number, own) ∷ []
      → Kept (record { words = k.next ∷ up ∷ []; homes = s.homes; views = set s.views id (served v) })
      × Owns by (k.log ++ e ∷ []) (with_made v.made v.names)
  kept_after_passing s id up number v own e k is_up at returns made mine names =
      let w = served v in
      let log : List E = k.log ++ e ∷ [] in
      let f = k.fits id v at in
      let turn : IsInTurn stands s.homes k.log v Returning = subst (IsInTurn stands s.homes k.log v) returns f.turn in
      let longer : length log ≡ length k.log + 1 = length-append k.log (e ∷ []) in
      let ticket : (t : ℕ) → has_ticket t v ≡ one_if (eqb v.ticket t) = λ t. ap (λ (g : PassState). with_ticket g (one_if (eqb v.ticket t))) returns in
      let first : has_ticket (length k.log) v ≡ 1 = ticket (length k.log) ∙ as_one v.ticket (length k.log) turn.1 in
      let out = k.ticket_out (length k.log) (omega (arith, one_of_total (has_ticket (length k.log)) s.views id v at)) in
      let sum : (t : ℕ) → total (has_ticket t) (set s.views id w) + has_ticket t v ≡ total (has_ticket t) s.views = λ t. omega (arith, total-set (has_ticket t) s.views id v w at) in
      let kept_names : (n : ℕ) → total (has_number n) (set s.views id w) ≡ total (has_number n) s.views = λ n. omega (arith, total-set (has_number n) s.views id v w at, times-with_made n v.made v.names) in
      let named_once : times (by e) v.names ≡ 1 = ap (times (by e)) names ∙ (let one = as_one number (by e) (sym mine) in omega arith) in
      let caller : by e < terms.callers = k.number_of_caller (by e) (omega (arith, one_of_total (has_number (by e)) s.views id v at)) in
      let once : total (has_number (by e)) s.views ≡ 1 = k.number_once (by e) caller in
      let home : IsHome stands s.homes log = subst (λ (l : List E). IsHome stands s.homes (k.log ++ l)) made turn.3 in
      let own_names : Owns by log (with_made v.made v.names) =
      subst (λ (l : List E). Owns by log (with_made l v.names)) (sym made)
      (subst (λ (l : List (ℕ × List E)). Owns by log (with_made (e ∷ []) l)) (sym names)
      (names_of_maker by k.log e (number, own) [] mine (omega (arith, ap (times (by e)) names)) (subst (Owns by k.log) names f.own))) in
      let seen : v.seen ++ v.made ≡ log = ap (λ (l : List E). l ++ v.made) turn.2 ∙ ap (λ (l : List E). k.log ++ l) made in (
        record {
          log = log;
          next = k.next;
          words = ap (λ (n : ℕ). k.next ∷ n ∷ []) (is_up ∙ sym longer);
          behind = omega arith;
          ticket_once = λ t from below. let apart : v.ticket ≢ t = (λ same. omega (arith, turn.1)) in let none = as_none v.ticket t apart in omega (arith, sum t, ticket t, k.ticket_once t (omega arith) below);
          ticket_out = λ t some. let was = k.ticket_out t (omega (arith, sum t)) in dite (ℕ_discrete v.ticket t)
              (λ same. let one = as_one v.ticket t same in absurd (omega (arith, sum t, ticket t, k.ticket_once t was.0 was.1)))
              (λ apart. let at_end : length k.log ≢ t = (λ same. apart (turn.1 ∙ same)) in (omega arith, was.1));
          number_once = λ n below. kept_names n ∙ k.number_once n below;
          number_of_caller = λ n some. k.number_of_caller n (omega (arith, kept_names n));
          room = omega (arith, k.room, total-set left s.views id v w at);
          bounded = k.bounded;
          named = each_append (λ x. by x < terms.callers) k.log (e ∷ []) k.named (caller, tt);
          fits = fit_after stands by s.homes log s.views id w
              (λ j u apart there. let g = k.fits j u there in record {
                seen = front_longer u.seen k.log (e ∷ []) g.seen;
                heard = each_weaker (λ xs. IsPrefix xs k.log) (λ xs. IsPrefix xs log) (λ xs p. front_longer xs k.log (e ∷ []) p) u.heard g.heard;
                own = names_of_others by k.log e u.names (omega (arith, two_of_total (has_number (by e)) s.views id j v u apart at there)) g.own;
                turn = without_turn s.homes s.homes k.log log u u.state (alone s k id v at first j u apart there) g.turn;
              })
              (record {
                seen = subst (λ (l : List E). IsPrefix l log) (sym seen) (front_self log);
                heard = each_weaker (λ xs. IsPrefix xs k.log) (λ xs. IsPrefix xs log) (λ xs p. front_longer xs k.log (e ∷ []) p) v.heard f.heard;
                own = own_names;
                turn = tt;
              });
          home = λ nobody. home;
        },
        own_names,
      )

  pub passes_on : (slots id number : ℕ) (m : Sat V E) (own : List E) (e : E) → m.0.state ≡ Returning → m.0.made ≡ e ∷ [] → by e ≡ number → m.0.names ≡ (number, own) ∷ []
      → Allows Kept slots id m 1 (λ n. (n + 1) % 2 ^ 64) (passed_on by m)
  passes_on slots id number m own e returns made mine names s k wide at small =
      let v = m.0 in
      let turn : IsInTurn stands s.homes k.log v Returning = subst (IsInTurn stands s.homes k.log v) returns (k.fits id v at).turn in
      let low : length k.log < 2 ^ 63 = omega (arith, k.behind, k.room, k.bounded) in
      let kept = kept_after_passing s id ((length k.log + 1) % 2 ^ 64) number v own e k (unwrapped (length k.log) (omega arith)) at returns made mine names in
      let seen : k.log ++ e ∷ [] ≡ v.seen ++ v.made = ap (λ (l : List E). l ++ e ∷ []) (sym turn.2) ∙ ap (λ (l : List E). v.seen ++ l) (sym made) in
      let Goes : List ℕ → Type 0 = λ ws. (w : View E) × (a : Act (Option V)) × Valid s.homes m.1 a
      × Kept (record { words = slice_set ws 1 ((slice_index ws 1 + 1) % 2 ^ 64); homes = homes_after s.homes m.1 a; views = slice_set s.views id w })
      × passed_on by m (slice_index ws 1) (w, carried_after m.1 a) in
      subst Goes (sym k.words) (
        served v,
        keeps,
        tt,
        kept.0,
        (refl, sym (ap length turn.2), low, subst (λ (l : List E). Owns by l (with_made v.made v.names)) seen kept.1),
      )

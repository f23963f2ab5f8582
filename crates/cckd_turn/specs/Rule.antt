-- The rule of the table. Word 0 is the next ticket, word 1 the ticket that is served, and slot 0 has the value.
use Rattle.std.specs.Prelude.{◌≡◌, ℕ, ◌+◌, ◌*◌, ◌^◌, ◌<◌, ◌≤◌, ◌==◌, List, [], ◌∷◌, ◌++◌, length, Option, Some}
use mathlib.Core.Option as maybe
use mathlib.Core.List.{IsPrefix}
use lib.ListN.{get_elem?}
use Rattle.atomic_table.specs.Table.{State}
use Rattle.cckd_turn.specs.Entries.{Each, total, one_if, Owns}
use Rattle.cckd_turn.specs.Views.{with_ticket, has_turn, times}
use Rattle.cckd_turn.specs.declared.view.PassState.{PassState}
use Rattle.cckd_turn.specs.declared.view.PassState.TheVariants.{Idle, Waiting, Holding, Returning}
use Rattle.cckd_turn.specs.declared.view.Terms.{Terms}
use Rattle.cckd_turn.specs.declared.view.View.{View}

module _ {E : Type 0} where
  abbrev pub has_ticket : ℕ → View E → ℕ
  has_ticket t v = with_ticket v.state (one_if (v.ticket == t))

  abbrev pub has_number : ℕ → View E → ℕ
  has_number n v = times n v.names

  abbrev pub turns : View E → ℕ
  turns v = has_turn v.state

  abbrev pub left : View E → ℕ
  left v = v.left

module _ {V E : Type 0} (stands : V → List E → Type 0) where
  -- the value is home, and stands for the list
  abbrev pub IsHome : List (maybe.Option (Option V)) → List E → Type 0
  IsHome homes log = (value : V) × (get_elem? homes 0 ≡ maybe.some (maybe.some (Some value))) × stands value log

  -- Who holds the value or has just put it back is served, has a name, and has seen the whole list
  abbrev pub IsInTurn : List (maybe.Option (Option V)) → List E → View E → PassState → Type 0
  IsInTurn homes log v Idle = Unit {0}
  IsInTurn homes log v Waiting = 0 < length v.names
  IsInTurn homes log v Holding = (0 < length v.names) × (v.ticket ≡ length log) × (v.seen ≡ log)
  IsInTurn homes log v Returning = (0 < length v.names) × (v.ticket ≡ length log) × (v.seen ≡ log) × IsHome homes (log ++ v.made)

  module _ (by : E → ℕ) where
    -- what holds of each view
    pub record Fits (homes : List (maybe.Option (Option V))) (log : List E) (v : View E) : Type 0 where
      pub seen : IsPrefix v.seen log
      pub heard : Each (λ xs. IsPrefix xs log) v.heard
      pub own : Owns by log v.names
      pub turn : IsInTurn homes log v v.state

    pub record IsKept (terms : Terms) (s : State (Option V) (View E)) : Type 0 where
      pub log : List E
      pub next : ℕ
      pub words : s.words ≡ next ∷ length log ∷ []
      pub behind : length log ≤ next
      -- each ticket that was drawn and isn't served out is with one view, and no other ticket is with any
      pub ticket_once : (t : ℕ) → length log ≤ t → t < next → total (has_ticket t) s.views ≡ 1
      pub ticket_out : (t : ℕ) → 0 < total (has_ticket t) s.views → (length log ≤ t) × (t < next)
      -- each caller's number is with one view, and no other number is with any
      pub number_once : (n : ℕ) → n < terms.callers → total (has_number n) s.views ≡ 1
      pub number_of_caller : (n : ℕ) → 0 < total (has_number n) s.views → n < terms.callers
      pub room : next + total left s.views ≤ terms.callers * terms.each
      pub bounded : terms.callers * terms.each < 2 ^ 63
      pub named : Each (λ e. by e < terms.callers) log
      pub fits : (id : ℕ) (v : View E) → get_elem? s.views id ≡ maybe.some v → Fits s.homes log v
      -- where nobody has the value, it is home
      pub home : total turns s.views ≡ 0 → IsHome s.homes log

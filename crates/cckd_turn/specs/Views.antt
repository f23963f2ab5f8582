-- What a pass knows, and how it changes. The views exist for the proofs alone.
use Rattle.std.specs.Prelude.{ℕ, zero, suc, ◌+◌, ◌-◌, ◌*◌, ◌==◌, List, [], ◌∷◌, ◌++◌}
use Rattle.cckd_turn.specs.Entries.{one_if}
use Rattle.cckd_turn.specs.declared.view.PassState.{PassState}
use Rattle.cckd_turn.specs.declared.view.PassState.TheVariants.{Idle, Waiting, Holding, Returning}
use Rattle.cckd_turn.specs.declared.view.Terms.{Terms}
use Rattle.cckd_turn.specs.declared.view.View.{View}

-- n where the view has a ticket, and 0 where it is idle
abbrev pub with_ticket : PassState → ℕ → ℕ
with_ticket Idle n = 0
with_ticket Waiting n = n
with_ticket Holding n = n
with_ticket Returning n = n

-- 1 where the value is out with the view, or is only just home from it
abbrev pub has_turn : PassState → ℕ
has_turn Idle = 0
has_turn Waiting = 0
has_turn Holding = 1
has_turn Returning = 1

-- how many of the names have the number n
abbrev pub times : {E : Type 0} → ℕ → List (ℕ × List E) → ℕ
times n [] = 0
times n (x ∷ xs) = one_if (x.0 == n) + times n xs

-- as many names as `count`, from the number `first` on, none of which has an entry
abbrev pub new_names : {E : Type 0} → ℕ → ℕ → List (ℕ × List E)
new_names first zero = []
new_names first (suc count) = (first, []) ∷ new_names (first + 1) count

-- the second name of a list, if there is one
abbrev pub second_name : {E : Type 0} → List (ℕ × List E) → List (ℕ × List E)
second_name [] = []
second_name (x ∷ []) = []
second_name (x ∷ y ∷ ys) = y ∷ []

-- the list without it
abbrev pub without_second : {E : Type 0} → List (ℕ × List E) → List (ℕ × List E)
without_second [] = []
without_second (x ∷ []) = x ∷ []
without_second (x ∷ y ∷ ys) = x ∷ ys

-- the first name has the new entries too
abbrev pub with_made : {E : Type 0} → List E → List (ℕ × List E) → List (ℕ × List E)
with_made made [] = []
with_made made (x ∷ xs) = (x.0, x.1 ++ made) ∷ xs

-- the entries of the first name
abbrev pub first_own : {E : Type 0} → List (ℕ × List E) → List E
first_own [] = []
first_own (x ∷ xs) = x.1

module _ {E : Type 0} where
  -- an idle view that has seen nothing
  abbrev pub blank : ℕ → ℕ → ℕ → List (ℕ × List E) → View E
  blank callers each left names =
      record {
        state = Idle;
        callers = callers;
        each = each;
        left = left;
        ticket = 0;
        seen = [];
        heard = [];
        made = [];
        names = names;
        serving = 0;
        found = 0;
        looks = 0;
        tries = 0;
      }

  -- a view that was taken in by another
  abbrev pub spent : View E
  spent = blank 0 0 0 []

  -- the view of the first seat, which has all numbers: the last is its own, and it deals the others
  abbrev pub opening_view : Terms → View E
  opening_view t = blank t.callers t.each (t.callers * t.each) ((t.callers - 1, []) ∷ new_names 0 (t.callers - 1))

  abbrev pub after_dealing : View E → View E
  after_dealing v = record v { left = v.left - v.each; names = without_second v.names }

  abbrev pub dealt : View E → View E
  dealt v = blank v.callers v.each v.each (second_name v.names)

  -- the view takes in another: its names, and what it had seen
  abbrev pub joined : View E → View E → View E
  joined v w = record v { heard = v.heard ++ w.seen ∷ w.heard; names = v.names ++ w.names }

  abbrev pub waiting : View E → ℕ → View E
  waiting v ticket = record v { state = Waiting; ticket = ticket; left = v.left - 1 }

  abbrev pub refused : View E → ℕ → View E
  refused v found = record v { found = found; tries = v.tries + 1 }

  -- the list was seen, at the last of some looks
  abbrev pub seen_until : View E → List E → ℕ → ℕ → View E
  seen_until v log serving looks = record v { seen = log; serving = serving; looks = looks }

  abbrev pub looking : View E → List E → ℕ → View E
  looking v log serving = seen_until v log serving (v.looks + 1)

  abbrev pub holding : View E → View E
  holding v = record v { state = Holding }

  abbrev pub returning : View E → List E → View E
  returning v made = record v { state = Returning; made = made }

  abbrev pub served : View E → View E
  served v = record v { state = Idle; seen = v.seen ++ v.made; names = with_made v.made v.names }

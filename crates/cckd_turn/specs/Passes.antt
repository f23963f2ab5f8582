-- What callers see of a table, of its passes and of a value that was taken.
use Rattle.std.specs.Prelude.{◌≡◌, ◌≢◌, ℕ, ◌+◌, ◌*◌, ◌^◌, ◌<◌, ◌≤◌, List, [], ◌∷◌, ◌++◌, length, Option, Some, None, slice_get}
use mathlib.Core.List.{IsPrefix}
use Rattle.atomic_table.specs.Seated.{TableId}
use Rattle.atomic_table.specs.declared.shared.Seat.{Seat}
use Rattle.cckd_turn.specs.Entries.{entries_of}
use Rattle.cckd_turn.specs.Views.{spent, first_own}
use Rattle.cckd_turn.specs.declared.view.PassState.TheVariants.{Idle, Holding}
use Rattle.cckd_turn.specs.declared.view.View.{View}
use Rattle.cckd_turn.specs.declared.pass.Pass.{Pass}
use Rattle.cckd_turn.specs.declared.pass.Taken.{Taken}
use Rattle.cckd_turn.specs.declared.table.TurnTable.{TurnTable}

module _ {E : Type 0} where
  abbrev pub known : List (View E) → View E
  known [] = spent
  known (v ∷ vs) = v

  -- what the pass knows
  abbrev pub view_of : Pass E → View E
  view_of p = known p.badge.views

  abbrev pub number_of : Pass E → ℕ
  number_of p = p.number

  -- how many calls the pass may still make
  abbrev pub left_of : Pass E → ℕ
  left_of p = p.left

  -- the beginning of the history that the pass has seen
  abbrev pub seen_by : Pass E → List E
  seen_by p = (view_of p).seen

  -- the entries that the pass made
  abbrev pub own_of : Pass E → List E
  own_of p = first_own (view_of p).names

  -- how often the pass looked which ticket is served, and how often a try of it found another
  abbrev pub looks_of : Pass E → ℕ
  looks_of p = (view_of p).looks

  abbrev pub tries_of : Pass E → ℕ
  tries_of p = (view_of p).tries

  -- the numbers that the pass last read
  abbrev pub last_serving : Pass E → ℕ
  last_serving p = (view_of p).serving

  abbrev pub last_ticket : Pass E → ℕ
  last_ticket p = (view_of p).found

  -- a pass comes back with no value: it has seen the history so far, and is else as before
  pub record Stays (by : E → ℕ) (old new : Pass E) : Type 0 where
    pub number : number_of new ≡ number_of old
    pub left : left_of new ≡ left_of old
    pub begins : IsPrefix (seen_by old) (seen_by new)
    pub own : own_of new ≡ own_of old
    pub whole : entries_of by (number_of old) (seen_by new) ≡ own_of old

  -- the pass last read these two numbers, which differ, and the first is the length of what it has seen
  pub record IsBusy (p : Pass E) (serving ticket : ℕ) : Type 0 where
    pub serving_is : serving ≡ last_serving p
    pub ticket_is : ticket ≡ last_ticket p
    pub differ : ticket ≢ serving
    pub served : length (seen_by p) ≡ serving

module _ {V E : Type 0} where
  abbrev pub callers_of : TurnTable V E → ℕ
  callers_of t = t.table.shared.key.callers

  abbrev pub calls_each_of : TurnTable V E → ℕ
  calls_each_of t = t.table.shared.key.each

  abbrev pub table_id_of : TurnTable V E → TableId
  table_id_of t = t.table.shared.table_id

  -- the same words for a value that is out
  abbrev pub seen_in : Taken V E → List E
  seen_in x = x.seat.me.0.seen

  abbrev pub own_in : Taken V E → List E
  own_in x = first_own x.seat.me.0.names

  abbrev pub looks_in : Taken V E → ℕ
  looks_in x = x.seat.me.0.looks

  abbrev pub tries_in : Taken V E → ℕ
  tries_in x = x.seat.me.0.tries

  -- the pass is one of the table's, and no value is out with it
  pub record IsResting (t : TurnTable V E) (p : Pass E) : Type 0 where
    pub here : p.badge.views ≡ view_of p ∷ []
    pub table : p.badge.table_id ≡ table_id_of t
    pub idle : (view_of p).state ≡ Idle
    pub name : (view_of p).names ≡ (number_of p, own_of p) ∷ []
    pub left : (view_of p).left ≡ p.left
    pub front : length (seen_by p) ≡ p.front
    pub callers : (view_of p).callers ≡ callers_of t
    pub each : (view_of p).each ≡ calls_each_of t

  -- the seat is the table's, and holds the value for this pass
  pub record IsOut (t : TurnTable V E) (p : Pass E) (seat : Seat (Option V) (View E)) : Type 0 where
    pub out : p.badge.views ≡ []
    pub table : seat.table_id ≡ table_id_of t
    pub slot : seat.me.1 ≡ (0, None) ∷ []
    pub holding : seat.me.0.state ≡ Holding
    pub name : seat.me.0.names ≡ (number_of p, first_own seat.me.0.names) ∷ []
    pub left : seat.me.0.left ≡ p.left
    pub callers : seat.me.0.callers ≡ callers_of t
    pub each : seat.me.0.each ≡ calls_each_of t

  -- the value is the table's, and it is out with this pass, whatever was done to it since
  abbrev pub IsTakenBy : TurnTable V E → Pass E → Taken V E → Type 0
  IsTakenBy t p x = IsOut t p x.seat

  -- one call more finds room in the history
  abbrev pub HasRoom : TurnTable V E → List E → Type 0
  HasRoom t log = (length log < callers_of t * calls_each_of t) × (length log < 2 ^ 63)

  -- the k-th pass of a new table
  pub record IsNew (t : TurnTable V E) (k : ℕ) (p : Pass E) : Type 0 where
    pub resting : IsResting t p
    pub number : number_of p ≡ k
    pub left : left_of p ≡ calls_each_of t
    pub seen : seen_by p ≡ []
    pub own : own_of p ≡ []
    pub looks : looks_of p ≡ 0
    pub tries : tries_of p ≡ 0

  -- these are the passes of a new table, in the order of their numbers
  pub record AreDealt (t : TurnTable V E) (callers each : ℕ) (passes : List (Pass E)) : Type 0 where
    pub callers_are : callers_of t ≡ callers
    pub each_is : calls_each_of t ≡ each
    pub count : length passes ≡ callers
    pub new : (k : ℕ) (p : Pass E) → slice_get passes k ≡ Some p → IsNew t k p

  -- a pass takes the value: it has seen the history so far, and makes one call less
  pub record Enters (by : E → ℕ) (old new : Pass E) (x : Taken V E) : Type 0 where
    pub number : number_of new ≡ number_of old
    pub left : left_of new + 1 ≡ left_of old
    pub begins : IsPrefix (seen_by old) (seen_in x)
    pub own : own_in x ≡ own_of old
    pub whole : entries_of by (number_of old) (seen_in x) ≡ own_of old

  -- a pass gives the value back: the history that it had seen has one entry more, which is its own
  pub record Leaves (by : E → ℕ) (entry : E) (old : Pass E) (x : Taken V E) (new : Pass E) : Type 0 where
    pub number : number_of new ≡ number_of old
    pub left : left_of new ≡ left_of old
    pub seen : seen_by new ≡ seen_in x ++ entry ∷ []
    pub own : own_of new ≡ own_in x ++ entry ∷ []
    pub whole : entries_of by (number_of old) (seen_by new) ≡ own_of new
    pub looks : looks_of new ≡ looks_in x
    pub tries : tries_of new ≡ tries_in x

  -- the pass may make this many calls
  abbrev pub IsReady : TurnTable V E → Pass E → ℕ → Type 0
  IsReady t p calls = IsResting t p × (calls ≤ left_of p)

  -- the pass is back, after calls or none
  abbrev pub IsBack : TurnTable V E → Pass E → Pass E → Type 0
  IsBack t old new = IsResting t new × (number_of new ≡ number_of old)

  -- these are all passes of the table, and no value is out with any
  pub record AreAll (t : TurnTable V E) (passes : List (Pass E)) : Type 0 where
    pub resting : (k : ℕ) (p : Pass E) → slice_get passes k ≡ Some p → IsResting t p
    pub every : (n : ℕ) → n < callers_of t → (k : ℕ) × (p : Pass E) × (slice_get passes k ≡ Some p) × (number_of p ≡ n)

  -- the value stands for the whole history. It has each pass's own entries and no others, and begins with what each had seen
  pub record Closes (stands : V → List E → Type 0) (by : E → ℕ) (passes : List (Pass E)) (value : V) : Type 0 where
    pub log : List E
    pub stands_for : stands value log
    pub own : (k : ℕ) (p : Pass E) → slice_get passes k ≡ Some p → entries_of by (number_of p) log ≡ own_of p
    pub begins : (k : ℕ) (p : Pass E) → slice_get passes k ≡ Some p → IsPrefix (seen_by p) log
    pub no_others : (k : ℕ) (e : E) → slice_get log k ≡ Some e → (j : ℕ) × (p : Pass E) × (slice_get passes j ≡ Some p) × (number_of p ≡ by e)

-- What each step tells: of the seat before, the number found and the seat after.
use Rattle.std.specs.Prelude.{◌≡◌, ◌≢◌, ℕ, ◌*◌, ◌^◌, ◌<◌, ◌≤◌, List, [], ◌∷◌, ◌++◌, length, Option, Some}
use mathlib.Core.List.{IsPrefix}
use Rattle.atomic_table.specs.Table.{Me, rest}
use Rattle.cckd_turn.specs.Entries.{Owns}
use Rattle.cckd_turn.specs.Views.{waiting, refused, seen_until, looking, holding, returning, served, with_made}
use Rattle.cckd_turn.specs.declared.view.View.{View}

-- what a seat of the table has seen
abbrev pub Sat : Type 0 → Type 0 → Type 0
Sat V E = Me (Option V) (View E)

module _ {V E : Type 0} where
  abbrev pub drawn : Sat V E → ℕ → Sat V E → Type 0
  drawn before found after = after ≡ (waiting before.0 found, before.1)

  -- the ticket was drawn where the word had the number that was served, and else the word's number is kept
  abbrev pub tried : ℕ → Sat V E → ℕ → Sat V E → Type 0
  tried serving before found after =
      (found ≡ serving → after ≡ (waiting before.0 found, before.1))
      × (found ≢ serving → after ≡ (refused before.0 found, before.1))

  -- the list so far was seen, whose length was found
  abbrev pub looked : (E → ℕ) → Sat V E → ℕ → Sat V E → Type 0
  looked by before found after =
      (log : List E)
      × (after ≡ (looking before.0 log found, before.1))
      × (length log ≡ found)
      × (found < 2 ^ 63)
      × IsPrefix before.0.seen log
      × Owns by log before.0.names

  -- the value was taken out, and stands for the list that was seen
  abbrev pub took : (V → List E → Type 0) → Sat V E → ℕ → Sat V E → Type 0
  took stands before found after =
      (value : V)
      × (after ≡ (holding before.0, (0, Some value) ∷ before.1))
      × stands value before.0.seen
      × (length before.0.seen < before.0.callers * before.0.each)
      × (length before.0.seen < 2 ^ 63)

  abbrev pub put_back : E → Sat V E → ℕ → Sat V E → Type 0
  put_back entry before found after = after ≡ (returning before.0 (entry ∷ []), rest before.1)

  -- the turn went on, and the list has the entry
  abbrev pub passed_on : (E → ℕ) → Sat V E → ℕ → Sat V E → Type 0
  passed_on by before found after =
      (after ≡ (served before.0, before.1))
      × (found ≡ length before.0.seen)
      × (found < 2 ^ 63)
      × Owns by (before.0.seen ++ before.0.made) (with_made before.0.made before.0.names)

-- after some looks, or none, the view has seen no less
abbrev pub HasLooked : {V E : Type 0} → Sat V E → Sat V E → Type 0
HasLooked {V} {E} before after =
    (log : List E) × (serving looks : ℕ)
    × (after ≡ (seen_until before.0 log serving looks, before.1))
    × IsPrefix before.0.seen log
    × (before.0.looks ≤ looks)

-- after the last look the view's ticket is served
abbrev pub HasWaited : {V E : Type 0} → (E → ℕ) → Sat V E → Sat V E → Type 0
HasWaited {V} {E} by before after =
    (log : List E) × (looks : ℕ)
    × (after ≡ (seen_until before.0 log before.0.ticket looks, before.1))
    × (length log ≡ before.0.ticket)
    × (before.0.looks < looks)
    × IsPrefix before.0.seen log
    × Owns by log before.0.names

-- The used and the free space of a sound image cover it.
use Rattle.std.proofs.Common.{◌≡◌, ℕ, ◌+◌, ◌-◌, ◌<◌, ◌≤◌, nat_le, nat_lt, ◌&&◌, cond, List, [], ◌∷◌, ◌++◌, length, sym, ◌∙◌, ap, inl, inr, arith}
use Rattle.std.proofs.lemmas.Bool.{cases_lt, cond-true, cond-false, and_from, and_left, and_right, le-leb, lt-ltb, le-ltb, lt-leb}
use Rattle.cckd_base.specs.declared.geometry.Layout.{Layout}
use Rattle.cckd_base.specs.declared.space.Extent.{Extent}
use Rattle.cckd_base.specs.Survey.{used_spaces, StandApart}
use Rattle.cckd_base.specs.Image.{IsSound}
use Rattle.cckd_base.proofs.HeaderLemmas.{headed_layout, headed_area}
use Rattle.cckd_space.specs.declared.piece.Piece.{Piece}
use Rattle.cckd_space.specs.Pieces.{free_piece, free_run, free_runs}
use Rattle.cckd_space.proofs.LaidLemmas.{used_le}
use Rattle.cckd_tables.specs.Kept.{holders}
use Rattle.cckd_tables.proofs.MeetLemmas.{hold_in, hold_before, hold_past}
use Rattle.cckd_layer.proofs.SurveyedLemmas.{used_stand}
use Rattle.cckd_stack.specs.Opened.{IsCovered, runs_with}

-- 1 for a place between two others, and else 0
abbrev between_them : ℕ → ℕ → ℕ → ℕ
between_them from to at = cond (nat_le from at && nat_lt at to) 1 0

is_between : (from to at : ℕ) → from ≤ at → at < to → between_them from to at ≡ 1
is_between from to at low high = cond-true _ 1 0 (and_from _ _ (le-leb from at low) (lt-ltb at to high))

is_below : (from to at : ℕ) → at < from → between_them from to at ≡ 0
is_below from to at h = cond-false _ 1 0 (and_left _ _ (lt-leb from at h))

is_above : (from to at : ℕ) → to ≤ at → between_them from to at ≡ 0
is_above from to at h = cond-false _ 1 0 (and_right _ _ (le-ltb at to h))

runs_append : (at : ℕ) (ps qs : List Piece) → runs_with at (ps ++ qs) ≡ runs_with at ps + runs_with at qs
runs_append at [] qs = omega arith
runs_append at (p ∷ ps) qs = omega (arith, runs_append at ps qs)

-- a free run holds what lies between its ends
run_holds : (from to at : ℕ) → from ≤ to → runs_with at (free_run from to) ≡ between_them from to at
run_holds from to at order = elim (cases_lt from to) [
  | inl some ↦
      let one : free_run from to ≡ free_piece from (to - from) ∷ [] = cond-true (nat_lt from to) (free_piece from (to - from) ∷ []) [] (lt-ltb from to some) in
      let end : from + (to - from) ≡ to = omega (arith, some) in
      ap (runs_with at) one ∙ (let z : between_them from (from + (to - from)) at + 0 ≡ between_them from (from + (to - from)) at = omega arith in z)
      ∙ ap (λ (n : ℕ). between_them from n at) end
  | inr none ↦
      let nothing : free_run from to ≡ [] = cond-false (nat_lt from to) (free_piece from (to - from) ∷ []) [] (le-ltb from to none) in
      ap (runs_with at) nothing ∙ sym (elim (cases_lt at from) [
        | inl below ↦ is_below from to at below
        | inr past ↦ is_above from to at (omega (arith, past, none))
      ])
]

-- so do the spaces that stand apart, and the free runs beside them
covers : (at from : ℕ) (es : List Extent) (size : ℕ) → StandApart from es size
    → holders at es + runs_with at (free_runs from es size) ≡ between_them from size at
covers at from [] size h = let r : runs_with at (free_run from size) ≡ between_them from size at = run_holds from size at h in omega (arith, r)
covers at from (e ∷ es) size h =
    let end = e.pos + e.size in
    let last = used_le end es size h.3 in
    let rest = covers at end es size h.3 in
    let run = run_holds from e.pos at h.0 in
    let parts = runs_append at (free_run from e.pos) (free_runs end es size) in
    elim (cases_lt at from) [
      | inl below ↦
          let a = is_below from size at below in
          let b = is_below from e.pos at below in
          let c = is_below end size at (omega (arith, below, h.0)) in
          let d = hold_before at e (omega (arith, below, h.0)) in
          omega arith
      | inr low ↦ elim (cases_lt at e.pos) [
        | inl before ↦
            let a = is_between from size at low (omega (arith, before, last)) in
            let b = is_between from e.pos at low before in
            let c = is_below end size at (omega (arith, before)) in
            let d = hold_before at e before in
            omega arith
        | inr here ↦ elim (cases_lt at end) [
          | inl inside ↦
              let a = is_between from size at low (omega (arith, inside, last)) in
              let b = is_above from e.pos at here in
              let c = is_below end size at inside in
              let d = hold_in at e here inside in
              omega arith
          | inr behind ↦ elim (cases_lt at size) [
            | inl within ↦
                let a = is_between from size at low within in
                let b = is_above from e.pos at here in
                let c = is_between end size at behind within in
                let d = hold_past at e behind in
                omega arith
            | inr past ↦
                let a = is_above from size at past in
                let b = is_above from e.pos at here in
                let c = is_above end size at past in
                let d = hold_past at e behind in
                omega arith
          ]
        ]
      ]
    ]

pub sound_is_covered : (identifiers : List (List ℕ)) (l : Layout) (file : List ℕ) → IsSound identifiers l file → IsCovered l file
sound_is_covered identifiers l file sound =
    let stand = used_stand l file (headed_layout identifiers l file sound.headed) (headed_area identifiers l file sound.headed) sound.clean in
    record {
      inside = λ at low. covers at 0 (used_spaces l file) (length file) stand ∙ is_between 0 (length file) at (omega arith) low;
      past = λ at high. covers at 0 (used_spaces l file) (length file) stand ∙ is_above 0 (length file) at high;
    }

-- The laws of outcomes of all slots together, one event more of each kind.
use Rattle.std.proofs.Common.{◌≡◌, ℕ, ◌==◌, List, ◌∷◌, refl, sym, subst, inl, inr}
use Rattle.std.specs.Prelude.{if◌then◌else◌}
use Rattle.std.proofs.lemmas.Bool.{cases_Bool, cond-true, cond-false, eq-eqb, ne_eqb, eqb-true, eqb-false}
use Rattle.cckd_shelf.specs.Events.{Event, file_now}
use Rattle.cckd_shelf.specs.Outcomes.{IsOutcome, IsCrashImage}
use Rattle.cckd_shelf.proofs.OutcomeLemmas.{now_is_outcome}

-- the file with every operation made, of each slot, is itself an outcome
pub now_is_crash_image : (es : List Event) → IsCrashImage es (file_now es)
now_is_crash_image es slot = now_is_outcome es slot

-- the files with another one in a slot
abbrev pub with_slot : (ℕ → List ℕ) → ℕ → List ℕ → ℕ → List ℕ
with_slot files slot file other = if other == slot then file else files other

pub slot_here : (files : ℕ → List ℕ) (slot : ℕ) (file : List ℕ) → with_slot files slot file slot ≡ file
slot_here files slot file = cond-true (slot == slot) file (files slot) (eq-eqb slot slot refl)

pub slot_other : (files : ℕ → List ℕ) (slot : ℕ) (file : List ℕ) (k : ℕ) → (slot ≡ k → ⊥) → with_slot files slot file k ≡ files k
slot_other files slot file k apart = cond-false (k == slot) file (files k) (ne_eqb k slot (λ e. apart (sym e)))

-- an outcome of one slot beside outcomes of the others
pub image_with : (es : List Event) (files : ℕ → List ℕ) (slot : ℕ) (file : List ℕ) → IsOutcome es slot file → ((k : ℕ) → (slot ≡ k → ⊥) → IsOutcome es k (files k))
    → IsCrashImage es (with_slot files slot file)
image_with es files slot file here others k =
    elim (cases_Bool (k == slot)) [
      | inl same ↦
          let e : k ≡ slot = eqb-true k slot same in
          subst (IsOutcome es k) (sym (cond-true (k == slot) file (files k) same)) (subst (λ (n : ℕ). IsOutcome es n file) (sym e) here)
      | inr other ↦ subst (IsOutcome es k) (sym (cond-false (k == slot) file (files k) other)) (others k (λ e. eqb-false k slot other (sym e)))
    ]

-- calls of a shelf that tells, at Ok and at a failure at once

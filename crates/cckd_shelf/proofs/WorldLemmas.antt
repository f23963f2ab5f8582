-- How the words on a world change by each call, for callers.
use Rattle.std.proofs.Common.{◌≡◌, ◌⊎◌, ℕ, ◌==◌, Bool, true, false, cond, List, [], ◌∷◌, ◌++◌, Option, Some, None, Result, Ok, Err, OnOk, unwrap_or, refl, sym, ◌∙◌, ap, subst, inl, inr, append_assoc}
use Rattle.std.specs.Prelude.{◌&&◌, not}
use Rattle.std.specs.Str.{bytes_eq}
use Rattle.std.proofs.lemmas.Bool.{cases_Bool, cond-true, cond-false, eq-eqb}
use Rattle.std.proofs.lemmas.List.{append-nil}
use Rattle.std.proofs.lemmas.Slice.Eq.{bytes_eq-Decides}
use Rattle.cckd_shelf.specs.Events.{Event, Written, Torn, Cut, HalfCut, Synced, Put, Bound, Named, is_name, name_of, was_bound, named_by, goes_by, is_about, begun, held_now, file_now, is_sure, ops_of, output_of}
use Rattle.cckd_shelf.specs.Files.{overlaid}
use Rattle.cckd_shelf.specs.World.{World, IsSure, IsTied, file_of, held_by, after_bind, after_write}
use Rattle.cckd_shelf.proofs.NameLemmas.{same_text, about_own, name_was_bound}

is_own : (o : Option (List ℕ)) (name : List ℕ) → is_name o name ≡ true → o ≡ Some name
is_own None name e = cc
is_own (Some own) name e = let same : own ≡ name = (bytes_eq-Decides own name).0 e in ap (λ (n : List ℕ). Some n) same

-- a slot that has a name holds what the name holds
pub tied_slot : (w : World) (slot : ℕ) (name : List ℕ) → IsTied w → name_of w.events slot ≡ Some name → held_by w name ≡ file_of w slot
tied_slot w slot name tied e =
    tied.named name (name_was_bound w.events slot name e) ∙ ap (λ (o : Option (List ℕ)). held_now w.events (named_by slot o)) (sym e)

-- a slot that is bound has the name, and goes by it
own_name : (es : List Event) (slot : ℕ) (name bytes : List ℕ) → name_of (Bound slot name bytes ∷ es) slot ≡ Some name
own_name es slot name bytes = cond-true (slot == slot) (Some name) _ (eq-eqb slot slot refl)

own_goes : (es : List Event) (slot : ℕ) (name bytes : List ℕ) → goes_by (Bound slot name bytes ∷ es) slot ≡ Named name
own_goes es slot name bytes = ap (named_by slot) (own_name es slot name bytes)

first_begins : (es : List Event) (name bytes : List ℕ) → was_bound es name ≡ false → begun es name bytes (Named name) ≡ Some bytes
first_begins es name bytes e =
    cond-true (bytes_eq name name && not (was_bound es name)) (Some bytes) None
    (ap (λ (b : Bool). b && not (was_bound es name)) (same_text name) ∙ ap not e)

again_begins : (es : List Event) (name bytes : List ℕ) → was_bound es name ≡ true → begun es name bytes (Named name) ≡ None
again_begins es name bytes e =
    cond-false (bytes_eq name name && not (was_bound es name)) (Some bytes) None
    (ap (λ (b : Bool). b && not (was_bound es name)) (same_text name) ∙ ap not e)

bound_holds : (es : List Event) (slot : ℕ) (name bytes : List ℕ) → (was_bound es name ≡ true → bytes ≡ held_now es (Named name))
    → file_now (Bound slot name bytes ∷ es) slot ≡ bytes
bound_holds es slot name bytes same =
    ap (held_now (Bound slot name bytes ∷ es)) (own_goes es slot name bytes)
    ∙ elim (cases_Bool (was_bound es name)) [
      | inl k ↦ ap (λ (o : Option (List ℕ)). unwrap_or o (held_now es (Named name))) (again_begins es name bytes k) ∙ sym (same k)
      | inr k ↦ ap (λ (o : Option (List ℕ)). unwrap_or o (held_now es (Named name))) (first_begins es name bytes k)
    ]

-- After a slot got the file of a name, it holds what the name holds. It need not be known whether the slot had
-- the name before.
pub bind_holds : (w : World) (slot : ℕ) (name : List ℕ) → IsTied w → file_of (after_bind slot name w) slot ≡ held_by w name
bind_holds w slot name tied =
    elim (cases_Bool (is_name (name_of w.events slot) name)) [
      | inl k ↦ ap (λ (x : World). file_of x slot) (cond-true (is_name (name_of w.events slot) name) w _ k)
          ∙ sym (tied_slot w slot name tied (is_own (name_of w.events slot) name k))
      | inr k ↦ ap (λ (x : World). file_of x slot) (cond-false (is_name (name_of w.events slot) name) w (record w { events = Bound slot name (held_by w name) ∷ w.events }) k)
          ∙ bound_holds w.events slot name (held_by w name) (tied.named name)
    ]

-- the slot then has the name
pub bind_names : (w : World) (slot : ℕ) (name : List ℕ) → name_of (after_bind slot name w).events slot ≡ Some name
bind_names w slot name =
    elim (cases_Bool (is_name (name_of w.events slot) name)) [
      | inl k ↦ ap (λ (x : World). name_of x.events slot) (cond-true (is_name (name_of w.events slot) name) w _ k) ∙ is_own (name_of w.events slot) name k
      | inr k ↦ ap (λ (x : World). name_of x.events slot) (cond-false (is_name (name_of w.events slot) name) w (record w { events = Bound slot name (held_by w name) ∷ w.events }) k)
          ∙ own_name w.events slot name (held_by w name)
    ]

-- what a bind of one slot leaves of another that has another name

-- and so do its file and its name
pub record Leaves (w new : World) (other : ℕ) : Type 0 where
  pub file : file_of new other ≡ file_of w other
  pub name : name_of new.events other ≡ name_of w.events other

-- what a bind leaves of the world
pub record BindKeeps (w new : World) : Type 0 where
  pub files : new.files ≡ w.files
  pub script : new.script ≡ w.script
  pub sure : is_sure new.events ≡ is_sure w.events
  pub ops : ops_of new.events ≡ ops_of w.events
  pub output : output_of new.events ≡ output_of w.events

pub bind_keeps : (w : World) (slot : ℕ) (name : List ℕ) → BindKeeps w (after_bind slot name w)
bind_keeps w slot name =
    elim (is_name (name_of w.events slot) name) as (λ b. BindKeeps w (cond b w (record w { events = Bound slot name (held_by w name) ∷ w.events }))) [
      | true ↦ record { files = refl; script = refl; sure = refl; ops = refl; output = refl }
      | false ↦ record { files = refl; script = refl; sure = refl; ops = refl; output = refl }
    ]

-- the file in the slot after a write of it, and after a cut
pub now_wrote : (slot position : ℕ) (bytes : List ℕ) (w new : World) → new ≡ after_write slot position bytes w → file_of new slot ≡ overlaid (file_of w slot) position bytes
now_wrote slot position bytes w new e =
    ap (λ (x : World). file_of x slot) e
    ∙ cond-true (is_about w.events slot (goes_by w.events slot)) (overlaid (file_of w slot) position bytes) (file_of w slot) (about_own w.events slot)

-- no operation failed half way yet
pub sure_wrote : (slot position : ℕ) (bytes : List ℕ) (w new : World) → new ≡ after_write slot position bytes w → IsSure w → IsSure new
sure_wrote slot position bytes w new e h = subst IsSure (sym e) h

-- what is put more
pub output_grows : (newer old : List Event) → (more : List ℕ) × (output_of (newer ++ old) ≡ output_of old ++ more)
output_grows [] old = ([], sym (append-nil (output_of old)))
output_grows (Written s p b ∷ newer) old = output_grows newer old
output_grows (Torn s p b ∷ newer) old = output_grows newer old
output_grows (Cut s n ∷ newer) old = output_grows newer old
output_grows (HalfCut s n ∷ newer) old = output_grows newer old
output_grows (Synced s ∷ newer) old = output_grows newer old
output_grows (Put bytes ∷ newer) old =
    let rest = output_grows newer old in
    (rest.0 ++ bytes, ap (λ (s : List ℕ). s ++ bytes) rest.1 ∙ append_assoc (output_of old) rest.0 bytes)
output_grows (Bound s name bytes ∷ newer) old = output_grows newer old

-- what follows of what an Ok gives
pub on_ok : {V E : Type 0} (A B : Type 0) (r : Result V E) → (A → B) → OnOk r A → OnOk r B
on_ok A B (Ok v) step h = step h
on_ok A B (Err e) step h = h

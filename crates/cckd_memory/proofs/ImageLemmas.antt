-- The outcome that choices ask for is one of a stop, and how it grows with the operations.
use Rattle.std.proofs.Common.{◌≡◌, ℕ, ◌+◌, ◌-◌, ◌%◌, ◌<◌, ◌≤◌, ◌==◌, Bool, true, false, cond, min, List, [], ◌∷◌, ◌++◌, length, take, drop, replicate, get_or, Option, Some, refl, sym, ◌∙◌, ap, subst, inl, inr, arith}
use Rattle.std.specs.Prelude.{MatchBool, nat_le}
use Rattle.std.proofs.lemmas.Bool.{cases_Bool, cond-true, cond-false, eq-eqb, leb-false}
use Rattle.std.proofs.lemmas.List.{take_all, take_more, length-replicate, get_or-drop}
use Rattle.cckd_memory.specs.declared.op.Op.{Op}
use Rattle.cckd_memory.specs.declared.op.Op.TheVariants as op
use Rattle.cckd_memory.specs.Ops.{event_of, events_onto, events_from}
use Rattle.cckd_memory.specs.Images.{write_by, cut_by, used_after, held_after, left_after, used, next_choice, held_by, left_by, chosen}
use Rattle.cckd_shelf.specs.Files.{overlaid}
use Rattle.cckd_shelf.specs.Events.{Event, Bound, name_of, named_by}
use Rattle.cckd_shelf.specs.Outcomes.{WriteLeaves, CutLeaves, MayHave, MayBeLeft, MayHold, IsOutcome}
use Rattle.cckd_shelf.proofs.NameLemmas.{about_is}
use Rattle.cckd_shelf.proofs.OutcomeLemmas.{length_overlaid, overlaid_before, overlaid_behind, write_made, write_not_made}

-- a range that is filled with other bytes
fill_leaves : (position : ℕ) (bytes old fill : List ℕ) → 512 < position % 512 + length bytes
    → length fill ≡ position + length bytes - min (length old) position
    → WriteLeaves position bytes old (overlaid old (min (length old) position) fill)
fill_leaves position bytes old fill long size = record {
  before = λ i h k. overlaid_before old (min (length old) position) fill i h (omega arith);
  behind = λ i h k. overlaid_behind old (min (length old) position) fill i (omega arith);
  no_shorter = omega (arith, length_overlaid old (min (length old) position) fill);
  no_longer = omega (arith, length_overlaid old (min (length old) position) fill);
  whole = λ short. absurd (omega (arith, short));
}

-- what a choice makes of a write is one of the things that it may leave
write_by_leaves : (choice position : ℕ) (bytes old : List ℕ) → WriteLeaves position bytes old (write_by choice position bytes old)
write_by_leaves choice position bytes old =
    let inside : Bool = nat_le (position % 512 + length bytes) 512 in
    let filled : List ℕ = overlaid old (min (length old) position) (replicate (position + length bytes - min (length old) position) choice) in
    elim (cases_Bool (choice == 0)) [
      | inl none ↦ subst (WriteLeaves position bytes old) (sym (cond-true (choice == 0) old _ none)) (write_not_made position bytes old)
      | inr some ↦ subst (WriteLeaves position bytes old) (sym (cond-false (choice == 0) old _ some)) (elim (cases_Bool inside) [
        | inl short ↦ subst (WriteLeaves position bytes old) (sym (cond-true inside (overlaid old position bytes) filled short)) (write_made position bytes old)
        | inr long ↦ subst (WriteLeaves position bytes old) (sym (cond-false inside (overlaid old position bytes) filled long))
            (fill_leaves position bytes old (replicate (position + length bytes - min (length old) position) choice) (leb-false (position % 512 + length bytes) 512 long)
            (length-replicate (position + length bytes - min (length old) position) choice))
      ])
    ]

cut_by_leaves : (choice len : ℕ) (old : List ℕ) → CutLeaves len old (cut_by choice len old)
cut_by_leaves choice len old =
    elim (choice == 0) as (λ b. CutLeaves len old (cond b old (take len old))) [ true ↦ inl refl | false ↦ inr refl ]

-- one more event, said by the number of its slot

leaves_by : (b c : Bool) (P : List ℕ → Type 0) (old new : List ℕ) → b ≡ c → P new → MatchBool b (P (cond c new old)) (cond c new old ≡ old)
leaves_by true true P old new e h = h
leaves_by false false P old new e h = refl
leaves_by true false P old new e h = cc
leaves_by false true P old new e h = cc

made_by : (b c : Bool) (old new : List ℕ) → b ≡ c → cond c new old ≡ cond b new old
made_by b c old new e = ap (λ (x : Bool). cond x new old) (sym e)

synced_by : (b c : Bool) (P Q : List ℕ → Type 0) (held old : List ℕ) → b ≡ c → P held → Q old → MatchBool b (P (cond c held old)) (Q (cond c held old))
synced_by true true P Q held old e p q = p
synced_by false false P Q held old e p q = q
synced_by true false P Q held old e p q = cc
synced_by false true P Q held old e p q = cc

pub held_more : (choice slot : ℕ) (o : Op) (es : List Event) (held : List ℕ) → MayHold es slot held → MayHold (event_of o ∷ es) slot (held_after choice slot (event_of o) held)
held_more choice slot (op.Write s p b) es held h = (held, h, made_by _ (s == slot) held (overlaid held p b) (about_is es s slot))
held_more choice slot (op.Torn s p b) es held h = (held, h, leaves_by _ (s == slot) (WriteLeaves p b held) held (write_by choice p b held) (about_is es s slot) (write_by_leaves choice p b held))
held_more choice slot (op.Cut s n) es held h = (held, h, made_by _ (s == slot) held (take n held) (about_is es s slot))
held_more choice slot (op.HalfCut s n) es held h = (held, h, leaves_by _ (s == slot) (CutLeaves n held) held (cut_by choice n held) (about_is es s slot) (cut_by_leaves choice n held))
held_more choice slot (op.Sync s) es held h = h
held_more choice slot (op.Put b) es held h = h

pub left_more : (choice slot : ℕ) (o : Op) (es : List Event) (held left : List ℕ) → MayHold es slot held → IsOutcome es slot left
    → IsOutcome (event_of o ∷ es) slot (left_after choice slot (event_of o) held left)
left_more choice slot (op.Write s p b) es held left may h = (left, h, leaves_by _ (s == slot) (WriteLeaves p b left) left (write_by choice p b left) (about_is es s slot) (write_by_leaves choice p b left))
left_more choice slot (op.Torn s p b) es held left may h = (left, h, leaves_by _ (s == slot) (WriteLeaves p b left) left (write_by choice p b left) (about_is es s slot) (write_by_leaves choice p b left))
left_more choice slot (op.Cut s n) es held left may h = (left, h, leaves_by _ (s == slot) (CutLeaves n left) left (cut_by choice n left) (about_is es s slot) (cut_by_leaves choice n left))
left_more choice slot (op.HalfCut s n) es held left may h = (left, h, leaves_by _ (s == slot) (CutLeaves n left) left (cut_by choice n left) (about_is es s slot) (cut_by_leaves choice n left))
left_more choice slot (op.Sync s) es held left may h = synced_by _ (s == slot) (MayHold es slot) (IsOutcome es slot) held left (about_is es s slot) may h
left_more choice slot (op.Put b) es held left may h = h

onto_outcome : (choices : List ℕ) (slot : ℕ) (start : List ℕ) (ops : List Op) (es : List Event) → MayHold es slot (held_by choices slot start es) → IsOutcome es slot (left_by choices slot start es)
    → IsOutcome (events_onto ops es) slot (left_by choices slot start (events_onto ops es))
onto_outcome choices slot start [] es may left = left
onto_outcome choices slot start (o ∷ ops) es may left =
    onto_outcome choices slot start ops (event_of o ∷ es)
    (held_more (next_choice choices slot es) slot o es (held_by choices slot start es) may)
    (left_more (next_choice choices slot es) slot o es (held_by choices slot start es) (left_by choices slot start es) may left)

own_name : (slot : ℕ) (start : List ℕ) → name_of (Bound slot [] start ∷ []) slot ≡ Some []
own_name slot start = cond-true (slot == slot) (Some []) _ (eq-eqb slot slot refl)

-- the outcome that choices ask for is one
pub chosen_is_outcome : (choices : List ℕ) (slot : ℕ) (start : List ℕ) (ops : List Op) → IsOutcome (events_from slot start ops) slot (chosen choices slot start ops)
chosen_is_outcome choices slot start ops =
    onto_outcome choices slot start ops (Bound slot [] start ∷ [])
    (subst (λ (o : Option (List ℕ)). MayHave (Bound slot [] start ∷ []) (named_by slot o) start) (sym (own_name slot start)) refl)
    (subst (λ (o : Option (List ℕ)). MayBeLeft (Bound slot [] start ∷ []) (named_by slot o) start) (sym (own_name slot start)) refl)

onto_push : (ops : List Op) (o : Op) (es : List Event) → events_onto (ops ++ o ∷ []) es ≡ event_of o ∷ events_onto ops es
onto_push [] o es = refl
onto_push (p ∷ ops) o es = onto_push ops o (event_of p ∷ es)

-- one operation more
pub from_more : (slot : ℕ) (start : List ℕ) (ops : List Op) (i : ℕ) (o : Op) → i < length ops → o ≡ get_or ops i o
    → events_from slot start (take (i + 1) ops) ≡ event_of o ∷ events_from slot start (take i ops)
from_more slot start ops i o h e =
    ap (events_from slot start) (take_more ops i o h ∙ ap (λ (x : Op). take i ops ++ x ∷ []) (sym e)) ∙ onto_push (take i ops) o (Bound slot [] start ∷ [])

-- what the slot holds and what is left after these operations, and the choices that are left
pub record ChosenSoFar (choices : List ℕ) (slot : ℕ) (start : List ℕ) (ops : List Op) (held left rest : List ℕ) : Type 0 where
  pub held_is : held ≡ held_by choices slot start (events_from slot start ops)
  pub left_is : left ≡ left_by choices slot start (events_from slot start ops)
  pub rest_is : rest ≡ drop (used slot (events_from slot start ops)) choices

pub chosen_more : (choices : List ℕ) (slot : ℕ) (start : List ℕ) (ops : List Op) (i : ℕ) (o : Op) (held left rest new_held new_left new_rest : List ℕ) (choice : ℕ)
    → ChosenSoFar choices slot start (take i ops) held left rest → i < length ops → o ≡ get_or ops i o
    → choice ≡ get_or rest 0 0 → new_held ≡ held_after choice slot (event_of o) held → new_left ≡ left_after choice slot (event_of o) held left
    → ((n : ℕ) → rest ≡ drop n choices → new_rest ≡ drop (used_after slot (event_of o) n) choices)
    → ChosenSoFar choices slot start (take (i + 1) ops) new_held new_left new_rest
chosen_more choices slot start ops i o held left rest new_held new_left new_rest choice h low at chose holds leaves uses =
    let es : List Event = events_from slot start (take i ops) in
    let more : events_from slot start (take (i + 1) ops) ≡ event_of o ∷ es = from_more slot start ops i o low at in
    let first : used slot es + 0 ≡ used slot es = omega arith in
    let next : choice ≡ next_choice choices slot es =
    chose ∙ (ap (λ (xs : List ℕ). get_or xs 0 0) h.rest_is ∙ (get_or-drop (used slot es) choices 0 0 ∙ ap (λ (n : ℕ). get_or choices n 0) first)) in
    record {
      held_is = holds ∙ (ap (λ (k : ℕ). held_after k slot (event_of o) held) next ∙ (ap (held_after (next_choice choices slot es) slot (event_of o)) h.held_is ∙ sym (ap (held_by choices slot start) more)));
      left_is = leaves ∙ (ap (λ (k : ℕ). left_after k slot (event_of o) held left) next
          ∙ (ap (λ (x : List ℕ). left_after (next_choice choices slot es) slot (event_of o) x left) h.held_is
          ∙ (ap (left_after (next_choice choices slot es) slot (event_of o) (held_by choices slot start es)) h.left_is ∙ sym (ap (left_by choices slot start) more))));
      rest_is = uses (used slot es) h.rest_is ∙ sym (ap (λ (x : List Event). drop (used slot x) choices) more);
    }

-- all operations were made
pub chosen_outcome : (choices : List ℕ) (slot at : ℕ) (start : List ℕ) (ops : List Op) (i : ℕ) (held left rest : List ℕ) → ChosenSoFar choices at start (take i ops) held left rest
    → length ops ≤ i → at ≡ slot → IsOutcome (events_from slot start ops) slot left
chosen_outcome choices slot at start ops i held left rest h end same =
    let whole : left ≡ chosen choices at start ops = h.left_is ∙ ap (λ (xs : List Op). left_by choices at start (events_from at start xs)) (take_all i ops end) in
    subst (λ (n : ℕ). IsOutcome (events_from n start ops) n left) same
    (subst (IsOutcome (events_from at start ops) at) (sym whole) (chosen_is_outcome choices at start ops))

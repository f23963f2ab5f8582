-- What a stop may leave, by one entry more of a history.
use Rattle.std.proofs.Common.{◌≡◌, ◌⊎◌, ℕ, ◌+◌, ◌==◌, Bool, true, false, List, [], ◌∷◌, ◌++◌, length, Option, Some, None, refl, sym, ◌∙◌, ap, subst, inl, inr}
use Rattle.std.specs.Prelude.{if◌then◌else◌}
use Rattle.std.specs.Option.{option_to_list}
use Rattle.std.proofs.lemmas.Bool.{cases_Bool, false≢true, cond-true, cond-false, eqb-true}
use Rattle.cckd_base.specs.declared.geometry.Geometry.{Geometry}
use Rattle.cckd_base.specs.declared.call.Call.{Call}
use Rattle.cckd_base.specs.declared.call.Call.TheVariants as call
use Rattle.cckd_base.specs.declared.reply.Reply.{Reply}
use Rattle.cckd_stack.specs.Layers.{Layer, Stack, base, shadow, top, below, with_top}
use Rattle.cckd_stack.specs.Answers.{Request, Pair, pair_by, with_pair, stacked, answered_stack, is_refused}
use Rattle.cckd_stack.specs.History.{Entry, History, breaks, broken_with, broken_at, stack_after}
use Rattle.cckd_stack.specs.Stops.{IsAmong, TrackLies, LayerLies, Lies, LiesCalling, LiesWithin, call_hardens, hardened, written_later, StaysWithin, by_break, Survives, SurvivesWithin}

-- ---- more may be written later

among_more : (t : ℕ) (bytes : List ℕ) (later more : List Pair) → IsAmong t bytes later → IsAmong t bytes (more ++ later)
among_more t bytes later [] h = h
among_more t bytes later (p ∷ more) h = inr (among_more t bytes later more h)

track_more : (t : ℕ) (later more : List Pair) (old new : Option (List ℕ)) → TrackLies t later old new → TrackLies t (more ++ later) old new
track_more t later more old new (inl same) = inl same
track_more t later more old new (inr put) = inr (put.0, put.1, among_more t put.0 later more put.2)

pub layer_more : (old new : Layer) (later more : List Pair) → LayerLies old later new → LayerLies old (more ++ later) new
layer_more old new later more h t = track_more t later more (old t) (new t) (h t)

pub lies_more : (hard : Stack) (later more : List Pair) (s : Stack) → Lies hard later s → Lies hard (more ++ later) s
lies_more hard later more s h = record { below = h.below; tracks = layer_more (top hard) (top s) later more h.tracks }

-- what a stop between calls may leave, a stop within any call may
pub lies_calling : (hard : Stack) (later : List Pair) (now : Stack) (c : Call) (s : Stack) → Lies hard later s → LiesCalling hard later now c s
lies_calling hard later now (call.Read at) s h = h
lies_calling hard later now (call.Write at) s h = h
lies_calling hard later now (call.GetRecord at num) s h = h
lies_calling hard later now (call.PutRecord at num) s h = h
lies_calling hard later now call.Harden s h = h
lies_calling hard later now call.Turn s h = h
lies_calling hard later now call.Add s h = inl h
lies_calling hard later now call.Merge s h = inl h
lies_calling hard later now call.Drop s h = inl h
lies_calling hard later now call.Compress s h = h
lies_calling hard later now call.Display s h = h
lies_calling hard later now (call.Check level) s h = h
lies_calling hard later now call.Close s h = h

pub lies_within : (g : Geometry) (hard : Stack) (later : List Pair) (now : Stack) (r : Request) (s : Stack) → Lies hard later s → LiesWithin g hard later now r s
lies_within g hard later now r s h =
    lies_calling hard (option_to_list (pair_by g now r) ++ later) now r.asked s (lies_more hard later (option_to_list (pair_by g now r)) s h)

-- ---- a history that nothing broke

None≢Some : {A : Type 0} {P : Type 0} (a : A) → ◌≡◌ {A = Option A} None (Some a) → P
None≢Some a e = absurd (cc e)

unbroken_before : (was : Option ℕ) (number : ℕ) (e : Entry) → broken_with was number e ≡ None → was ≡ None
unbroken_before None number e h = refl
unbroken_before (Some at) number e h = None≢Some at (sym h)

unbroken_by : (breaks : Bool) (number : ℕ) → ◌≡◌ {A = Option ℕ} (if breaks then Some number else None) None → breaks ≡ false
unbroken_by true number h = None≢Some number (sym h)
unbroken_by false number h = refl

unbroken_with : (was : Option ℕ) (number : ℕ) (e : Entry) → broken_with was number e ≡ None → breaks e ≡ false
unbroken_with None number e h = unbroken_by (breaks e) number h
unbroken_with (Some at) number e h = None≢Some at (sym h)

-- the parts of a history that nothing broke
pub unbroken : (e : Entry) (h : History) → broken_at (e ∷ h) ≡ None → (broken_at h ≡ None) × (breaks e ≡ false)
unbroken e h none = (unbroken_before (broken_at h) (length h + 1) e none, unbroken_with (broken_at h) (length h + 1) e none)

-- and back
number_if : Bool → ℕ → Option ℕ
number_if b n = if b then Some n else None

pub unbroken_still : (e : Entry) (h : History) → broken_at h ≡ None → breaks e ≡ false → broken_at (e ∷ h) ≡ None
unfolding number_if
unbroken_still e h none fine =
    ap (λ (was : Option ℕ). broken_with was (length h + 1) e) none ∙ ap (λ (b : Bool). number_if b (length h + 1)) fine

-- it breaks at the number of the first entry that breaks
pub broken_here : (e : Entry) (h : History) → broken_at h ≡ None → breaks e ≡ true → broken_at (e ∷ h) ≡ Some (length h + 1)
unfolding number_if
broken_here e h none here =
    ap (λ (was : Option ℕ). broken_with was (length h + 1) e) none ∙ ap (λ (b : Bool). number_if b (length h + 1)) here

-- ---- what a stop leaves, by whether something broke

module _ (g : Geometry) (s0 : Stack) (h : History) (e : Entry) (s : Stack) where
  after : Option ℕ → Bool → Type 0
  after was breaking =
      by_break was breaking (Survives g s0 h s) (StaysWithin g s0 h e.request s)
      (Lies (hardened g s0 (e ∷ h)) (written_later g s0 (e ∷ h)) s)

  -- after a break what may be left stays
  pub survives_still : (at : ℕ) → broken_at h ≡ Some at → Survives g s0 (e ∷ h) s ≡ Survives g s0 h s
  unfolding after
  survives_still at is = ap (λ (was : Option ℕ). after was (breaks e)) is

  -- the entry that breaks leaves what may be left within its call
  pub survives_broke : broken_at h ≡ None → breaks e ≡ true → Survives g s0 (e ∷ h) s ≡ StaysWithin g s0 h e.request s
  unfolding after
  survives_broke none here = ap (λ (was : Option ℕ). after was (breaks e)) none ∙ ap (λ (b : Bool). after None b) here

  -- any other leaves what was hardened, and what was written since
  pub survives_next : broken_at h ≡ None → breaks e ≡ false
      → Survives g s0 (e ∷ h) s ≡ Lies (hardened g s0 (e ∷ h)) (written_later g s0 (e ∷ h)) s
  unfolding after
  survives_next none fine = ap (λ (was : Option ℕ). after was (breaks e)) none ∙ ap (λ (b : Bool). after None b) fine

pub survives_unbroken : (g : Geometry) (s0 : Stack) (h : History) (s : Stack) → broken_at h ≡ None
    → Survives g s0 h s ≡ Lies (hardened g s0 h) (written_later g s0 h) s
survives_unbroken g s0 [] s none = refl
survives_unbroken g s0 (e ∷ h) s none = survives_next g s0 h e s (unbroken e h none).0 (unbroken e h none).1

module _ (g : Geometry) (s0 : Stack) (h : History) (r : Request) (s : Stack) where
  within : Option ℕ → Type 0
  within was = by_break was false (Survives g s0 h s) (StaysWithin g s0 h r s) (StaysWithin g s0 h r s)

  pub within_unbroken : broken_at h ≡ None → SurvivesWithin g s0 h r s ≡ StaysWithin g s0 h r s
  unfolding within
  within_unbroken none = ap within none

  pub within_broken : (at : ℕ) → broken_at h ≡ Some at → SurvivesWithin g s0 h r s ≡ Survives g s0 h s
  unfolding within
  within_broken at is = ap within is

  within_by : (was : Option ℕ) → Survives g s0 h s → (was ≡ None → StaysWithin g s0 h r s) → within was
  unfolding within
  within_by (Some at) before stays = before
  within_by None before stays = stays refl

  -- what may be left between calls, a stop within any call may leave
  pub survives_within : Survives g s0 h s → SurvivesWithin g s0 h r s
  unfolding within
  survives_within left =
      within_by (broken_at h) left
      (λ none. lies_within g (hardened g s0 h) (written_later g s0 h) (stack_after g s0 h) r s (subst (λ (X : Type 0). X) (survives_unbroken g s0 h s none) left))

-- ---- the stack itself is what may be left

pub lies_same : (s : Stack) (later : List Pair) → Lies s later s
lies_same s later = record { below = refl; tracks = λ t. inl refl }

pub top_with : (s : Stack) (layer : Layer) → top (with_top s layer) ≡ layer
top_with (base old) layer = refl
top_with (shadow old lower) layer = refl

pub below_with : (s : Stack) (layer : Layer) → below (with_top s layer) ≡ below s
below_with (base old) layer = refl
below_with (shadow old lower) layer = refl

-- a track of a layer once a pair was written
put_track : (t : ℕ) (layer : Layer) (new : Option Pair)
    → (with_pair layer new t ≡ layer t) ⊎ ((bytes : List ℕ) × (with_pair layer new t ≡ Some bytes) × IsAmong t bytes (option_to_list new))
put_track t layer None = inl refl
put_track t layer (Some p) =
    elim (cases_Bool (t == p.0)) [
      | inl same ↦ inr (p.1, cond-true (t == p.0) (Some p.1) (layer t) same, inl (sym (eqb-true t p.0 same), refl))
      | inr other ↦ inl (cond-false (t == p.0) (Some p.1) (layer t) other)
    ]

among_front : (t : ℕ) (bytes : List ℕ) (front more : List Pair) → IsAmong t bytes front → IsAmong t bytes (front ++ more)
among_front t bytes [] more h = elim h [ ]
among_front t bytes (p ∷ ps) more (inl here) = inl here
among_front t bytes (p ∷ ps) more (inr there) = inr (among_front t bytes ps more there)

pub lies_put : (hard now : Stack) (later : List Pair) (new : Option Pair) → Lies hard later now
    → Lies hard (option_to_list new ++ later) (with_top now (with_pair (top now) new))
lies_put hard now later new h = record {
  below = below_with now (with_pair (top now) new) ∙ h.below;
  tracks = λ t.
      let is : top (with_top now (with_pair (top now) new)) t ≡ with_pair (top now) new t =
      ap (λ (layer : Layer). layer t) (top_with now (with_pair (top now) new)) in
      elim (put_track t (top now) new) [
        | inl kept ↦ subst (TrackLies t (option_to_list new ++ later) (top hard t)) (sym (is ∙ kept))
            (track_more t later (option_to_list new) (top hard t) (top now t) (h.tracks t))
        | inr put ↦ inr (put.0, is ∙ put.1, among_front t put.0 (option_to_list new) later put.2)
      ];
}

-- the stack after a call that was answered, and hardened nothing
lies_stacked : (hard now : Stack) (later : List Pair) (c : Call) (new : Option Pair) → call_hardens c ≡ false → Lies hard later now
    → Lies hard (option_to_list new ++ later) (stacked now c new)
lies_stacked hard now later (call.Read at) new calm h = lies_put hard now later new h
lies_stacked hard now later (call.Write at) new calm h = lies_put hard now later new h
lies_stacked hard now later (call.GetRecord at num) new calm h = lies_put hard now later new h
lies_stacked hard now later (call.PutRecord at num) new calm h = lies_put hard now later new h
lies_stacked hard now later call.Harden new calm h = absurd (false≢true (sym calm))
lies_stacked hard now later call.Turn new calm h = lies_put hard now later new h
lies_stacked hard now later call.Add new calm h = absurd (false≢true (sym calm))
lies_stacked hard now later call.Merge new calm h = absurd (false≢true (sym calm))
lies_stacked hard now later call.Drop new calm h = absurd (false≢true (sym calm))
lies_stacked hard now later call.Compress new calm h = absurd (false≢true (sym calm))
lies_stacked hard now later call.Display new calm h = lies_put hard now later new h
lies_stacked hard now later (call.Check level) new calm h = lies_put hard now later new h
lies_stacked hard now later call.Close new calm h = absurd (false≢true (sym calm))

module _ (g : Geometry) (hard now : Stack) (later : List Pair) (r : Request) where
  -- an entry that was refused or not, and whose call hardens or not
  abbrev EntryLies : Bool → Bool → Type 0
  EntryLies was_refused hardening =
      let kept : Bool = if was_refused then false else hardening in
      let new : Stack = if was_refused then now else answered_stack g now r in
      Lies (if kept then new else hard)
      (if kept then [] else (if was_refused then [] else option_to_list (pair_by g now r)) ++ later) new

  entry_lies : (was_refused hardening : Bool) → call_hardens r.asked ≡ hardening → Lies hard later now → EntryLies was_refused hardening
  entry_lies true hardening is h = h
  entry_lies false true is h = lies_same (answered_stack g now r) []
  entry_lies false false is h = lies_stacked hard now later r.asked (pair_by g now r) is h

  entry_step : (said : Reply) → Lies hard later now
      → EntryLies (is_refused said) (call_hardens r.asked)
  entry_step said h = entry_lies (is_refused said) (call_hardens r.asked) refl h

-- the stack that a history leaves is one that may be left
pub last_lies : (g : Geometry) (s0 : Stack) (h : History) → Lies (hardened g s0 h) (written_later g s0 h) (stack_after g s0 h)
last_lies g s0 [] = lies_same s0 []
last_lies g s0 (e ∷ h) =
    entry_step g (hardened g s0 h) (stack_after g s0 h) (written_later g s0 h) e.request e.answer.reply (last_lies g s0 h)

-- Laws of "at each operation": stretches of events, and calls of a shelf at Ok and at a failure at once.
use Rattle.std.proofs.Common.{◌≡◌, ℕ, List, [], ◌∷◌, ◌++◌, take, Result, Ok, Err, OnOk, OnErr, refl, sym, ◌∙◌, ap, subst, inl, inr}
use Rattle.std.proofs.lemmas.List.{append_assoc, append_cancel_right}
use Rattle.cckd_shelf.specs.declared.fault.Failed.{Failed}
use Rattle.cckd_shelf.specs.Files.{overlaid}
use Rattle.cckd_shelf.specs.Events.{Event, Written, Torn, Cut, HalfCut, Synced}
use Rattle.cckd_shelf.specs.World.{World, IsSure, file_of, after_write, after_torn, after_cut, after_half_cut, after_sync}
use Rattle.cckd_shelf.specs.Seen.{Seen, Tells, Stays, Makes, MayMake}
use Rattle.cckd_shelf.specs.Outcomes.{WriteLeaves, EachHeld, EachOutcome, Along, AtEach}
use Rattle.cckd_shelf.proofs.OutcomeLemmas.{write_step, torn_step, cut_step, half_cut_step, sync_step, sync_settles, sync_leaves_now, held_write}

-- nothing happened
pub at_once : (Q : List Event → Type 0) (es : List Event) → Q es → AtEach es es Q
at_once Q es now = record { newer = []; grown = refl; each = now }

-- one event more
pub at_next : (Q : List Event → Type 0) (old new : List Event) (e : Event) → AtEach old new Q → Q (e ∷ new) → AtEach old (e ∷ new) Q
at_next Q old new e h now = record {
  newer = e ∷ h.newer;
  grown = ap (λ (es : List Event). e ∷ es) h.grown;
  each = (h.each, subst (λ (es : List Event). Q (e ∷ es)) h.grown now);
}

end_of : (Q : List Event → Type 0) (newer old : List Event) → Along Q newer old → Q (newer ++ old)
end_of Q [] old h = h
end_of Q (e ∷ newer) old h = h.1

start_of : (Q : List Event → Type 0) (newer old : List Event) → Along Q newer old → Q old
start_of Q [] old h = h
start_of Q (e ∷ newer) old h = start_of Q newer old h.0

-- the last moment, and the first
pub at_end : (Q : List Event → Type 0) (old new : List Event) → AtEach old new Q → Q new
at_end Q old new h = subst Q (sym h.grown) (end_of Q h.newer old h.each)

pub at_start : (Q : List Event → Type 0) (old new : List Event) → AtEach old new Q → Q old
at_start Q old new h = start_of Q h.newer old h.each

along_joins : (Q : List Event → Type 0) (later newer old mid : List Event) → mid ≡ newer ++ old → Along Q newer old → Along Q later mid → Along Q (later ++ newer) old
along_joins Q [] newer old mid e first second = first
along_joins Q (x ∷ later) newer old mid e first second = (
  along_joins Q later newer old mid e first second.0,
  subst (λ (es : List Event). Q (x ∷ es)) (ap (λ (es : List Event). later ++ es) e ∙ sym (append_assoc later newer old)) second.1,
)

-- two stretches in a row are one
pub joins : (Q : List Event → Type 0) (old mid new : List Event) → AtEach old mid Q → AtEach mid new Q → AtEach old new Q
joins Q old mid new first second = record {
  newer = second.newer ++ first.newer;
  grown = second.grown ∙ (ap (λ (es : List Event). second.newer ++ es) first.grown ∙ sym (append_assoc second.newer first.newer old));
  each = along_joins Q second.newer first.newer old mid first.grown first.each second.each;
}

along_weaker : (Q R : List Event → Type 0) (newer old : List Event) → ((es : List Event) → Q es → R es) → Along Q newer old → Along R newer old
along_weaker Q R [] old step h = step old h
along_weaker Q R (e ∷ newer) old step h = (along_weaker Q R newer old step h.0, step (e ∷ newer ++ old) h.1)

-- what follows at each moment
pub weaker : (Q R : List Event → Type 0) (old new : List Event) → ((es : List Event) → Q es → R es) → AtEach old new Q → AtEach old new R
weaker Q R old new step h = record { newer = h.newer; grown = h.grown; each = along_weaker Q R h.newer old step h.each }

-- what a call that kept the world adds
pub kept_at : (Q : List Event → Type 0) (w new : World) → new ≡ w → Q w.events → AtEach w.events new.events Q
kept_at Q w new e now = subst (λ (x : World). AtEach w.events x.events Q) (sym e) (at_once Q w.events now)

pub next_at : (Q : List Event → Type 0) (w new : World) (e : Event) → new.events ≡ e ∷ w.events → Q w.events → Q (e ∷ w.events) → AtEach w.events new.events Q
next_at Q w new e same was now =
    subst (λ (es : List Event). AtEach w.events es Q) (sym same) (at_next Q w.events w.events e (at_once Q w.events was) now)

along_behind : (Q R : List Event → Type 0) (newer old : List Event) → ((more : List Event) → Q (more ++ old) → R (more ++ old)) → Along Q newer old → Along R newer old
along_behind Q R [] old step h = step [] h
along_behind Q R (e ∷ newer) old step h = (along_behind Q R newer old step h.0, step (e ∷ newer) h.1)

-- what follows at each moment, where it is used that the moment lies behind the first one
pub weaker_behind : (Q R : List Event → Type 0) (old new : List Event) → ((more : List Event) → Q (more ++ old) → R (more ++ old)) → AtEach old new Q → AtEach old new R
weaker_behind Q R old new step h = record { newer = h.newer; grown = h.grown; each = along_behind Q R h.newer old step h.each }

along_both : (Q R : List Event → Type 0) (newer old : List Event) → Along Q newer old → Along R newer old → Along (λ es. Q es × R es) newer old
along_both Q R [] old f g = (f, g)
along_both Q R (e ∷ newer) old f g = (along_both Q R newer old f.0 g.0, (f.1, g.1))

-- two facts over one stretch are one
pub both : (Q R : List Event → Type 0) (old new : List Event) → AtEach old new Q → AtEach old new R → AtEach old new (λ es. Q es × R es)
both Q R old new f g = record {
  newer = f.newer;
  grown = f.grown;
  each = along_both Q R f.newer old f.each
      (subst (λ (es : List Event). Along R es old) (append_cancel_right g.newer f.newer old (sym g.grown ∙ f.grown)) g.each);
}

-- Calls of a shelf that tells, at Ok and at a failure at once. The facts on old and new are the clauses of the call.

-- a write of the slot: what held before it, and what holds from then on
pub wrote : (P Q : List ℕ → Type 0) (slot position : ℕ) (bytes : List ℕ) (old new : Seen) (result : Result (Unit {0}) Failed)
    → OnOk result (Makes (after_write slot position bytes) old new) → OnErr result (MayMake (after_torn slot position bytes) old new) → Tells old
    → EachOutcome slot P old.world.events → ((was : List ℕ) → P was → Q was) → ((was file : List ℕ) → P was → WriteLeaves position bytes was file → Q file)
    → AtEach old.world.events new.world.events (EachOutcome slot Q)
wrote P Q slot position bytes old new (Ok u) ok err told each same step =
    next_at (EachOutcome slot Q) old.world new.world (Written slot position bytes) (ap (λ (x : World). x.events) (ok told)) (λ file h. same file (each file h)) (write_step P Q slot position bytes old.world.events each step)
wrote P Q slot position bytes old new (Err e) ok err told each same step =
    elim (err told) [
      | inl torn ↦ next_at (EachOutcome slot Q) old.world new.world (Torn slot position bytes) (ap (λ (x : World). x.events) torn) (λ file h. same file (each file h)) (torn_step P Q slot position bytes old.world.events each step)
      | inr kept ↦ kept_at (EachOutcome slot Q) old.world new.world kept (λ file h. same file (each file h))
    ]

pub cut_off : (P Q : List ℕ → Type 0) (slot len : ℕ) (old new : Seen) (result : Result (Unit {0}) Failed)
    → OnOk result (Makes (after_cut slot len) old new) → OnErr result (MayMake (after_half_cut slot len) old new) → Tells old
    → EachOutcome slot P old.world.events → ((was : List ℕ) → P was → Q was) → ((was : List ℕ) → P was → Q (take len was))
    → AtEach old.world.events new.world.events (EachOutcome slot Q)
cut_off P Q slot len old new (Ok u) ok err told each same step =
    next_at (EachOutcome slot Q) old.world new.world (Cut slot len) (ap (λ (x : World). x.events) (ok told)) (λ file h. same file (each file h)) (cut_step P Q slot len old.world.events each same step)
cut_off P Q slot len old new (Err e) ok err told each same step =
    elim (err told) [
      | inl half ↦ next_at (EachOutcome slot Q) old.world new.world (HalfCut slot len) (ap (λ (x : World). x.events) half) (λ file h. same file (each file h)) (half_cut_step P Q slot len old.world.events each same step)
      | inr kept ↦ kept_at (EachOutcome slot Q) old.world new.world kept (λ file h. same file (each file h))
    ]

-- a sync of any slot
pub synced : (P : List ℕ → Type 0) (slot s : ℕ) (old new : Seen) (result : Result (Unit {0}) Failed)
    → OnOk result (Makes (after_sync s) old new) → OnErr result (Stays old new) → Tells old → EachOutcome slot P old.world.events
    → AtEach old.world.events new.world.events (EachOutcome slot P)
synced P slot s old new (Ok u) ok err told each =
    next_at (EachOutcome slot P) old.world new.world (Synced s) (ap (λ (x : World). x.events) (ok told)) each (sync_step P slot s old.world.events each)
synced P slot s old new (Err e) ok err told each = kept_at (EachOutcome slot P) old.world new.world (err told) each

-- a stretch, and then a sync
pub then_synced : (P : List ℕ → Type 0) (slot s : ℕ) (first old new : Seen) (result : Result (Unit {0}) Failed)
    → OnOk result (Makes (after_sync s) old new) → OnErr result (Stays old new) → Tells old
    → AtEach first.world.events old.world.events (EachOutcome slot P) → AtEach first.world.events new.world.events (EachOutcome slot P)
then_synced P slot s first old new result ok err told before =
    joins (EachOutcome slot P) first.world.events old.world.events new.world.events before
    (synced P slot s old new result ok err told (at_end (EachOutcome slot P) first.world.events old.world.events before))

-- what may be held after a write that was Ok
pub held_wrote : (P Q : List ℕ → Type 0) (slot position : ℕ) (bytes : List ℕ) (old new : Seen) → Makes (after_write slot position bytes) old new → Tells old
    → EachHeld slot P old.world.events → ((was : List ℕ) → P was → Q (overlaid was position bytes)) → EachHeld slot Q new.world.events
held_wrote P Q slot position bytes old new e told each step =
    subst (λ (x : World). EachHeld slot Q x.events) (sym (e told)) (held_write P Q slot position bytes old.world.events each step)

-- A sync that was Ok leaves exactly what may be held.
pub sync_done : (P : List ℕ → Type 0) (slot : ℕ) (old new : Seen) (result : Result (Unit {0}) Failed) → OnOk result (Makes (after_sync slot) old new)
    → (Tells old → EachHeld slot P old.world.events) → OnOk result (Tells old → EachOutcome slot P new.world.events)
sync_done P slot old new (Ok u) e each = λ told. subst (λ (x : World). EachOutcome slot P x.events) (sym (e told)) (sync_settles P slot old.world.events (each told))
sync_done P slot old new (Err failed) e each = tt

-- the same, said of the file behind the sync
pub sync_alone : (slot : ℕ) (old new : Seen) (result : Result (Unit {0}) Failed) → OnOk result (Makes (after_sync slot) old new)
    → (Tells old → IsSure old.world) → OnOk result (Tells old → EachOutcome slot (λ file. file ≡ file_of new.world slot) new.world.events)
sync_alone slot old new (Ok u) e sure = λ told.
    subst (λ (x : World). EachOutcome slot (λ file. file ≡ file_of x slot) x.events) (sym (e told)) (λ file outcome. sync_leaves_now slot old.world.events (sure told) file outcome)
sync_alone slot old new (Err f) e sure = tt

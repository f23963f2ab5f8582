-- What the marks of layers say of their files, call after call.
use Rattle.std.proofs.Common.{◌≡◌, ℕ, zero, suc, ◌+◌, ◌<◌, true, false, List, [], ◌∷◌, ◌++◌, length, take, drop, map, get_or, set, Result, Ok, Err, OnOk, IfErr, refl, sym, ◌∙◌, ap, subst, inl, inr, arith}
use Rattle.std.proofs.lemmas.Bool.{false≢true}
use Rattle.cckd_base.specs.declared.geometry.Geometry.{Geometry}
use Rattle.cckd_base.specs.declared.geometry.Layout.{Layout}
use Rattle.cckd_base.specs.declared.layer_fault.LayerFault.{LayerFault}
use Rattle.cckd_base.specs.declared.layer_fault.LayerFault.TheVariants as fault
use Rattle.cckd_shelf.specs.Events.{Event, Put, file_now}
use Rattle.cckd_shelf.specs.World.{World, file_of}
use Rattle.cckd_shelf.specs.Outcomes.{EachOutcome}
use Rattle.cckd_shelf.specs.Frame.{SparesOthers, OnlyIn}
use Rattle.cckd_shelf.specs.Seen.{Seen, Tells, Stays}
use Rattle.cckd_shelf.proofs.MomentLemmas.{at_next, at_end}
use Rattle.cckd_shelf.proofs.FrameLemmas.{others_keep}
use Rattle.cckd_layer.specs.Closed.{IsClosed}
use Rattle.cckd_layer.specs.Held.{NullBytes}
use Rattle.cckd_layer.specs.Mounted.{LayerState}
use Rattle.cckd_layer.specs.Writes.{Agrees, IsSameFile, IsSameLayer, StaysClosed, IsOutside, is_broken_by}
use Rattle.cckd_layer.specs.Storing.{IsHarmless}
use Rattle.cckd_layer.specs.Loose.{IsUndisturbed, IsOnlyLooked}
use Rattle.cckd_layer.specs.Calm.{StaysAs, IsUnharmed, KeepsUnharmed}
use Rattle.cckd_layer.proofs.CalmLemmas.{stays_then, looked_unharmed, unharmed_then}
use Rattle.cckd_stack.specs.Stacked.{StackState, AreLayersFrom, OnlyCaches, uncached}
use Rattle.cckd_stack.specs.Writes.{AgreeAll, breaks_layer}
use Rattle.cckd_stack.specs.Called.{only_events}
use Rattle.cckd_stack.specs.Marking.{IsLeftOrClosed, MarksChanges, MarkChanges, MarksSince, KeepMarks, KeepsMark}
use Rattle.cckd_stack.proofs.LayerListLemmas.{all_at, layer_at, written_back}

-- ---- a file that was left or closed

-- it is alone: a stop leaves nothing else
left_alone : (l : Layout) (slot : ℕ) (base now : List Event) → IsLeftOrClosed l slot base now → EachOutcome slot (λ file. file ≡ file_now now slot) now
left_alone l slot base now (inl left) = λ file out. at_end (EachOutcome slot (λ f. f ≡ file_now base slot)) base now left.each file out ∙ sym left.now
left_alone l slot base now (inr closed) = closed.alone

-- and is so on, where it stays
left_on : (l m : Layout) (slot at : ℕ) (base now next : List Event) → m ≡ l → at ≡ slot → StaysAs slot now next → IsLeftOrClosed l slot base now → IsLeftOrClosed m at base next
left_on l m slot at base now next same there stays left =
    subst (λ (x : Layout). IsLeftOrClosed x at base next) (sym same) (subst (λ (k : ℕ). IsLeftOrClosed l k base next) (sym there) (by left))
  where
    by : IsLeftOrClosed l slot base now → IsLeftOrClosed l slot base next
    by (inl was) = inl (stays_then slot base now next was stays)
    by (inr closed) = inr (record {
      closed = subst (IsClosed l) (sym stays.now) closed.closed;
      alone = λ file out. at_end (EachOutcome slot (λ f. f ≡ file_now now slot)) now next stays.each file out ∙ sym stays.now;
    })

-- a file that is alone stays where only another slot's was changed
stays_beside : (at slot : ℕ) (old new : World) → (at ≡ slot → ⊥) → SparesOthers at old new → EachOutcome slot (λ file. file ≡ file_of old slot) old.events → StaysAs slot old.events new.events
stays_beside at slot old new apart h alone = record {
  each = others_keep (λ file. file ≡ file_of old slot) at slot old.events new.events apart h.others alone;
  now = h.files slot apart;
}

-- a layer of another slot
mark_beside : (at : ℕ) (s : LayerState) (base : List Event) (old new : World) → (at ≡ s.slot → ⊥) → SparesOthers at old new → MarksChanges base old.events s → MarksChanges base new.events s
mark_beside at s base old new apart h (inl marked) = inl marked
mark_beside at s base old new apart h (inr calm) =
    inr (
      calm.0,
      left_on s.tables.layout s.tables.layout s.slot s.slot base old.events new.events refl refl
          (stays_beside at s.slot old new apart h (left_alone s.tables.layout s.slot base old.events calm.1)) calm.1,
    )

-- ---- one layer

-- nothing was done
pub mark_kept : (s next : LayerState) (old new : Seen) → next ≡ s → Stays old new → KeepsMark s next old new
mark_kept s next old new same stays = λ base told agrees mark.
    subst (λ (x : LayerState). MarksChanges base new.world.events x) (sym same) (subst (λ (w : World). MarksChanges base w.events s) (sym (stays told)) mark)

-- it was unharmed
pub mark_unharmed : (s next : LayerState) (old new : Seen) → IsSameFile s next → KeepsUnharmed s next old new → KeepsMark s next old new
mark_unharmed s next old new same unharmed = λ base told agrees. by base (unharmed told agrees)
  where
    by : (base : List Event) → IsUnharmed s next old new → MarksChanges base old.world.events s → MarksChanges base new.world.events next
    by base u (inl marked) = inl (u.marked ∙ marked)
    by base u (inr calm) = inr (
      record { unmarked = u.marked ∙ calm.0.unmarked; hardened = u.hardened calm.0.hardened },
      left_on s.tables.layout next.tables.layout s.slot next.slot base old.world.events new.world.events same.layout same.slot (u.file calm.0.hardened) calm.1,
    )

-- a write to it
pub mark_written : (s next : LayerState) (old new : Seen) (r : Result (Unit {0}) LayerFault) → IsSameFile s next → is_broken_by r ≡ false → OnOk r (next.marked ≡ true)
    → IfErr r (λ why. IsHarmless why → KeepsUnharmed s next old new) → KeepsMark s next old new
mark_written s next old new (Ok done) same whole marked unharmed = λ base told agrees mark. inl marked
mark_written s next old new (Err (fault.Full full)) same whole marked unharmed = mark_unharmed s next old new same (unharmed tt)
mark_written s next old new (Err (fault.Track why)) same whole marked unharmed = mark_unharmed s next old new same (unharmed tt)
mark_written s next old new (Err fault.ReadFault) same whole marked unharmed = mark_unharmed s next old new same (unharmed tt)
mark_written s next old new (Err fault.WriteFault) same whole marked unharmed = absurd (false≢true (sym whole))
mark_written s next old new (Err fault.SyncFault) same whole marked unharmed = absurd (false≢true (sym whole))

-- a hardening of it
pub mark_hardened : (s next : LayerState) (old new : Seen) → IsSameLayer s next → (s.hardened ≡ true → (next ≡ s) × (new ≡ old)) → KeepsMark s next old new
mark_hardened s next old new same still = λ base told agrees. by base told agrees
  where
    by : (base : List Event) → Tells old → Agrees s old.world → MarksChanges base old.world.events s → MarksChanges base new.world.events next
    by base told agrees (inl marked) = inl (same.marked ∙ marked)
    by base told agrees (inr calm) =
        let r = still calm.0.hardened in
        mark_kept s next old new r.0 (λ t. ap (λ (x : Seen). x.world) r.1) base told agrees (inr calm)

-- a closing of it
pub mark_closed : (s next : LayerState) (old new : Seen) (r : Result (Unit {0}) LayerFault) → IsSameFile s next → is_broken_by r ≡ false → IfErr r IsOutside
    → (r ≡ Err fault.ReadFault → (next ≡ s) × Stays old new) → OnOk r (next.marked ≡ false) → OnOk r (next.hardened ≡ true)
    → (Tells old → Agrees s old.world → s.marked ≡ true → OnOk r (StaysClosed s.tables.layout s.slot new.world))
    → (s.marked ≡ false → s.hardened ≡ true → (next ≡ s) × (new ≡ old)) → KeepsMark s next old new
mark_closed s next old new (Ok done) same whole outside read unmarked hardened closed still = λ base told agrees. by base told agrees
  where
    by : (base : List Event) → Tells old → Agrees s old.world → MarksChanges base old.world.events s → MarksChanges base new.world.events next
    by base told agrees (inl marked) =
        let k = closed told agrees marked in
        inr (
          record { unmarked = unmarked; hardened = hardened },
          inr (subst (λ (l : Layout). StaysClosed l next.slot (only_events new.world.events)) (sym same.layout)
              (subst (λ (n : ℕ). StaysClosed s.tables.layout n (only_events new.world.events)) (sym same.slot) (record { closed = k.closed; alone = k.alone }))),
        )
    by base told agrees (inr calm) =
        let r = still calm.0.unmarked calm.0.hardened in
        mark_kept s next old new r.0 (λ t. ap (λ (x : Seen). x.world) r.1) base told agrees (inr calm)
mark_closed s next old new (Err (fault.Full full)) same whole outside read unmarked hardened closed still = absurd outside
mark_closed s next old new (Err (fault.Track why)) same whole outside read unmarked hardened closed still = absurd outside
mark_closed s next old new (Err fault.ReadFault) same whole outside read unmarked hardened closed still = let r = read refl in mark_kept s next old new r.0 r.1
mark_closed s next old new (Err fault.WriteFault) same whole outside read unmarked hardened closed still = absurd (false≢true (sym whole))
mark_closed s next old new (Err fault.SyncFault) same whole outside read unmarked hardened closed still = absurd (false≢true (sym whole))

-- ---- all of them

marks_above : (g : Geometry) (at slot : ℕ) (layers : List LayerState) (base : List Event) (old new : World) → at < slot → AreLayersFrom g slot layers → SparesOthers at old new
    → MarkChanges base old.events layers → MarkChanges base new.events layers
marks_above g at slot [] base old new low are h all = tt
marks_above g at slot (s ∷ ss) base old new low are h all = (
  mark_beside at s base old new (λ e. absurd (omega (arith, e, low, are.0.slot_is))) h all.0,
  marks_above g at (suc slot) ss base old new (omega (arith, low)) are.1 h all.1,
)

marks_set : (g : Geometry) (slot n : ℕ) (layers : List LayerState) (y : LayerState) (base : List Event) (old new : World) → AreLayersFrom g slot layers → n < length layers → SparesOthers (slot + n) old new
    → MarksChanges base new.events y → MarkChanges base old.events layers → MarkChanges base new.events (set layers n y)
marks_set g slot n [] y base old new are low h here all = absurd (omega (arith, low))
marks_set g slot zero (s ∷ ss) y base old new are low h here all =
    let spares : SparesOthers slot old new = (let e : slot + zero ≡ slot = omega arith in subst (λ (k : ℕ). SparesOthers k old new) e h) in
    (here, marks_above g slot (suc slot) ss base old new (omega arith) are.1 spares all.1)
marks_set g slot (suc n) (s ∷ ss) y base old new are low h here all = (
  mark_beside (slot + suc n) s base old new (λ e. absurd (omega (arith, e, are.0.slot_is))) h all.0,
  marks_set g (suc slot) n ss y base old new are.1 (omega (arith, low)) (let e : slot + suc n ≡ suc slot + n = omega arith in subst (λ (k : ℕ). SparesOthers k old new) e h) here all.1,
)

-- where one layer was changed, and only its file
pub set_marks : (g : Geometry) (layers : List LayerState) (n : ℕ) (x y : LayerState) (old new : Seen) → x ≡ get_or layers n x → n < length layers → AreLayersFrom g 0 layers → OnlyIn x.slot old new
    → KeepsMark x y old new → KeepMarks layers (set layers n y) old new
set_marks g layers n x y old new is low are others keeps base told agree marks =
    let own = layer_at g n 0 layers n x (omega arith) are low in
    let at : x.slot ≡ n = ap (λ (s : LayerState). s.slot) is ∙ own.slot_is in
    let agrees : Agrees x old.world = subst (λ (s : LayerState). Agrees s old.world) (sym is) (all_at (λ (s : LayerState). Agrees s old.world) layers n x agree low) in
    let mark : MarksChanges base old.world.events x = subst (MarksChanges base old.world.events) (sym is) (all_at (MarksChanges base old.world.events) layers n x marks low) in
    marks_set g 0 n layers y base old.world new.world are low (let e : x.slot ≡ 0 + n = omega (arith, at) in subst (λ (k : ℕ). SparesOthers k old.world new.world) e (others told)) (keeps base told agrees mark) marks

-- by two calls in a row
pub marks_twice : (a b c : List LayerState) (x y z : Seen) → (Tells x → Tells y) → (Tells x → AgreeAll a x.world → AgreeAll b y.world) → KeepMarks a b x y → KeepMarks b c y z → KeepMarks a c x z
marks_twice a b c x y z tells again f g base told agree marks = g base (tells told) (again told agree) (f base told agree marks)

-- where nothing was done but that tables were cached
mark_bare : (base now : List Event) (s : LayerState) → MarksChanges base now s → MarksChanges base now (uncached s)
mark_bare base now s (inl marked) = inl marked
mark_bare base now s (inr calm) = inr (record { unmarked = calm.0.unmarked; hardened = calm.0.hardened }, calm.1)

mark_cached : (base now : List Event) (s : LayerState) → MarksChanges base now (uncached s) → MarksChanges base now s
mark_cached base now s (inl marked) = inl marked
mark_cached base now s (inr calm) = inr (record { unmarked = calm.0.unmarked; hardened = calm.0.hardened }, calm.1)

marks_cached : (base now : List Event) (layers next : List LayerState) → OnlyCaches layers next → MarkChanges base now layers → MarkChanges base now next
marks_cached base now [] [] e marks = tt
marks_cached base now [] (y ∷ ys) e marks = absurd (cc e)
marks_cached base now (x ∷ xs) [] e marks = absurd (cc e)
marks_cached base now (x ∷ xs) (y ∷ ys) e marks =
    let here : uncached y ≡ uncached x = cc e in
    let rest : map uncached ys ≡ map uncached xs = cc e in
    (mark_cached base now y (subst (MarksChanges base now) (sym here) (mark_bare base now x marks.0)), marks_cached base now xs ys rest marks.1)

pub caches_mark : (layers next : List LayerState) (old new : Seen) → OnlyCaches layers next → Stays old new → KeepMarks layers next old new
caches_mark layers next old new caches stays base told agree marks =
    subst (λ (w : World). MarkChanges base w.events next) (sym (stays told)) (marks_cached base old.world.events layers next caches marks)

-- ---- a write, where the file was made ready for it

pub ready_unharmed : {A : Type 0} (null : NullBytes) (s m n : LayerState) (a b c : Seen) (r : Result A LayerFault) → (Tells a → Tells b) → IsSameFile s m
    → (Tells a → Agrees s a.world → IsUndisturbed null s m a b) → IfErr r (λ why. IsHarmless why → KeepsUnharmed m n b c) → IfErr r (λ why. IsHarmless why → KeepsUnharmed s n a c)
ready_unharmed null s m n a b c (Ok done) tells same still h = tt
ready_unharmed null s m n a b c (Err why) tells same still h = λ harmless.
    unharmed_then null s m n a b c tells same (λ told agrees. (still told agrees).again)
    (λ told agrees.
    let u = still told agrees in
    looked_unharmed s m a b (ap (λ (x : LayerState). x.marked) u.rest) (ap (λ (x : LayerState). x.hardened) u.rest) (λ t. u.world) told agrees) (h harmless)

pub only_looked_unharmed : (s next : LayerState) (old new : Seen) → IsOnlyLooked s next old new → KeepsUnharmed s next old new
only_looked_unharmed s next old new looked = looked_unharmed s next old new (ap (λ (x : LayerState). x.marked) looked.rest) (ap (λ (x : LayerState). x.hardened) looked.rest) looked.kept

-- ---- the layers of a stack, written back

pub marks_back : (start was next items : List LayerState) (len : ℕ) (old new : Seen) → items ≡ start → was ≡ items → len ≡ length next → KeepMarks was next old new
    → KeepMarks start (take len (next ++ drop (length next) items)) old new
marks_back start was next items len old new from value long keeps =
    subst (λ (ls : List LayerState). KeepMarks start ls old new) (sym (written_back next items len long))
    (subst (λ (ls : List LayerState). KeepMarks ls next old new) (value ∙ from) keeps)

-- a fault that doesn't break the stack doesn't break a layer
pub unbroken_by : (why : LayerFault) → breaks_layer why ≡ false → is_broken_by {A = Unit {0}} (Err why) ≡ false
unbroken_by (fault.Full full) whole = refl
unbroken_by (fault.Track why) whole = refl
unbroken_by fault.ReadFault whole = refl
unbroken_by fault.WriteFault whole = absurd (false≢true (sym whole))
unbroken_by fault.SyncFault whole = absurd (false≢true (sym whole))

-- ---- bytes that are put

pub left_at_put : (l : Layout) (slot : ℕ) (base now : List Event) (bytes : List ℕ) → IsLeftOrClosed l slot base now → IsLeftOrClosed l slot base (Put bytes ∷ now)
left_at_put l slot base now bytes (inl left) = inl (record {
  each = at_next (EachOutcome slot (λ file. file ≡ file_now base slot)) base now (Put bytes) left.each
      (at_end (EachOutcome slot (λ file. file ≡ file_now base slot)) base now left.each);
  now = left.now;
})
left_at_put l slot base now bytes (inr closed) = inr (record { closed = closed.closed; alone = closed.alone })

mark_at_put : (base now : List Event) (bytes : List ℕ) (s : LayerState) → MarksChanges base now s → MarksChanges base (Put bytes ∷ now) s
mark_at_put base now bytes s (inl marked) = inl marked
mark_at_put base now bytes s (inr calm) = inr (calm.0, left_at_put s.tables.layout s.slot base now bytes calm.1)

marks_all_at_put : (base now : List Event) (bytes : List ℕ) (layers : List LayerState) → MarkChanges base now layers → MarkChanges base (Put bytes ∷ now) layers
marks_all_at_put base now bytes [] all = tt
marks_all_at_put base now bytes (s ∷ ss) all = (mark_at_put base now bytes s all.0, marks_all_at_put base now bytes ss all.1)

pub marks_since_put : (s : StackState) (bytes : List ℕ) (base now : List Event) → MarksSince s base now → MarksSince s base (Put bytes ∷ now)
marks_since_put s bytes base now m = record { layers = m.layers; marks = marks_all_at_put base now bytes s.layers m.marks; above = m.above }

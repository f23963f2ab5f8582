-- What is left alone: by nothing, by two in a row, where text is put or taken, and by each call of a stack.
use Rattle.std.proofs.Common.{◌≡◌, ℕ, suc, ◌-◌, List, [], ◌∷◌, ◌++◌, length, map, take, Option, refl, sym, ◌∙◌, ap, subst, arith}
use Rattle.std.proofs.lemmas.List.{length-append}
use Rattle.cckd_base.specs.declared.geometry.Geometry.{Geometry}
use Rattle.cckd_shelf.specs.Events.{Event, file_now}
use Rattle.cckd_shelf.specs.World.{World}
use Rattle.cckd_shelf.specs.Outcomes.{OthersStill, AtEach}
use Rattle.cckd_shelf.specs.Frame.{KeepNames, SparesOthers, OnlyIn, PutsFront, PutsSome}
use Rattle.cckd_shelf.specs.Seen.{Seen, Tells, Stays}
use Rattle.cckd_shelf.proofs.MomentLemmas.{at_once, at_end, joins, weaker}
use Rattle.cckd_shelf.proofs.PutLemmas.{at_puts, name_at_puts, file_at_puts, outcome_at_puts}
use Rattle.cckd_lines.specs.Lines.{OnlyTakes}
use Rattle.cckd_layer.specs.Mounted.{LayerState}
use Rattle.cckd_stack.specs.Stacked.{StackState, AreLayersFrom, OnlyCaches, uncached}
use Rattle.cckd_stack.specs.Writes.{ChangesLast, IsUnchanged, AreUnchanged, HasNoChange, OnlyInChanged, AreSameFiles}
use Rattle.cckd_stack.proofs.LastLemmas.{own_layer}
use Rattle.cckd_stack.proofs.LayerListLemmas.{caches_length}
use Rattle.cckd_engine.specs.Frame.{AreStill, LeavesSlots, Spares, IsLower}

-- ---- in general

pub leaves_none : (P : ℕ → Type 0) (w : World) → LeavesSlots P w w
leaves_none P w = record {
  others = at_once (AreStill P w.events) w.events (λ slot left file h. h);
  named = at_once (KeepNames w.events) w.events (λ slot. refl);
  held = λ name free. refl;
  files = λ slot left. refl;
}

pub leaves_fewer : (P Q : ℕ → Type 0) (a b : World) → ((slot : ℕ) → Q slot → P slot) → LeavesSlots P a b → LeavesSlots Q a b
leaves_fewer P Q a b fewer h = record {
  others = weaker (AreStill P a.events) (AreStill Q a.events) a.events b.events (λ es still slot left. still slot (fewer slot left)) h.others;
  named = h.named;
  held = λ name free. h.held name (λ slot e. fewer slot (free slot e));
  files = λ slot left. h.files slot (fewer slot left);
}

pub leaves_twice : (P : ℕ → Type 0) (a b c : World) → LeavesSlots P a b → LeavesSlots P b c → LeavesSlots P a c
leaves_twice P a b c f g = record {
  others = joins (AreStill P a.events) a.events b.events c.events f.others
      (weaker (AreStill P b.events) (AreStill P a.events) b.events c.events
      (λ es h slot left file out. at_end (AreStill P a.events) a.events b.events f.others slot left file (h slot left file out)) g.others);
  named = joins (KeepNames a.events) a.events b.events c.events f.named
      (weaker (KeepNames b.events) (KeepNames a.events) b.events c.events (λ es same slot. same slot ∙ at_end (KeepNames a.events) a.events b.events f.named slot) g.named);
  held = λ name free.
      g.held name (λ slot e. free slot (sym (at_end (KeepNames a.events) a.events b.events f.named slot) ∙ e)) ∙ f.held name free;
  files = λ slot left. g.files slot left ∙ f.files slot left;
}

pub leaves_puts : (P : ℕ → Type 0) (text : List ℕ) (a b : World) → PutsFront text a b → LeavesSlots P a b
leaves_puts P text a b front = record {
  others = at_puts (AreStill P a.events) (take front.count text) a b front.put
      (λ ps more is slot left file out. outcome_at_puts ps a.events slot file out);
  named = at_puts (KeepNames a.events) (take front.count text) a b front.put (λ ps more is slot. name_at_puts ps a.events slot);
  held = λ name free. ap (λ (files : List ℕ → Option (List ℕ)). files name) front.put.files;
  files = λ slot left. ap (λ (es : List Event). file_now es slot) front.put.events ∙ file_at_puts front.put.pieces a.events slot;
}

-- where nothing happened
pub leaves_silent : (P : ℕ → Type 0) (a b : World) → b.files ≡ a.files → b.events ≡ a.events → LeavesSlots P a b
leaves_silent P a b files same = record {
  others = subst (λ (es : List Event). AtEach a.events es (AreStill P a.events)) (sym same) (at_once (AreStill P a.events) a.events (λ slot left file h. h));
  named = subst (λ (es : List Event). AtEach a.events es (KeepNames a.events)) (sym same) (at_once (KeepNames a.events) a.events (λ slot. refl));
  held = λ name free. ap (λ (f : List ℕ → Option (List ℕ)). f name) files;
  files = λ slot left. ap (λ (es : List Event). file_now es slot) same;
}

pub spares_still : (P : ℕ → Type 0) (s : Seen) → Spares P P s s
spares_still P s = record { again = λ slot left. left; leaves = λ told. leaves_none P s.world }

pub spares_twice : (P Q R : ℕ → Type 0) (a b c : Seen) → (Tells a → Tells b) → Spares P Q a b → Spares Q R b c → Spares P R a c
spares_twice P Q R a b c tells f g = record {
  again = λ slot left. g.again slot (f.again slot left);
  leaves = λ told. leaves_twice P a.world b.world c.world (f.leaves told) (leaves_fewer Q P b.world c.world f.again (g.leaves (tells told)));
}

pub spares_puts : (P : ℕ → Type 0) (text : List ℕ) (a b : Seen) → PutsSome text a b → Spares P P a b
spares_puts P text a b put = record { again = λ slot left. left; leaves = λ told. leaves_puts P text a.world b.world (put told) }

-- and then text is put
pub spares_and_puts : (P Q : ℕ → Type 0) (text : List ℕ) (a b c : Seen) → (Tells a → Tells b) → Spares P Q a b → PutsSome text b c → Spares P Q a c
spares_and_puts P Q text a b c tells f put = spares_twice P Q Q a b c tells f (spares_puts Q text b c put)

pub spares_takes : (P : ℕ → Type 0) (a b : Seen) → (Tells a → OnlyTakes a.world b.world) → Spares P P a b
spares_takes P a b only = record { again = λ slot left. left; leaves = λ told. leaves_silent P a.world b.world (only told).files (only told).events }

-- ---- by the calls of a stack

-- a call that only reads
calm_cached : (layers next : List LayerState) (slot : ℕ) → OnlyCaches layers next → HasNoChange layers slot → HasNoChange next slot
calm_cached [] [] slot e calm = tt
calm_cached [] (y ∷ ys) slot e calm = absurd (cc e)
calm_cached (x ∷ xs) [] slot e calm = absurd (cc e)
calm_cached (x ∷ xs) (y ∷ ys) slot e calm =
    let here : uncached y ≡ uncached x = cc e in
    let rest : map uncached ys ≡ map uncached xs = cc e in (
      λ at.
          let was : IsUnchanged x = calm.0 (ap (λ (s : LayerState). s.slot) (sym here) ∙ at) in
          record { unmarked = ap (λ (s : LayerState). s.marked) here ∙ was.unmarked; hardened = ap (λ (s : LayerState). s.hardened) here ∙ was.hardened },
      calm_cached xs ys slot rest calm.1,
    )

pub reads_spare : (old new : StackState) (before after : Seen) → OnlyCaches old.layers new.layers → Stays before after → Spares (IsLower old) (IsLower new) before after
reads_spare old new before after caches kept = record {
  again = λ slot lower. record {
    apart = λ at. lower.apart (ap (λ (n : ℕ). n - 1) (sym (caches_length old.layers new.layers caches)) ∙ at);
    calm = calm_cached old.layers new.layers slot caches lower.calm;
  };
  leaves = λ told. leaves_silent (IsLower old) before.world after.world (ap (λ (w : World). w.files) (kept told)) (ap (λ (w : World). w.events) (kept told));
}

-- a call that changes the last layer
calm_but_last : (lower : List LayerState) (x y : LayerState) (slot : ℕ) → (y.slot ≡ slot → ⊥) → HasNoChange (lower ++ x ∷ []) slot → HasNoChange (lower ++ y ∷ []) slot
calm_but_last [] x y slot apart calm = (λ at. absurd (apart at), tt)
calm_but_last (s ∷ lower) x y slot apart calm = (calm.0, calm_but_last lower x y slot apart calm.1)

module _ (R : LayerState → LayerState → Type 0) (slots : (s next : LayerState) → R s next → next.slot ≡ s.slot) (old new : List LayerState) (g : Geometry)
    (are : AreLayersFrom g 0 old) (h : ChangesLast R old new)
  where
    lengths : length new ≡ length old
    lengths = omega (arith, ap length h.old_is, ap length h.new_is, length-append h.lower (h.was ∷ []), length-append h.lower (h.next ∷ []))

    last_slot : h.next.slot ≡ length old - 1
    last_slot =
        let own : h.was.slot ≡ length h.lower = (own_layer g h.lower h.was (subst (AreLayersFrom g 0) h.old_is are)).slot_is in
        omega (arith, slots h.was h.next h.changes, own, ap length h.old_is, length-append h.lower (h.was ∷ []))

    pub lower_still : (slot : ℕ) → (length old - 1 ≡ slot → ⊥) → HasNoChange old slot → HasNoChange new slot
    lower_still slot apart calm =
        subst (λ (ls : List LayerState). HasNoChange ls slot) (sym h.new_is)
        (calm_but_last h.lower h.was h.next slot (λ at. apart (sym last_slot ∙ at)) (subst (λ (ls : List LayerState). HasNoChange ls slot) h.old_is calm))

    pub apart_still : (slot : ℕ) → (length old - 1 ≡ slot → ⊥) → length new - 1 ≡ slot → ⊥
    apart_still slot apart at = apart (ap (λ (n : ℕ). n - 1) (sym lengths) ∙ at)

leaves_by : (P : ℕ → Type 0) (at : ℕ) (a b : World) → ((slot : ℕ) → P slot → at ≡ slot → ⊥) → SparesOthers at a b → LeavesSlots P a b
leaves_by P at a b apart h = record {
  others = weaker (OthersStill at a.events) (AreStill P a.events) a.events b.events (λ es still slot left. still slot (apart slot left)) h.others;
  named = h.named;
  held = λ name free. h.held name (λ e. apart at (free at e) refl);
  files = λ slot left. h.files slot (apart slot left);
}

pub changes_spare : (R : LayerState → LayerState → Type 0) → ((s next : LayerState) → R s next → next.slot ≡ s.slot) → (old new : StackState) (before after : Seen)
    → AreLayersFrom old.geometry 0 old.layers → ChangesLast R old.layers new.layers → OnlyIn (length old.layers - 1) before after
    → Spares (IsLower old) (IsLower new) before after
changes_spare R slots old new before after are last others = record {
  again = λ slot lower. record {
    apart = apart_still R slots old.layers new.layers old.geometry are last slot lower.apart;
    calm = lower_still R slots old.layers new.layers old.geometry are last slot lower.apart lower.calm;
  };
  leaves = λ told. leaves_by (IsLower old) (length old.layers - 1) before.world after.world (λ slot lower. lower.apart) (others told);
}

-- a call that closes what was changed
files_length : (old new : List LayerState) → AreSameFiles old new → length new ≡ length old
files_length [] [] same = refl
files_length [] (n ∷ ns) same = absurd same
files_length (s ∷ ss) [] same = absurd same
files_length (s ∷ ss) (n ∷ ns) same = ap suc (files_length ss ns same.1)

pub closes_spare : (old new : StackState) (before after : Seen) → AreSameFiles old.layers new.layers → ((slot : ℕ) → HasNoChange old.layers slot → HasNoChange new.layers slot)
    → OnlyInChanged old.layers before after → Spares (IsLower old) (IsLower new) before after
closes_spare old new before after files calm others = record {
  again = λ slot lower. record {
    apart = λ at. lower.apart (ap (λ (n : ℕ). n - 1) (sym (files_length old.layers new.layers files)) ∙ at);
    calm = calm slot lower.calm;
  };
  leaves = λ told.
      let h = others told in
      record {
        others = weaker (AreStill (HasNoChange old.layers) before.world.events) (AreStill (IsLower old) before.world.events) before.world.events after.world.events
            (λ es still slot lower. still slot lower.calm) h.others;
        named = h.named;
        held = λ name free. h.held name (λ slot e. (free slot e).calm);
        files = λ slot lower. h.files slot lower.calm;
      };
}

-- ---- once it is mounted

pub unchanged_calm : (layers : List LayerState) (slot : ℕ) → AreUnchanged layers → HasNoChange layers slot
unchanged_calm [] slot are = tt
unchanged_calm (s ∷ ss) slot are = (λ at. are.0, unchanged_calm ss slot are.1)

pub unchanged_lower : (s : StackState) → AreUnchanged s.layers → (slot : ℕ) → (length s.layers - 1 ≡ slot → ⊥) → IsLower s slot
unchanged_lower s are slot apart = record { apart = apart; calm = unchanged_calm s.layers slot are }

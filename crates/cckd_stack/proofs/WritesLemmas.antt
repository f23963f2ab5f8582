-- What a call that writes makes of a stack, from what it makes of the last layer.
use Rattle.cckd_stack.specs.Room.{LacksPlace}
use Rattle.cckd_layer.specs.Justified.{StaysInRoom, AddsInRoom}
use Rattle.std.proofs.Common.{◌≡◌, ⊎_elim, ℕ, suc, ◌<◌, ◌≤◌, ◌==◌, cond, Bool, true, false, List, [], ◌∷◌, ◌++◌, length, take, get_or, set, Option, Some, None, Result, Ok, Err, OnOk, IfErr, refl, sym, ◌∙◌, ap, subst, inl, inr, arith}
use Rattle.std.proofs.Math.Path.{fun_ext}
use Rattle.std.proofs.lemmas.List.{length-append}
use Rattle.std.proofs.lemmas.Bool.{false≢true, cases_lt, cases_Bool, lt-ltb, le-ltb, eqb-true, eqb-false, cond-true, cond-false}
use Rattle.cckd_base.specs.declared.geometry.Geometry.{Geometry}
use Rattle.cckd_base.specs.declared.geometry.Layout.{Layout}
use Rattle.cckd_base.specs.declared.layer_fault.LayerFault.{LayerFault}
use Rattle.cckd_base.specs.declared.layer_fault.LayerFault.TheVariants as fault
use Rattle.cckd_base.specs.Geometry.{track_count}
use Rattle.cckd_base.specs.Header.{base_identifier, shadow_identifier}
use Rattle.cckd_base.specs.Image.{IsHeaded}
use Rattle.cckd_base.proofs.HeaderLemmas.{headed_base, headed_shadow}
use Rattle.cckd_shelf.specs.Events.{Event}
use Rattle.cckd_shelf.specs.Seen.{Seen, Tells, Stays}
use Rattle.cckd_shelf.specs.World.{World, IsSure, file_of}
use Rattle.cckd_shelf.specs.Outcomes.{EachOutcome, OthersStill, AtEach}
use Rattle.cckd_shelf.specs.Frame.{OnlyIn}
use Rattle.cckd_shelf.proofs.OutcomeLemmas.{now_is_outcome}
use Rattle.cckd_shelf.proofs.MomentLemmas.{at_end, weaker}
use Rattle.cckd_layer.specs.Sits.{identifiers_for}
use Rattle.cckd_layer.specs.Held.{NullBytes, AreSame, Stores, LiesWithin, Keeps, held}
use Rattle.cckd_base.specs.declared.fault.TrackFault.{TrackFault}
use Rattle.cckd_layer.specs.Storing.{IsWriteRefusal, IsHarmless}
use Rattle.cckd_layer.specs.Mounted.{LayerState}
use Rattle.cckd_layer.specs.Writes.{Agrees, KeepsMap, StopsWithin, StopHolds, StoresIn, IsSameLayer, IsSameFile, IsOutside, map_of as layer_map, is_broken_by as is_layer_broken_by}
use Rattle.cckd_layer.specs.Loose.{Tied, TiedIn}
use Rattle.cckd_layer.proofs.ExcessLemmas.{tied_sure}
use Rattle.cckd_tables.specs.Staging.{new_entry}
use Rattle.cckd_stack.specs.Layers.{Layer, Stack, base, shadow, top, with_top, with_track}
use Rattle.cckd_stack.specs.Answers.{Pair}
use Rattle.cckd_stack.specs.Stops.{TrackLies, Lies}
use Rattle.cckd_stack.specs.Moments.{EachOpens, Hardening}
use Rattle.cckd_stack.specs.Tops.{top_slot, top_identifier, HoldsLies, laters_of}
use Rattle.cckd_stack.specs.Stacked.{AreLayersFrom, AreWhole, map_of}
use Rattle.cckd_stack.specs.Writes.{AreStackBy, AreTied, EndsWith, ChangesLast, KeepsStackBy, KeepsStack, KeepsEach, StoresOnTopBy, StoresOnTop, StoresEach, IsTiedAgain, KeepsLayer, HasHardening, StopsLie, StopsSettle, IsWriteRefused, stack_now, with_pair_on_top, all_hardened, with_written}
use Rattle.cckd_stack.proofs.HistoryLemmas.{lies_more, lies_same, lies_put}
use Rattle.cckd_stack.proofs.CalledLemmas.{opens_weaker}
use Rattle.cckd_stack.proofs.TopLemmas.{same_slot, with_own, enters, leaves_each, settles}
use Rattle.cckd_stack.proofs.BridgeLemmas.{within_track, keeps_holds, holds_keeps}
use Rattle.cckd_stack.proofs.LastLemmas.{last_is, last_set, changes_last, layers_again, whole_again, own_layer, own_agrees, own_by, StaysBeside, beside, tied_beside, top_of_layers, slot_of_layers, last_changed}

-- ---- what a file begins with

-- a file that begins as the last layer's file of a stack does says so by its layout
begins_as : (d : Stack) (l : Layout) (file : List ℕ) → IsHeaded (top_identifier d ∷ []) l file → top_identifier d ∷ [] ≡ identifiers_for l
begins_as (base layer) l file h = sym (ap (λ (b : Bool). cond b shadow_identifier base_identifier ∷ []) (headed_base l file h))
begins_as (shadow layer lower) l file h = sym (ap (λ (b : Bool). cond b shadow_identifier base_identifier ∷ []) (headed_shadow l file h))

-- ---- the map of one layer

pub map_low : (null : NullBytes) (s : LayerState) (file : List ℕ) (t : ℕ) → t < track_count s.tables.layout.geo
    → map_of null s file t ≡ held null s.tables.layout s.tables.stages file t
map_low null s file t low = rw (lt-ltb t (track_count s.tables.layout.geo) low)

pub map_high : (null : NullBytes) (s : LayerState) (file : List ℕ) (t : ℕ) → track_count s.tables.layout.geo ≤ t → map_of null s file t ≡ None
map_high null s file t high = rw (le-ltb t (track_count s.tables.layout.geo) high)

module _ (null : NullBytes) (x y : LayerState) (old new : List ℕ) (layout : y.tables.layout ≡ x.tables.layout) where
  high_new : (t : ℕ) → track_count x.tables.layout.geo ≤ t → map_of null y new t ≡ None
  high_new t high = map_high null y new t (subst (λ (l : Layout). track_count l.geo ≤ t) (sym layout) high)

  low_new : (t : ℕ) → t < track_count x.tables.layout.geo → map_of null y new t ≡ held null y.tables.layout y.tables.stages new t
  low_new t low = map_low null y new t (subst (λ (l : Layout). t < track_count l.geo) (sym layout) low)

  -- the same bytes for each track
  pub same_map : AreSame (track_count x.tables.layout.geo) (held null y.tables.layout y.tables.stages new) (held null x.tables.layout x.tables.stages old)
      → map_of null y new ≡ map_of null x old
  same_map same = fun_ext (λ t. ⊎_elim
      (λ (low : t < track_count x.tables.layout.geo). low_new t low ∙ (same.each t low ∙ sym (map_low null x old t low)))
      (λ (high : track_count x.tables.layout.geo ≤ t). high_new t high ∙ sym (map_high null x old t high))
      (cases_lt t (track_count x.tables.layout.geo)))

  -- other bytes for one track
  module _ (t : ℕ) (bytes : List ℕ) (device : t < track_count x.tables.layout.geo)
      (stores : Stores (track_count x.tables.layout.geo) t (Some bytes) (held null x.tables.layout x.tables.stages old) (held null y.tables.layout y.tables.stages new))
    where
      stored_here : (u : ℕ) → u ≡ t → map_of null y new u ≡ Some bytes
      stored_here u same = ap (map_of null y new) same ∙ (low_new t device ∙ stores.here)

      stored_else : (u : ℕ) → (t ≡ u → ⊥) → map_of null y new u ≡ map_of null x old u
      stored_else u other = ⊎_elim
          (λ (low : u < track_count x.tables.layout.geo). low_new u low ∙ (stores.others u low other ∙ sym (map_low null x old u low)))
          (λ (high : track_count x.tables.layout.geo ≤ u). high_new u high ∙ sym (map_high null x old u high))
          (cases_lt u (track_count x.tables.layout.geo))

      pub stored_map : map_of null y new ≡ with_track (map_of null x old) t bytes
      stored_map = fun_ext (λ u. ⊎_elim
          (λ (e : (u == t) ≡ true). stored_here u (eqb-true u t e) ∙ sym (cond-true (u == t) (Some bytes) (map_of null x old u) e))
          (λ (e : (u == t) ≡ false). stored_else u (λ same. eqb-false u t e (sym same)) ∙ sym (cond-false (u == t) (Some bytes) (map_of null x old u) e))
          (cases_Bool (u == t)))

-- ---- the last layer agrees again

module _ (null : NullBytes) (g : Geometry) (lower : List LayerState) (x y : LayerState) (old new : Seen) (are : AreLayersFrom g 0 (lower ++ x ∷ [])) (same : IsSameFile x y)
    (others : OnlyIn x.slot old new)
  where
    at_slot : map_of null y (file_of new.world y.slot) ≡ map_of null y (file_of new.world x.slot)
    at_slot = ap (λ (n : ℕ). map_of null y (file_of new.world n)) same.slot

    held_at : (n k : ℕ) → k ≡ n → (P : Layer → Type 0) → P (held null y.tables.layout y.tables.stages (file_of new.world k)) → P (held null y.tables.layout y.tables.stages (file_of new.world n))
    held_at n k e P h = subst (λ (j : ℕ). P (held null y.tables.layout y.tables.stages (file_of new.world j))) e h

    top_was : with_top (stack_now null (lower ++ x ∷ []) old) (map_of null x (file_of old.world x.slot)) ≡ stack_now null (lower ++ x ∷ []) old
    top_was =
        let s = stack_now null (lower ++ x ∷ []) old in
        ap (with_top s) (sym (top_of_layers null (file_of old.world) lower x)) ∙ with_own s

    -- with the same map: so the stack is the same
    pub keeps_by : (R : LayerState → World → Type 0) → StaysBeside R
        → (Tells old → R x old.world → IsSure new.world × R y new.world × AreSame (track_count x.tables.layout.geo) (layer_map null y new) (layer_map null x old))
        → KeepsStackBy R null (lower ++ x ∷ []) (lower ++ y ∷ []) old new
    keeps_by R stays keeps = λ told agree.
        let again = keeps told (own_by R lower x old.world agree) in
        let count = track_count x.tables.layout.geo in
        let was = held null x.tables.layout x.tables.stages (file_of old.world x.slot) in
        let map : map_of null y (file_of new.world y.slot) ≡ map_of null x (file_of old.world x.slot) =
        at_slot ∙ same_map null x y (file_of old.world x.slot) (file_of new.world x.slot) same.layout (held_at x.slot y.slot same.slot (λ (m : Layer). AreSame count m was) again.2) in
        subst (λ (s : Stack). AreStackBy R null s (lower ++ y ∷ []) new) top_was
        (last_changed null g lower x y old new are x.slot refl others R stays (map_of null x (file_of old.world x.slot)) told again.0 agree again.1 map)

    pub keeps_stack : KeepsMap null x y old new → KeepsStack null (lower ++ x ∷ []) (lower ++ y ∷ []) old new
    keeps_stack keeps = keeps_by Agrees beside (λ told a. let k = keeps told a in (k.agrees.stands.sure, k.agrees, k.same))

    pub keeps_each : KeepsLayer null x y old new → KeepsEach null (lower ++ x ∷ []) (lower ++ y ∷ []) old new
    keeps_each keeps = record {
      agreed = keeps_stack keeps.agreed;
      tied = keeps_by Tied tied_beside (λ told h. let k = keeps.tied told h in (tied_sure y new.world k.tied, k.tied, k.same));
    }

    -- with other bytes for a track: so the stack has them
    pub stores_by : (R : LayerState → World → Type 0) → StaysBeside R → (Agrees y new.world → R y new.world) → (t : ℕ) (bytes : List ℕ) → t < track_count g
        → (Tells old → R x old.world → StoresIn [] null x y t (Some bytes) old new) → StoresOnTopBy R null (t, bytes) (lower ++ x ∷ []) (lower ++ y ∷ []) old new
    stores_by R stays ties t bytes device stores = λ told agree.
        let h = stores told (own_by R lower x old.world agree) in
        let count = track_count x.tables.layout.geo in
        let low : t < count = subst (λ (k : Geometry). t < track_count k) (sym (own_layer g lower x are).shape) device in
        let was = held null x.tables.layout x.tables.stages (file_of old.world x.slot) in
        let top_is : map_of null x (file_of old.world x.slot) ≡ top (stack_now null (lower ++ x ∷ []) old) = sym (top_of_layers null (file_of old.world) lower x) in
        let map : map_of null y (file_of new.world y.slot) ≡ with_track (top (stack_now null (lower ++ x ∷ []) old)) t bytes =
        at_slot
        ∙ (stored_map null x y (file_of old.world x.slot) (file_of new.world x.slot) same.layout t bytes low
        (held_at x.slot y.slot same.slot (λ (m : Layer). Stores count t (Some bytes) was m) h.stores)
        ∙ ap (λ (m : Layer). with_track m t bytes) top_is) in
        last_changed null g lower x y old new are x.slot refl others R stays (with_track (top (stack_now null (lower ++ x ∷ []) old)) t bytes) told h.agrees.stands.sure agree (ties h.agrees) map

    pub stores_on_top : (t : ℕ) (bytes : List ℕ) → t < track_count g → (Tells old → Agrees x old.world → StoresIn [] null x y t (Some bytes) old new)
        → StoresOnTop null (t, bytes) (lower ++ x ∷ []) (lower ++ y ∷ []) old new
    stores_on_top t bytes device stores = stores_by Agrees beside (λ a. a) t bytes device stores

    pub stores_each : (t : ℕ) (bytes : List ℕ) → t < track_count g → (Tells old → Tied x old.world → StoresIn [] null x y t (Some bytes) old new)
        → StoresEach null (t, bytes) (lower ++ x ∷ []) (lower ++ y ∷ []) old new
    stores_each t bytes device stores = record {
      agreed = stores_on_top t bytes device (λ told a. stores told (inl a));
      tied = stores_by Tied tied_beside (λ a. inl a) t bytes device stores;
    }

-- ---- stops

-- a layer's fact for tracks without bytes that are null as CKD tracks are
lies_past : (later : List Pair) (t : ℕ) (hard now : Option (List ℕ)) → TrackLies t later hard now → now ≡ None → hard ≡ None
lies_past later t hard now (inl same) none = sym same ∙ none
lies_past later t hard now (inr put) none = let e : None ≡ Some put.0 = sym none ∙ put.1 in absurd (cc e)

module _ (null : NullBytes) (g : Geometry) (lower : List LayerState) (x : LayerState) (old new : Seen) (are : AreLayersFrom g 0 (lower ++ x ∷ []))
    (was : Hardening) (has : HasHardening null g (lower ++ x ∷ []) was old)
  where
    own : Agrees x old.world
    own = own_agrees lower x old.world has.agree

    abbrev l : Layout
    l = x.tables.layout

    abbrev file : List ℕ
    file = file_of old.world x.slot

    shape : l.geo ≡ g
    shape = (own_layer g lower x are).shape

    top_is : top was.stack ≡ map_of null x file
    top_is = ap top has.stack_is ∙ top_of_layers null (file_of old.world) lower x

    slot : top_slot was.hard ≡ x.slot
    slot =
        same_slot was.hard was.stack (sym has.hardened.now.below)
        ∙ (ap top_slot has.stack_is ∙ (slot_of_layers null (file_of old.world) lower x ∙ sym (own_layer g lower x are).slot_is))

    abbrev identifier : List ℕ
    identifier = top_identifier was.hard

    held_before : EachOutcome x.slot (HoldsLies identifier g (top was.hard) was.later) old.world.events
    held_before = enters g was.hard was.later old.world.events new.world.events x.slot identifier slot refl has.hardened.stops

    named : identifier ∷ [] ≡ identifiers_for l
    named =
        let outcome = now_is_outcome old.world.events x.slot in
        let h = (held_before file outcome).holds in
        let whole = (own.stands.each file outcome).whole in
        let same : h.layout ≡ l = h.sound.headed.says ∙ sym whole.headed.says in
        begins_as was.hard l file (subst (λ (k : Layout). IsHeaded (identifier ∷ []) k file) same h.sound.headed)

    past_now : (t : ℕ) → track_count g ≤ t → top was.stack t ≡ None
    past_now t high = ap (λ (m : Layer). m t) top_is ∙ map_high null x file t (subst (λ (k : Geometry). track_count k ≤ t) (sym shape) high)

    past_hard : (t : ℕ) → track_count g ≤ t → top was.hard t ≡ None
    past_hard t high = lies_past was.later t (top was.hard t) (top was.stack t) (has.hardened.now.tracks t) (past_now t high)

    within : LiesWithin (track_count l.geo) (top was.hard) (laters_of was.later) (layer_map null x old)
    within = record {
      each = λ t low.
          let here : top was.stack t ≡ held null l x.tables.stages file t = ap (λ (m : Layer). m t) top_is ∙ map_low null x file t low in
          within_track was.later t (top was.hard t) (held null l x.tables.stages file t) (subst (TrackLies t was.later (top was.hard t)) here (has.hardened.now.tracks t));
    }

    keeps_before : EachOutcome x.slot (Keeps null l (top was.hard) (laters_of was.later)) old.world.events
    keeps_before file outcome =
        subst (λ (n : NullBytes). Keeps n l (top was.hard) (laters_of was.later) file) (sym has.null_is)
        (holds_keeps l g identifier (top was.hard) was.later file (own.stands.each file outcome).whole (held_before file outcome))

    holds_then : (hard : Layer) (later : List Pair) → ((t : ℕ) → track_count g ≤ t → hard t ≡ None) → (es : List Event) → EachOutcome x.slot (Keeps null l hard (laters_of later)) es
        → EachOutcome x.slot (HoldsLies identifier g hard later) es
    holds_then hard later past es each file outcome =
        keeps_holds l g identifier hard later file named shape past
        (subst (λ (n : NullBytes). Keeps n l hard (laters_of later) file) has.null_is (each file outcome))

    module _ (others : OnlyIn x.slot old new) where
      -- at each operation
      pub lies_at_each : StopsWithin null x old new → AtEach old.world.events new.world.events (EachOpens g (Lies was.hard was.later))
      lies_at_each stopped =
          leaves_each g was.hard was.later old.world.events new.world.events x.slot identifier slot refl has.hardened.stops was.later
          (weaker (EachOutcome x.slot (Keeps null l (top was.hard) (laters_of was.later))) (EachOutcome x.slot (HoldsLies identifier g (top was.hard) was.later))
          old.world.events new.world.events (holds_then (top was.hard) was.later past_hard)
          (stopped (top was.hard) (laters_of was.later) has.tells own within keeps_before))
          (others has.tells).others

      -- once the last layer is hardened
      pub settles_then : StopHolds null x old new → EachOpens g (Lies was.stack []) new.world.events
      settles_then holds =
          settles g was.hard was.later old.world.events new.world.events x.slot identifier slot refl has.hardened.stops was.stack has.hardened.now.below
          (holds_then (top was.stack) [] past_now new.world.events (λ other outcome.
          let h = holds has.tells own other outcome in
          record {
            whole = h.whole;
            lies = record {
              each = λ t low. inl (h.same.each t low ∙ sym (ap (λ (m : Layer). m t) top_is ∙ map_low null x file t low));
            };
          }))
          (at_end (OthersStill x.slot old.world.events) old.world.events new.world.events (others has.tells).others)

-- ---- a layer that isn't broken

-- the same layer is of the same file
pub same_file : (x y : LayerState) → IsSameLayer x y → IsSameFile x y
same_file x y same = record { slot = same.slot; layout = same.layout; limit = same.limit }

-- where nothing was done, the map is kept
still_keeps : (null : NullBytes) (x : LayerState) (old new : Seen) → Stays old new → KeepsMap null x x old new
still_keeps null x old new kept = λ told agrees.
    let same = kept told in
    record {
      agrees = subst (Agrees x) (sym same) agrees;
      entries = λ t low. ap (λ (w : World). new_entry x.tables.layout x.tables.stages (file_of w x.slot) t) same;
      same = record { each = λ t low. ap (λ (w : World). held null x.tables.layout x.tables.stages (file_of w x.slot) t) same };
    }

-- a hardening that doesn't break the layer keeps its map
pub whole_keeps : (A : Type 0) (null : NullBytes) (x y : LayerState) (old new : Seen) (result : Result A LayerFault) → OnOk result (KeepsMap null x y old new) → IfErr result IsOutside
    → (result ≡ Err fault.ReadFault → (y ≡ x) × Stays old new) → is_layer_broken_by result ≡ false → KeepsMap null x y old new
whole_keeps A null x y old new (Ok a) ok outside read whole = ok
whole_keeps A null x y old new (Err (fault.Track why)) ok outside read whole = absurd outside
whole_keeps A null x y old new (Err (fault.Full full)) ok outside read whole = absurd outside
whole_keeps A null x y old new (Err fault.ReadFault) ok outside read whole =
    let r = read refl in subst (λ (z : LayerState). KeepsMap null x z old new) (sym r.0) (still_keeps null x old new r.1)
whole_keeps A null x y old new (Err fault.WriteFault) ok outside read whole = absurd (false≢true (sym whole))
whole_keeps A null x y old new (Err fault.SyncFault) ok outside read whole = absurd (false≢true (sym whole))

-- a layer that was neither marked nor hardened anew keeps what ties it to its file
pub still_ties : (null : NullBytes) (x y : LayerState) (old new : Seen) → KeepsMap null x y old new → (x.marked ≡ false → x.hardened ≡ true → (y ≡ x) × (new ≡ old)) → KeepsLayer null x y old new
still_ties null x y old new keeps still = record { agreed = keeps; tied = λ told tied. by told tied }
  where
    by : Tells old → Tied x old.world → IsTiedAgain null x y old new
    by told (inl a) = let k = keeps told a in record { tied = inl k.agrees; same = k.same }
    by told (inr h) =
        let e = still h.marked h.hardened in
        subst (λ (s : LayerState). IsTiedAgain null x s old new) (sym e.0)
        (subst (λ (b : Seen). IsTiedAgain null x x old b) (sym e.1) (record { tied = inr h; same = record { each = λ t low. refl } }))

-- ---- the last of some layers was written back

module _ (layers : List LayerState) (n : ℕ) (x y : LayerState) (is : x ≡ get_or layers n x) (end : suc n ≡ length layers) where
  were : layers ≡ take n layers ++ x ∷ []
  were = last_is layers n x is end

  pub set_last : (P : LayerState → LayerState → Type 0) → P x y → ChangesLast P layers (set layers n y)
  set_last P h = changes_last P layers n x y is end h

  pub set_ends : {A B : Type 0} (P : LayerState → Type 0) (result : Result A B) → OnOk result (P y) → OnOk result (EndsWith P (set layers n y))
  set_ends P (Ok a) h = record { lower = take n layers; last = y; layers_are = last_set layers n y end; holds = h }
  set_ends P (Err why) h = tt

  pub set_grows : {A B : Type 0} (g : ℕ) (result : Result A B) → OnOk result (AddsInRoom g x y) → OnOk result (ChangesLast (AddsInRoom g) layers (set layers n y))
  set_grows g (Ok a) h = set_last (AddsInRoom g) h
  set_grows g (Err why) h = tt

  pub set_stays : {A : Type 0} (result : Result A LayerFault) → is_layer_broken_by result ≡ false → IfErr result (λ why. IsHarmless why → StaysInRoom x y) → IfErr result (λ why. ChangesLast StaysInRoom layers (set layers n y))
  set_stays (Ok a) whole h = tt
  set_stays (Err (fault.Track why)) whole h = set_last StaysInRoom (h tt)
  set_stays (Err (fault.Full full)) whole h = set_last StaysInRoom (h tt)
  set_stays (Err fault.ReadFault) whole h = set_last StaysInRoom (h tt)
  set_stays (Err fault.WriteFault) whole h = absurd (false≢true (sym whole))
  set_stays (Err fault.SyncFault) whole h = absurd (false≢true (sym whole))

  pub set_lacks : {A : Type 0} (null : NullBytes) (new : Seen) (t : ℕ) (bytes : List ℕ) (result : Result A LayerFault) → IfErr result (LacksPlace null y new t bytes)
      → IfErr result (λ why. EndsWith (λ layer. LacksPlace null layer new t bytes why) (set layers n y))
  set_lacks null new t bytes (Ok a) h = tt
  set_lacks null new t bytes (Err why) h = record { lower = take n layers; last = y; layers_are = last_set layers n y end; holds = h }

  both_lists : (P : List LayerState → List LayerState → Type 0) → P (take n layers ++ x ∷ []) (take n layers ++ y ∷ []) → P layers (set layers n y)
  both_lists P h =
      subst (λ (ls : List LayerState). P ls (set layers n y)) (sym were)
      (subst (λ (ls : List LayerState). P (take n layers ++ x ∷ []) ls) (sym (last_set layers n y end)) h)

  -- a track of the device is one of the layer's
  pub set_device : (g : Geometry) → AreLayersFrom g 0 layers → (t : ℕ) → t < track_count g → t < track_count x.tables.layout.geo
  set_device g are t device =
      subst (λ (k : Geometry). t < track_count k) (sym (own_layer g (take n layers) x (subst (AreLayersFrom g 0) were are)).shape) device

  -- its geometry is the device's
  pub set_geometry : (g : Geometry) → AreLayersFrom g 0 layers → x.tables.layout.geo ≡ g
  set_geometry g are = (own_layer g (take n layers) x (subst (AreLayersFrom g 0) were are)).shape

  -- what is written back as it was leaves the layers
  pub set_back : y ≡ x → set layers n y ≡ layers
  set_back same = last_set layers n y end ∙ (ap (λ (z : LayerState). take n layers ++ z ∷ []) same ∙ sym were)

  -- the last of layers that are tied to their files is
  pub set_tied : (s : Seen) → (Tells s → IsSure s.world → AreTied layers s.world) → TiedIn x s
  set_tied s tied = λ told sure. own_by Tied (take n layers) x s.world (subst (λ (ls : List LayerState). AreTied ls s.world) were (tied told sure))

  -- why a write is refused
  pub set_refusal : {A : Type 0} (null : NullBytes) (found : Option TrackFault) (old new : Seen) (t : ℕ) (bytes : List ℕ) (result : Result A LayerFault) → IfErr result (IsWriteRefusal null found x y old new t bytes)
      → IfErr result (IsWriteRefused null found layers (set layers n y) old new t bytes)
  set_refusal null found old new t bytes (Ok a) h = tt
  set_refusal null found old new t bytes (Err why) h = changes_last (λ s k. IsWriteRefusal null found s k old new t bytes why) layers n x y is end h

  module _ (null : NullBytes) (g : Geometry) (old new : Seen) (are : AreLayersFrom g 0 layers) (same : IsSameFile x y) (others : OnlyIn x.slot old new) where
    are_split : AreLayersFrom g 0 (take n layers ++ x ∷ [])
    are_split = subst (AreLayersFrom g 0) were are

    pub set_layers : AreLayersFrom g 0 (set layers n y)
    set_layers =
        subst (AreLayersFrom g 0) (sym (last_set layers n y end))
        (layers_again g (take n layers) x y same.slot (ap (λ (l : Layout). l.geo) same.layout) are_split)

    pub set_whole : AreWhole layers → y.broken ≡ false → AreWhole (set layers n y)
    set_whole whole h = subst AreWhole (sym (last_set layers n y end)) (whole_again (take n layers) x y h (subst AreWhole were whole))

    pub set_keeps : KeepsMap null x y old new → KeepsStack null layers (set layers n y) old new
    set_keeps keeps = both_lists (λ was next. KeepsStack null was next old new) (keeps_stack null g (take n layers) x y old new are_split same others keeps)

    pub set_keeps_each : KeepsLayer null x y old new → KeepsEach null layers (set layers n y) old new
    set_keeps_each keeps = both_lists (λ was next. KeepsEach null was next old new) (keeps_each null g (take n layers) x y old new are_split same others keeps)

    pub set_stores : (t : ℕ) (bytes : List ℕ) → t < track_count g → (Tells old → Tied x old.world → StoresIn [] null x y t (Some bytes) old new)
        → StoresEach null (t, bytes) layers (set layers n y) old new
    set_stores t bytes device stores =
        both_lists (λ was next. StoresEach null (t, bytes) was next old new) (stores_each null g (take n layers) x y old new are_split same others t bytes device stores)

    pub set_stores_ok : {A B : Type 0} (result : Result A B) (t : ℕ) (bytes : List ℕ) → t < track_count g
        → OnOk result (Tells old → Tied x old.world → StoresIn [] null x y t (Some bytes) old new) → OnOk result (StoresEach null (t, bytes) layers (set layers n y) old new)
    set_stores_ok (Ok a) t bytes device stores = set_stores t bytes device stores
    set_stores_ok (Err why) t bytes device stores = tt

    -- a refusal that doesn't break keeps the stack
    pub set_keeps_harmless : {A : Type 0} (result : Result A LayerFault) → is_layer_broken_by result ≡ false → IfErr result (λ why. IsHarmless why → KeepsLayer null x y old new)
        → IfErr result (λ why. KeepsEach null layers (set layers n y) old new)
    set_keeps_harmless (Ok a) whole kept = tt
    set_keeps_harmless (Err (fault.Track why)) whole kept = set_keeps_each (kept tt)
    set_keeps_harmless (Err (fault.Full full)) whole kept = set_keeps_each (kept tt)
    set_keeps_harmless (Err fault.ReadFault) whole kept = set_keeps_each (kept tt)
    set_keeps_harmless (Err fault.WriteFault) whole kept = absurd (false≢true (sym whole))
    set_keeps_harmless (Err fault.SyncFault) whole kept = absurd (false≢true (sym whole))

    has_split : (was : Hardening) → HasHardening null g layers was old → HasHardening null g (take n layers ++ x ∷ []) was old
    has_split was has = subst (λ (ls : List LayerState). HasHardening null g ls was old) were has

    pub set_lies : StopsWithin null x old new → StopsLie null g layers old new
    set_lies stopped = λ was has. lies_at_each null g (take n layers) x old new are_split was (has_split was has) others stopped

    pub set_settles : StopHolds null x old new → StopsSettle null g layers old new
    set_settles holds = λ was has. settles_then null g (take n layers) x old new are_split was (has_split was has) others holds

    pub set_settles_ok : {A B : Type 0} (result : Result A B) → OnOk result (StopHolds null x old new) → OnOk result (StopsSettle null g layers old new)
    set_settles_ok (Ok a) holds = set_settles holds
    set_settles_ok (Err why) holds = tt

    pub set_others : (k : ℕ) → k ≡ n → OnlyIn k old new
    set_others k e =
        let long : length (take n layers) ≡ n = omega (arith, ap length were, length-append (take n layers) (x ∷ []), end) in
        subst (λ (j : ℕ). OnlyIn j old new) ((own_layer g (take n layers) x are_split).slot_is ∙ long ∙ sym e) others

-- ---- what is hardened and was written, after a call

module _ (null : NullBytes) (g : Geometry) (layers next : List LayerState) (old new : Seen) (was : Hardening) (has : HasHardening null g layers was old) (tells : Tells old → Tells new) where
  -- where the stack is the same
  pub kept_hardening : KeepsStack null layers next old new → StopsLie null g layers old new → HasHardening null g next was new
  kept_hardening keeps lie =
      let k = keeps has.tells has.agree in
      record {
        null_is = has.null_is;
        tells = tells has.tells;
        agree = k.agree;
        stack_is = has.stack_is ∙ sym k.are;
        hardened = record {
          now = has.hardened.now;
          stops = at_end (EachOpens g (Lies was.hard was.later)) old.world.events new.world.events (lie was has);
        };
      }

  -- where all of it was hardened
  pub settled_hardening : KeepsStack null layers next old new → StopsSettle null g layers old new → HasHardening null g next (all_hardened was) new
  settled_hardening keeps settle =
      let k = keeps has.tells has.agree in
      record {
        null_is = has.null_is;
        tells = tells has.tells;
        agree = k.agree;
        stack_is = has.stack_is ∙ sym k.are;
        hardened = record { now = lies_same was.stack []; stops = settle was has };
      }

  -- where bytes were written to a track
  pub written_hardening : (p : Pair) → StoresOnTop null p layers next old new → StopsLie null g layers old new → HasHardening null g next (with_written p was) new
  written_hardening p stores lie =
      let k = stores has.tells has.agree in
      record {
        null_is = has.null_is;
        tells = tells has.tells;
        agree = k.agree;
        stack_is = ap (λ (s : Stack). with_pair_on_top s p) has.stack_is ∙ sym k.are;
        hardened = record {
          now = lies_put was.hard was.stack was.later (Some p) has.hardened.now;
          stops = opens_weaker g (Lies was.hard was.later) (Lies was.hard (p ∷ was.later)) new.world.events (λ s h. lies_more was.hard was.later (p ∷ []) s h)
              (at_end (EachOpens g (Lies was.hard was.later)) old.world.events new.world.events (lie was has));
        };
      }

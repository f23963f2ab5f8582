-- A layer that is made ready for a write, and then written.
use Rattle.cckd_layer.proofs.InRoomLemmas.{room_adds, room_then}
use Rattle.cckd_stack.specs.Room.{LacksPlace, IsNoFull}
use Rattle.cckd_layer.specs.Justified.{StaysInRoom, AddsInRoom}
use Rattle.std.proofs.Common.{◌≡◌, ℕ, ◌<◌, true, List, [], Option, Some, None, Result, Ok, Err, OnOk, IfErr, refl, sym, ◌∙◌, ap, subst, inl}
use Rattle.cckd_base.specs.declared.geometry.Geometry.{Geometry}
use Rattle.cckd_base.specs.declared.geometry.Layout.{Layout}
use Rattle.cckd_base.specs.declared.fault.TrackFault.{TrackFault}
use Rattle.cckd_base.specs.declared.layer_fault.LayerFault.{LayerFault}
use Rattle.cckd_base.specs.declared.layer_fault.LayerFault.TheVariants as fault
use Rattle.cckd_base.specs.Geometry.{track_count}
use Rattle.cckd_shelf.specs.Seen.{Seen, Tells}
use Rattle.cckd_shelf.specs.World.{World, IsSure, file_of}
use Rattle.cckd_shelf.specs.Outcomes.{EachOutcome, AtEach}
use Rattle.cckd_shelf.proofs.MomentLemmas.{at_once}
use Rattle.cckd_tables.specs.Looking.{with_cached}
use Rattle.cckd_layer.specs.Held.{NullBytes, LiesWithin, Keeps, held}
use Rattle.cckd_layer.specs.Mounted.{LayerState, with_tables}
use Rattle.cckd_layer.specs.Writes.{Agrees, KeepsMap, StopsWithin, StoresIn, IsSameFile, IsOutside}
use Rattle.cckd_layer.specs.Storing.{StoresTrack, IsStoredOf, IsWriteRefusal, IsHarmless}
use Rattle.cckd_layer.specs.Loose.{Tied, TiedIn, Completes, IsUndisturbed, IsOnlyLooked, IsSameBeside}
use Rattle.cckd_layer.proofs.ExcessLemmas.{tied_sure, tied_marked, looked_nothing, still_looked, completes_looked}
use Rattle.cckd_stack.specs.Writes.{KeepsLayer}

-- ---- what makes it ready

pub beside_file : (s next : LayerState) → IsSameBeside s next → IsSameFile s next
beside_file s next h = record {
  slot = ap (λ (x : LayerState). x.slot) h.rest;
  layout = h.layout;
  limit = ap (λ (x : LayerState). x.plan.limit) h.rest;
}

pub same_file_of : (s : LayerState) → IsSameFile s s
same_file_of s = record { slot = refl; layout = refl; limit = refl }

pub file_then : (s m n : LayerState) → IsSameFile s m → IsSameFile m n → IsSameFile s n
file_then s m n f h = record { slot = h.slot ∙ f.slot; layout = h.layout ∙ f.layout; limit = h.limit ∙ f.limit }

-- a layer that was changed is ready
pub marked_ready : (null : NullBytes) (s : LayerState) (a : Seen) → TiedIn s a → s.marked ≡ true → Completes null s s a a
marked_ready null s a tied marked = completes_looked null s s a a (looked_nothing s a tied) (λ told sure. tied_marked s a.world (tied told sure) marked)

-- where nothing is done, it agrees as before
pub nothing_still : (null : NullBytes) (s : LayerState) (a : Seen) → TiedIn s a → Tells a → Agrees s a.world → IsUndisturbed null s s a a
nothing_still null s a tied = still_looked null s s a a (λ told. told) (looked_nothing s a tied)

-- a harmless fault of completing is one of reading
pub complete_looked : (s m : LayerState) (a b : Seen) (result : Result (Unit {0}) LayerFault) → IfErr result IsOutside → (result ≡ Err fault.ReadFault → IsOnlyLooked s m a b)
    → IfErr result (λ why. IsHarmless why → IsOnlyLooked s m a b)
complete_looked s m a b (Ok done) outside read = tt
complete_looked s m a b (Err (fault.Track found)) outside read = absurd outside
complete_looked s m a b (Err (fault.Full full)) outside read = absurd outside
complete_looked s m a b (Err fault.ReadFault) outside read = λ h. read refl
complete_looked s m a b (Err fault.WriteFault) outside read = λ h. absurd h
complete_looked s m a b (Err fault.SyncFault) outside read = λ h. absurd h

-- a fault of completing is one for which a write may be refused
pub complete_refusal : (null : NullBytes) (found : Option TrackFault) (s m : LayerState) (a b : Seen) (t : ℕ) (bytes : List ℕ) (result : Result (Unit {0}) LayerFault) → found ≡ None
    → IfErr result IsOutside → IfErr result (IsWriteRefusal null found s m a b t bytes)
complete_refusal null found s m a b t bytes (Ok done) none outside = tt
complete_refusal null found s m a b t bytes (Err (fault.Track why)) none outside = absurd outside
complete_refusal null found s m a b t bytes (Err (fault.Full full)) none outside = absurd outside
complete_refusal null found s m a b t bytes (Err fault.ReadFault) none outside = (none, tt)
complete_refusal null found s m a b t bytes (Err fault.WriteFault) none outside = (none, tt)
complete_refusal null found s m a b t bytes (Err fault.SyncFault) none outside = (none, tt)

-- nothing that is at fault was completed
pub not_at_fault : (found : Option TrackFault) (why : TrackFault) {P : Type 0} → found ≡ None → found ≡ Some why → P
not_at_fault found why none some = absurd (let e : None ≡ Some why = sym none ∙ some in cc)

pub same_fault : (found : Option TrackFault) (a b : TrackFault) → found ≡ Some a → found ≡ Some b → fault.Track a ≡ fault.Track b
same_fault found a b f h = let e : Some a ≡ Some b = sym f ∙ h in let same : a ≡ b = cc in ap (λ (x : TrackFault). fault.Track x) same

-- ---- it was made ready, and then written

module _ (null : NullBytes) (s m n : LayerState) (a b c : Seen) (tells : Tells a → Tells b) (same : IsSameFile s m) (done : Completes null s m a b)
    (still : Tells a → Agrees s a.world → IsUndisturbed null s m a b)
  where
    low_then : (t : ℕ) → t < track_count s.tables.layout.geo → t < track_count m.tables.layout.geo
    low_then t low = subst (λ (l : Layout). t < track_count l.geo) (sym same.layout) low

    pub ready_stores : {A B : Type 0} (result : Result A B) (t : ℕ) (bytes : List ℕ) → OnOk result (StoresTrack null m n t bytes b c)
        → OnOk result (Tells a → Tied s a.world → StoresIn [] null s n t (Some bytes) a c)
    ready_stores (Err why) t bytes stores = tt
    ready_stores (Ok ok) t bytes stores = λ told tied.
        let whole = done told (tied_sure s a.world tied) in
        let p = stores (tells told) whole.agrees in
        record {
          agrees = p.agrees;
          stores = record {
            here = p.stores.here;
            others = λ u low other. p.stores.others u (low_then u low) other ∙ whole.same.each u low;
          };
        }

    ready_keeps : KeepsMap null m n b c → KeepsLayer null s n a c
    ready_keeps keeps = record {
      agreed = λ told agrees.
          let u = still told agrees in
          let k = keeps (tells told) u.again.agrees in
          record {
            agrees = k.agrees;
            entries = λ t low. k.entries t (low_then t low) ∙ u.again.entries t low;
            same = record { each = λ t low. k.same.each t (low_then t low) ∙ u.again.same.each t low };
          };
      tied = λ told tied.
          let u = done told (tied_sure s a.world tied) in
          let k = keeps (tells told) u.agrees in
          record { tied = inl k.agrees; same = record { each = λ t low. k.same.each t (low_then t low) ∙ u.same.each t low } };
    }

    pub ready_kept : {A : Type 0} (result : Result A LayerFault) → IfErr result (λ why. IsHarmless why → KeepsMap null m n b c) → IfErr result (λ why. IsHarmless why → KeepsLayer null s n a c)
    ready_kept (Ok ok) kept = tt
    ready_kept (Err why) kept = λ h. ready_keeps (kept h)

    refusal_by : (found : Option TrackFault) (t : ℕ) (bytes : List ℕ) (why : LayerFault) → IsWriteRefusal null found m n b c t bytes why → IsWriteRefusal null found s n a c t bytes why
    refusal_by found t bytes (fault.Track why) h = h
    refusal_by found t bytes (fault.Full full) h = (
      h.0,
      λ told agrees.
          let r = h.1 (tells told) (still told agrees).again.agrees in
          (r.0, subst (λ (l : Layout). IsStoredOf null l.geo t bytes r.0) same.layout r.1, r.2),
    )
    refusal_by found t bytes fault.ReadFault h = (h.0, tt)
    refusal_by found t bytes fault.WriteFault h = (h.0, tt)
    refusal_by found t bytes fault.SyncFault h = (h.0, tt)

    pub ready_refusal : {A : Type 0} (result : Result A LayerFault) (found : Geometry → Option TrackFault) (t : ℕ) (bytes : List ℕ)
        → IfErr result (IsWriteRefusal null (found m.tables.layout.geo) m n b c t bytes) → IfErr result (IsWriteRefusal null (found s.tables.layout.geo) s n a c t bytes)
    ready_refusal (Ok ok) found t bytes h = tt
    ready_refusal (Err why) found t bytes h =
        refusal_by (found s.tables.layout.geo) t bytes why (subst (λ (l : Layout). IsWriteRefusal null (found l.geo) m n b c t bytes why) same.layout h)

    -- a stop leaves no more than the write may leave
    pub ready_stopped : StopsWithin null m b c → StopsWithin null s a c
    ready_stopped stopped = λ d later told agrees lies each.
        let u = still told agrees in
        let l = s.tables.layout in
        let here : StopsWithin null (with_tables s (with_cached s.tables m.tables.cached)) b c = subst (λ (x : LayerState). StopsWithin null x b c) u.rest stopped in
        let own : Agrees (with_tables s (with_cached s.tables m.tables.cached)) b.world = subst (λ (x : LayerState). Agrees x b.world) u.rest u.again.agrees in
        let P = EachOutcome s.slot (Keeps null l d later) in
        subst (λ (w : World). AtEach w.events c.world.events P) u.world
        (here d later (tells told) own
        (subst (λ (w : World). LiesWithin (track_count l.geo) d later (held null l s.tables.stages (file_of w s.slot))) (sym u.world) lies)
        (subst (λ (w : World). P w.events) (sym u.world) each))

    -- it lacks room, where it is tied alone
    pub ready_lacks : {A : Type 0} (result : Result A LayerFault) (found : Option TrackFault) (t : ℕ) (bytes : List ℕ) → IfErr result (IsWriteRefusal null found m n b c t bytes) → IsSameFile m n → Tells a → IsSure a.world
        → IfErr result (LacksPlace null n c t bytes)
    ready_lacks (Ok ok) found t bytes h then told sure = tt
    ready_lacks (Err (fault.Track why)) found t bytes h then told sure = tt
    ready_lacks (Err fault.ReadFault) found t bytes h then told sure = tt
    ready_lacks (Err fault.WriteFault) found t bytes h then told sure = tt
    ready_lacks (Err fault.SyncFault) found t bytes h then told sure = tt
    ready_lacks (Err (fault.Full full)) found t bytes h then told sure =
        let r = h.1 (tells told) (done told sure).agrees in
        (r.0, subst (λ (l : Layout). IsStoredOf null l.geo t bytes r.0) (sym then.layout) r.1, r.2)

    -- it stages what the write stages
    pub ready_grows : {A B : Type 0} (result : Result A B) (g : ℕ) → StaysInRoom s m → OnOk result (AddsInRoom g m n) → OnOk result (AddsInRoom g s n)
    ready_grows (Ok ok) g room grows = room_adds g s m n same room grows
    ready_grows (Err why) g room grows = tt

    pub ready_stays : {A : Type 0} (result : Result A LayerFault) → StaysInRoom s m → IfErr result (λ why. IsHarmless why → StaysInRoom m n) → IfErr result (λ why. IsHarmless why → StaysInRoom s n)
    ready_stays (Ok ok) room stays = tt
    ready_stays (Err why) room stays = λ harmless. room_then s m n same room (stays harmless)

-- a fault of another kind isn't want of room
pub kind_lacks : (null : NullBytes) (m : LayerState) (b : Seen) (t : ℕ) (bytes : List ℕ) (why : LayerFault) → IsNoFull why → LacksPlace null m b t bytes why
kind_lacks null m b t bytes (fault.Full full) kind = absurd kind
kind_lacks null m b t bytes (fault.Track why) kind = tt
kind_lacks null m b t bytes fault.ReadFault kind = tt
kind_lacks null m b t bytes fault.WriteFault kind = tt
kind_lacks null m b t bytes fault.SyncFault kind = tt

pub outside_kind : (result : Result (Unit {0}) LayerFault) → IfErr result IsOutside → IfErr result IsNoFull
outside_kind (Ok done) outside = tt
outside_kind (Err (fault.Full full)) outside = absurd outside
outside_kind (Err (fault.Track why)) outside = absurd outside
outside_kind (Err fault.ReadFault) outside = tt
outside_kind (Err fault.WriteFault) outside = tt
outside_kind (Err fault.SyncFault) outside = tt

-- ---- it wasn't made ready

module _ (null : NullBytes) (s m : LayerState) (a b : Seen) (tells : Tells a → Tells b) (still : Tells a → Agrees s a.world → IsUndisturbed null s m a b) where
  pub looked_keeps : IsOnlyLooked s m a b → KeepsLayer null s m a b
  looked_keeps h = record {
    agreed = λ told agrees. (still told agrees).again;
    tied = λ told tied. record {
      tied = h.tied (tells told) (subst IsSure (sym (h.kept told)) (tied_sure s a.world tied));
      same = record {
        each = λ t low.
            subst (λ (x : LayerState). held null x.tables.layout x.tables.stages (file_of b.world x.slot) t ≡ held null s.tables.layout s.tables.stages (file_of a.world s.slot) t) (sym h.rest)
            (ap (λ (w : World). held null s.tables.layout s.tables.stages (file_of w s.slot) t) (h.kept told));
      };
    };
  }

  -- a stop leaves what it could leave before
  pub still_stopped : StopsWithin null s a b
  still_stopped = λ d later told agrees lies each.
      let P = EachOutcome s.slot (Keeps null s.tables.layout d later) in
      subst (λ (w : World). AtEach a.world.events w.events P) (sym (still told agrees).world) (at_once P a.world.events each)

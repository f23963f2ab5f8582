-- Acts of a layer that has claimed places, one after the other.
use Rattle.std.proofs.Common.{◌≡◌, ◌⊎◌, ◌<◌, ℕ, List, [], Option, Result, Ok, Err, IfOk, IfErr, OnOk, OnErr, sym, ◌∙◌, ap, subst, inl, inr}
use Rattle.cckd_shelf.specs.Outcomes.{EachOutcome, AtEach}
use Rattle.cckd_shelf.specs.Seen.{Seen, Tells, Stays}
use Rattle.cckd_shelf.specs.Frame.{OnlyIn}
use Rattle.cckd_shelf.proofs.MomentLemmas.{joins, at_end, kept_at}
use Rattle.cckd_shelf.proofs.FrameLemmas.{only_twice, only_stays}
use Rattle.cckd_base.specs.declared.geometry.Layout.{Layout}
use Rattle.cckd_base.specs.declared.space.Extent.{Extent}
use Rattle.cckd_base.specs.Geometry.{track_count}
use Rattle.cckd_tables.specs.declared.device.Device.{Device}
use Rattle.cckd_tables.specs.declared.device.Device.TheVariants as device
use Rattle.cckd_layer.specs.Held.{NullBytes, Tracks, Later, IsLater, AreSame, LiesWithin, Keeps}
use Rattle.cckd_base.specs.declared.layer_fault.LayerFault.{LayerFault}
use Rattle.cckd_layer.specs.Mounted.{LayerState}
use Rattle.cckd_layer.specs.Writes.{AgreesWith, KeepsMap, KeepsMapWith, StopsWithin, StopsWithinWith, IsSameLayer, IsSameFile, IsAct, IsPut, map_of, failed_by, marked_layer}

pub same_file_twice : (a b c : LayerState) → IsSameFile a b → IsSameFile b c → IsSameFile a c
same_file_twice a b c h k = record { slot = k.slot ∙ h.slot; layout = k.layout ∙ h.layout; limit = k.limit ∙ h.limit }

pub same_file : (a b : LayerState) → IsSameLayer a b → IsSameFile a b
same_file a b h = record { slot = h.slot; layout = h.layout; limit = h.limit }

-- an act that does nothing to the outside
pub act_still : (claims : List Extent) (null : NullBytes) (s next : LayerState) (old new : Seen) → IsSameFile s next → Stays old new → IsAct claims null s next old new
act_still claims null s next old new same stays = record {
  same = same;
  stopped = λ d later told a within each. kept_at (EachOutcome s.slot (Keeps null s.tables.layout d later)) old.world new.world (stays told) each;
  others = only_stays s.slot old new stays;
}

-- the map is kept by both, where it is by each
pub maps_then : (before mid behind : List Extent) (null : NullBytes) (s m n : LayerState) (a b c : Seen) → (Tells a → Tells b) → IsSameFile s m → KeepsMapWith before mid null s m a b → KeepsMapWith mid behind null m n b c
    → KeepsMapWith before behind null s n a c
maps_then before mid behind null s m n a b c tells same h k told agrees =
    let first = h told agrees in
    let again = k (tells told) first.agrees in
    record {
      agrees = again.agrees;
      entries = λ t low. again.entries t (subst (λ (l : Layout). t < track_count l.geo) (sym same.layout) low) ∙ first.entries t low;
      same = record { each = λ t low. again.same.each t (subst (λ (l : Layout). t < track_count l.geo) (sym same.layout) low) ∙ first.same.each t low };
    }

-- the same stretch, of another state of the layer
pub within_as : (claims : List Extent) (null : NullBytes) (slot : ℕ) (l : Layout) (m : LayerState) (old new : Seen) → m.slot ≡ slot → m.tables.layout ≡ l → StopsWithinWith claims null m old new
    → (d : Tracks) (later : List Later) → Tells old → AgreesWith claims m old.world → LiesWithin (track_count l.geo) d later (map_of null m old)
    → EachOutcome slot (Keeps null l d later) old.world.events → AtEach old.world.events new.world.events (EachOutcome slot (Keeps null l d later))
within_as claims null slot l m old new at is h =
    subst (λ (x : Layout). (d : Tracks) (later : List Later) → Tells old → AgreesWith claims m old.world → LiesWithin (track_count x.geo) d later (map_of null m old)
    → EachOutcome slot (Keeps null x d later) old.world.events → AtEach old.world.events new.world.events (EachOutcome slot (Keeps null x d later))) is
    (subst (λ (n : ℕ). (d : Tracks) (later : List Later) → Tells old → AgreesWith claims m old.world → LiesWithin (track_count m.tables.layout.geo) d later (map_of null m old)
    → EachOutcome n (Keeps null m.tables.layout d later) old.world.events → AtEach old.world.events new.world.events (EachOutcome n (Keeps null m.tables.layout d later))) at h)

same_within : (count : ℕ) (d m k : Tracks) (later : List Later) → AreSame count k m → LiesWithin count d later m → LiesWithin count d later k
same_within count d m k later same within = record { each = λ t low. subst (λ (o : Option (List ℕ)). (o ≡ d t) ⊎ IsLater later t o) (sym (same.each t low)) (within.each t low) }

-- two acts of which the first keeps the map are one
pub act_then : (before mid : List Extent) (null : NullBytes) (s m n : LayerState) (a b c : Seen) → (Tells a → Tells b) → IsAct before null s m a b → KeepsMapWith before mid null s m a b → IsAct mid null m n b c → IsAct before null s n a c
act_then before mid null s m n a b c tells h map k = record {
  same = same_file_twice s m n h.same k.same;
  stopped = λ d later told agrees within each.
      let l = s.tables.layout in
      let Q = EachOutcome s.slot (Keeps null l d later) in
      let first = h.stopped d later told agrees within each in
      let again = map told agrees in
      joins Q a.world.events b.world.events c.world.events first
      (within_as mid null s.slot l m b c h.same.slot h.same.layout k.stopped d later (tells told) again.agrees (same_within (track_count l.geo) d (map_of null s a) (map_of null m b) later again.same within)
      (at_end Q a.world.events b.world.events first));
  others = only_twice s.slot a b c tells h.others (subst (λ (n : ℕ). OnlyIn n b c) h.same.slot k.others);
}

-- a hardening
pub act_hardened : (null : NullBytes) (s next : LayerState) (old new : Seen) → IsSameLayer s next → StopsWithin null s old new → OnlyIn s.slot old new → IsAct [] null s next old new
act_hardened null s next old new same stopped others = record { same = same_file s next same; stopped = stopped; others = others }

-- what keeps the map behind acts that did, by what comes of it
pub map_ok : {A : Type 0} (claims : A → List Extent) (null : NullBytes) (s m n : LayerState) (a b c : Seen) (r : Result A LayerFault) → (Tells a → Tells b) → IsSameFile s m → KeepsMap null s m a b
    → IfOk r (λ x. KeepsMapWith [] (claims x) null m n b c) → IfOk r (λ x. KeepsMapWith [] (claims x) null s n a c)
map_ok claims null s m n a b c (Ok x) tells same h k = maps_then [] [] (claims x) null s m n a b c tells same h k
map_ok claims null s m n a b c (Err why) tells same h k = tt

pub map_err : {A : Type 0} (null : NullBytes) (s m n : LayerState) (a b c : Seen) (r : Result A LayerFault) → (Tells a → Tells b) → IsSameFile s m → KeepsMap null s m a b → OnErr r (KeepsMap null m n b c) → OnErr r (KeepsMap null s n a c)
map_err null s m n a b c (Ok x) tells same h k = tt
map_err null s m n a b c (Err why) tells same h k = maps_then [] [] [] null s m n a b c tells same h k

-- what holds at each fault holds at those of a kind
pub err_for : {A : Type 0} (P : Type 0) (Q : LayerFault → Type 0) (r : Result A LayerFault) → OnErr r P → IfErr r (λ why. Q why → P)
err_for P Q (Ok x) h = tt
err_for P Q (Err why) h = λ q. h

-- what follows from what holds at Ok
pub ok_then : {A E : Type 0} {P Q : Type 0} (r : Result A E) → (P → Q) → OnOk r P → OnOk r Q
ok_then (Ok x) f p = f p
ok_then (Err why) f p = tt

-- the mark leaves the file that a layer is of
pub same_marked : (s m : LayerState) → (m ≡ s) ⊎ (m ≡ marked_layer s) → IsSameFile s m
same_marked s m (inl same) = record { slot = ap (λ (x : LayerState). x.slot) same; layout = ap (λ (x : LayerState). x.tables.layout) same; limit = ap (λ (x : LayerState). x.plan.limit) same }
same_marked s m (inr marked) = record { slot = ap (λ (x : LayerState). x.slot) marked; layout = ap (λ (x : LayerState). x.tables.layout) marked; limit = ap (λ (x : LayerState). x.plan.limit) marked }

-- so do bytes that are put, or weren't
pub same_put : (s m : LayerState) (r : Result (Unit {0}) Device) → OnOk r (IsPut s m) → IfErr r (λ fault. (fault ≡ device.Write) × (m ≡ failed_by device.Write s)) → IsSameFile s m
same_put s m (Ok done) put failed = record { slot = ap (λ (x : LayerState). x.slot) put; layout = ap (λ (x : LayerState). x.tables.layout) put; limit = ap (λ (x : LayerState). x.plan.limit) put }
same_put s m (Err fault) put failed = record { slot = ap (λ (x : LayerState). x.slot) failed.1; layout = ap (λ (x : LayerState). x.tables.layout) failed.1; limit = ap (λ (x : LayerState). x.plan.limit) failed.1 }

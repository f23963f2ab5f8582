-- Two acts of a layer, one after the other.
use Rattle.std.proofs.Common.{◌≡◌, ◌⊎◌, ◌<◌, ℕ, List, Option, map, refl, sym, ◌∙◌, ap, subst, arith}
use Rattle.cckd_shelf.specs.Outcomes.{EachOutcome, AtEach}
use Rattle.cckd_shelf.specs.Seen.{Seen, Tells}
use Rattle.cckd_shelf.specs.Frame.{OnlyIn}
use Rattle.cckd_shelf.proofs.MomentLemmas.{joins, at_end}
use Rattle.cckd_shelf.proofs.FrameLemmas.{only_twice}
use Rattle.cckd_base.specs.declared.geometry.Layout.{Layout}
use Rattle.cckd_base.specs.declared.space.Extent.{Extent}
use Rattle.cckd_base.specs.Geometry.{track_count}
use Rattle.cckd_space.specs.Pieces.{counted, is_leaving, is_pending, leaving_kind, pending_kind, retired}
use Rattle.cckd_space.proofs.CountLemmas.{count_retired, count_released}
use Rattle.cckd_tables.specs.Tables.{TableView}
use Rattle.cckd_layer.specs.Held.{NullBytes, Tracks, Later, IsLater, AreSame, LiesWithin, Keeps}
use Rattle.cckd_layer.specs.Mounted.{LayerState}
use Rattle.cckd_layer.specs.Writes.{Agrees, AgreesAgain, KeepsMap, KeepsMapWith, with_plan, map_of, IsSameLayer, IsCommitted, IsReleased, IsSettled, StopsWithin}
use Rattle.cckd_layer.specs.Acts.{spaces_of, settled_all}

pub committed_same : (s next : LayerState) → IsCommitted s next → IsSameLayer s next
committed_same s next c = record {
  slot = ap (λ (x : LayerState). x.slot) c.rest;
  header = ap (λ (x : LayerState). x.header) c.rest;
  layout = ap (λ (t : TableView). t.layout) c.tables.rest;
  limit = c.pieces.settled.limit ∙ c.pieces.free.limit;
  marked = ap (λ (x : LayerState). x.marked) c.rest;
}

pub released_same : (s next : LayerState) → IsReleased s next → IsSameLayer s next
released_same s next c = record {
  slot = ap (λ (x : LayerState). x.slot) c.rest;
  header = ap (λ (x : LayerState). x.header) c.rest;
  layout = ap (λ (x : LayerState). x.tables.layout) c.rest;
  limit = c.pieces.limit;
  marked = ap (λ (x : LayerState). x.marked) c.rest;
}

-- behind a commit and the sync that makes it stay, nothing is under way
pub released_settled : (s m n : LayerState) → IsCommitted s m → IsReleased m n → IsSettled n
released_settled s m n c r =
    let settled = settled_all (spaces_of s.tables.stages) c.pieces.freed.pieces in
    let made : m.plan.pieces ≡ map retired settled = c.pieces.settled.made in
    let left : counted is_leaving m.plan.pieces ≡ 0 = ap (counted is_leaving) made ∙ (let k = count_retired leaving_kind refl settled in omega (arith, k)) in
    record {
      stages = ap (λ (x : LayerState). x.tables.stages) r.rest ∙ ap (λ (t : TableView). t.stages) c.tables.rest;
      leaving = ap (counted is_leaving) r.pieces.made ∙ (let k = count_released leaving_kind refl m.plan.pieces in omega (arith, k, left));
      pending = ap (counted is_pending) r.pieces.made ∙ (let k = count_released pending_kind refl m.plan.pieces in omega (arith, k));
    }

-- a layer agrees with its file after both, where it does after each
pub agrees_twice : (null : NullBytes) (s m n : LayerState) (a b c : Seen) → IsSameLayer s m → AgreesAgain null s m a b → AgreesAgain null m n b c → AgreesAgain null s n a c
agrees_twice null s m n a b c same h k = record {
  agrees = k.agrees;
  entries = λ t low. k.entries t (subst (λ (l : Layout). t < track_count l.geo) (sym same.layout) low) ∙ h.entries t low;
  same = record { each = λ t low. k.same.each t (subst (λ (l : Layout). t < track_count l.geo) (sym same.layout) low) ∙ h.same.each t low };
}

pub maps_twice : (null : NullBytes) (s m n : LayerState) (a b c : Seen) → (Tells a → Tells b) → IsSameLayer s m → KeepsMap null s m a b → KeepsMap null m n b c → KeepsMap null s n a c
maps_twice null s m n a b c tells same h k told agrees =
    let first = h told agrees in agrees_twice null s m n a b c same first (k (tells told) first.agrees)

-- the same stretch, of another state of the layer
within_as : (null : NullBytes) (slot : ℕ) (l : Layout) (m : LayerState) (old new : Seen) → m.slot ≡ slot → m.tables.layout ≡ l → StopsWithin null m old new
    → (d : Tracks) (later : List Later) → Tells old → Agrees m old.world → LiesWithin (track_count l.geo) d later (map_of null m old)
    → EachOutcome slot (Keeps null l d later) old.world.events → AtEach old.world.events new.world.events (EachOutcome slot (Keeps null l d later))
within_as null slot l m old new at is h =
    subst (λ (x : Layout). (d : Tracks) (later : List Later) → Tells old → Agrees m old.world → LiesWithin (track_count x.geo) d later (map_of null m old)
    → EachOutcome slot (Keeps null x d later) old.world.events → AtEach old.world.events new.world.events (EachOutcome slot (Keeps null x d later))) is
    (subst (λ (n : ℕ). (d : Tracks) (later : List Later) → Tells old → Agrees m old.world → LiesWithin (track_count m.tables.layout.geo) d later (map_of null m old)
    → EachOutcome n (Keeps null m.tables.layout d later) old.world.events → AtEach old.world.events new.world.events (EachOutcome n (Keeps null m.tables.layout d later))) at h)

same_within : (count : ℕ) (d m k : Tracks) (later : List Later) → AreSame count k m → LiesWithin count d later m → LiesWithin count d later k
same_within count d m k later same within = record { each = λ t low. subst (λ (o : Option (List ℕ)). (o ≡ d t) ⊎ IsLater later t o) (sym (same.each t low)) (within.each t low) }

pub within_twice : (null : NullBytes) (s m : LayerState) (a b c : Seen) → (Tells a → Tells b) → IsSameLayer s m → KeepsMap null s m a b → StopsWithin null s a b → StopsWithin null m b c → StopsWithin null s a c
within_twice null s m a b c tells same map h k d later told agrees within each =
    let l = s.tables.layout in
    let Q = EachOutcome s.slot (Keeps null l d later) in
    let first = h d later told agrees within each in
    let again = map told agrees in
    joins Q a.world.events b.world.events c.world.events first
    (within_as null s.slot l m b c same.slot same.layout k d later (tells told) again.agrees (same_within (track_count l.geo) d (map_of null s a) (map_of null m b) later again.same within)
    (at_end Q a.world.events b.world.events first))

pub only_then : (slot other : ℕ) (a b c : Seen) → (Tells a → Tells b) → other ≡ slot → OnlyIn slot a b → OnlyIn other b c → OnlyIn slot a c
only_then slot other a b c tells same h k = only_twice slot a b c tells h (subst (λ (n : ℕ). OnlyIn n b c) same k)

-- two acts that change no more than the pieces, with their claims
pub plans_twice : (before mid behind : List Extent) (null : NullBytes) (s m n : LayerState) (w : Seen) → m ≡ with_plan s m.plan → KeepsMapWith before mid null s m w w → KeepsMapWith mid behind null m n w w → KeepsMapWith before behind null s n w w
plans_twice before mid behind null s m n w rest h k told a =
    let layout : m.tables.layout ≡ s.tables.layout = ap (λ (x : LayerState). x.tables.layout) rest in
    let first = h told a in
    let again = k told first.agrees in
    record {
      agrees = again.agrees;
      entries = λ t low. again.entries t (subst (λ (l : Layout). t < track_count l.geo) (sym layout) low) ∙ first.entries t low;
      same = record { each = λ t low. again.same.each t (subst (λ (l : Layout). t < track_count l.geo) (sym layout) low) ∙ first.same.each t low };
    }

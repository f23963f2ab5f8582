-- A write, and what its callers do then.
use Rattle.std.proofs.Common.{◌≡◌, ◌⊎◌, ◌<◌, ◌==◌, ℕ, Bool, true, false, List, [], ◌∷◌, Option, Some, Result, Ok, Err, OnOk, refl, sym, ◌∙◌, ap, subst, inl, inr}
use Rattle.std.proofs.lemmas.Bool.{eq-eqb, eqb-true, both_ways}
use Rattle.cckd_shelf.specs.Outcomes.{EachOutcome}
use Rattle.cckd_shelf.specs.Seen.{Seen, Tells}
use Rattle.cckd_shelf.specs.World.{IsSure}
use Rattle.cckd_shelf.specs.Frame.{OnlyIn}
use Rattle.cckd_shelf.proofs.MomentLemmas.{joins, at_end, at_once, weaker}
use Rattle.cckd_shelf.proofs.FrameLemmas.{only_twice, only_stays}
use Rattle.cckd_base.specs.declared.geometry.Layout.{Layout}
use Rattle.cckd_base.specs.declared.layer_fault.LayerFault.{LayerFault}
use Rattle.cckd_base.specs.Geometry.{track_count}
use Rattle.cckd_layer.specs.Held.{NullBytes, Tracks, Later, IsLater, Stores, LiesWithin, Keeps, Holds}
use Rattle.cckd_layer.specs.Mounted.{LayerState}
use Rattle.cckd_layer.specs.Writes.{Agrees, AgreesIn, KeepsMap, StopsWithin, StopHolds, StaysClosed, IsSameFile, map_of}
use Rattle.cckd_layer.specs.Storing.{StoresTrack}
use Rattle.cckd_disk_trials.specs.Callers.{StopsWritten, HoldsWritten, ClosesFile, StoresTied}
use Rattle.cckd_layer.specs.Loose.{Completes}
use Rattle.cckd_layer.proofs.SureLemmas.{sure_spared}
use Rattle.cckd_layer.proofs.ThenLemmas.{same_file_twice, within_as}

-- what keeps within what was written keeps within more
abbrev pub KeepMore : Type 0
KeepMore = (null : NullBytes) (l : Layout) (d : Tracks) (later : List Later) (more : Later) (file : List ℕ) → Keeps null l d later file → Keeps null l d (more ∷ later) file

-- a map with a write in it lies within what is as the map before, or was written since
pub stored_within : (count : ℕ) (d m k : Tracks) (more : Later) (later : List Later) → LiesWithin count d (more ∷ later) m → Stores count more.track (Some more.bytes) m k → LiesWithin count d (more ∷ later) k
stored_within count d m k more later within stores = record { each = λ u low. by u low (more.track == u) refl }
  where
    by : (u : ℕ) → u < count → (b : Bool) → (more.track == u) ≡ b → (k u ≡ d u) ⊎ IsLater (more ∷ later) u (k u)
    by u low true is =
        let here = eqb-true more.track u is in
        inr (inl (here, ap k (sym here) ∙ stores.here))
    by u low false is =
        let other = stores.others u low (λ same. both_ways (more.track == u) is (eq-eqb more.track u same)) in
        subst (λ (o : Option (List ℕ)). (o ≡ d u) ⊎ IsLater (more ∷ later) u o) (sym other) (within.each u low)

-- more was written
more_within : (count : ℕ) (d m : Tracks) (more : Later) (later : List Later) → LiesWithin count d later m → LiesWithin count d (more ∷ later) m
more_within count d m more later within = record { each = λ u low. by u (within.each u low) }
  where
    by : (u : ℕ) {o : Option (List ℕ)} → (o ≡ d u) ⊎ IsLater later u o → (o ≡ d u) ⊎ IsLater (more ∷ later) u o
    by u (inl h) = inl h
    by u (inr h) = inr (inr h)

-- a stop behind the write alone
pub write_stops : (null : NullBytes) (more : Later) (s : LayerState) (a b : Seen) → KeepMore → StopsWithin null s a b → StopsWritten null more s a b
write_stops null more s a b law h d later told agrees within each =
    let l = s.tables.layout in
    weaker (EachOutcome s.slot (Keeps null l d later)) (EachOutcome s.slot (Keeps null l d (more ∷ later))) a.world.events b.world.events
    (λ es kept file outcome. law null l d later more file (kept file outcome)) (h d later told agrees within each)

-- writes of one track so far: each was made, and the layer agrees with its file
pub record HasWritten (null : NullBytes) (more : Later) (s now : LayerState) (old new : Seen) : Type 0 where
  pub same : IsSameFile s now
  pub agrees : Tells new → IsSure old.world → Agrees now new.world
  pub lies : (d : Tracks) (later : List Later) → Tells old → Agrees s old.world → LiesWithin (track_count s.tables.layout.geo) d (more ∷ later) (map_of null s old)
      → LiesWithin (track_count s.tables.layout.geo) d (more ∷ later) (map_of null now new)
  pub rest : Tells old → Agrees s old.world → (u : ℕ) → u < track_count s.tables.layout.geo → (more.track ≡ u → ⊥) → map_of null now new u ≡ map_of null s old u
  pub stopped : StopsWritten null more s old new
  pub others : OnlyIn s.slot old new

-- the layer has the bytes of the last write
abbrev pub HasLast : NullBytes → Later → LayerState → LayerState → Seen → Seen → Type 0
HasLast null more s now old new = Tells old → Agrees s old.world → map_of null now new more.track ≡ Some more.bytes

-- the layer agrees with its file, as far as no operation failed half way
pub written_agrees : (null : NullBytes) (more : Later) (s now : LayerState) (old new : Seen) → (Tells new → Tells old) → HasWritten null more s now old new → AgreesIn now new
written_agrees null more s now old new back h told sure = h.agrees told (sure_spared s.slot old.world new.world (h.others (back told)) sure)

-- none yet
pub none_written : (null : NullBytes) (more : Later) (s : LayerState) (a : Seen) → KeepMore → AgreesIn s a → HasWritten null more s s a a
none_written null more s a law agrees = record {
  same = record { slot = refl; layout = refl; limit = refl };
  agrees = agrees;
  lies = λ d later told ag within. within;
  rest = λ told ag u low other. refl;
  stopped = λ d later told ag within each.
      at_once (EachOutcome s.slot (Keeps null s.tables.layout d (more ∷ later))) a.world.events (λ file outcome. law null s.tables.layout d later more file (each file outcome));
  others = only_stays s.slot a a (λ told. refl);
}

-- an act behind them, at any result
pub act_behind : (null : NullBytes) (more : Later) (s m : LayerState) (a b c : Seen) → (Tells a → Tells b) → HasWritten null more s m a b → StopsWithin null m b c → StopsWritten null more s a c
act_behind null more s m a b c tells h k d later told agrees within each =
    let l = s.tables.layout in
    let Q = EachOutcome s.slot (Keeps null l d (more ∷ later)) in
    let first = h.stopped d later told agrees within each in
    joins Q a.world.events b.world.events c.world.events first
    (within_as [] null s.slot l m b c h.same.slot h.same.layout k d (more ∷ later) (tells told) (h.agrees (tells told) agrees.stands.sure)
    (h.lies d later told agrees (more_within (track_count l.geo) d (map_of null s a) more later within)) (at_end Q a.world.events b.world.events first))

pub others_behind : (null : NullBytes) (more : Later) (s m : LayerState) (a b c : Seen) → (Tells a → Tells b) → HasWritten null more s m a b → OnlyIn m.slot b c → OnlyIn s.slot a c
others_behind null more s m a b c tells h k = only_twice s.slot a b c tells h.others (subst (λ (n : ℕ). OnlyIn n b c) h.same.slot k)

-- one write more
pub written_again : (null : NullBytes) (more : Later) (s m n : LayerState) (a b c : Seen) → (Tells a → Tells b) → (Tells c → Tells b) → HasWritten null more s m a b
    → IsSameFile m n → StoresTrack null m n more.track more.bytes b c → StopsWithin null m b c → OnlyIn m.slot b c → HasWritten null more s n a c
written_again null more s m n a b c tells back h same stores stopped others = record {
  same = same_file_twice s m n h.same same;
  agrees = λ told sure. (stores (back told) (h.agrees (back told) sure)).agrees;
  lies = λ d later told agrees within.
      stored_within (track_count s.tables.layout.geo) d (map_of null m b) (map_of null n c) more later (h.lies d later told agrees within)
      (subst (λ (l : Layout). Stores (track_count l.geo) more.track (Some more.bytes) (map_of null m b) (map_of null n c)) h.same.layout (stores (tells told) (h.agrees (tells told) agrees.stands.sure)).stores);
  rest = λ told agrees u low other.
      (stores (tells told) (h.agrees (tells told) agrees.stands.sure)).stores.others u (subst (λ (l : Layout). u < track_count l.geo) (sym h.same.layout) low) other
      ∙ h.rest told agrees u low other;
  stopped = act_behind null more s m a b c tells h stopped;
  others = others_behind null more s m a b c tells h others;
}

-- the layer has the last write's bytes then
pub last_again : (null : NullBytes) (more : Later) (s m n : LayerState) (a b c : Seen) → (Tells a → Tells b) → HasWritten null more s m a b → StoresTrack null m n more.track more.bytes b c → HasLast null more s n a c
last_again null more s m n a b c tells h stores told agrees = (stores (tells told) (h.agrees (tells told) agrees.stands.sure)).stores.here

-- and of the others those that it had
pub stored_last : (null : NullBytes) (more : Later) (s m : LayerState) (a b : Seen) → (Tells a → Tells b) → HasWritten null more s m a b → HasLast null more s m a b → StoresTrack null s m more.track more.bytes a b
stored_last null more s m a b tells h last told agrees = record {
  agrees = h.agrees (tells told) agrees.stands.sure;
  stores = record { here = last told agrees; others = h.rest told agrees };
}

-- the first
pub wrote_once : (null : NullBytes) (more : Later) (s n : LayerState) (a b : Seen) → KeepMore → (Tells b → Tells a) → AgreesIn s a → IsSameFile s n → StoresTrack null s n more.track more.bytes a b
    → StopsWithin null s a b → OnlyIn s.slot a b → HasWritten null more s n a b
wrote_once null more s n a b law back agrees same stores stopped others =
    written_again null more s s n a a b (λ told. told) back (none_written null more s a law agrees) same stores stopped others

-- what was written is there behind an act that keeps the map
pub stored_kept : (null : NullBytes) (more : Later) (s m n : LayerState) (a b c : Seen) → (Tells a → Tells b) → IsSameFile s m → more.track < track_count s.tables.layout.geo → StoresTrack null s m more.track more.bytes a b
    → KeepsMap null m n b c → StoresTrack null s n more.track more.bytes a c
stored_kept null more s m n a b c tells same low h k told agrees =
    let p = h told agrees in
    let again = k (tells told) p.agrees in
    let at : (u : ℕ) → u < track_count s.tables.layout.geo → map_of null n c u ≡ map_of null m b u =
    λ u small. again.same.each u (subst (λ (l : Layout). u < track_count l.geo) (sym same.layout) small) in
    record {
      agrees = again.agrees;
      stores = record { here = at more.track low ∙ p.stores.here; others = λ u small other. at u small ∙ p.stores.others u small other };
    }

-- a stop leaves exactly that, where it leaves what the layer has
pub holds_written : (null : NullBytes) (more : Later) (s m : LayerState) (a b c : Seen) → (Tells a → Tells b) → IsSameFile s m → StoresTrack null s m more.track more.bytes a b → StopHolds null m b c → HoldsWritten null more s a c
holds_written null more s m a b c tells same h k told agrees =
    let p = h told agrees in
    let map = map_of null m b in (
      map,
      p.stores,
      subst (λ (n : ℕ). EachOutcome n (Holds null s.tables.layout map) c.world.events) same.slot
          (subst (λ (l : Layout). EachOutcome m.slot (Holds null l map) c.world.events) same.layout (k (tells told) p.agrees)),
    )

-- the file is closed behind a write, where it is closed for the layer then
pub closes_written : (null : NullBytes) (more : Later) (s m : LayerState) (a b c : Seen) → (Tells a → Tells b) → IsSameFile s m → StoresTrack null s m more.track more.bytes a b
    → (Tells b → Agrees m b.world → StaysClosed m.tables.layout m.slot c.world) → ClosesFile s a c
closes_written null more s m a b c tells same h k told agrees =
    subst (λ (n : ℕ). StaysClosed s.tables.layout n c.world) same.slot
    (subst (λ (l : Layout). StaysClosed l m.slot c.world) same.layout (k (tells told) (h told agrees).agrees))

-- the same by what comes of the closing
pub closes_result : (r : Result (Unit {0}) LayerFault) (null : NullBytes) (more : Later) (s m : LayerState) (a b c : Seen) → (Tells a → Tells b) → IsSameFile s m → StoresTrack null s m more.track more.bytes a b
    → (Tells b → Agrees m b.world → OnOk r (StaysClosed m.tables.layout m.slot c.world)) → OnOk r (ClosesFile s a c)
closes_result (Ok done) null more s m a b c tells same h k = closes_written null more s m a b c tells same h k
closes_result (Err why) null more s m a b c tells same h k = tt

-- what is written behind a completing is written to the layer that was tied to its file
pub stored_tied : (null : NullBytes) (more : Later) (s m n : LayerState) (a b c : Seen) → (Tells a → Tells b) → m.tables.layout ≡ s.tables.layout → Completes null s m a b → StoresTrack null m n more.track more.bytes b c
    → StoresTied null more s n a c
stored_tied null more s m n a b c tells layout h k told sure =
    let whole = h told sure in
    let p = k (tells told) whole.agrees in
    record {
      agrees = p.agrees;
      stores = record {
        here = p.stores.here;
        others = λ u low other. p.stores.others u (subst (λ (l : Layout). u < track_count l.geo) (sym layout) low) other ∙ whole.same.each u low;
      };
    }

-- A read through the layers, from the last one down: what is known once some of them were asked.
use Rattle.std.proofs.Common.{◌≡◌, ℕ, zero, suc, ◌+◌, ◌*◌, ◌-◌, ◌<◌, ◌≤◌, false, List, [], ◌∷◌, length, take, get_or, set, Option, Some, None, unwrap_or, Err, refl, sym, ◌∙◌, ap, subst, arith, lt-ltb}
use Rattle.std.specs.Option.{option_map}
use Rattle.cckd_shelf.specs.declared.fault.Faults.{Faults}
use Rattle.cckd_shelf.specs.Seen.{Seen, Tells, Stays}
use Rattle.cckd_shelf.specs.World.{World, IsSure, file_of}
use Rattle.cckd_base.specs.declared.fault.TrackFault.{TrackFault}
use Rattle.cckd_base.specs.declared.layer_fault.LayerFault.{LayerFault}
use Rattle.cckd_base.specs.declared.layer_fault.LayerFault.TheVariants as fault
use Rattle.cckd_base.specs.declared.layer_fault.StackFault.TheVariants as stack_fault
use Rattle.cckd_base.specs.declared.geometry.Geometry.{Geometry}
use Rattle.cckd_base.specs.Geometry.{track_count}
use Rattle.cckd_layer.specs.declared.held.Held.{Held}
use Rattle.cckd_layer.specs.declared.held.Held.TheVariants.{Here, Below}
use Rattle.cckd_layer.specs.Held.{NullBytes, held}
use Rattle.cckd_layer.specs.Mounted.{LayerState, CanRead, with_tables}
use Rattle.cckd_layer.specs.Reads.{Answers, fault_in, IsReadRefusal, IsAccepted, CheckRefuses, CountsReads, IsReadFault}
use Rattle.cckd_tables.specs.Looking.{with_cached}
use Rattle.cckd_stack.specs.Layers.{Layer, visible}
use Rattle.cckd_stack.specs.Stacked.{map_of, maps_of, map_at, stack_to, stack_by, stack_of, IsLayerIn, AreLayersFrom, AreWhole, CanReadAll, OnlyCaches, IsPut, Passes, CountsKind, kind_told, OnlyReads}
use Rattle.cckd_stack.proofs.LayerListLemmas.{all_set, map_here, maps_length, caches_here, caches_length, caches_layers, caches_whole, caches_maps, reads_stay, all_at, layer_at}

-- a layer that is as before but for its cached tables is so but for its tables
pub rest_of : (old new : LayerState) → new ≡ with_tables old (with_cached old.tables new.tables.cached) → new ≡ with_tables old new.tables
rest_of old new e = e ∙ ap (with_tables old) (sym (ap (λ (s : LayerState). s.tables) e))

-- ---- what is seen of a track from below some of the layers

abbrev pub seen_to : List Layer → ℕ → ℕ → List ℕ
seen_to maps zero t = []
seen_to maps (suc n) t = unwrap_or (map_at maps n t) (seen_to maps n t)

visible_to : (maps : List Layer) (n t : ℕ) → visible (stack_to maps n) t ≡ seen_to maps (suc n) t
visible_to maps zero t = refl
visible_to maps (suc n) t = ap (unwrap_or (map_at maps (suc n) t)) (visible_to maps n t)

pub visible_all : (maps : List Layer) (t : ℕ) → visible (stack_by maps) t ≡ seen_to maps (length maps) t
visible_all [] t = refl
visible_all (m ∷ ms) t =
    let e : suc (length (m ∷ ms) - 1) ≡ length (m ∷ ms) = omega arith in
    visible_to (m ∷ ms) (length (m ∷ ms) - 1) t ∙ ap (λ (n : ℕ). seen_to (m ∷ ms) n t) e

-- ---- one layer

pub map_low : (null : NullBytes) (s : LayerState) (file : List ℕ) (t : ℕ) → t < track_count s.tables.layout.geo
    → map_of null s file t ≡ held null s.tables.layout s.tables.stages file t
map_low null s file t low = rw (lt-ltb t (track_count s.tables.layout.geo) low)

below_none : (value : List ℕ → List ℕ) (o : Option (List ℕ)) (old new : List ℕ) → Answers (option_map value o) Below old new → (o ≡ None) × (new ≡ old)
below_none value None old new a = (refl, a.filled)
below_none value (Some bytes) old new a = absurd (let e : Below ≡ Here (length (value bytes)) = a.said in cc)

here_put : (value : List ℕ → List ℕ) (o : Option (List ℕ)) (len : ℕ) (old new rest : List ℕ) → Answers (option_map value o) (Here len) old new
    → IsPut (value (unwrap_or o rest)) len old new
here_put value None len old new rest a = absurd (let e : Here len ≡ Below = a.said in cc)
here_put value (Some bytes) len old new rest a = record {
  length_is = let e : Here len ≡ Here (length (value bytes)) = a.said in cc;
  put = a.filled;
}

here_checked : (value : List ℕ → List ℕ) (check : List ℕ → Option TrackFault) (o : Option (List ℕ)) (len : ℕ) (old new rest : List ℕ)
    → Answers (option_map value o) (Here len) old new → fault_in check o ≡ None → check (unwrap_or o rest) ≡ None
here_checked value check None len old new rest a e = absurd (let f : Here len ≡ Below = a.said in cc)
here_checked value check (Some bytes) len old new rest a e = e

refused_here : (check : List ℕ → Option TrackFault) (o : Option (List ℕ)) (rest : List ℕ) (why : LayerFault) → IsReadRefusal (fault_in check o) why
    → IsReadRefusal (check (unwrap_or o rest)) why
refused_here check (Some bytes) rest why h = h
refused_here check None rest (fault.Track found) h = absurd (let e : None ≡ Some found = h in cc)
refused_here check None rest (fault.Full full) h = absurd h
refused_here check None rest fault.ReadFault h = tt
refused_here check None rest fault.WriteFault h = absurd h
refused_here check None rest fault.SyncFault h = absurd h

track_refusal : (found : Option TrackFault) (why : LayerFault) → CheckRefuses found why → IsReadRefusal found why
track_refusal None why h = absurd h
track_refusal (Some bad) why h = subst (IsReadRefusal (Some bad)) (sym h) refl

track_counts : (found : Option TrackFault) (why : LayerFault) (old new : Faults) → CheckRefuses found why → new ≡ old → CountsKind (kind_told (stack_fault.Layer why)) old new
track_counts None why old new h e = absurd h
track_counts (Some bad) why old new h e = subst (λ (w : LayerFault). CountsKind (kind_told (stack_fault.Layer w)) old new) (sym h) e

-- ---- some layers were asked

-- The layers above a number were asked, and none of them has the track. Only cached tables have changed, and nothing failed.
pub record HasAsked (null : NullBytes) (t : ℕ) (start now : List LayerState) (a b : Seen) (was out : List ℕ) (left : ℕ) : Type 0 where
  pub cached : OnlyCaches start now
  pub can_read : CanReadAll now b
  pub kept : Stays a b
  pub counts : b.faults ≡ a.faults
  pub called : b.calls + 2 * left ≤ a.calls + 2 * length start
  pub none : Tells a → IsSure a.world → seen_to (maps_of null start (file_of a.world)) (length start) t ≡ seen_to (maps_of null start (file_of a.world)) left t
  pub same : Tells a → IsSure a.world → out ≡ was

module _ (null : NullBytes) (value : List ℕ → List ℕ) (fault_of : Geometry → ℕ → List ℕ → Option TrackFault) (t : ℕ) (start now : List LayerState) (a b : Seen) (was out : List ℕ) (left n : ℕ)
    (tells : Tells a → Tells b) (asked : HasAsked null t start now a b was out left) (next : suc n ≡ left) (x : LayerState) (is : x ≡ get_or now n x) (low : n < length start)
    (geo : Geometry) (are : AreLayersFrom geo 0 start) (device : t < track_count geo)
  where
    pub own_whole : AreWhole start → x.broken ≡ false
    own_whole whole =
        let long = caches_length start now asked.cached in
        subst (λ (s : LayerState). s.broken ≡ false) (sym is)
        (all_at (λ (s : LayerState). s.broken ≡ false) now n x (caches_whole start now asked.cached whole) (omega (arith, long, low)))

    own_layer : IsLayerIn geo n x
    own_layer =
        let long = caches_length start now asked.cached in
        subst (λ (s : LayerState). IsLayerIn geo n s) (sym is)
        (layer_at geo n 0 now n x (omega arith) (caches_layers geo 0 start now asked.cached are) (omega (arith, long, low)))

    pub own_device : t < track_count x.tables.layout.geo
    own_device = subst (λ (g : Geometry). t < track_count g) (sym own_layer.shape) device

    abbrev own : List ℕ → Option (List ℕ)
    own file = held null x.tables.layout x.tables.stages file t

    -- what the next layer has of the track
    own_is : Tells a → IsSure a.world → map_at (maps_of null start (file_of a.world)) n t ≡ own (file_of b.world x.slot)
    own_is told sure =
        let long = caches_length start now asked.cached in
        ap (λ (ms : List Layer). map_at ms n t) (sym (caches_maps null (file_of a.world) start now asked.cached))
        ∙ ap (λ (m : Layer). m t) (map_here null now (file_of a.world) n x is (omega (arith, long, low)))
        ∙ map_low null x (file_of a.world x.slot) t own_device
        ∙ ap (λ (w : World). own (file_of w x.slot)) (sym (asked.kept told))

    -- what is seen from below the layers that were asked
    seen_next : Tells a → IsSure a.world
        → seen_to (maps_of null start (file_of a.world)) (length start) t ≡ unwrap_or (own (file_of b.world x.slot)) (seen_to (maps_of null start (file_of a.world)) n t)
    seen_next told sure =
        let maps = maps_of null start (file_of a.world) in
        asked.none told sure
        ∙ ap (λ (k : ℕ). seen_to maps k t) (sym next)
        ∙ ap (λ (o : Option (List ℕ)). unwrap_or o (seen_to maps n t)) (own_is told sure)

    all_seen : Tells a → IsSure a.world
        → visible (stack_of null start (file_of a.world)) t ≡ unwrap_or (own (file_of b.world x.slot)) (seen_to (maps_of null start (file_of a.world)) n t)
    all_seen told sure =
        let maps = maps_of null start (file_of a.world) in
        let long : length maps ≡ length start = maps_length null start (file_of a.world) in
        visible_all maps t ∙ ap (λ (k : ℕ). seen_to maps k t) long ∙ seen_next told sure

    sure_then : Tells a → IsSure a.world → IsSure b.world
    sure_then told sure = subst IsSure (sym (asked.kept told)) sure

    module _ (y : LayerState) (c : Seen) (after : List ℕ) (back : Tells c → Tells b) (rest : y ≡ with_tables x y.tables) (looks : y.tables ≡ with_cached x.tables y.tables.cached)
        (can : CanRead y c) (kept : Stays b c)
      where
        pub asked_cached : OnlyCaches start (set now n y)
        asked_cached = caches_here now n x y y.tables is rest looks ∙ asked.cached

        pub asked_reads : CanReadAll (set now n y) c
        asked_reads = all_set (λ (s : LayerState). CanRead s c) now n y (reads_stay now b c back kept asked.can_read) can

        pub asked_kept : Stays a c
        asked_kept = λ told. kept (tells told) ∙ asked.kept told

        below_answer : (said : Held) → said ≡ Below → (Tells b → IsSure b.world → Answers (option_map value (own (file_of b.world x.slot))) said out after)
            → Tells a → IsSure a.world → Answers (option_map value (own (file_of b.world x.slot))) Below out after
        below_answer said it given told sure =
            subst (λ (h : Held). Answers (option_map value (own (file_of b.world x.slot))) h out after) it (given (tells told) (sure_then told sure))

        -- one that doesn't have it was asked
        pub one_asked : (said : Held) (more : ℕ) → more ≡ n → said ≡ Below → c.calls ≤ b.calls + 2 → c.faults ≡ b.faults
            → (Tells b → IsSure b.world → Answers (option_map value (own (file_of b.world x.slot))) said out after)
            → HasAsked null t start (set now n y) a c was after more
        one_asked said more even it called counts given = subst (λ (k : ℕ). HasAsked null t start (set now n y) a c was after k) (sym even) (record {
          cached = asked_cached;
          can_read = asked_reads;
          kept = asked_kept;
          counts = counts ∙ asked.counts;
          called = omega (arith, called, asked.called, next);
          none = λ told sure.
              let o = own (file_of b.world x.slot) in
              let below : (o ≡ None) × (after ≡ out) = below_none value o out after (below_answer said it given told sure) in
              seen_next told sure ∙ ap (λ (p : Option (List ℕ)). unwrap_or p (seen_to (maps_of null start (file_of a.world)) n t)) below.0;
          same = λ told sure.
              let o = own (file_of b.world x.slot) in
              let below : (o ≡ None) × (after ≡ out) = below_none value o out after (below_answer said it given told sure) in
              below.1 ∙ asked.same told sure;
        })

    own_fault : (bytes : List ℕ) → fault_of x.tables.layout.geo t bytes ≡ fault_of geo t bytes
    own_fault bytes = ap (λ (g : Geometry). fault_of g t bytes) own_layer.shape

    -- one that has it was
    module _ (len : ℕ) (said : Held) (here : said ≡ Here len) (after : List ℕ)
        (answer : Tells b → IsSure b.world → Answers (option_map value (own (file_of b.world x.slot))) said out after)
      where
        here_answer : Tells a → IsSure a.world → Answers (option_map value (own (file_of b.world x.slot))) (Here len) out after
        here_answer told sure =
            subst (λ (h : Held). Answers (option_map value (own (file_of b.world x.slot))) h out after) here (answer (tells told) (sure_then told sure))

        pub found_put : Tells a → IsSure a.world → IsPut (value (visible (stack_of null start (file_of a.world)) t)) len was after
        found_put told sure =
            let rest = seen_to (maps_of null start (file_of a.world)) n t in
            let o = own (file_of b.world x.slot) in
            let put : IsPut (value (unwrap_or o rest)) len out after = here_put value o len out after rest (here_answer told sure) in
            subst (λ (old : List ℕ). IsPut (value (visible (stack_of null start (file_of a.world)) t)) len old after) (asked.same told sure)
            (subst (λ (bytes : List ℕ). IsPut (value bytes) len out after) (sym (all_seen told sure)) put)

        pub found_checked : (Tells b → IsSure b.world → fault_in (fault_of x.tables.layout.geo t) (own (file_of b.world x.slot)) ≡ None)
            → Tells a → IsSure a.world → fault_of geo t (visible (stack_of null start (file_of a.world)) t) ≡ None
        found_checked checked told sure =
            let rest = seen_to (maps_of null start (file_of a.world)) n t in
            let o = own (file_of b.world x.slot) in
            ap (fault_of geo t) (all_seen told sure)
            ∙ sym (own_fault (unwrap_or o rest))
            ∙ here_checked value (fault_of x.tables.layout.geo t) o len out after rest (here_answer told sure) (checked (tells told) (sure_then told sure))

        pub found_passes : IsAccepted (fault_of x.tables.layout.geo t) after said → Passes (fault_of geo t) after len
        found_passes accepted =
            let h : (len ≤ length after) × (fault_of x.tables.layout.geo t (take len after) ≡ None) = subst (IsAccepted (fault_of x.tables.layout.geo t) after) here accepted in
            record { within = h.0; none = sym (own_fault (take len after)) ∙ h.1 }

    -- or was refused
    pub found_refused : (why : LayerFault) → (Tells b → IsSure b.world → IsReadRefusal (fault_in (fault_of x.tables.layout.geo t) (own (file_of b.world x.slot))) why)
        → Tells a → IsSure a.world → IsReadRefusal (fault_of geo t (visible (stack_of null start (file_of a.world)) t)) why
    found_refused why refusal told sure =
        let rest = seen_to (maps_of null start (file_of a.world)) n t in
        let o = own (file_of b.world x.slot) in
        subst (λ (found : Option TrackFault). IsReadRefusal found why)
        (own_fault (unwrap_or o rest) ∙ sym (ap (fault_of geo t) (all_seen told sure)))
        (refused_here (fault_of x.tables.layout.geo t) o rest why (refusal (tells told) (sure_then told sure)))

-- none has it
module _ (null : NullBytes) (t : ℕ) (start now : List LayerState) (a b : Seen) (was out : List ℕ) (left : ℕ) (asked : HasAsked null t start now a b was out left) (e : left ≡ 0) where
  nothing_seen : Tells a → IsSure a.world → visible (stack_of null start (file_of a.world)) t ≡ []
  nothing_seen told sure =
      let maps = maps_of null start (file_of a.world) in
      let long : length maps ≡ length start = maps_length null start (file_of a.world) in
      visible_all maps t ∙ ap (λ (k : ℕ). seen_to maps k t) long ∙ asked.none told sure ∙ ap (λ (k : ℕ). seen_to maps k t) e

  -- and its bytes, which are none, are refused
  module _ (check : List ℕ → Option TrackFault) (why : LayerFault) (refusal : CheckRefuses (check []) why) where
    pub nothing_refused : Tells a → IsSure a.world → IsReadRefusal (check (visible (stack_of null start (file_of a.world)) t)) why
    nothing_refused told sure =
        subst (λ (bytes : List ℕ). IsReadRefusal (check bytes) why) (sym (nothing_seen told sure)) (track_refusal (check []) why refusal)

    pub nothing_reads : OnlyReads {A = ℕ} (Err (stack_fault.Layer why)) a b
    nothing_reads = record { kept = asked.kept; counts = track_counts (check []) why a.faults b.faults refusal asked.counts }

-- the counts of a refusal that is handed on
pub told_counts : (A : Type 0) (why : LayerFault) (old new : Faults) → IsReadFault why → CountsReads {A = A} (Err why) old new → CountsKind (kind_told (stack_fault.Layer why)) old new
told_counts A (fault.Track found) old new kind h = h
told_counts A (fault.Full full) old new kind h = absurd kind
told_counts A fault.ReadFault old new kind h = h
told_counts A fault.WriteFault old new kind h = absurd kind
told_counts A fault.SyncFault old new kind h = absurd kind

-- one layer was asked after others, and a fault of it is handed on
pub refused_reads : (A : Type 0) (why : LayerFault) (a b c : Seen) → (Tells a → Tells b) → Stays a b → b.faults ≡ a.faults → IsReadFault why → Stays b c → CountsReads {A = A} (Err why) b.faults c.faults
    → OnlyReads {A = ℕ} (Err (stack_fault.Layer why)) a c
refused_reads A why a b c tells kept counts kind more h = record {
  kept = λ told. more (tells told) ∙ kept told;
  counts = subst (λ (f : Faults). CountsKind (kind_told (stack_fault.Layer why)) f c.faults) counts (told_counts A why b.faults c.faults kind h);
}

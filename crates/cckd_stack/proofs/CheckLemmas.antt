-- The tracks at fault, one track and one layer after another.
use Rattle.std.proofs.Common.{◌≡◌, ℕ, zero, suc, ◌+◌, ◌-◌, ◌*◌, ◌<◌, ◌≤◌, Bool, true, false, List, [], ◌∷◌, ◌++◌, length, take, filter, get_or, set, Option, Some, None, Err, refl, sym, ◌∙◌, ap, subst, arith}
use Rattle.std.specs.Prelude.{if◌then◌else◌}
use Rattle.std.specs.List.{range_with_len}
use Rattle.std.proofs.lemmas.Bool.{lt-ltb}
use Rattle.std.proofs.lemmas.List.{length-append}
use Rattle.std.proofs.lemmas.List.Elements.{filter-append}
use Rattle.cckd_shelf.specs.declared.fault.Faults.{Faults}
use Rattle.cckd_shelf.specs.Seen.{Seen, Tells, Stays}
use Rattle.cckd_shelf.specs.World.{World, IsSure, file_of}
use Rattle.cckd_base.specs.declared.geometry.Geometry.{Geometry}
use Rattle.cckd_base.specs.Geometry.{track_count}
use Rattle.cckd_base.specs.Track.{null_track}
use Rattle.cckd_base.specs.declared.layer_fault.LayerFault.{LayerFault}
use Rattle.cckd_base.specs.declared.layer_fault.LayerFault.TheVariants as fault
use Rattle.cckd_layer.specs.declared.held.Held.TheVariants.{Here}
use Rattle.cckd_layer.specs.Held.{held}
use Rattle.cckd_layer.specs.Mounted.{LayerState, CanRead, with_tables}
use Rattle.cckd_layer.specs.Reads.{Answers, CountsReads}
use Rattle.cckd_layer.proofs.ReadLemmas.{here_is}
use Rattle.cckd_tables.specs.Looking.{with_cached}
use Rattle.cckd_stack.specs.Layers.{Layer, Stack, base, shadow}
use Rattle.cckd_stack.specs.Faulty.{fault_at_level, counts_as_bad, is_bad, bad_among, bad_in, bad_tracks}
use Rattle.cckd_stack.specs.Stacked.{map_of, maps_of, map_at, stack_to, stack_of, IsLayerIn, AreLayersFrom, AreWhole, CanReadAll, OnlyCaches}
use Rattle.cckd_stack.proofs.LayerListLemmas.{all_at, all_set, layer_at, map_here, maps_length, caches_here, caches_length, caches_layers, caches_whole, caches_maps, reads_stay}
use Rattle.cckd_stack.proofs.DownLemmas.{map_low}
use Rattle.cckd_stack.proofs.CountedLemmas.{range_last, one_filtered}

-- ---- one track

pub bad_here : (level : ℕ) (g : Geometry) (t : ℕ) (o : Option (List ℕ)) (len n : ℕ) (old new : List ℕ) (bad : Bool) → n ≡ len → Answers o (Here len) old new
    → bad ≡ counts_as_bad (fault_at_level level g t (take n new)) → bad ≡ is_bad level g t o
bad_here level g t o len n old new bad e a h =
    h ∙ ap (λ (k : ℕ). counts_as_bad (fault_at_level level g t (take k new))) e ∙ sym (ap (is_bad level g t) (here_is o len old new a))

-- ---- the tracks of a layer

among_more : (level : ℕ) (g : Geometry) (m : Layer) (n : ℕ) → bad_among level g m (suc n) ≡ bad_among level g m n + (if is_bad level g n (m n) then 1 else 0)
among_more level g m n =
    let p = λ (t : ℕ). is_bad level g t (m t) in
    ap (λ (ks : List ℕ). length (filter p ks)) (range_last 0 n ∙ ap (λ (k : ℕ). range_with_len 0 n ++ k ∷ []) (zero_more n))
    ∙ ap length (filter-append p (range_with_len 0 n) (n ∷ []))
    ∙ length-append (filter p (range_with_len 0 n)) (filter p (n ∷ []))
    ∙ ap (λ (k : ℕ). bad_among level g m n + k) (one_filtered p n (is_bad level g n (m n)) refl)
  where
    zero_more : (k : ℕ) → 0 + k ≡ k
    zero_more k = omega arith

among_same : (level : ℕ) (g : Geometry) (m h : Layer) (n : ℕ) → ((t : ℕ) → t < n → m t ≡ h t) → bad_among level g m n ≡ bad_among level g h n
among_same level g m h zero same = refl
among_same level g m h (suc n) same =
    among_more level g m n
    ∙ ap (λ (k : ℕ). k + (if is_bad level g n (m n) then 1 else 0)) (among_same level g m h n (λ t low. same t (omega (arith, low))))
    ∙ ap (λ (o : Option (List ℕ)). bad_among level g h n + (if is_bad level g n o then 1 else 0)) (same n (omega arith))
    ∙ sym (among_more level g h n)

one_at_most : (b : Bool) (n : ℕ) → n ≡ (if b then 1 else 0) → n ≤ 1
one_at_most true n e = omega (arith, e)
one_at_most false n e = omega (arith, e)

-- the tracks below a number were checked
pub record HasSifted (level : ℕ) (g : Geometry) (start now : LayerState) (a b : Seen) (bad n : ℕ) : Type 0 where
  pub rest : now ≡ with_tables start (with_cached start.tables now.tables.cached)
  pub can_read : CanRead now b
  pub kept : Stays a b
  pub faults : b.faults ≡ a.faults
  pub few : bad ≤ n
  pub counted : Tells a → IsSure a.world → bad ≡ bad_among level g (held null_track start.tables.layout start.tables.stages (file_of a.world start.slot)) n

module _ (level : ℕ) (g : Geometry) (start now : LayerState) (a b : Seen) (bad n : ℕ) (tells : Tells a → Tells b) (was : HasSifted level g start now a b bad n) where
  pub sifted_shape : start.tables.layout.geo ≡ g → now.tables.layout.geo ≡ g
  sifted_shape e = ap (λ (s : LayerState). s.tables.layout.geo) was.rest ∙ e

  pub sifted_whole : start.broken ≡ false → now.broken ≡ false
  sifted_whole e = ap (λ (s : LayerState). s.broken) was.rest ∙ e

  module _ (y : LayerState) (c : Seen) (rest : y ≡ with_tables now (with_cached now.tables y.tables.cached)) where
    pub sifted_rest : y ≡ with_tables start (with_cached start.tables y.tables.cached)
    sifted_rest = rest ∙ ap (λ (s : LayerState). with_tables s (with_cached s.tables y.tables.cached)) was.rest

    pub one_sifted : (found : Bool) (more : ℕ) → more ≡ (if found then 1 else 0) → CanRead y c → Stays b c → c.faults ≡ b.faults
        → (Tells b → IsSure b.world → found ≡ is_bad level g n (held null_track now.tables.layout now.tables.stages (file_of b.world now.slot) n))
        → HasSifted level g start y a c (bad + more) (n + 1)
    one_sifted found more e can kept faults says = record {
      rest = sifted_rest;
      can_read = can;
      kept = λ told. kept (tells told) ∙ was.kept told;
      faults = faults ∙ was.faults;
      few = omega (arith, was.few, one_at_most found more e);
      counted = λ told sure.
          let same = was.kept told in
          let m = held null_track start.tables.layout start.tables.stages (file_of a.world start.slot) in
          let here : found ≡ is_bad level g n (m n) =
          says (tells told) (subst IsSure (sym same) sure)
          ∙ ap (λ (s : LayerState). is_bad level g n (held null_track s.tables.layout s.tables.stages (file_of b.world s.slot) n)) was.rest
          ∙ ap (λ (w : World). is_bad level g n (held null_track start.tables.layout start.tables.stages (file_of w start.slot) n)) same in
          let next : n + 1 ≡ suc n = omega arith in
          ap (λ (k : ℕ). k + more) (was.counted told sure)
          ∙ ap (λ (k : ℕ). bad_among level g m n + k) (e ∙ ap (λ (f : Bool). if f then 1 else 0) here)
          ∙ sym (among_more level g m n) ∙ ap (bad_among level g m) (sym next);
    }

-- a read failed
read_refused : (A B : Type 0) (why : LayerFault) (old new : Faults) → why ≡ fault.ReadFault → CountsReads {A = A} (Err why) old new → CountsReads {A = B} (Err why) old new
read_refused A B why old new e h =
    subst (λ (w : LayerFault). CountsReads {A = B} (Err w) old new) (sym e) (subst (λ (w : LayerFault). CountsReads {A = A} (Err w) old new) e h)

-- ---- the layers

-- below level 2 none is looked for
none_bad : (level : ℕ) (g : Geometry) (t : ℕ) (o : Option (List ℕ)) → level < 2 → is_bad level g t o ≡ false
none_bad level g t None low = refl
none_bad level g t (Some bytes) low = rw (lt-ltb level 2 low)

none_among : (level : ℕ) (g : Geometry) (m : Layer) (n : ℕ) → level < 2 → bad_among level g m n ≡ 0
none_among level g m zero low = refl
none_among level g m (suc n) low =
    among_more level g m n
    ∙ ap (λ (f : Bool). bad_among level g m n + (if f then 1 else 0)) (none_bad level g n (m n) low)
    ∙ ap (λ (k : ℕ). k + 0) (none_among level g m n low)

pub none_at_fault : (level : ℕ) (g : Geometry) (s : Stack) → level < 2 → 0 ≡ bad_tracks level g s
none_at_fault level g (base layer) low = sym (none_among level g layer (track_count g) low)
none_at_fault level g (shadow layer lower) low =
    sym (ap (λ (k : ℕ). k + bad_in level g layer) (sym (none_at_fault level g lower low)) ∙ ap (λ (k : ℕ). 0 + k) (none_among level g layer (track_count g) low))

abbrev pub bad_to : ℕ → Geometry → List Layer → ℕ → ℕ
bad_to level g maps zero = 0
bad_to level g maps (suc n) = bad_to level g maps n + bad_in level g (map_at maps n)

bad_stack : (level : ℕ) (g : Geometry) (maps : List Layer) (n : ℕ) → bad_tracks level g (stack_to maps n) ≡ bad_to level g maps (suc n)
bad_stack level g maps zero = first (bad_in level g (map_at maps 0))
  where
    first : (k : ℕ) → k ≡ 0 + k
    first k = omega arith
bad_stack level g maps (suc n) = ap (λ (k : ℕ). k + bad_in level g (map_at maps (suc n))) (bad_stack level g maps n)

-- the layers below a number were checked
pub record HasChecked (level : ℕ) (g : Geometry) (start now : List LayerState) (a b : Seen) (bad n : ℕ) : Type 0 where
  pub cached : OnlyCaches start now
  pub can_read : CanReadAll now b
  pub kept : Stays a b
  pub faults : b.faults ≡ a.faults
  pub few : bad ≤ 1048576 * n
  pub counted : Tells a → IsSure a.world → bad ≡ bad_to level g (maps_of null_track start (file_of a.world)) n

module _ (level : ℕ) (g : Geometry) (start now : List LayerState) (a b : Seen) (bad n : ℕ) (tells : Tells a → Tells b) (was : HasChecked level g start now a b bad n)
    (x : LayerState) (is : x ≡ get_or now n x) (low : n < length start) (are : AreLayersFrom g 0 start)
  where
    low_now : n < length now
    low_now = omega (arith, low, caches_length start now was.cached)

    pub checked_whole : AreWhole start → x.broken ≡ false
    checked_whole whole =
        subst (λ (s : LayerState). s.broken ≡ false) (sym is) (all_at (λ (s : LayerState). s.broken ≡ false) now n x (caches_whole start now was.cached whole) low_now)

    checked_layer : IsLayerIn g n x
    checked_layer = subst (λ (s : LayerState). IsLayerIn g n s) (sym is) (layer_at g n 0 now n x (omega arith) (caches_layers g 0 start now was.cached are) low_now)

    pub checked_shape : x.tables.layout.geo ≡ g
    checked_shape = checked_layer.shape

    module _ (y : LayerState) (c : Seen) (back : Tells c → Tells b) (rest : y ≡ with_tables x (with_cached x.tables y.tables.cached)) (can : CanRead y c) (kept : Stays b c) where
      pub checked_cached : OnlyCaches start (set now n y)
      checked_cached =
          let tables : y.tables ≡ with_cached x.tables y.tables.cached = ap (λ (s : LayerState). s.tables) rest in
          caches_here now n x y y.tables is (rest ∙ ap (with_tables x) (sym tables)) tables ∙ was.cached

      pub checked_reads : CanReadAll (set now n y) c
      checked_reads = all_set (λ (s : LayerState). CanRead s c) now n y (reads_stay now b c back kept was.can_read) can

      pub one_checked : (more : ℕ) → more ≤ 1048576 → c.faults ≡ b.faults
          → (Tells b → IsSure b.world → more ≡ bad_among level g (held null_track x.tables.layout x.tables.stages (file_of b.world x.slot)) (track_count g))
          → HasChecked level g start (set now n y) a c (bad + more) (n + 1)
      one_checked more less faults says = record {
        cached = checked_cached;
        can_read = checked_reads;
        kept = λ told. kept (tells told) ∙ was.kept told;
        faults = faults ∙ was.faults;
        few = omega (arith, was.few, less);
        counted = λ told sure.
            let same = was.kept told in
            let files = file_of a.world in
            let maps = maps_of null_track start files in
            let here : map_at maps n ≡ map_of null_track x (files x.slot) =
            ap (λ (ms : List Layer). map_at ms n) (sym (caches_maps null_track files start now was.cached)) ∙ map_here null_track now files n x is low_now in
            let own : more ≡ bad_among level g (held null_track x.tables.layout x.tables.stages (files x.slot)) (track_count g) =
            subst (λ (w : World). more ≡ bad_among level g (held null_track x.tables.layout x.tables.stages (file_of w x.slot)) (track_count g)) same
            (says (tells told) (subst IsSure (sym same) sure)) in
            let total : more ≡ bad_in level g (map_at maps n) =
            own
            ∙ sym (among_same level g (map_of null_track x (files x.slot)) (held null_track x.tables.layout x.tables.stages (files x.slot)) (track_count g)
            (λ t less. map_low null_track x (files x.slot) t (subst (λ (k : Geometry). t < track_count k) (sym checked_layer.shape) less)))
            ∙ ap (bad_in level g) (sym here) in
            let next : n + 1 ≡ suc n = omega arith in
            ap (λ (k : ℕ). k + more) (was.counted told sure) ∙ ap (λ (k : ℕ). bad_to level g maps n + k) total ∙ ap (bad_to level g maps) (sym next);
      }

-- all were
pub all_checked : (level : ℕ) (g : Geometry) (start now : List LayerState) (a b : Seen) (bad n : ℕ) → n ≡ length start → 1 ≤ length start → HasChecked level g start now a b bad n
    → Tells a → IsSure a.world → bad ≡ bad_tracks level g (stack_of null_track start (file_of a.world))
all_checked level g start now a b bad n e some was told sure =
    let maps = maps_of null_track start (file_of a.world) in
    let long : length maps ≡ length start = maps_length null_track start (file_of a.world) in
    let top : n ≡ suc (length maps - 1) = omega (arith, e, long, some) in
    was.counted told sure ∙ ap (bad_to level g maps) top ∙ sym (bad_stack level g maps (length maps - 1))

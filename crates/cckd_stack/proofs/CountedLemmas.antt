-- The tracks of the layers, counted one layer after another.
use Rattle.std.proofs.Common.{◌≡◌, ℕ, zero, suc, ◌+◌, ◌-◌, ◌<◌, ◌≤◌, Bool, true, false, List, [], ◌∷◌, ◌++◌, length, filter, drop, replicate, get_or, set, Err, refl, sym, ◌∙◌, ap, subst, arith}
use Rattle.std.specs.Prelude.{is_some, if◌then◌else◌}
use Rattle.std.specs.List.{range_with_len}
use Rattle.std.proofs.lemmas.List.{length-append}
use Rattle.std.proofs.lemmas.List.Elements.{filter-append}
use Rattle.cckd_shelf.specs.declared.fault.Faults.{Faults}
use Rattle.cckd_shelf.specs.Seen.{Seen, Tells, Stays}
use Rattle.cckd_shelf.specs.World.{World, IsSure, file_of}
use Rattle.cckd_base.specs.declared.geometry.Geometry.{Geometry}
use Rattle.cckd_base.specs.declared.layer_fault.LayerFault.{LayerFault}
use Rattle.cckd_base.specs.declared.layer_fault.LayerFault.TheVariants as fault
use Rattle.cckd_base.specs.declared.layer_fault.StackFault.TheVariants as stack_fault
use Rattle.cckd_base.specs.Geometry.{track_count}
use Rattle.cckd_layer.specs.Held.{NullBytes, Tracks, held}
use Rattle.cckd_layer.specs.Mounted.{LayerState, CanRead, with_tables}
use Rattle.cckd_layer.specs.Reads.{CountsReads, tracks_in as tracks_counted}
use Rattle.cckd_tables.specs.Looking.{with_cached}
use Rattle.cckd_stack.specs.Layers.{Layer, tracks_in, track_counts, layer_count}
use Rattle.cckd_stack.specs.Answers.{counts_shown}
use Rattle.cckd_stack.specs.Stacked.{map_of, maps_of, map_at, stack_to, stack_by, stack_of, IsLayerIn, AreLayersFrom, AreWhole, CanReadAll, OnlyCaches, OnlyReads, CountsKind, kind_told, Shows, FitsShown}
use Rattle.cckd_stack.proofs.LayerListLemmas.{all_at, all_set, layer_at, map_here, maps_length, caches_here, caches_length, caches_layers, caches_whole, caches_maps, reads_stay}
use Rattle.cckd_stack.proofs.DownLemmas.{map_low}
use Rattle.cckd_stack.proofs.BridgeLemmas.{count_to}

-- ---- one layer

pub range_last : (a n : ℕ) → range_with_len a (suc n) ≡ range_with_len a n ++ (a + n) ∷ []
range_last a zero = ap (λ (k : ℕ). k ∷ []) (omega arith)
range_last a (suc n) =
    ap (λ (ks : List ℕ). a ∷ ks) (range_last (a + 1) n ∙ ap (λ (k : ℕ). range_with_len (a + 1) n ++ k ∷ []) (omega arith))

pub one_filtered : (p : ℕ → Bool) (t : ℕ) (b : Bool) → p t ≡ b → length (filter p (t ∷ [])) ≡ (if b then 1 else 0)
one_filtered p t true e = rw e
one_filtered p t false e = rw e

-- both counts of the tracks of a map are one
pub counted_same : (m : Layer) (h : Tracks) (n : ℕ) → ((t : ℕ) → t < n → m t ≡ h t) → tracks_in n m ≡ tracks_counted h n
counted_same m h zero same = refl
counted_same m h (suc n) same =
    let p = λ (t : ℕ). is_some (m t) in
    ap (λ (ks : List ℕ). length (filter p ks)) (range_last 0 n ∙ ap (λ (k : ℕ). range_with_len 0 n ++ k ∷ []) (zero_more n))
    ∙ ap length (filter-append p (range_with_len 0 n) (n ∷ []))
    ∙ length-append (filter p (range_with_len 0 n)) (filter p (n ∷ []))
    ∙ ap (λ (k : ℕ). k + length (filter p (n ∷ []))) (counted_same m h n (λ t low. same t (omega (arith, low))))
    ∙ ap (λ (k : ℕ). tracks_counted h n + k) (one_filtered p n (is_some (h n)) (ap is_some (same n (omega arith))))
  where
    zero_more : (k : ℕ) → 0 + k ≡ k
    zero_more k = omega arith

-- ---- one count more in nine

pub set_behind : (xs : List ℕ) (at y n : ℕ) (rest : List ℕ) → at ≡ length xs → set (xs ++ y ∷ rest) at n ≡ (xs ++ n ∷ []) ++ rest
set_behind [] zero y n rest e = refl
set_behind [] (suc at) y n rest e = absurd (omega (arith, e))
set_behind (x ∷ xs) zero y n rest e = absurd (omega (arith, e))
set_behind (x ∷ xs) (suc at) y n rest e = ap (λ (ys : List ℕ). x ∷ ys) (set_behind xs at y n rest (omega (arith, e)))

-- the counts of the first layers
abbrev pub counts_to : ℕ → List Layer → ℕ → List ℕ
counts_to tracks maps zero = []
counts_to tracks maps (suc n) = counts_to tracks maps n ++ tracks_in tracks (map_at maps n) ∷ []

counts_length : (tracks : ℕ) (maps : List Layer) (n : ℕ) → length (counts_to tracks maps n) ≡ n
counts_length tracks maps zero = refl
counts_length tracks maps (suc n) =
    length-append (counts_to tracks maps n) (tracks_in tracks (map_at maps n) ∷ []) ∙ ap (λ (k : ℕ). k + 1) (counts_length tracks maps n) ∙ (omega arith)

counts_stack : (tracks : ℕ) (maps : List Layer) (n : ℕ) → track_counts tracks (stack_to maps n) ≡ counts_to tracks maps (suc n)
counts_stack tracks maps zero = refl
counts_stack tracks maps (suc n) = ap (λ (cs : List ℕ). cs ++ tracks_in tracks (map_at maps (suc n)) ∷ []) (counts_stack tracks maps n)

-- all of them are what is shown
pub counts_all : (g : Geometry) (maps : List Layer) → 1 ≤ length maps → counts_to (track_count g) maps (length maps) ++ replicate (9 - length maps) 0 ≡ counts_shown g (stack_by maps)
counts_all g maps some =
    let n = length maps - 1 in
    let e : suc n ≡ length maps = omega (arith, some) in
    let count : layer_count (stack_by maps) ≡ length maps = omega (arith, count_to maps n, some) in
    sym (ap (λ (cs : List ℕ). cs ++ replicate (9 - layer_count (stack_by maps)) 0) (counts_stack (track_count g) maps n ∙ ap (counts_to (track_count g) maps) e)
    ∙ ap (λ (k : ℕ). counts_to (track_count g) maps (length maps) ++ replicate (9 - k) 0) count)

-- ---- some layers were counted

-- behind a number that was set the rest is as it was
rest_behind : (xs : List ℕ) (n x k : ℕ) → drop n xs ≡ replicate (suc k) 0 → drop (suc n) (set xs n x) ≡ replicate k 0
rest_behind [] zero x k e = absurd (cc e)
rest_behind [] (suc n) x k e = absurd (cc e)
rest_behind (y ∷ ys) zero x k e = cc e
rest_behind (y ∷ ys) (suc n) x k e = rest_behind ys n x k e

-- The layers below a number were counted. Only cached tables have changed, and nothing failed.
pub record HasCounted (null : NullBytes) (g : Geometry) (start now : List LayerState) (a b : Seen) (counts : List ℕ) (number : ℕ) : Type 0 where
  pub cached : OnlyCaches start now
  pub can_read : CanReadAll now b
  pub kept : Stays a b
  pub faults : b.faults ≡ a.faults
  pub rest : drop number counts ≡ replicate (9 - number) 0
  pub counted : Tells a → IsSure a.world → counts ≡ counts_to (track_count g) (maps_of null start (file_of a.world)) number ++ replicate (9 - number) 0

pub none_counted : (null : NullBytes) (g : Geometry) (start : List LayerState) (a : Seen) → CanReadAll start a → HasCounted null g start start a a (replicate 9 0) 0
none_counted null g start a can = record {
  cached = refl;
  can_read = can;
  kept = λ told. refl;
  faults = refl;
  rest = refl;
  counted = λ told sure. refl;
}

module _ (null : NullBytes) (g : Geometry) (start now : List LayerState) (a b : Seen) (counts : List ℕ) (n : ℕ) (tells : Tells a → Tells b) (was : HasCounted null g start now a b counts n)
    (x : LayerState) (is : x ≡ get_or now n x) (low : n < length start) (few : length start ≤ 9) (are : AreLayersFrom g 0 start)
  where
    low_now : n < length now
    low_now = omega (arith, low, caches_length start now was.cached)

    pub counted_whole : AreWhole start → x.broken ≡ false
    counted_whole whole =
        subst (λ (s : LayerState). s.broken ≡ false) (sym is) (all_at (λ (s : LayerState). s.broken ≡ false) now n x (caches_whole start now was.cached whole) low_now)

    counted_layer : IsLayerIn g n x
    counted_layer = subst (λ (s : LayerState). IsLayerIn g n s) (sym is) (layer_at g n 0 now n x (omega arith) (caches_layers g 0 start now was.cached are) low_now)

    module _ (y : LayerState) (c : Seen) (back : Tells c → Tells b) (rest : y ≡ with_tables x (with_cached x.tables y.tables.cached)) (can : CanRead y c) (kept : Stays b c) where
      pub counted_cached : OnlyCaches start (set now n y)
      counted_cached =
          let tables : y.tables ≡ with_cached x.tables y.tables.cached = ap (λ (s : LayerState). s.tables) rest in
          caches_here now n x y y.tables is (rest ∙ ap (with_tables x) (sym tables)) tables ∙ was.cached

      pub counted_reads : CanReadAll (set now n y) c
      counted_reads = all_set (λ (s : LayerState). CanRead s c) now n y (reads_stay now b c back kept was.can_read) can

      pub one_counted : (found : ℕ) → c.faults ≡ b.faults
          → (Tells b → IsSure b.world → found ≡ tracks_counted (held null x.tables.layout x.tables.stages (file_of b.world x.slot)) (track_count x.tables.layout.geo))
          → HasCounted null g start (set now n y) a c (set counts n found) (n + 1)
      one_counted found faults says = record {
        cached = counted_cached;
        can_read = counted_reads;
        kept = λ told. kept (tells told) ∙ was.kept told;
        faults = faults ∙ was.faults;
        rest =
            let tail : 9 - n ≡ suc (8 - n) = omega (arith, low, few) in
            let then_tail : 8 - n ≡ 9 - (n + 1) = omega arith in
            let more : suc n ≡ n + 1 = omega arith in
            ap (λ (k : ℕ). drop k (set counts n found)) (sym more)
            ∙ rest_behind counts n found (8 - n) (was.rest ∙ ap (λ (k : ℕ). replicate k 0) tail)
            ∙ ap (λ (k : ℕ). replicate k 0) then_tail;
        counted = λ told sure.
            let same = was.kept told in
            let files = file_of a.world in
            let maps = maps_of null start files in
            let here : map_at maps n ≡ map_of null x (files x.slot) =
            ap (λ (ms : List Layer). map_at ms n) (sym (caches_maps null files start now was.cached)) ∙ map_here null now files n x is low_now in
            let own : found ≡ tracks_counted (held null x.tables.layout x.tables.stages (files x.slot)) (track_count x.tables.layout.geo) =
            subst (λ (w : World). found ≡ tracks_counted (held null x.tables.layout x.tables.stages (file_of w x.slot)) (track_count x.tables.layout.geo)) same
            (says (tells told) (subst IsSure (sym same) sure)) in
            let total : found ≡ tracks_in (track_count g) (map_at maps n) =
            own
            ∙ sym (counted_same (map_of null x (files x.slot)) (held null x.tables.layout x.tables.stages (files x.slot)) (track_count x.tables.layout.geo) (λ t less. map_low null x (files x.slot) t less))
            ∙ ap (λ (k : Geometry). tracks_in (track_count k) (map_of null x (files x.slot))) counted_layer.shape
            ∙ ap (tracks_in (track_count g)) (sym here) in
            let front = counts_to (track_count g) maps n in
            let tail : 9 - n ≡ suc (8 - n) = omega (arith, low, few) in
            let then_tail : 8 - n ≡ 9 - (n + 1) = omega arith in
            let more : n + 1 ≡ suc n = omega arith in
            ap (λ (cs : List ℕ). set cs n found) (was.counted told sure ∙ ap (λ (k : ℕ). front ++ replicate k 0) tail)
            ∙ set_behind front n 0 found (replicate (8 - n) 0) (sym (counts_length (track_count g) maps n))
            ∙ ap (λ (k : ℕ). (front ++ k ∷ []) ++ replicate (8 - n) 0) total
            ∙ ap (λ (k : ℕ). (front ++ tracks_in (track_count g) (map_at maps n) ∷ []) ++ replicate k 0) then_tail
            ∙ ap (λ (k : ℕ). counts_to (track_count g) maps k ++ replicate (9 - (n + 1)) 0) (sym more);
      }

pub all_fit : (null : NullBytes) (g : Geometry) (start now : List LayerState) (a b : Seen) (counts : List ℕ) (n total : ℕ) → n ≡ length start → total ≡ length start → length start ≤ 9
    → HasCounted null g start now a b counts n → FitsShown (total, counts)
all_fit null g start now a b counts n total e f few was =
    let same : n ≡ total = omega (arith, e, f) in
    record { few = omega (arith, f, few); rest = subst (λ (k : ℕ). drop k counts ≡ replicate (9 - k) 0) same was.rest }

-- all were
pub all_counted : (null : NullBytes) (g : Geometry) (start now : List LayerState) (a b : Seen) (counts : List ℕ) (n total : ℕ) → n ≡ length start → total ≡ length start → 1 ≤ length start
    → HasCounted null g start now a b counts n → Tells a → IsSure a.world → Shows g (stack_of null start (file_of a.world)) (total, counts)
all_counted null g start now a b counts n total e f some was told sure =
    let maps = maps_of null start (file_of a.world) in
    let long : length maps ≡ length start = maps_length null start (file_of a.world) in
    let at : n ≡ length maps = omega (arith, e, long) in
    record {
      layers = omega (arith, f, long, some, count_to maps (length maps - 1));
      counts = was.counted told sure ∙ ap (λ (k : ℕ). counts_to (track_count g) maps k ++ replicate (9 - k) 0) at ∙ counts_all g maps (omega (arith, long, some));
    }

-- a read failed
pub count_refused : (why : LayerFault) (a b c : Seen) → (Tells a → Tells b) → Stays a b → b.faults ≡ a.faults → why ≡ fault.ReadFault → Stays b c
    → CountsReads {A = ℕ} (Err why) b.faults c.faults → OnlyReads {A = ℕ × List ℕ} (Err (stack_fault.Layer why)) a c
count_refused why a b c tells kept faults e more h = record {
  kept = λ told. more (tells told) ∙ kept told;
  counts = subst (λ (w : LayerFault). CountsKind (kind_told (stack_fault.Layer w)) a.faults c.faults) (sym e)
      (subst (λ (f : Faults). CountsReads {A = ℕ} (Err fault.ReadFault) f c.faults) faults (subst (λ (w : LayerFault). CountsReads {A = ℕ} (Err w) b.faults c.faults) e h));
}

-- The layers of a stack, one by one, and what stays where only their cached tables change.
use Rattle.std.proofs.Common.{◌≡◌, ℕ, zero, suc, ◌+◌, ◌<◌, List, [], ◌∷◌, ◌++◌, length, take, drop, map, get_or, set, refl, sym, ◌∙◌, ap, subst, arith}
use Rattle.std.specs.List.{AllByRecursion}
use Rattle.std.proofs.Math.Seq.{map-set_same, take-append_seam}
use Rattle.std.proofs.lemmas.List.{get_or-map}
use Rattle.cckd_base.specs.declared.geometry.Geometry.{Geometry}
use Rattle.cckd_shelf.specs.Seen.{Seen, Tells, Stays}
use Rattle.cckd_shelf.specs.World.{World, IsSure, file_of}
use Rattle.cckd_tables.specs.Tables.{TableView}
use Rattle.cckd_tables.specs.Looking.{with_cached}
use Rattle.cckd_layer.specs.Held.{NullBytes}
use Rattle.cckd_layer.specs.Mounted.{LayerState, ReadsFrom, CanRead, with_tables}
use Rattle.cckd_stack.specs.Layers.{Layer, empty_layer}
use Rattle.cckd_stack.specs.Stacked.{StackState, IsStack, IsLayerIn, AreLayersFrom, AreWhole, CanReadAll, OnlyCaches, uncached, map_of, maps_of, map_at, with_layers}

-- ---- lists

pub all_at : {X : Type 0} (P : X → Type 0) (xs : List X) (i : ℕ) (d : X) → AllByRecursion P xs → i < length xs → P (get_or xs i d)
all_at P [] i d all low = absurd (omega (arith, low))
all_at P (x ∷ xs) zero d all low = all.0
all_at P (x ∷ xs) (suc i) d all low = all_at P xs i d all.1 (omega (arith, low))

pub all_set : {X : Type 0} (P : X → Type 0) (xs : List X) (i : ℕ) (y : X) → AllByRecursion P xs → P y → AllByRecursion P (set xs i y)
all_set P [] i y all here = tt
all_set P (x ∷ xs) zero y all here = (here, all.1)
all_set P (x ∷ xs) (suc i) y all here = (all.0, all_set P xs i y all.1 here)

pub all_between : {X : Type 0} (P Q : X → Type 0) (xs : List X) → ((x : X) → P x → Q x) → AllByRecursion P xs → AllByRecursion Q xs
all_between P Q [] f all = tt
all_between P Q (x ∷ xs) f all = (f x all.0, all_between P Q xs f all.1)

-- ---- layers by their numbers

pub layer_at : (g : Geometry) (at slot : ℕ) (layers : List LayerState) (n : ℕ) (d : LayerState) → at ≡ slot + n → AreLayersFrom g slot layers → n < length layers
    → IsLayerIn g at (get_or layers n d)
layer_at g at slot [] n d e are low = absurd (omega (arith, low))
layer_at g at slot (s ∷ ss) zero d e are low = let same : slot ≡ at = omega (arith, e) in subst (λ (k : ℕ). IsLayerIn g k s) same are.0
layer_at g at slot (s ∷ ss) (suc n) d e are low = layer_at g at (suc slot) ss n d (omega (arith, e)) are.1 (omega (arith, low))

-- the map of the layer that was found under its number
pub map_here : (null : NullBytes) (layers : List LayerState) (files : ℕ → List ℕ) (n : ℕ) (x : LayerState) → x ≡ get_or layers n x → n < length layers
    → map_at (maps_of null layers files) n ≡ map_of null x (files x.slot)
map_here null layers files n x is low =
    get_or-map (λ (s : LayerState). map_of null s (files s.slot)) layers n x empty_layer low
    ∙ ap (λ (s : LayerState). map_of null s (files s.slot)) (sym is)

pub maps_length : (null : NullBytes) (layers : List LayerState) (files : ℕ → List ℕ) → length (maps_of null layers files) ≡ length layers
maps_length null [] files = refl
maps_length null (s ∷ ss) files = ap suc (maps_length null ss files)

-- ---- only cached tables change

pub caches_here : (layers : List LayerState) (n : ℕ) (x y : LayerState) (tables : TableView) → x ≡ get_or layers n x → y ≡ with_tables x tables → tables ≡ with_cached x.tables tables.cached
    → OnlyCaches layers (set layers n y)
caches_here layers n x y tables is rest looks =
    let same : uncached y ≡ uncached x = ap uncached rest ∙ ap (λ (v : TableView). uncached (with_tables x v)) looks in
    map-set_same uncached layers n y x (same ∙ ap uncached is)

pub caches_length : (old new : List LayerState) → OnlyCaches old new → length new ≡ length old
caches_length [] [] e = refl
caches_length [] (y ∷ ys) e = absurd (cc e)
caches_length (x ∷ xs) [] e = absurd (cc e)
caches_length (x ∷ xs) (y ∷ ys) e = let rest : map uncached ys ≡ map uncached xs = cc e in ap suc (caches_length xs ys rest)

layer_same : (g : Geometry) (slot : ℕ) (x y : LayerState) → uncached y ≡ uncached x → IsLayerIn g slot x → IsLayerIn g slot y
layer_same g slot x y e h = record {
  slot_is = ap (λ (s : LayerState). s.slot) e ∙ h.slot_is;
  shape = ap (λ (s : LayerState). s.tables.layout.geo) e ∙ h.shape;
}

pub caches_layers : (g : Geometry) (slot : ℕ) (old new : List LayerState) → OnlyCaches old new → AreLayersFrom g slot old → AreLayersFrom g slot new
caches_layers g slot [] [] e are = tt
caches_layers g slot [] (y ∷ ys) e are = absurd (cc e)
caches_layers g slot (x ∷ xs) [] e are = absurd (cc e)
caches_layers g slot (x ∷ xs) (y ∷ ys) e are =
    let here : uncached y ≡ uncached x = cc e in
    let rest : map uncached ys ≡ map uncached xs = cc e in
    (layer_same g slot x y here are.0, caches_layers g (suc slot) xs ys rest are.1)

pub caches_whole : (old new : List LayerState) → OnlyCaches old new → AreWhole old → AreWhole new
caches_whole [] [] e are = tt
caches_whole [] (y ∷ ys) e are = absurd (cc e)
caches_whole (x ∷ xs) [] e are = absurd (cc e)
caches_whole (x ∷ xs) (y ∷ ys) e are =
    let here : uncached y ≡ uncached x = cc e in
    let rest : map uncached ys ≡ map uncached xs = cc e in
    (ap (λ (s : LayerState). s.broken) here ∙ are.0, caches_whole xs ys rest are.1)

pub caches_maps : (null : NullBytes) (files : ℕ → List ℕ) (old new : List LayerState) → OnlyCaches old new → maps_of null new files ≡ maps_of null old files
caches_maps null files [] [] e = refl
caches_maps null files [] (y ∷ ys) e = absurd (cc e)
caches_maps null files (x ∷ xs) [] e = absurd (cc e)
caches_maps null files (x ∷ xs) (y ∷ ys) e =
    let here : uncached y ≡ uncached x = cc e in
    let rest : map uncached ys ≡ map uncached xs = cc e in
    let m : map_of null y (files y.slot) ≡ map_of null x (files x.slot) = ap (λ (s : LayerState). map_of null s (files s.slot)) here in
    ap (λ (l : Layer). l ∷ maps_of null ys files) m ∙ ap (λ (ls : List Layer). map_of null x (files x.slot) ∷ ls) (caches_maps null files xs ys rest)

-- ---- the files stay

read_stays : (layer : LayerState) (a b : Seen) → (Tells b → Tells a) → Stays a b → CanRead layer a → CanRead layer b
read_stays layer a b tells kept can = λ told sure.
    let same = kept (tells told) in
    subst (λ (w : World). ReadsFrom layer.tables (file_of w layer.slot)) (sym same) (can (tells told) (subst IsSure same sure))

pub reads_stay : (layers : List LayerState) (a b : Seen) → (Tells b → Tells a) → Stays a b → CanReadAll layers a → CanReadAll layers b
reads_stay layers a b tells kept can = all_between (λ (s : LayerState). CanRead s a) (λ (s : LayerState). CanRead s b) layers (λ s h. read_stays s a b tells kept h) can

-- a stack whose layers differ in cached tables alone is one
pub caches_stack : (s : StackState) (new : List LayerState) → OnlyCaches s.layers new → IsStack s → IsStack (with_layers s new)
caches_stack s new e is =
    let long = caches_length s.layers new e in
    record {
      geometry = is.geometry;
      some = omega (arith, is.some, long);
      few = omega (arith, is.few, long);
      layers = caches_layers s.geometry 0 s.layers new e is.layers;
      whole = λ sound. caches_whole s.layers new e (is.whole sound);
    }

-- the layers, written back from a slice
pub written_back : (xs ys : List LayerState) (n : ℕ) → n ≡ length xs → take n (xs ++ drop (length xs) ys) ≡ xs
written_back xs ys n e = ap (λ (k : ℕ). take k (xs ++ drop (length xs) ys)) e ∙ take-append_seam xs (drop (length xs) ys)

pub written_stack : (s : StackState) (was new ys : List LayerState) (n : ℕ) → was ≡ s.layers → n ≡ length was → OnlyCaches was new → IsStack s
    → IsStack (with_layers s (take n (new ++ drop (length new) ys)))
written_stack s was new ys n same long e is =
    let caches : OnlyCaches s.layers new = subst (λ (ls : List LayerState). OnlyCaches ls new) same e in
    subst (λ (ls : List LayerState). IsStack (with_layers s ls)) (sym (written_back new ys n (long ∙ sym (caches_length was new e)))) (caches_stack s new caches is)

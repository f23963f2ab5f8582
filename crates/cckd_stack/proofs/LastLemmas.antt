-- The last of some layers, and what is made of a stack by what is made of that one.
use Rattle.std.proofs.Common.{◌≡◌, ℕ, zero, suc, ◌+◌, ◌-◌, ◌<◌, false, List, [], ◌∷◌, ◌++◌, length, take, get_or, set, refl, sym, ◌∙◌, ap, subst, inl, inr, arith}
use Rattle.std.specs.List.{AllByRecursion}
use Rattle.std.proofs.Math.Seq.{get_or-append_seam}
use Rattle.std.proofs.lemmas.List.{get_or_append_left, length-append}
use Rattle.cckd_base.specs.declared.geometry.Geometry.{Geometry}
use Rattle.cckd_shelf.specs.Seen.{Seen, Tells}
use Rattle.cckd_shelf.specs.World.{World, IsSure, file_of}
use Rattle.cckd_shelf.specs.Outcomes.{EachOutcome, OthersStill}
use Rattle.cckd_shelf.specs.Frame.{SparesOthers, OnlyIn}
use Rattle.cckd_shelf.proofs.MomentLemmas.{at_end}
use Rattle.cckd_shelf.proofs.FrameLemmas.{other_keeps}
use Rattle.cckd_tables.specs.Tables.{AreOf}
use Rattle.cckd_layer.specs.Sits.{IsMarked, Sits}
use Rattle.cckd_layer.specs.Current.{Current}
use Rattle.cckd_layer.specs.Held.{NullBytes}
use Rattle.cckd_layer.specs.Mounted.{LayerState}
use Rattle.cckd_layer.specs.Writes.{Agrees}
use Rattle.cckd_layer.specs.Loose.{Tied}
use Rattle.cckd_layer.proofs.ExcessLemmas.{loose_beside}
use Rattle.cckd_stack.specs.Layers.{Layer, Stack, base, shadow, empty_layer, top, with_top}
use Rattle.cckd_stack.specs.Tops.{top_slot}
use Rattle.cckd_stack.specs.Stacked.{IsLayerIn, AreLayersFrom, AreWhole, map_of, maps_of, map_at, stack_to, stack_by, stack_of}
use Rattle.cckd_stack.specs.Writes.{AgreeAll, AreStackBy, ChangesLast, stack_now}
use Rattle.cckd_stack.proofs.LayerListLemmas.{maps_length}
use Rattle.cckd_stack.proofs.BridgeLemmas.{count_to}

-- ---- lists

-- a list ends with its last one
pub last_is : {X : Type 0} (xs : List X) (n : ℕ) (x : X) → x ≡ get_or xs n x → suc n ≡ length xs → xs ≡ take n xs ++ x ∷ []
last_is [] n x is e = absurd (omega (arith, e))
last_is (a ∷ []) zero x is e = ap (λ b. b ∷ []) (sym is)
last_is (a ∷ b ∷ rest) zero x is e = absurd (omega (arith, e))
last_is (a ∷ rest) (suc n) x is e = ap (λ ys. a ∷ ys) (last_is rest n x is (omega (arith, e)))

-- and so it does once that is another one
pub last_set : {X : Type 0} (xs : List X) (n : ℕ) (y : X) → suc n ≡ length xs → set xs n y ≡ take n xs ++ y ∷ []
last_set [] n y e = absurd (omega (arith, e))
last_set (a ∷ []) zero y e = refl
last_set (a ∷ b ∷ rest) zero y e = absurd (omega (arith, e))
last_set (a ∷ rest) (suc n) y e = ap (λ ys. a ∷ ys) (last_set rest n y (omega (arith, e)))

pub changes_last : (P : LayerState → LayerState → Type 0) (layers : List LayerState) (n : ℕ) (x y : LayerState) → x ≡ get_or layers n x → suc n ≡ length layers → P x y
    → ChangesLast P layers (set layers n y)
changes_last P layers n x y is e h = record {
  lower = take n layers;
  was = x;
  next = y;
  old_is = last_is layers n x is e;
  new_is = last_set layers n y e;
  changes = h;
}

all_last : {X : Type 0} (P : X → Type 0) (xs : List X) (x : X) → AllByRecursion P (xs ++ x ∷ []) → P x
all_last P [] x all = all.0
all_last P (a ∷ xs) x all = all_last P xs x all.1

all_but_last : {X : Type 0} (P : X → Type 0) (xs : List X) (x : X) → AllByRecursion P (xs ++ x ∷ []) → AllByRecursion P xs
all_but_last P [] x all = tt
all_but_last P (a ∷ xs) x all = (all.0, all_but_last P xs x all.1)

all_with : {X : Type 0} (P : X → Type 0) (xs : List X) (x : X) → AllByRecursion P xs → P x → AllByRecursion P (xs ++ x ∷ [])
all_with P [] x all here = (here, tt)
all_with P (a ∷ xs) x all here = (all.0, all_with P xs x all.1 here)

-- ---- slots

layer_last : (g : Geometry) (slot n : ℕ) (lower : List LayerState) (x : LayerState) → n ≡ slot + length lower → AreLayersFrom g slot (lower ++ x ∷ []) → IsLayerIn g n x
layer_last g slot n [] x e are = let same : slot ≡ n = omega (arith, e) in subst (λ (k : ℕ). IsLayerIn g k x) same are.0
layer_last g slot n (s ∷ lower) x e are = layer_last g (suc slot) n lower x (omega (arith, e)) are.1

pub own_layer : (g : Geometry) (lower : List LayerState) (x : LayerState) → AreLayersFrom g 0 (lower ++ x ∷ []) → IsLayerIn g (length lower) x
own_layer g lower x are = layer_last g 0 (length lower) lower x (omega arith) are

layers_with : (g : Geometry) (slot : ℕ) (lower : List LayerState) (x y : LayerState) → y.slot ≡ x.slot → y.tables.layout.geo ≡ x.tables.layout.geo
    → AreLayersFrom g slot (lower ++ x ∷ []) → AreLayersFrom g slot (lower ++ y ∷ [])
layers_with g slot [] x y at same are = (record { slot_is = at ∙ are.0.slot_is; shape = same ∙ are.0.shape }, tt)
layers_with g slot (s ∷ lower) x y at same are = (are.0, layers_with g (suc slot) lower x y at same are.1)

pub layers_again : (g : Geometry) (lower : List LayerState) (x y : LayerState) → y.slot ≡ x.slot → y.tables.layout.geo ≡ x.tables.layout.geo
    → AreLayersFrom g 0 (lower ++ x ∷ []) → AreLayersFrom g 0 (lower ++ y ∷ [])
layers_again g lower x y at same are = layers_with g 0 lower x y at same are

pub whole_again : (lower : List LayerState) (x y : LayerState) → y.broken ≡ false → AreWhole (lower ++ x ∷ []) → AreWhole (lower ++ y ∷ [])
whole_again lower x y h all = all_with (λ (s : LayerState). s.broken ≡ false) lower y (all_but_last (λ (s : LayerState). s.broken ≡ false) lower x all) h

-- ---- the stack of maps that ends with one

-- a map over those of the layers below
abbrev pub over : List Layer → Layer → Stack
over [] m = base m
over (a ∷ rest) m = shadow m (stack_to (a ∷ rest) (length rest))

map_left : (ms : List Layer) (m : Layer) (n : ℕ) → n < length ms → map_at (ms ++ m ∷ []) n ≡ map_at ms n
map_left ms m n low = get_or_append_left ms (m ∷ []) empty_layer n low

map_end : (ms : List Layer) (m : Layer) → map_at (ms ++ m ∷ []) (length ms) ≡ m
map_end ms m = get_or-append_seam ms m [] empty_layer

left_to : (ms : List Layer) (m : Layer) (n : ℕ) → n < length ms → stack_to (ms ++ m ∷ []) n ≡ stack_to ms n
left_to ms m zero low = ap base (map_left ms m 0 low)
left_to ms m (suc n) low =
    ap (λ (k : Layer). shadow k (stack_to (ms ++ m ∷ []) n)) (map_left ms m (suc n) low) ∙ ap (shadow (map_at ms (suc n))) (left_to ms m n (omega (arith, low)))

over_to : (ms : List Layer) (m : Layer) → stack_to (ms ++ m ∷ []) (length ms) ≡ over ms m
over_to [] m = refl
over_to (a ∷ rest) m =
    ap (λ (k : Layer). shadow k (stack_to (a ∷ rest ++ m ∷ []) (length rest))) (map_end (a ∷ rest) m) ∙ ap (shadow m) (left_to (a ∷ rest) m (length rest) (omega arith))

stack_over : (ms : List Layer) (m : Layer) → stack_by (ms ++ m ∷ []) ≡ over ms m
stack_over ms m =
    let last : length (ms ++ m ∷ []) - 1 ≡ length ms = omega (arith, length-append ms (m ∷ [])) in
    ap (stack_to (ms ++ m ∷ [])) last ∙ over_to ms m

top_over : (ms : List Layer) (m : Layer) → top (over ms m) ≡ m
top_over [] m = refl
top_over (a ∷ rest) m = refl

with_over : (ms : List Layer) (m k : Layer) → with_top (over ms m) k ≡ over ms k
with_over [] m k = refl
with_over (a ∷ rest) m k = refl

slot_over : (ms : List Layer) (m : Layer) → top_slot (over ms m) ≡ length ms
slot_over [] m = refl
slot_over (a ∷ rest) m =
    let last : length rest + 1 ≡ length (a ∷ rest) = omega arith in
    count_to (a ∷ rest) (length rest) ∙ last

-- ---- the stack of layers that ends with one

maps_over : (null : NullBytes) (files : ℕ → List ℕ) (lower : List LayerState) (x : LayerState)
    → maps_of null (lower ++ x ∷ []) files ≡ maps_of null lower files ++ map_of null x (files x.slot) ∷ []
maps_over null files [] x = refl
maps_over null files (s ∷ lower) x = ap (λ (ms : List Layer). map_of null s (files s.slot) ∷ ms) (maps_over null files lower x)

-- the layers below, and the last one over them
pub layers_over : (null : NullBytes) (files : ℕ → List ℕ) (lower : List LayerState) (x : LayerState)
    → stack_of null (lower ++ x ∷ []) files ≡ over (maps_of null lower files) (map_of null x (files x.slot))
layers_over null files lower x = ap stack_by (maps_over null files lower x) ∙ stack_over (maps_of null lower files) (map_of null x (files x.slot))

pub top_of_layers : (null : NullBytes) (files : ℕ → List ℕ) (lower : List LayerState) (x : LayerState) → top (stack_of null (lower ++ x ∷ []) files) ≡ map_of null x (files x.slot)
top_of_layers null files lower x = ap top (layers_over null files lower x) ∙ top_over (maps_of null lower files) (map_of null x (files x.slot))

pub slot_of_layers : (null : NullBytes) (files : ℕ → List ℕ) (lower : List LayerState) (x : LayerState) → top_slot (stack_of null (lower ++ x ∷ []) files) ≡ length lower
slot_of_layers null files lower x =
    ap top_slot (layers_over null files lower x) ∙ slot_over (maps_of null lower files) (map_of null x (files x.slot)) ∙ maps_length null lower files

-- ---- what is made of another slot's file doesn't concern a layer

pub beside : (s : LayerState) (slot : ℕ) (old new : World) → (slot ≡ s.slot → ⊥) → IsSure new → SparesOthers slot old new → Agrees s old → Agrees s new
beside s slot old new apart sure spares a =
    let still : OthersStill slot old.events new.events = at_end (OthersStill slot old.events) old.events new.events spares.others in
    let file : file_of old s.slot ≡ file_of new s.slot = sym (spares.files s.slot apart) in
    record {
      stands = record {
        sure = sure;
        now = subst (λ (f : List ℕ). Current s.tables.layout s.tables.stages [] s.plan f) file a.stands.now;
        each = other_keeps (Sits s.tables.layout s.plan.pieces) slot s.slot old.events new.events apart still a.stands.each;
        marked = λ m. other_keeps IsMarked slot s.slot old.events new.events apart still (a.stands.marked m);
      };
      are = subst (AreOf s.tables) file a.are;
      fits = a.fits;
      empty = a.empty;
      alone = λ h. subst (λ (f : List ℕ). EachOutcome s.slot (λ g. g ≡ f) new.events) file
          (other_keeps (λ (g : List ℕ). g ≡ file_of old s.slot) slot s.slot old.events new.events apart still (a.alone h));
    }

-- what a layer has to do with the world stays where another slot's file is changed
abbrev pub StaysBeside : (LayerState → World → Type 0) → Type 0
StaysBeside R = (s : LayerState) (slot : ℕ) (old new : World) → (slot ≡ s.slot → ⊥) → IsSure new → SparesOthers slot old new → R s old → R s new

pub tied_beside : StaysBeside Tied
tied_beside s slot old new apart sure spares (inl a) = inl (beside s slot old new apart sure spares a)
tied_beside s slot old new apart sure spares (inr h) = inr (loose_beside s slot old new apart sure spares h)

lower_by : (R : LayerState → World → Type 0) → StaysBeside R → (g : Geometry) (slot n : ℕ) (lower : List LayerState) (x y : LayerState) (old new : World) → n ≡ slot + length lower
    → AreLayersFrom g slot (lower ++ x ∷ []) → IsSure new → SparesOthers n old new → AllByRecursion (λ (s : LayerState). R s old) (lower ++ x ∷ []) → R y new
    → AllByRecursion (λ (s : LayerState). R s new) (lower ++ y ∷ [])
lower_by R stays g slot n [] x y old new e are sure spares agree last = (last, tt)
lower_by R stays g slot n (s ∷ lower) x y old new e are sure spares agree last = (
  stays s n old new (λ same. absurd (omega (arith, same, e, are.0.slot_is))) sure spares agree.0,
  lower_by R stays g (suc slot) n lower x y old new (omega (arith, e)) are.1 sure spares agree.1 last,
)

lower_maps : (null : NullBytes) (g : Geometry) (slot n : ℕ) (lower : List LayerState) (x : LayerState) (old new : World) → n ≡ slot + length lower
    → AreLayersFrom g slot (lower ++ x ∷ []) → SparesOthers n old new → maps_of null lower (file_of new) ≡ maps_of null lower (file_of old)
lower_maps null g slot n [] x old new e are spares = refl
lower_maps null g slot n (s ∷ lower) x old new e are spares =
    let same : file_of new s.slot ≡ file_of old s.slot = spares.files s.slot (λ at. absurd (omega (arith, at, e, are.0.slot_is))) in
    ap (λ (f : List ℕ). map_of null s f ∷ maps_of null lower (file_of new)) same
    ∙ ap (λ (ms : List Layer). map_of null s (file_of old s.slot) ∷ ms) (lower_maps null g (suc slot) n lower x old new (omega (arith, e)) are.1 spares)

-- ---- the last layer was changed, and nothing else

module _ (null : NullBytes) (g : Geometry) (lower : List LayerState) (x y : LayerState) (old new : Seen) (are : AreLayersFrom g 0 (lower ++ x ∷ []))
    (slot : ℕ) (at : slot ≡ x.slot) (others : OnlyIn slot old new)
  where
    spared : Tells old → SparesOthers (length lower) old.world new.world
    spared told = subst (λ (n : ℕ). SparesOthers n old.world new.world) (at ∙ (own_layer g lower x are).slot_is) (others told)

    -- the layer has to do with its file what all had, and so do all, whose stack has another last layer
    pub last_changed : (R : LayerState → World → Type 0) → StaysBeside R → (m : Layer) → Tells old → IsSure new.world → AllByRecursion (λ (s : LayerState). R s old.world) (lower ++ x ∷ []) → R y new.world
        → map_of null y (file_of new.world y.slot) ≡ m → AreStackBy R null (with_top (stack_now null (lower ++ x ∷ []) old) m) (lower ++ y ∷ []) new
    last_changed R stays m told sure agree last is =
        let was = map_of null x (file_of old.world x.slot) in
        let maps = maps_of null lower (file_of old.world) in
        record {
          agree = lower_by R stays g 0 (length lower) lower x y old.world new.world (omega arith) are sure (spared told) agree last;
          are = layers_over null (file_of new.world) lower y
              ∙ ap (λ (ms : List Layer). over ms (map_of null y (file_of new.world y.slot))) (lower_maps null g 0 (length lower) lower x old.world new.world (omega arith) are (spared told))
              ∙ ap (over maps) is
              ∙ sym (ap (λ (s : Stack). with_top s m) (layers_over null (file_of old.world) lower x) ∙ with_over maps was m);
        }

-- what all layers have to do with their files, the last one has
pub own_by : (R : LayerState → World → Type 0) (lower : List LayerState) (x : LayerState) (w : World) → AllByRecursion (λ (s : LayerState). R s w) (lower ++ x ∷ []) → R x w
own_by R lower x w agree = all_last (λ (s : LayerState). R s w) lower x agree

-- the last layer agrees with its file
pub own_agrees : (lower : List LayerState) (x : LayerState) (w : World) → AgreeAll (lower ++ x ∷ []) w → Agrees x w
own_agrees lower x w agree = all_last (λ (s : LayerState). Agrees s w) lower x agree

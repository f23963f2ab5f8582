-- A layer anywhere in a stack, and what is made of the stack by what keeps that layer's map.
use Rattle.std.proofs.Common.{◌≡◌, ◌⊎◌, ⊎_elim, ℕ, zero, suc, ◌+◌, ◌-◌, ◌<◌, ◌≤◌, Bool, cond, List, [], ◌∷◌, length, get_or, set, refl, sym, ◌∙◌, ap, subst, inl, inr, arith}
use Rattle.std.specs.List.{AllByRecursion}
use Rattle.std.proofs.Math.Path.{fun_ext}
use Rattle.std.proofs.lemmas.Bool.{cases_lt}
use Rattle.cckd_base.specs.declared.geometry.Geometry.{Geometry}
use Rattle.cckd_base.specs.declared.geometry.Layout.{Layout}
use Rattle.cckd_base.specs.Geometry.{track_count}
use Rattle.cckd_base.specs.Header.{is_present, base_identifier, shadow_identifier}
use Rattle.cckd_base.specs.Image.{IsHeaded}
use Rattle.cckd_base.specs.Track.{null_track}
use Rattle.cckd_base.proofs.HeaderLemmas.{headed_base, headed_shadow}
use Rattle.cckd_shelf.specs.Events.{Event, file_now}
use Rattle.cckd_shelf.specs.Seen.{Seen, Tells}
use Rattle.cckd_shelf.specs.World.{World, IsSure, file_of}
use Rattle.cckd_shelf.specs.Outcomes.{EachOutcome, OthersStill, AtEach}
use Rattle.cckd_shelf.specs.Frame.{SparesOthers, OnlyIn}
use Rattle.cckd_shelf.proofs.OutcomeLemmas.{now_is_outcome}
use Rattle.cckd_shelf.proofs.MomentLemmas.{weaker, both}
use Rattle.cckd_shelf.proofs.StopLemmas.{with_slot, slot_here, slot_other, image_with}
use Rattle.cckd_layer.specs.Sits.{identifiers_for}
use Rattle.cckd_layer.specs.Held.{NullBytes, AreSame, LiesWithin, Keeps, held_in}
use Rattle.cckd_layer.specs.Mounted.{LayerState}
use Rattle.cckd_layer.specs.Writes.{Agrees, StopsWithin, IsSameFile, map_of as layer_map}
use Rattle.cckd_layer.specs.Loose.{Tied}
use Rattle.cckd_layer.proofs.ExcessLemmas.{tied_sure}
use Rattle.cckd_stack.specs.Layers.{Layer, Stack, base, shadow, layer_count, below}
use Rattle.cckd_stack.specs.Stops.{Lies}
use Rattle.cckd_stack.specs.Moments.{EachOpens, Hardening}
use Rattle.cckd_stack.specs.Opened.{HoldsLayer, StandIn, OpensTo, held_tracks}
use Rattle.cckd_stack.proofs.CoveredLemmas.{sound_is_covered}
use Rattle.cckd_stack.specs.Tops.{top_slot}
use Rattle.cckd_stack.specs.Stacked.{IsLayerIn, AreLayersFrom, map_of, maps_of, map_at, stack_to, stack_by, stack_of}
use Rattle.cckd_stack.specs.Writes.{KeepsStackBy, KeepsEach, KeepsLayer, HasHardening}
use Rattle.cckd_stack.proofs.LayerListLemmas.{all_at, layer_at, map_here, maps_length}
use Rattle.cckd_stack.proofs.TopLemmas.{stand_agree}
use Rattle.cckd_stack.proofs.BridgeLemmas.{count_to, held_low, held_high, identifier_in, whole_sound}
use Rattle.cckd_stack.proofs.LastLemmas.{StaysBeside, beside, tied_beside}
use Rattle.cckd_stack.proofs.WritesLemmas.{map_low, map_high, same_map}

-- ---- a layer of a stack by its slot

abbrev pub HasLayer : ℕ → Layer → Stack → Type 0
HasLayer k m (base layer) = (k ≡ 0) × (m ≡ layer)
HasLayer k m (shadow layer lower) = ((k ≡ layer_count lower) × (m ≡ layer)) ⊎ HasLayer k m lower

counted : (s : Stack) → 1 ≤ layer_count s
counted (base layer) = omega arith
counted (shadow layer lower) = omega arith

has_low : (k : ℕ) (m : Layer) (s : Stack) → HasLayer k m s → k < layer_count s
has_low k m (base layer) h = omega (arith, h.0)
has_low k m (shadow layer lower) (inl here) = omega (arith, here.0)
has_low k m (shadow layer lower) (inr there) = let low = has_low k m lower there in omega (arith, low)

-- the layers below the last are those of any stack over the same ones
has_below : (k : ℕ) (m : Layer) (s d : Stack) → k < top_slot s → below s ≡ below d → HasLayer k m s → HasLayer k m d
has_below k m (base a) d low e h = absurd (omega (arith, low))
has_below k m (shadow a lower) (base b) low e h = absurd (cc e)
has_below k m (shadow a lower) (shadow b other) low e (inl here) = absurd (omega (arith, low, here.0))
has_below k m (shadow a lower) (shadow b other) low e (inr there) = let same : lower ≡ other = cc e in inr (subst (HasLayer k m) same there)

-- so has the stack of some maps
has_in : (maps : List Layer) (k n : ℕ) → k ≤ n → HasLayer k (map_at maps k) (stack_to maps n)
has_in maps k zero low = let e : k ≡ 0 = omega (arith, low) in (e, ap (map_at maps) e)
has_in maps k (suc n) low = ⊎_elim
    (λ (less : k < suc n). inr (has_in maps k n (omega (arith, less))))
    (λ (most : suc n ≤ k). let e : k ≡ suc n = omega (arith, low, most) in inl (omega (arith, e, count_to maps n), ap (map_at maps) e))
    (cases_lt k (suc n))

-- ---- its file

identifier_above : (k : ℕ) → 1 ≤ k → identifier_in k ≡ shadow_identifier
identifier_above zero low = absurd (omega (arith, low))
identifier_above (suc k) low = refl

stand_layer : (g : Geometry) (files : ℕ → List ℕ) (k : ℕ) (m : Layer) (s : Stack) → HasLayer k m s → StandIn g files s → HoldsLayer (identifier_in k) g (files k) m
stand_layer g files k m (base layer) h stand =
    subst (λ (j : ℕ). HoldsLayer (identifier_in j) g (files j) m) (sym h.0) (subst (HoldsLayer base_identifier g (files 0)) (sym h.1) stand)
stand_layer g files k m (shadow layer lower) (inl here) stand =
    let own : HoldsLayer shadow_identifier g (files (layer_count lower)) m = subst (HoldsLayer shadow_identifier g (files (layer_count lower))) (sym here.1) stand.1 in
    subst (λ (j : ℕ). HoldsLayer (identifier_in j) g (files j) m) (sym here.0)
    (subst (λ (i : List ℕ). HoldsLayer i g (files (layer_count lower)) m) (sym (identifier_above (layer_count lower) (counted lower))) own)
stand_layer g files k m (shadow layer lower) (inr there) stand = stand_layer g files k m lower there stand.0

-- the stack stands where only that file is another one, which holds the same layer
stand_one : (g : Geometry) (files others : ℕ → List ℕ) (k : ℕ) (m : Layer) (s : Stack) → HasLayer k m s → HoldsLayer (identifier_in k) g (others k) m
    → ((j : ℕ) → (k ≡ j → ⊥) → files j ≡ others j) → StandIn g files s → StandIn g others s
stand_one g files others k m (base layer) h holds same stand =
    subst (HoldsLayer base_identifier g (others 0)) h.1 (subst (λ (j : ℕ). HoldsLayer (identifier_in j) g (others j) m) h.0 holds)
stand_one g files others k m (shadow layer lower) (inl here) holds same stand = (
  stand_agree g files others lower (λ j low. same j (λ e. absurd (omega (arith, e, here.0, low)))) stand.0,
  subst (λ (i : List ℕ). HoldsLayer i g (others (layer_count lower)) layer) (identifier_above (layer_count lower) (counted lower))
      (subst (λ (j : ℕ). HoldsLayer (identifier_in j) g (others j) layer) here.0 (subst (HoldsLayer (identifier_in k) g (others k)) here.1 holds)),
)
stand_one g files others k m (shadow layer lower) (inr there) holds same stand = (
  stand_one g files others k m lower there holds same stand.0,
  let low = has_low k m lower there in
      subst (λ (file : List ℕ). HoldsLayer shadow_identifier g file layer) (same (layer_count lower) (λ e. absurd (omega (arith, e, low)))) stand.1,
)

begins_in : (k : ℕ) (l : Layout) (file : List ℕ) → IsHeaded (identifier_in k ∷ []) l file → identifier_in k ∷ [] ≡ identifiers_for l
begins_in zero l file h = sym (ap (λ (b : Bool). cond b shadow_identifier base_identifier ∷ []) (headed_base l file h))
begins_in (suc k) l file h = sym (ap (λ (b : Bool). cond b shadow_identifier base_identifier ∷ []) (headed_shadow l file h))

-- ---- stops, where the layer isn't the last one

slot_to : (maps : List Layer) (n : ℕ) → top_slot (stack_to maps n) ≡ n
slot_to maps zero = refl
slot_to maps (suc n) = count_to maps n ∙ (omega arith)

module _ (null : NullBytes) (g : Geometry) (layers : List LayerState) (n : ℕ) (x : LayerState) (old new : Seen) (is : x ≡ get_or layers n x) (low : suc n < length layers)
    (are : AreLayersFrom g 0 layers) (was : Hardening) (has : HasHardening null g layers was old)
  where
    own : Agrees x old.world
    own = subst (λ (s : LayerState). Agrees s old.world) (sym is) (all_at (λ (s : LayerState). Agrees s old.world) layers n x has.agree (omega (arith, low)))

    place : IsLayerIn g n x
    place = subst (IsLayerIn g n) (sym is) (layer_at g n 0 layers n x (omega arith) are (omega (arith, low)))

    abbrev l : Layout
    l = x.tables.layout

    abbrev m : Layer
    m = map_of null x (file_of old.world x.slot)

    last : ℕ
    last = length (maps_of null layers (file_of old.world)) - 1

    last_is : last ≡ length layers - 1
    unfolding last
    last_is = ap (λ (k : ℕ). k - 1) (maps_length null layers (file_of old.world))

    in_stack : HasLayer n m was.stack
    unfolding last
    in_stack =
        subst (HasLayer n m) (sym has.stack_is)
        (subst (λ (k : Layer). HasLayer n k (stack_of null layers (file_of old.world))) (map_here null layers (file_of old.world) n x is (omega (arith, low)))
        (has_in (maps_of null layers (file_of old.world)) n last (omega (arith, low, last_is))))

    under : n < top_slot was.stack
    unfolding last
    under =
        let e : top_slot was.stack ≡ last = ap top_slot has.stack_is ∙ slot_to (maps_of null layers (file_of old.world)) last in
        omega (arith, e, low, last_is)

    -- every stack over the same layers has it
    in_left : (s : Stack) → below s ≡ below was.hard → HasLayer n m s
    in_left s e = has_below n m was.stack s under (has.hardened.now.below ∙ sym e) in_stack

    held_before : EachOutcome x.slot (λ file. HoldsLayer (identifier_in n) g file m) old.world.events
    held_before file outcome =
        let files = with_slot (file_now old.world.events) x.slot file in
        let o : OpensTo g (Lies was.hard was.later) files =
        has.hardened.stops files (image_with old.world.events (file_now old.world.events) x.slot file outcome (λ k apart. now_is_outcome old.world.events k)) in
        subst (λ (f : List ℕ). HoldsLayer (identifier_in n) g f m) (ap files (sym place.slot_is) ∙ slot_here (file_now old.world.events) x.slot file)
        (stand_layer g files n m o.stack (in_left o.stack o.holds.below) o.opens.stand)

    named : identifier_in n ∷ [] ≡ identifiers_for l
    named =
        let file = file_of old.world x.slot in
        let outcome = now_is_outcome old.world.events x.slot in
        let h = held_before file outcome in
        let whole = (own.stands.each file outcome).whole in
        let same : h.layout ≡ l = h.sound.headed.says ∙ sym whole.headed.says in
        begins_in n l file (subst (λ (k : Layout). IsHeaded (identifier_in n ∷ []) k file) same h.sound.headed)

    keeps_before : EachOutcome x.slot (Keeps null l m []) old.world.events
    keeps_before file outcome =
        let h = held_before file outcome in
        let whole = (own.stands.each file outcome).whole in
        let same : h.layout ≡ l = h.sound.headed.says ∙ sym whole.headed.says in
        let is : m ≡ held_tracks l file = h.held ∙ ap (λ (k : Layout). held_tracks k file) same in
        subst (λ (k : NullBytes). Keeps k l m [] file) (sym has.null_is) (record {
          whole = whole;
          lies = record { each = λ t less. inl (sym (ap (λ (k : Layer). k t) is ∙ held_low l file t less)) };
        })

    same_held : (file : List ℕ) → LiesWithin (track_count l.geo) m [] (held_in null_track l file) → m ≡ held_tracks l file
    same_held file lies = fun_ext (λ t. ⊎_elim
        (λ (less : t < track_count l.geo). sym (held_low l file t less ∙ ⊎_elim (λ (e : held_in null_track l file t ≡ m t). e) (λ e. absurd e) (lies.each t less)))
        (λ (high : track_count l.geo ≤ t). map_high null x (file_of old.world x.slot) t high ∙ sym (held_high l file t high))
        (cases_lt t (track_count l.geo)))

    holds_then : (file : List ℕ) → Keeps null l m [] file → HoldsLayer (identifier_in n) g file m
    holds_then file keeps =
        let k : Keeps null_track l m [] file = subst (λ (f : NullBytes). Keeps f l m [] file) has.null_is keeps in
        record { layout = l; sound = whole_sound l (identifier_in n) file named k.whole; geometry = place.shape; covered = sound_is_covered (identifier_in n ∷ []) l file (whole_sound l (identifier_in n) file named k.whole); held = same_held file k.lies }

    -- whatever a stop leaves then, where the other slots' outcomes were some before
    opens_then : (es : List Event) → EachOutcome x.slot (Keeps null l m []) es → OthersStill x.slot old.world.events es → EachOpens g (Lies was.hard was.later) es
    opens_then es each still files image =
        let slot = x.slot in
        let before = with_slot files slot (file_now old.world.events slot) in
        let o : OpensTo g (Lies was.hard was.later) before =
        has.hardened.stops before
        (image_with old.world.events files slot (file_now old.world.events slot) (now_is_outcome old.world.events slot) (λ k apart. still k apart (files k) (image k))) in
        let inside = in_left o.stack o.holds.below in
        let less = has_low n m o.stack inside in
        record {
          stack = o.stack;
          opens = record {
            stand = stand_one g before files n m o.stack inside
                (subst (λ (j : ℕ). HoldsLayer (identifier_in n) g (files j) m) place.slot_is (holds_then (files slot) (each (files slot) (image slot))))
                (λ j apart. slot_other files slot (file_now old.world.events slot) j (λ e. apart (sym place.slot_is ∙ e))) o.opens.stand;
            few = o.opens.few;
            above = λ j high most.
                ap is_present (sym (slot_other files slot (file_now old.world.events slot) j (λ e. absurd (omega (arith, e, place.slot_is, less, high)))))
                ∙ o.opens.above j high most;
          };
          holds = o.holds;
        }

    own_lies : LiesWithin (track_count l.geo) m [] (layer_map null x old)
    own_lies = record { each = λ t less. inl (sym (map_low null x (file_of old.world x.slot) t less)) }

    -- at each operation
    pub lower_lies : OnlyIn x.slot old new → StopsWithin null x old new → AtEach old.world.events new.world.events (EachOpens g (Lies was.hard was.later))
    lower_lies others stopped =
        weaker (λ es. EachOutcome x.slot (Keeps null l m []) es × OthersStill x.slot old.world.events es) (EachOpens g (Lies was.hard was.later)) old.world.events new.world.events
        (λ es at. opens_then es at.0 at.1)
        (both (EachOutcome x.slot (Keeps null l m [])) (OthersStill x.slot old.world.events) old.world.events new.world.events
        (stopped m [] has.tells own own_lies keeps_before) (others has.tells).others)

-- ---- one layer is written back, wherever it stands

beside_all : (R : LayerState → World → Type 0) → StaysBeside R → (g : Geometry) (at slot : ℕ) (layers : List LayerState) (old new : World) → at < slot → AreLayersFrom g slot layers → IsSure new
    → SparesOthers at old new → AllByRecursion (λ (s : LayerState). R s old) layers → AllByRecursion (λ (s : LayerState). R s new) layers
beside_all R stays g at slot [] old new low are sure spares agree = tt
beside_all R stays g at slot (s ∷ ss) old new low are sure spares agree = (
  stays s at old new (λ e. absurd (omega (arith, e, low, are.0.slot_is))) sure spares agree.0,
  beside_all R stays g at (suc slot) ss old new (omega (arith, low)) are.1 sure spares agree.1,
)

agree_set : (R : LayerState → World → Type 0) → StaysBeside R → (g : Geometry) (slot n at : ℕ) (layers : List LayerState) (y : LayerState) (old new : World) → at ≡ slot + n
    → AreLayersFrom g slot layers → IsSure new → SparesOthers at old new → AllByRecursion (λ (s : LayerState). R s old) layers → R y new
    → AllByRecursion (λ (s : LayerState). R s new) (set layers n y)
agree_set R stays g slot n at [] y old new e are sure spares agree own = tt
agree_set R stays g slot zero at (s ∷ ss) y old new e are sure spares agree own = (own, beside_all R stays g at (suc slot) ss old new (omega (arith, e)) are.1 sure spares agree.1)
agree_set R stays g slot (suc n) at (s ∷ ss) y old new e are sure spares agree own = (
  stays s at old new (λ k. absurd (omega (arith, k, e, are.0.slot_is))) sure spares agree.0,
  agree_set R stays g (suc slot) n at ss y old new (omega (arith, e)) are.1 sure spares agree.1 own,
)

maps_beside : (null : NullBytes) (g : Geometry) (at slot : ℕ) (layers : List LayerState) (old new : World) → at < slot → AreLayersFrom g slot layers → SparesOthers at old new
    → maps_of null layers (file_of new) ≡ maps_of null layers (file_of old)
maps_beside null g at slot [] old new low are spares = refl
maps_beside null g at slot (s ∷ ss) old new low are spares =
    let same : file_of new s.slot ≡ file_of old s.slot = spares.files s.slot (λ e. absurd (omega (arith, e, low, are.0.slot_is))) in
    ap (λ (f : List ℕ). map_of null s f ∷ maps_of null ss (file_of new)) same
    ∙ ap (λ (ms : List Layer). map_of null s (file_of old s.slot) ∷ ms) (maps_beside null g at (suc slot) ss old new (omega (arith, low)) are.1 spares)

maps_set : (null : NullBytes) (g : Geometry) (slot n at : ℕ) (layers : List LayerState) (x y : LayerState) (old new : World) → at ≡ slot + n → AreLayersFrom g slot layers → SparesOthers at old new
    → x ≡ get_or layers n x → map_of null y (file_of new y.slot) ≡ map_of null x (file_of old x.slot) → maps_of null (set layers n y) (file_of new) ≡ maps_of null layers (file_of old)
maps_set null g slot n at [] x y old new e are spares is own = refl
maps_set null g slot zero at (s ∷ ss) x y old new e are spares is own =
    ap (λ (k : Layer). k ∷ maps_of null ss (file_of new)) (own ∙ ap (λ (z : LayerState). map_of null z (file_of old z.slot)) is)
    ∙ ap (λ (ms : List Layer). map_of null s (file_of old s.slot) ∷ ms) (maps_beside null g at (suc slot) ss old new (omega (arith, e)) are.1 spares)
maps_set null g slot (suc n) at (s ∷ ss) x y old new e are spares is own =
    let same : file_of new s.slot ≡ file_of old s.slot = spares.files s.slot (λ k. absurd (omega (arith, k, e, are.0.slot_is))) in
    ap (λ (f : List ℕ). map_of null s f ∷ maps_of null (set ss n y) (file_of new)) same
    ∙ ap (λ (ms : List Layer). map_of null s (file_of old s.slot) ∷ ms) (maps_set null g (suc slot) n at ss x y old new (omega (arith, e)) are.1 spares is own)

-- with the same map: so the stack is the same
any_by : (R : LayerState → World → Type 0) → StaysBeside R → (null : NullBytes) (g : Geometry) (layers : List LayerState) (n : ℕ) (x y : LayerState) (old new : Seen) → x ≡ get_or layers n x
    → n < length layers → AreLayersFrom g 0 layers → IsSameFile x y → OnlyIn x.slot old new
    → (Tells old → R x old.world → IsSure new.world × R y new.world × AreSame (track_count x.tables.layout.geo) (layer_map null y new) (layer_map null x old))
    → KeepsStackBy R null layers (set layers n y) old new
any_by R stays null g layers n x y old new is low are same others keeps = λ told agree.
    let place : IsLayerIn g n x = subst (IsLayerIn g n) (sym is) (layer_at g n 0 layers n x (omega arith) are low) in
    let own : R x old.world = subst (λ (s : LayerState). R s old.world) (sym is) (all_at (λ (s : LayerState). R s old.world) layers n x agree low) in
    let spares : SparesOthers n old.world new.world = subst (λ (k : ℕ). SparesOthers k old.world new.world) place.slot_is (others told) in
    let again = keeps told own in
    let map : map_of null y (file_of new.world y.slot) ≡ map_of null x (file_of old.world x.slot) = same_map null x y (file_of old.world x.slot) (file_of new.world y.slot) same.layout again.2 in
    record {
      agree = agree_set R stays g 0 n n layers y old.world new.world (omega arith) are again.0 spares agree again.1;
      are = ap stack_by (maps_set null g 0 n n layers x y old.world new.world (omega arith) are spares is map);
    }

pub any_keeps : (null : NullBytes) (g : Geometry) (layers : List LayerState) (n : ℕ) (x y : LayerState) (old new : Seen) → x ≡ get_or layers n x → n < length layers → AreLayersFrom g 0 layers
    → IsSameFile x y → OnlyIn x.slot old new → KeepsLayer null x y old new → KeepsEach null layers (set layers n y) old new
any_keeps null g layers n x y old new is low are same others keeps = record {
  agreed = any_by Agrees beside null g layers n x y old new is low are same others (λ told a. let k = keeps.agreed told a in (k.agrees.stands.sure, k.agrees, k.same));
  tied = any_by Tied tied_beside null g layers n x y old new is low are same others (λ told h. let k = keeps.tied told h in (tied_sure y new.world k.tied, k.tied, k.same));
}

-- From the outcomes of the last layer's slot to those of all slots, and back.
use Rattle.std.proofs.Common.{◌≡◌, ℕ, ◌<◌, List, [], refl, sym, ◌∙◌, ap, subst, arith}
use Rattle.cckd_base.specs.declared.geometry.Geometry.{Geometry}
use Rattle.cckd_base.specs.Header.{is_present, base_identifier, shadow_identifier}
use Rattle.cckd_shelf.specs.Events.{Event, file_now}
use Rattle.cckd_shelf.specs.Outcomes.{EachOutcome, OthersStill, AtEach}
use Rattle.cckd_shelf.proofs.OutcomeLemmas.{now_is_outcome}
use Rattle.cckd_shelf.proofs.MomentLemmas.{weaker, both}
use Rattle.cckd_shelf.proofs.StopLemmas.{with_slot, slot_here, slot_other, image_with}
use Rattle.cckd_stack.specs.Layers.{Layer, Stack, base, shadow, layer_count, top, below, with_top}
use Rattle.cckd_stack.specs.Answers.{Pair}
use Rattle.cckd_stack.specs.Stops.{LayerLies, Lies}
use Rattle.cckd_stack.specs.Opened.{HoldsLayer, StandIn, OpensTo}
use Rattle.cckd_stack.specs.Moments.{EachOpens}
use Rattle.cckd_stack.specs.Tops.{top_slot, top_identifier, HoldsLies}
use Rattle.cckd_stack.proofs.HistoryLemmas.{top_with, below_with}

-- ---- what only the layers below the last decide

pub same_slot : (s d : Stack) → below s ≡ below d → top_slot s ≡ top_slot d
same_slot (base a) (base b) e = refl
same_slot (base a) (shadow b lower) e = absurd (cc e)
same_slot (shadow a lower) (base b) e = absurd (cc e)
same_slot (shadow a lower) (shadow b other) e = ap layer_count (cc e)

pub same_identifier : (s d : Stack) → below s ≡ below d → top_identifier s ≡ top_identifier d
same_identifier (base a) (base b) e = refl
same_identifier (base a) (shadow b lower) e = absurd (cc e)
same_identifier (shadow a lower) (base b) e = absurd (cc e)
same_identifier (shadow a lower) (shadow b other) e = refl

with_top_is : (d s : Stack) → below s ≡ below d → with_top d (top s) ≡ s
with_top_is (base a) (base b) e = refl
with_top_is (base a) (shadow b lower) e = absurd (cc e)
with_top_is (shadow a lower) (base b) e = absurd (cc e)
with_top_is (shadow a lower) (shadow b other) e = ap (shadow b) (sym (cc e))

pub with_own : (d : Stack) → with_top d (top d) ≡ d
with_own d = with_top_is d d refl

count_with : (s : Stack) (m : Layer) → layer_count (with_top s m) ≡ layer_count s
count_with (base layer) m = refl
count_with (shadow layer lower) m = refl

slot_below : (s : Stack) → top_slot s < layer_count s
slot_below (base layer) = omega arith
slot_below (shadow layer lower) = omega arith

-- ---- the files of the layers

stand_at_top : (g : Geometry) (files : ℕ → List ℕ) (s : Stack) → StandIn g files s → HoldsLayer (top_identifier s) g (files (top_slot s)) (top s)
stand_at_top g files (base layer) h = h
stand_at_top g files (shadow layer lower) h = h.1

-- only the files of its slots count for a stack
pub stand_agree : (g : Geometry) (files others : ℕ → List ℕ) (s : Stack) → ((k : ℕ) → k < layer_count s → files k ≡ others k) → StandIn g files s → StandIn g others s
stand_agree g files others (base layer) same h = subst (λ (file : List ℕ). HoldsLayer base_identifier g file layer) (same 0 (omega arith)) h
stand_agree g files others (shadow layer lower) same h = (
  stand_agree g files others lower (λ k low. same k (omega (arith, low))) h.0,
  subst (λ (file : List ℕ). HoldsLayer shadow_identifier g file layer) (same (layer_count lower) (omega arith)) h.1,
)

stand_with : (g : Geometry) (files others : ℕ → List ℕ) (s : Stack) (m : Layer) → ((k : ℕ) → k < top_slot s → files k ≡ others k) → StandIn g files s
    → HoldsLayer (top_identifier s) g (others (top_slot s)) m → StandIn g others (with_top s m)
stand_with g files others (base layer) m same h holds = holds
stand_with g files others (shadow layer lower) m same h holds = (stand_agree g files others lower same h.0, holds)

-- ---- outcomes

-- whatever a stop leaves in the last layer's slot holds a layer that lies within
pub each_top : (g : Geometry) (hard : Stack) (later : List Pair) (es : List Event) → EachOpens g (Lies hard later) es
    → EachOutcome (top_slot hard) (HoldsLies (top_identifier hard) g (top hard) later) es
each_top g hard later es each file outcome =
    let files = with_slot (file_now es) (top_slot hard) file in
    let o : OpensTo g (Lies hard later) files = each files (image_with es (file_now es) (top_slot hard) file outcome (λ k apart. now_is_outcome es k)) in
    let slot : top_slot o.stack ≡ top_slot hard = same_slot o.stack hard o.holds.below in
    let here : files (top_slot o.stack) ≡ file = ap files slot ∙ slot_here (file_now es) (top_slot hard) file in
    record {
      layer = top o.stack;
      holds = subst (λ (i : List ℕ). HoldsLayer i g file (top o.stack)) (same_identifier o.stack hard o.holds.below)
          (subst (λ (f : List ℕ). HoldsLayer (top_identifier o.stack) g f (top o.stack)) here (stand_at_top g files o.stack o.opens.stand));
      lies = o.holds.tracks;
    }

-- and back, where each outcome of another slot was one before
pub stop_top : (g : Geometry) (hard : Stack) (layer : Layer) (later more : List Pair) (old es : List Event) → EachOpens g (Lies hard later) old
    → OthersStill (top_slot hard) old es → EachOutcome (top_slot hard) (HoldsLies (top_identifier hard) g layer more) es
    → EachOpens g (Lies (with_top hard layer) more) es
stop_top g hard layer later more old es each others each_slot files image =
    let slot = top_slot hard in
    let was = with_slot files slot (file_now old slot) in
    let o : OpensTo g (Lies hard later) was =
    each was (image_with old files slot (file_now old slot) (now_is_outcome old slot) (λ k apart. others k apart (files k) (image k))) in
    let h : HoldsLies (top_identifier hard) g layer more (files slot) = each_slot (files slot) (image slot) in
    let same : top_slot o.stack ≡ slot = same_slot o.stack hard o.holds.below in
    let holds : HoldsLayer (top_identifier o.stack) g (files (top_slot o.stack)) h.layer =
    subst (λ (n : ℕ). HoldsLayer (top_identifier o.stack) g (files n) h.layer) (sym same)
    (subst (λ (i : List ℕ). HoldsLayer i g (files slot) h.layer) (sym (same_identifier o.stack hard o.holds.below)) h.holds) in
    record {
      stack = with_top o.stack h.layer;
      opens = record {
        stand = stand_with g was files o.stack h.layer (λ k low. slot_other files slot (file_now old slot) k (λ e. absurd (omega (arith, e, same, low)))) o.opens.stand holds;
        few = omega (arith, count_with o.stack h.layer, o.opens.few);
        above = λ k low high.
            ap is_present (sym (slot_other files slot (file_now old slot) k (λ e. absurd (omega (arith, e, same, low, count_with o.stack h.layer, slot_below o.stack)))))
            ∙ o.opens.above k (omega (arith, low, count_with o.stack h.layer)) high;
      };
      holds = record {
        below = below_with o.stack h.layer ∙ (o.holds.below ∙ sym (below_with hard layer));
        tracks = subst (λ (m : Layer). LayerLies (top (with_top hard layer)) more m) (sym (top_with o.stack h.layer))
            (subst (λ (m : Layer). LayerLies m more h.layer) (sym (top_with hard layer)) h.lies);
      };
    }

-- ---- a call of the last layer, from what its own slot and the others keep

module _ (g : Geometry) (hard : Stack) (later : List Pair) (old new : List Event) (slot : ℕ) (identifier : List ℕ)
    (at_slot : top_slot hard ≡ slot) (by_name : top_identifier hard ≡ identifier) (each : EachOpens g (Lies hard later) old)
  where
    -- what its slot holds before the call
    pub enters : EachOutcome slot (HoldsLies identifier g (top hard) later) old
    enters =
        subst (λ (n : ℕ). EachOutcome n (HoldsLies identifier g (top hard) later) old) at_slot
        (subst (λ (i : List ℕ). EachOutcome (top_slot hard) (HoldsLies i g (top hard) later) old) by_name (each_top g hard later old each))

    -- what a moment of the call leaves of the stack
    pub leaves : (layer : Layer) (more : List Pair) (es : List Event) → EachOutcome slot (HoldsLies identifier g layer more) es → OthersStill slot old es
        → EachOpens g (Lies (with_top hard layer) more) es
    leaves layer more es here others =
        stop_top g hard layer later more old es each
        (subst (λ (n : ℕ). OthersStill n old es) (sym at_slot) others)
        (subst (λ (n : ℕ). EachOutcome n (HoldsLies (top_identifier hard) g layer more) es) (sym at_slot)
        (subst (λ (i : List ℕ). EachOutcome slot (HoldsLies i g layer more) es) (sym by_name) here))

    pub leaves_own : (more : List Pair) (es : List Event) → EachOutcome slot (HoldsLies identifier g (top hard) more) es → OthersStill slot old es
        → EachOpens g (Lies hard more) es
    leaves_own more es here others = subst (λ (s : Stack). EachOpens g (Lies s more) es) (with_own hard) (leaves (top hard) more es here others)

    -- at each moment
    pub leaves_each : (more : List Pair) → AtEach old new (EachOutcome slot (HoldsLies identifier g (top hard) more)) → AtEach old new (OthersStill slot old)
        → AtEach old new (EachOpens g (Lies hard more))
    leaves_each more here others =
        weaker (λ es. EachOutcome slot (HoldsLies identifier g (top hard) more) es × OthersStill slot old es) (EachOpens g (Lies hard more)) old new
        (λ es at. leaves_own more es at.0 at.1)
        (both (EachOutcome slot (HoldsLies identifier g (top hard) more)) (OthersStill slot old) old new here others)

    -- once the last layer is hardened as it is in a stack over the same layers
    pub settles : (s : Stack) → below s ≡ below hard → EachOutcome slot (HoldsLies identifier g (top s) []) new → OthersStill slot old new
        → EachOpens g (Lies s []) new
    settles s same here others = subst (λ (x : Stack). EachOpens g (Lies x []) new) (with_top_is hard s same) (leaves (top s) [] new here others)

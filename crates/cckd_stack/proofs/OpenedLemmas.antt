-- Files open to one stack at most, and what mounting says of it.
use Rattle.std.proofs.Common.{◌≡◌, ⊎_elim, ℕ, zero, suc, ◌+◌, ◌<◌, ◌≤◌, max, true, false, List, [], ◌∷◌, length, Some, refl, sym, ◌∙◌, ap, subst, arith}
use Rattle.std.proofs.lemmas.Bool.{cases_lt, false≢true}
use Rattle.cckd_base.specs.declared.geometry.Geometry.{Geometry}
use Rattle.cckd_base.specs.declared.geometry.Layout.{Layout}
use Rattle.cckd_base.specs.declared.open_fault.OpenFault.{OpenFault}
use Rattle.cckd_base.specs.declared.open_fault.OpenFault.TheVariants as open_fault
use Rattle.cckd_base.specs.Header.{base_identifier, shadow_identifier, headers_of, header_geometry, layout_of, is_present}
use Rattle.cckd_base.specs.Survey.{misfits}
use Rattle.cckd_shelf.specs.World.{World, file_of}
use Rattle.cckd_shelf.specs.Outcomes.{EachOutcome}
use Rattle.cckd_shelf.proofs.OutcomeLemmas.{sync_step}
use Rattle.cckd_base.specs.Image.{IsSnug, IsSound}
use Rattle.cckd_base.specs.declared.misfit.Misfit.{Misfit}
use Rattle.cckd_tables.specs.Scan.{first_misfit}
use Rattle.cckd_layer.specs.Mounted.{LayerState}
use Rattle.cckd_stack.specs.Layers.{Layer, Stack, base, shadow, layer_count}
use Rattle.cckd_stack.specs.Opened.{HoldsLayer, StandIn, Opens, held_tracks}
use Rattle.cckd_stack.specs.Stacked.{StackState}
use Rattle.cckd_stack.specs.Mounting.{IsMounted, AreOfFrom, HasRow, IsGap, IsImageIn, IsFileCase, IsRefused, identifiers_in, shape_of, after_syncs}
use Rattle.cckd_stack.specs.Writes.{AreSnugFrom, AreAbsentAbove}
use Rattle.cckd_stack.specs.Called.{AreSnug, StayAbsent}
use Rattle.cckd_stack.proofs.FirstLemmas.{headed_present}

-- ---- one stack

-- a file holds one layer
holds_once : (identifier : List ℕ) (g : Geometry) (file : List ℕ) (m k : Layer) → HoldsLayer identifier g file m → HoldsLayer identifier g file k → m ≡ k
holds_once identifier g file m k h i =
    let layout : h.layout ≡ i.layout = h.sound.headed.says ∙ sym i.sound.headed.says in
    h.held ∙ ap (λ (l : Layout). held_tracks l file) layout ∙ sym i.held

count_some : (s : Stack) → 1 ≤ layer_count s
count_some (base layer) = omega arith
count_some (shadow layer lower) = omega arith

stand_once : (g : Geometry) (files : ℕ → List ℕ) (s other : Stack) → layer_count s ≡ layer_count other → StandIn g files s → StandIn g files other → s ≡ other
stand_once g files (base layer) (base m) e h i = ap base (holds_once base_identifier g (files 0) layer m h i)
stand_once g files (base layer) (shadow m lower) e h i = absurd (omega (arith, e, count_some lower))
stand_once g files (shadow layer lower) (base m) e h i = absurd (omega (arith, e, count_some lower))
stand_once g files (shadow layer lower) (shadow m below) e h i =
    let same : layer_count lower ≡ layer_count below = omega (arith, e) in
    let here : HoldsLayer shadow_identifier g (files (layer_count lower)) m = subst (λ (n : ℕ). HoldsLayer shadow_identifier g (files n) m) (sym same) i.1 in
    ap (λ (x : Layer). shadow x lower) (holds_once shadow_identifier g (files (layer_count lower)) layer m h.1 here)
    ∙ ap (shadow m) (stand_once g files lower below same h.0 i.0)

-- the slots of its layers are there
stand_present : (g : Geometry) (files : ℕ → List ℕ) (s : Stack) (slot : ℕ) → slot < layer_count s → StandIn g files s → is_present (files slot) ≡ true
stand_present g files (base layer) slot low h =
    let first : 0 ≡ slot = omega (arith, low) in
    subst (λ (n : ℕ). is_present (files n) ≡ true) first (headed_present base_identifier (files 0) refl h.sound.headed.sound)
stand_present g files (shadow layer lower) slot low h = ⊎_elim
    (λ (less : slot < layer_count lower). stand_present g files lower slot less h.0)
    (λ (most : layer_count lower ≤ slot).
    let last : layer_count lower ≡ slot = omega (arith, low, most) in
    subst (λ (n : ℕ). is_present (files n) ≡ true) last (headed_present shadow_identifier (files (layer_count lower)) refl h.1.sound.headed.sound))
    (cases_lt slot (layer_count lower))

no_fewer : (g : Geometry) (files : ℕ → List ℕ) (s other : Stack) → Opens g files s → Opens g files other → layer_count other ≤ layer_count s
no_fewer g files s other h i = ⊎_elim
    (λ (less : layer_count s < layer_count other).
    absurd (false≢true (sym (h.above (layer_count s) (omega arith) (omega (arith, less, i.few))) ∙ stand_present g files other (layer_count s) less i.stand)))
    (λ (most : layer_count other ≤ layer_count s). most)
    (cases_lt (layer_count s) (layer_count other))

pub opens_once : (g : Geometry) (files : ℕ → List ℕ) (s other : Stack) → Opens g files s → Opens g files other → s ≡ other
opens_once g files s other h i =
    let same : layer_count s ≡ layer_count other = omega (arith, no_fewer g files s other h i, no_fewer g files other s i h) in
    stand_once g files s other same h.stand i.stand

-- ---- files that open have no case

held_image : (identifier : List ℕ) (g : Geometry) (file : List ℕ) (m : Layer) → HoldsLayer identifier g file m
    → IsSound (identifier ∷ []) (layout_of (headers_of file)) file × (header_geometry (headers_of file) ≡ g)
held_image identifier g file m h = (
  subst (λ (l : Layout). IsSound (identifier ∷ []) l file) h.sound.headed.says h.sound,
  sym (ap (λ (l : Layout). l.geo) h.sound.headed.says) ∙ h.geometry,
)

shadows_in : (n : ℕ) → 1 ≤ n → identifiers_in n ≡ shadow_identifier ∷ []
shadows_in zero some = absurd (omega (arith, some))
shadows_in (suc n) some = refl

-- the slot of each layer has an image of the geometry
stand_image : (g : Geometry) (files : ℕ → List ℕ) (s : Stack) (slot : ℕ) → slot < layer_count s → StandIn g files s → IsImageIn g slot (files slot)
stand_image g files (base layer) slot low h =
    let first : 0 ≡ slot = omega (arith, low) in
    let k = held_image base_identifier g (files 0) layer h in
    subst (λ (n : ℕ). IsImageIn g n (files n)) first (record { sound = k.0; same = k.1 })
stand_image g files (shadow layer lower) slot low h = ⊎_elim
    (λ (less : slot < layer_count lower). stand_image g files lower slot less h.0)
    (λ (most : layer_count lower ≤ slot).
    let n = layer_count lower in
    let last : n ≡ slot = omega (arith, low, most) in
    let k = held_image shadow_identifier g (files n) layer h.1 in
    subst (λ (m : ℕ). IsImageIn g m (files m)) last (record {
      sound = subst (λ (ids : List (List ℕ)). IsSound ids (layout_of (headers_of (files n))) (files n)) (sym (shadows_in n (count_some lower))) k.0;
      same = k.1;
    }))
    (cases_lt slot (layer_count lower))

none_first : (m : Misfit) (found : List Misfit) → found ≡ [] → first_misfit found ≡ Some m → ⊥
none_first m found none is = absurd (let e = sym (ap first_misfit none) ∙ is in cc e)

image_caseless : (g shape : Geometry) (slot : ℕ) (file : List ℕ) (why : OpenFault) → shape ≡ g → IsImageIn g slot file → IsFileCase shape slot file why → ⊥
image_caseless g shape slot file (open_fault.Header at fault) same image case = absurd (let e = sym image.sound.headed.sound ∙ case.1 in cc e)
image_caseless g shape slot file (open_fault.Mismatch at first found) same image case = case.4 (case.3 ∙ image.same ∙ sym same ∙ sym case.1)
image_caseless g shape slot file (open_fault.Scan at why) same image case = none_first why (misfits (layout_of (headers_of file)) file) image.sound.clean case.3
image_caseless g shape slot file (open_fault.Gap at) same image case = case
image_caseless g shape slot file open_fault.ReadFault same image case = case
image_caseless g shape slot file open_fault.WriteFault same image case = case
image_caseless g shape slot file open_fault.SyncFault same image case = case
image_caseless g shape slot file open_fault.Memory same image case = case

row_low : (g : Geometry) (files : ℕ → List ℕ) (s : Stack) → Opens g files s → (count slot : ℕ) → HasRow files count → slot < max 1 count → slot < layer_count s
row_low g files s h zero slot row low = absurd (false≢true (sym row ∙ stand_present g files s 0 (omega (arith, count_some s)) h.stand))
row_low g files s h (suc n) slot row low = ⊎_elim
    (λ (less : slot < layer_count s). less)
    (λ (most : layer_count s ≤ slot). absurd (false≢true (sym (h.above slot most (omega (arith, low, row.few))) ∙ row.there slot (omega (arith, low)))))
    (cases_lt slot (layer_count s))

-- none of them is refused
pub opens_caseless : (g : Geometry) (files : ℕ → List ℕ) (s : Stack) → Opens g files s → (why : OpenFault) → IsRefused files why → ⊥
opens_caseless g files s h why r =
    let shape : shape_of files ≡ g = (stand_image g files s 0 (omega (arith, count_some s)) h.stand).same in
    let slot = r.first.slot in
    image_caseless g (shape_of files) slot (files slot) why shape (stand_image g files s slot (row_low g files s h r.count slot r.row r.first.low) h.stand) r.first.case

-- and none is there above one that isn't
pub opens_gapless : (g : Geometry) (files : ℕ → List ℕ) (s : Stack) → Opens g files s → (slot : ℕ) → IsGap files slot → ⊥
opens_gapless g files s h slot gap = ⊎_elim
    (λ (less : slot < layer_count s).
    false≢true (sym (gap.none gap.count (omega arith) gap.above) ∙ stand_present g files s gap.count (omega (arith, gap.above, less)) h.stand))
    (λ (most : layer_count s ≤ slot). false≢true (sym (h.above slot most gap.within) ∙ gap.is))
    (cases_lt slot (layer_count s))

-- ---- what is snug, and what isn't there

snug_from : (files : ℕ → List ℕ) (slot count : ℕ) (layers : List LayerState) → AreSnug files → ((k : ℕ) → k < count → is_present (files k) ≡ true) → count ≤ 9
    → slot + length layers ≡ count → AreOfFrom files slot layers → AreSnugFrom files slot layers
snug_from files slot count [] snug there few e are = tt
snug_from files slot count (s ∷ ss) snug there few e are = (
  subst (λ (l : Layout). IsSnug l (files slot)) (sym are.0.sound.headed.says) (snug slot (omega (arith, e, few)) (there slot (omega (arith, e)))),
  snug_from files (suc slot) count ss snug there few (omega (arith, e)) are.1,
)

pub mounted_snug : (files : ℕ → List ℕ) (s : StackState) → AreSnug files → IsMounted files s → AreSnugFrom files 0 s.layers
mounted_snug files s snug mounted = snug_from files 0 (length s.layers) s.layers snug mounted.row.there mounted.row.few (omega arith) mounted.are

absent_synced : (n slot : ℕ) (w : World) → EachOutcome slot (λ file. is_present file ≡ false) w.events → EachOutcome slot (λ file. is_present file ≡ false) (after_syncs n w).events
absent_synced zero slot w each = each
absent_synced (suc n) slot w each = sync_step (λ file. is_present file ≡ false) slot n (after_syncs n w).events (absent_synced n slot w each)

pub mounted_absent : (w : World) (s : StackState) → StayAbsent w → IsMounted (file_of w) s → AreAbsentAbove (length s.layers) (after_syncs (length s.layers) w)
mounted_absent w s stay mounted slot low high = absent_synced (length s.layers) slot w (stay slot high (mounted.row.none slot low high))

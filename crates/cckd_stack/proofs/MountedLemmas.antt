-- Layers mounted one after another.
use Rattle.std.proofs.Common.{◌≡◌, ◌⊎◌, ℕ, zero, suc, ◌+◌, ◌<◌, ◌≤◌, false, List, [], ◌∷◌, ◌++◌, length, inl, inr, refl, sym, ◌∙◌, ap, subst, arith}
use Rattle.std.specs.List.{AllByRecursion}
use Rattle.std.proofs.lemmas.List.{length-append}
use Rattle.cckd_shelf.specs.Seen.{Seen, Tells, Makes, MayMake}
use Rattle.cckd_shelf.specs.World.{World, IsSure, file_of, after_sync}
use Rattle.cckd_shelf.proofs.OutcomeLemmas.{sync_step}
use Rattle.cckd_base.specs.declared.geometry.Geometry.{Geometry}
use Rattle.cckd_base.specs.declared.geometry.Layout.{Layout}
use Rattle.cckd_base.specs.declared.open_fault.OpenFault.{OpenFault}
use Rattle.cckd_base.specs.declared.open_fault.OpenFault.TheVariants as open_fault
use Rattle.cckd_base.specs.Header.{headers_of, layout_of}
use Rattle.cckd_base.specs.Image.{IsSnug, IsSound}
use Rattle.cckd_layer.specs.Mounted.{LayerState, ReadsFrom, CanRead, IsFresh, IsOf, kept_view}
use Rattle.cckd_layer.specs.Stands.{LayerView, Stands}
use Rattle.cckd_layer.specs.Sits.{IsMarked, Sits}
use Rattle.cckd_layer.specs.Reads.{OfFile}
use Rattle.cckd_stack.specs.Stacked.{OfFiles, IsLayerIn, AreLayersFrom}
use Rattle.cckd_stack.specs.Mounting.{roles_in, identifiers_in, IsImageIn, IsFileCase, IsSlotCause, IsLayersCause, IsFirstCase, AreFreshFrom, AreOfFrom, StandFrom, HasMounted, after_syncs, OnlySyncsSome, SyncsSome}
use Rattle.cckd_stack.proofs.LayerListLemmas.{all_between}

-- ---- syncs

pub syncs_files : (n : ℕ) (w : World) (slot : ℕ) → file_of (after_syncs n w) slot ≡ file_of w slot
syncs_files zero w slot = refl
syncs_files (suc n) w slot = syncs_files n w slot

pub syncs_sure : (n : ℕ) (w : World) → IsSure w → IsSure (after_syncs n w)
syncs_sure zero w sure = sure
syncs_sure (suc n) w sure = syncs_sure n w sure

-- a layer stands behind any sync
pub stands_still : (v : LayerView) (slot s : ℕ) (w : World) → Stands v slot w → Stands v slot (after_sync s w)
stands_still v slot s w h = record {
  sure = h.sure;
  now = h.now;
  each = sync_step (Sits v.layout v.plan.pieces) slot s w.events h.each;
  marked = λ m. sync_step IsMarked slot s w.events (h.marked m);
}

still_from : (files : ℕ → List ℕ) (s : ℕ) (w new : World) (slot : ℕ) (layers : List LayerState) → new ≡ after_sync s w → StandFrom files w slot layers → StandFrom files new slot layers
still_from files s w new slot [] made h = tt
still_from files s w new slot (x ∷ xs) made h = (
  λ snug. subst (Stands (kept_view x) slot) (sym made) (stands_still (kept_view x) slot s w (h.0 snug)),
  still_from files s w new (suc slot) xs made h.1,
)

read_synced : (layer : LayerState) (s : ℕ) (a b : Seen) → (Tells b → Tells a) → Makes (after_sync s) a b → CanRead layer a → CanRead layer b
read_synced layer s a b tells made can = λ told sure.
    let e = made (tells told) in
    subst (λ (w : World). ReadsFrom layer.tables (file_of w layer.slot)) (sym e) (can (tells told) (subst IsSure e sure))

-- ---- one layer more

all_more : {X : Type 0} (P : X → Type 0) (xs : List X) (x : X) → AllByRecursion P xs → P x → AllByRecursion P (xs ++ x ∷ [])
all_more P [] x all here = (here, tt)
all_more P (y ∷ ys) x all here = (all.0, all_more P ys x all.1 here)

fresh_more : (limit slot n : ℕ) (layers : List LayerState) (s : LayerState) → n ≡ slot + length layers → AreFreshFrom limit slot layers → IsFresh n limit s → AreFreshFrom limit slot (layers ++ s ∷ [])
fresh_more limit slot n [] s e all here = let same : n ≡ slot = omega (arith, e) in (subst (λ (k : ℕ). IsFresh k limit s) same here, tt)
fresh_more limit slot n (x ∷ xs) s e all here = (all.0, fresh_more limit (suc slot) n xs s (omega (arith, e)) all.1 here)

layers_more : (g : Geometry) (slot n : ℕ) (layers : List LayerState) (s : LayerState) → n ≡ slot + length layers → AreLayersFrom g slot layers → IsLayerIn g n s → AreLayersFrom g slot (layers ++ s ∷ [])
layers_more g slot n [] s e all here = let same : n ≡ slot = omega (arith, e) in (subst (λ (k : ℕ). IsLayerIn g k s) same here, tt)
layers_more g slot n (x ∷ xs) s e all here = (all.0, layers_more g (suc slot) n xs s (omega (arith, e)) all.1 here)

of_more : (files : ℕ → List ℕ) (slot n : ℕ) (layers : List LayerState) (s : LayerState) → n ≡ slot + length layers → AreOfFrom files slot layers → IsOf (roles_in n) (files n) s
    → AreOfFrom files slot (layers ++ s ∷ [])
of_more files slot n [] s e all here = let same : n ≡ slot = omega (arith, e) in (subst (λ (k : ℕ). IsOf (roles_in k) (files k) s) same here, tt)
of_more files slot n (x ∷ xs) s e all here = (all.0, of_more files (suc slot) n xs s (omega (arith, e)) all.1 here)

stand_more : (files : ℕ → List ℕ) (w : World) (slot n : ℕ) (layers : List LayerState) (s : LayerState) → n ≡ slot + length layers → StandFrom files w slot layers
    → (IsSnug s.tables.layout (files n) → Stands (kept_view s) n w) → StandFrom files w slot (layers ++ s ∷ [])
stand_more files w slot n [] s e all here =
    let same : n ≡ slot = omega (arith, e) in
    (subst (λ (k : ℕ). IsSnug s.tables.layout (files k) → Stands (kept_view s) k w) same here, tt)
stand_more files w slot n (x ∷ xs) s e all here = (all.0, stand_more files w (suc slot) n xs s (omega (arith, e)) all.1 here)

-- ---- an image in its place

-- a layer that is of a file, of a device of this shape, is that of a sound image
pub image_in : (shape : Geometry) (slot : ℕ) (file : List ℕ) (s : LayerState) → IsOf (roles_in slot) file s → s.tables.layout.geo ≡ shape → IsImageIn shape slot file
image_in shape slot file s of e =
    let says : s.tables.layout ≡ layout_of (headers_of file) = of.sound.headed.says in
    record {
      sound = subst (λ (l : Layout). IsSound (identifiers_in slot) l file) says of.sound;
      same = sym (ap (λ (l : Layout). l.geo) says) ∙ e;
    }

pub images_below : (shape : Geometry) (files : ℕ → List ℕ) (slot k n : ℕ) (layers : List LayerState) → k ≡ slot + n → n < length layers → AreOfFrom files slot layers → AreLayersFrom shape slot layers
    → IsImageIn shape k (files k)
images_below shape files slot k n [] e low of are = absurd (omega (arith, low))
images_below shape files slot k zero (x ∷ xs) e low of are =
    let same : slot ≡ k = omega (arith, e) in
    subst (λ (j : ℕ). IsImageIn shape j (files j)) same (image_in shape slot (files slot) x of.0 are.0.shape)
images_below shape files slot k (suc n) (x ∷ xs) e low of are = images_below shape files (suc slot) k n xs (omega (arith, e)) (omega (arith, low)) of.1 are.1

-- ---- the next slot

module _ (limit : ℕ) (shape : Geometry) (a b c : Seen) (layers : List LayerState) (tells : Tells a → Tells b) (mounted : HasMounted limit shape a b layers) (n : ℕ) (next : n ≡ length layers)
    (slot : ℕ) (slot_is : slot ≡ n)
  where
    -- its file is as it was
    same_file : Tells a → file_of b.world slot ≡ file_of a.world n
    same_file told =
        ap (λ (k : ℕ). file_of b.world k) slot_is ∙ ap (λ (w : World). file_of w n) (mounted.synced told) ∙ syncs_files (length layers) a.world n

    still_sure : Tells a → IsSure a.world → IsSure b.world
    still_sure told sure = subst IsSure (sym (mounted.synced told)) (syncs_sure (length layers) a.world sure)

    one_of_files : (P : List ℕ → Type 0) → OfFile slot P b → Tells a → IsSure a.world → P (file_of a.world n)
    one_of_files P h told sure = subst P (same_file told) (h (tells told) (still_sure told sure))

    module _ (s : LayerState) (back : Tells c → Tells b) (fresh : IsFresh slot limit s) (same : s.tables.layout.geo ≡ shape) (opened : OfFile slot (λ file. IsOf (roles_in slot) file s) b)
        (stands : OfFile slot (λ file. IsSnug s.tables.layout file → Stands (kept_view s) slot c.world) b) (can : CanRead s c) (made : Makes (after_sync slot) b c) (counts : c.faults ≡ b.faults)
      where
        pub one_mounted : HasMounted limit shape a c (layers ++ s ∷ [])
        one_mounted =
            let at : n ≡ 0 + length layers = omega (arith, next) in
            record {
              fresh = fresh_more limit 0 n layers s at mounted.fresh (subst (λ (k : ℕ). IsFresh k limit s) slot_is fresh);
              shapes = layers_more shape 0 n layers s at mounted.shapes (record { slot_is = fresh.slot_is ∙ slot_is; shape = same });
              whole = all_more (λ (x : LayerState). x.broken ≡ false) layers s mounted.whole fresh.broken;
              are = λ told sure.
                  of_more (file_of a.world) 0 n layers s at (mounted.are told sure)
                  (subst (λ (k : ℕ). IsOf (roles_in k) (file_of a.world n) s) slot_is (one_of_files (λ (file : List ℕ). IsOf (roles_in slot) file s) opened told sure));
              stand = λ told sure.
                  stand_more (file_of a.world) c.world 0 n layers s at
                  (still_from (file_of a.world) slot b.world c.world 0 layers (made (tells told)) (mounted.stand told sure))
                  (subst (λ (k : ℕ). IsSnug s.tables.layout (file_of a.world n) → Stands (kept_view s) k c.world) slot_is
                  (one_of_files (λ (file : List ℕ). IsSnug s.tables.layout file → Stands (kept_view s) slot c.world) stands told sure));
              can_read = all_more (λ (x : LayerState). CanRead x c) layers s
                  (all_between (λ (x : LayerState). CanRead x b) (λ (x : LayerState). CanRead x c) layers (λ x h. read_synced x slot b c back made h) mounted.can_read) can;
              synced = λ told.
                  let long : suc (length layers) ≡ length (layers ++ s ∷ []) = omega (arith, length-append layers (s ∷ [])) in
                  made (tells told) ∙ ap (after_sync slot) (mounted.synced told) ∙ ap (λ (k : ℕ). after_sync k (after_syncs (length layers) a.world)) (slot_is ∙ next)
                  ∙ ap (λ (k : ℕ). after_syncs k a.world) long;
              counts = counts ∙ mounted.counts;
            }

    -- it is refused
    next_case : (count : ℕ) → n < count → (why : OpenFault) → OfFile slot (λ file. IsFileCase shape slot file why) b → OfFiles (λ files. IsFirstCase shape files count why) a
    next_case count low why h = λ told sure. record {
      slot = n;
      low = low;
      sound = λ k less. images_below shape (file_of a.world) 0 k k layers (omega arith) (omega (arith, less, next)) (mounted.are told sure) mounted.shapes;
      case = subst (λ (k : ℕ). IsFileCase shape k (file_of a.world n) why) slot_is (one_of_files (λ (file : List ℕ). IsFileCase shape slot file why) h told sure);
    }

    pub next_cause : (count : ℕ) → n < count → (why : OpenFault) → IsSlotCause shape slot b why → IsLayersCause shape count a why
    next_cause count low (open_fault.Header at why) h = next_case count low (open_fault.Header at why) h
    next_cause count low (open_fault.Gap at) h = absurd h
    next_cause count low (open_fault.Mismatch at base found) h = next_case count low (open_fault.Mismatch at base found) h
    next_cause count low (open_fault.Scan at why) h = next_case count low (open_fault.Scan at why) h
    next_cause count low open_fault.ReadFault h = tt
    next_cause count low open_fault.WriteFault h = absurd h
    next_cause count low open_fault.SyncFault h = tt
    next_cause count low open_fault.Memory h = tt

    pub next_syncs : n < 9 → MayMake (after_sync slot) b c → SyncsSome a c
    next_syncs few may = λ told. either told (may (tells told))
      where
        either : Tells a → (c.world ≡ after_sync slot b.world) ⊎ (c.world ≡ b.world) → OnlySyncsSome a.world c.world
        either told (inl made) = record {
          count = suc (length layers);
          few = omega (arith, few, next);
          done = made ∙ ap (after_sync slot) (mounted.synced told) ∙ ap (λ (k : ℕ). after_sync k (after_syncs (length layers) a.world)) (slot_is ∙ next);
        }
        either told (inr kept) = record { count = length layers; few = omega (arith, few, next); done = kept ∙ mounted.synced told }

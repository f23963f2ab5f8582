-- What was placed is staged: the layer has the new bytes of the track.
use Rattle.std.proofs.Common.{◌≡◌, ◌+◌, ◌/◌, ◌<◌, ◌≤◌, ℕ, List, [], ◌∷◌, ◌++◌, length, Option, Some, None, IsSome, IsNone, refl, sym, ◌∙◌, subst, inl, inr, arith}
use Rattle.cckd_shelf.specs.World.{World, file_of}
use Rattle.cckd_shelf.specs.Seen.{Seen}
use Rattle.cckd_base.specs.declared.geometry.Layout.{Layout}
use Rattle.cckd_base.specs.declared.entry.L2Entry.{L2Entry}
use Rattle.cckd_base.specs.declared.space.Extent.{Extent}
use Rattle.cckd_base.specs.Geometry.{track_count}
use Rattle.cckd_base.specs.Entry.{bytes_by_entry}
use Rattle.cckd_base.specs.Misfit.{entry_misfit}
use Rattle.cckd_tables.specs.Staging.{IsMoved, place_for}
use Rattle.cckd_tables.specs.Tables.{TableView}
use Rattle.cckd_tables.specs.declared.staged.StagedWord.{StagedWord}
use Rattle.cckd_tables.specs.Stages.{free_count, with_word}
use Rattle.cckd_tables.specs.Looking.{IsTables}
use Rattle.cckd_tables.proofs.StageLemmas.{count_word_new, count_word_again}
use Rattle.cckd_layer.specs.Held.{NullBytes, AreSame}
use Rattle.cckd_layer.specs.Current.{claim}
use Rattle.cckd_layer.specs.Mounted.{LayerState}
use Rattle.cckd_layer.specs.Writes.{AgreesWith, TakesClaim, CanStage, StoresIn, IsSameFile, map_of}
use Rattle.cckd_layer.specs.Storing.{CanPlace}
use Rattle.cckd_layer.proofs.ClaimLemmas.{place_or_none}
use Rattle.cckd_layer.proofs.SwapLemmas.{agrees_swap}

-- the map of a layer that kept it is stored over
pub stores_then : (claims : List Extent) (null : NullBytes) (s m n : LayerState) (t : ℕ) (bytes : Option (List ℕ)) (a b c : Seen) → IsSameFile s m → AreSame (track_count s.tables.layout.geo) (map_of null m b) (map_of null s a)
    → StoresIn claims null m n t bytes b c → StoresIn claims null s n t bytes a c
stores_then claims null s m n t bytes a b c same maps k = record {
  agrees = k.agrees;
  stores = record {
    here = k.stores.here;
    others = λ u low other. k.stores.others u (subst (λ (l : Layout). u < track_count l.geo) (sym same.layout) low) other ∙ maps.each u low;
  };
}

-- the claim of the table comes first
pub table_first : (claims : List Extent) (e : L2Entry) (q : ℕ) (s : LayerState) (w : World) → TakesClaim e claims [] → AgreesWith (claims ++ claim q 2048 ∷ []) s w → AgreesWith (claim q 2048 ∷ claims) s w
table_first [] e q s w takes a = a
table_first (x ∷ []) e q s w takes a = agrees_swap x (claim q 2048) [] s w a
table_first (x ∷ y ∷ rest) e q s w takes a = absurd (two_taken takes)
  where
    two_taken : TakesClaim e (x ∷ y ∷ rest) [] → ⊥
    two_taken k = elim (place_or_none e.pos) [
      | inl place ↦ (let one = k.space place in cc)
      | inr none ↦ (let nothing = k.nothing none in cc)
    ]

-- where it gets one, which is staged
pub can_stage_new : (claims : List Extent) (s m : LayerState) (t old q : ℕ) (e : L2Entry) (len : ℕ) (w : Seen) → IsSameFile s m → IsMoved (t / 256) m.tables.stages → AgreesWith claims m w.world → CanPlace claims s t old (Some q) e len w
    → CanStage claims [] m t e w
can_stage_new claims s m t old q e len w same moved a k = record {
  agrees = a;
  takes = k.takes;
  can = record {
    low = subst (λ (l : Layout). t < track_count l.geo) (sym same.layout) k.low;
    fits = subst (λ (l : Layout). entry_misfit l (length (file_of w.world m.slot)) t e ≡ None) (sym same.layout) (subst (λ (n : ℕ). entry_misfit s.tables.layout (length (file_of w.world n)) t e ≡ None) (sym same.slot) k.fits);
    snug = λ place. subst (λ (n : ℕ). e.pos + e.size ≤ length (file_of w.world n)) (sym same.slot) (k.snug place);
    tabled = inl moved;
  };
}

-- the bytes of an entry in the file of another state of the layer
pub stores_as : (claims : List Extent) (null : NullBytes) (s m n : LayerState) (t : ℕ) (e : L2Entry) (w : Seen) → IsSameFile s m
    → StoresIn claims null m n t (bytes_by_entry null m.tables.layout (file_of w.world m.slot) t e) w w → StoresIn claims null m n t (bytes_by_entry null s.tables.layout (file_of w.world s.slot) t e) w w
stores_as claims null s m n t e w same k =
    subst (λ (l : Layout). StoresIn claims null m n t (bytes_by_entry null l (file_of w.world s.slot) t e) w w) same.layout
    (subst (λ (x : ℕ). StoresIn claims null m n t (bytes_by_entry null m.tables.layout (file_of w.world x) t e) w w) same.slot k)

-- a word takes one of the free stages at most
pub free_word : (w : StagedWord) (v : TableView) → IsTables v → free_count v.stages ≤ free_count (with_word w v.stages) + 1
free_word w v t = by (place_for w.group v.stages.words) refl
  where
    by : (o : Option ℕ) → place_for w.group v.stages.words ≡ o → free_count v.stages ≤ free_count (with_word w v.stages) + 1
    by None none = let k = count_word_new w v.stages t.staged (subst (λ (o : Option ℕ). IsNone o) (sym none) refl) in omega (arith, k)
    by (Some pos) some = let k = count_word_again w v.stages t.staged (subst (λ (o : Option ℕ). IsSome o) (sym some) refl) in omega (arith, k)

-- Bytes that are written to a place that is reserved: all that stands stays.
use Rattle.std.proofs.Common.{◌≡◌, ℕ, ◌+◌, ◌*◌, ◌%◌, ◌<◌, ◌≤◌, List, [], ◌∷◌, length, Option, Some, None, Result, OnOk, OnErr, refl, sym, ◌∙◌, ap, subst, inl, inr, arith}
use Rattle.std.specs.Option.{unwrap_or}
use Rattle.std.specs.List.{AllByRecursion}
use Rattle.cckd_shelf.specs.declared.fault.Failed.{Failed}
use Rattle.cckd_shelf.specs.Files.{overlaid}
use Rattle.cckd_shelf.specs.World.{World, file_of, after_write, after_torn}
use Rattle.cckd_shelf.specs.Outcomes.{WriteLeaves, EachOutcome}
use Rattle.cckd_shelf.specs.Seen.{Seen, Makes, MayMake}
use Rattle.cckd_shelf.proofs.MomentLemmas.{wrote}
use Rattle.cckd_shelf.proofs.OutcomeLemmas.{write_step, write_made, length_overlaid}
use Rattle.cckd_shelf.proofs.WorldLemmas.{now_wrote, sure_wrote}
use Rattle.cckd_base.specs.declared.geometry.Layout.{Layout}
use Rattle.cckd_base.specs.declared.entry.L2Entry.{L2Entry}
use Rattle.cckd_base.specs.declared.space.Extent.{Extent}
use Rattle.cckd_base.specs.declared.space.Owner.TheVariants.{Nobody, Track}
use Rattle.cckd_base.specs.Geometry.{track_count, area_of}
use Rattle.cckd_base.specs.Entry.{word_at, entry_at, entry_of, entry_in_table, bytes_by_entry}
use Rattle.cckd_base.specs.Image.{IsPlace, ShareNoByte}
use Rattle.cckd_base.proofs.HeaderLemmas.{headed_layout, headed_short}
use Rattle.cckd_base.proofs.PlaceLemmas.{stored_inside, bytes_stay, inside_first}
use Rattle.cckd_base.proofs.WriteLemmas.{IsFree, free_write}
use Rattle.cckd_space.specs.Pieces.{Has}
use Rattle.cckd_space.proofs.PlaceLemmas.{two_reserved, has_within}
use Rattle.cckd_tables.specs.Staging.{entry_for, new_entry}
use Rattle.cckd_tables.specs.Tables.{TableView, CachedTable, AreOf, IsCachedOf, HasTables}
use Rattle.cckd_layer.specs.Held.{NullBytes, Keeps, held}
use Rattle.cckd_layer.specs.Sits.{identifiers_for, IsMarked, Rests, Sits}
use Rattle.cckd_layer.specs.Current.{stored_space, claim, IsAmong, IsPlaced, placed_piece, Current}
use Rattle.cckd_layer.specs.Changes.{Fills}
use Rattle.cckd_layer.specs.Stands.{LayerView, Stands}
use Rattle.cckd_layer.specs.Marks.{FitsLayout}
use Rattle.cckd_layer.specs.Mounted.{LayerState}
use Rattle.cckd_layer.specs.Writes.{AgreesWith, AgreesAgainWith, StopsWithinWith, IsPut, claimed_view, entry_now, map_of}
use Rattle.cckd_layer.proofs.HeadLemmas.{headers_kept, headed_kept}
use Rattle.cckd_layer.proofs.StageLemmas.{owners_differ}
use Rattle.cckd_layer.proofs.NearLemmas.{held_placed_apart}
use Rattle.cckd_layer.proofs.FillLemmas.{StaysWhole, stays_sits, stays_marked, stays_keeps, write_fills, fills_part}
use Rattle.cckd_layer.proofs.CurrentLemmas.{names_stay, current_grown}
use Rattle.cckd_layer.proofs.StandLemmas.{stands_sits, stands_layout}

-- the words and the cached tables stay, where no table is touched
all_cached : (l : Layout) (was f : List ℕ) (pos n : ℕ) → ((g : ℕ) → g < l.groups → word_at l f g ≡ word_at l was g) → HasTables l was
    → ((g : ℕ) → g < l.groups → IsPlace (word_at l was g) → ShareNoByte (word_at l was g) 2048 pos n) → Fills pos n was f
    → (cs : List CachedTable) → AllByRecursion (IsCachedOf l was) cs → AllByRecursion (IsCachedOf l f) cs
all_cached l was f pos n word fit apart fills [] all = tt
all_cached l was f pos n word fit apart fills (c ∷ cs) all = (
  record {
    group = all.0.group;
    named = subst IsPlace (sym (word c.group all.0.group)) all.0.named;
    entries = λ t own.
        let at = word_at l was c.group in
        let k = fit c.group all.0.group all.0.named in
        let far = inside_first at 2048 pos n (apart c.group all.0.group all.0.named) (at + 8 * (t % 256)) 8 (omega arith) (omega arith) in
        all.0.entries t own
        ∙ sym (ap (entry_of l.order) (fills_part pos n was f (at + 8 * (t % 256)) 8 fills far (omega (arith, k))))
        ∙ ap (λ (p : ℕ). entry_in_table l f p t) (sym (word c.group all.0.group));
  },
  all_cached l was f pos n word fit apart fills cs all.1,
)

pub tables_stay : (tables : TableView) (l : Layout) (was f : List ℕ) (pos n : ℕ) → tables.layout ≡ l → ((g : ℕ) → g < l.groups → word_at l f g ≡ word_at l was g)
    → ((g : ℕ) → g < l.groups → IsPlace (word_at l was g) → ShareNoByte (word_at l was g) 2048 pos n) → Fills pos n was f → AreOf tables was → AreOf tables f
tables_stay tables l was f pos n same stays free fills are =
    let word : (g : ℕ) → g < tables.layout.groups → word_at tables.layout f g ≡ word_at tables.layout was g =
    subst (λ (x : Layout). (g : ℕ) → g < x.groups → word_at x f g ≡ word_at x was g) (sym same) stays in
    let apart : (g : ℕ) → g < tables.layout.groups → IsPlace (word_at tables.layout was g) → ShareNoByte (word_at tables.layout was g) 2048 pos n =
    subst (λ (x : Layout). (g : ℕ) → g < x.groups → IsPlace (word_at x was g) → ShareNoByte (word_at x was g) 2048 pos n) (sym same) free in
    record {
      area = omega (arith, are.area, fills.no_shorter);
      words = λ g low. word g low ∙ are.words g low;
      tables = λ g low place.
          let k = are.tables g low (subst IsPlace (word g low) place) in
          omega (arith, k, word g low, fills.no_shorter);
      cached = all_cached tables.layout was f pos n word are.tables apart fills tables.cached are.cached;
    }

module _ (v : LayerView) (slot : ℕ) (w : World) (pos n : ℕ) (some : 0 < n) (among : IsAmong (claim pos n) v.claims) (h : Stands v slot w) where
  there : Has (placed_piece (claim pos n)) v.plan.pieces
  there = h.now.accounts.reserved.there (claim pos n) (inr among)

  pub inside_of : pos + n ≤ v.plan.size
  inside_of = has_within 0 v.plan.pieces v.plan.size (placed_piece (claim pos n)) h.now.spans.laid there

  -- no space of a file that rests in the pieces is touched
  pub free_of : (f : List ℕ) → Rests v.layout v.plan.pieces f → IsFree v.layout pos n f
  free_of f r = record {
    area = elim (held_placed_apart v.plan.pieces v.plan.size 0 (area_of v.layout.groups) (claim pos n) h.now.spans.laid there r.area) [ inl k ↦ omega (arith, k) | inr k ↦ absurd (omega (arith, k, some)) ];
    tables = λ g low place. held_placed_apart v.plan.pieces v.plan.size (word_at v.layout f g) 2048 (claim pos n) h.now.spans.laid there (r.tables g low place);
    tracks = λ t low place. held_placed_apart v.plan.pieces v.plan.size (entry_at v.layout f t).pos (entry_at v.layout f t).size (claim pos n) h.now.spans.laid there (r.tracks t low place);
  }

  -- an outcome stays whole
  pub stays_of : (was f : List ℕ) → Fills pos n was f → Sits v.layout v.plan.pieces was → StaysWhole v.layout was f
  stays_of was f fills s =
      let l = v.layout in
      let free = free_of was s.rests in
      let k = headed_short (identifiers_for l) l was s.whole.headed in
      let headers = headers_kept was f (omega (arith, s.whole.image.area)) fills.no_shorter (λ i low. fills.outside i (omega (arith, low, s.whole.image.area)) (inl (omega (arith, low, free.area)))) in
      let stays = free_write l was f pos n (headed_layout (identifiers_for l) l was s.whole.headed) s.whole.image free (record { outside = fills.outside; no_shorter = fills.no_shorter }) in
      record {
        whole = record { headed = headed_kept (identifiers_for l) l was f headers fills.no_shorter (omega (arith, fills.no_longer, k, inside_of, h.now.spans.short)) s.whole.headed; image = stays.image };
        stays = stays;
        headers = headers;
      }

  -- so does the layer's map
  map_of_file : (f : List ℕ) → Fills pos n (file_of w slot) f → StaysWhole v.layout (file_of w slot) f → (null : NullBytes) (t : ℕ) → t < track_count v.layout.geo
      → held null v.layout v.stages f t ≡ held null v.layout v.stages (file_of w slot) t
  map_of_file f fills whole null t low = by (entry_for t v.stages.entries) refl
    where
      by : (o : Option L2Entry) → entry_for t v.stages.entries ≡ o → held null v.layout v.stages f t ≡ held null v.layout v.stages (file_of w slot) t
      by None e =
          ap (λ (o : Option L2Entry). bytes_by_entry null v.layout f t (unwrap_or o (entry_at v.layout f t))) e
          ∙ (whole.stays.stored null t low ∙ sym (ap (λ (o : Option L2Entry). bytes_by_entry null v.layout (file_of w slot) t (unwrap_or o (entry_at v.layout (file_of w slot) t))) e))
      by (Some x) e =
          let k = h.now.entries t x e in
          ap (λ (o : Option L2Entry). bytes_by_entry null v.layout f t (unwrap_or o (entry_at v.layout f t))) e
          ∙ (bytes_stay null v.layout (file_of w slot) f t x (λ place.
          let q = stored_inside v.layout (length (file_of w slot)) t x k.fits place in
          let mine : IsPlaced v.stages v.claims (stored_space t x) = inl (inr (t, record { entry = x; named = e; place = place; is = refl })) in
          let has = h.now.accounts.reserved.there (stored_space t x) mine in
          let far : ShareNoByte x.pos x.size pos n = two_reserved v.plan.pieces v.plan.size x.pos x.size pos n h.now.spans.laid has there
          (λ same. owners_differ (stored_space t x) (claim pos n) (λ o. let z : Track t ≡ Nobody = o in cc) (h.now.accounts.differ (stored_space t x) (claim pos n) mine (inr among) same)) in
          fills_part pos n (file_of w slot) f x.pos x.len fills (inside_first x.pos x.size pos n far x.pos x.len (omega arith) (omega (arith, q.holds))) q.within)
          ∙ sym (ap (λ (o : Option L2Entry). bytes_by_entry null v.layout (file_of w slot) t (unwrap_or o (entry_at v.layout (file_of w slot) t))) e))

-- a layer stands once bytes are written to a place that it has claimed
pub stands_written : (v : LayerView) (slot : ℕ) (w after : World) (pos : ℕ) (bytes : List ℕ) → 0 < length bytes → IsAmong (claim pos (length bytes)) v.claims → Stands v slot w
    → after ≡ after_write slot pos bytes w → Stands v slot after
stands_written v slot w after pos bytes some among h made =
    let n = length bytes in
    let was = file_of w slot in
    let file = overlaid was pos bytes in
    let now : file_of after slot ≡ file = now_wrote slot pos bytes w after made in
    let fills = write_fills pos bytes was file (write_made pos bytes was) in
    let whole = stays_of v slot w pos n some among h was file fills (stands_sits v slot w h) in
    let size : length file ≤ v.plan.size = omega (arith, length_overlaid was pos bytes, inside_of v slot w pos n some among h, h.now.spans.covers) in
    let grown = current_grown v.layout v.stages v.claims v.plan was file (stands_layout v slot w h) (names_stay v.layout was file whole.stays) fills.no_shorter size h.now in
    let P : List ℕ → Type 0 = λ f. Sits v.layout v.plan.pieces f in
    let step : (old f : List ℕ) → P old → WriteLeaves pos bytes old f → StaysWhole v.layout old f = λ old f k leaves. stays_of v slot w pos n some among h old f (write_fills pos bytes old f leaves) k in
    record {
      sure = sure_wrote slot pos bytes w after made h.sure;
      now = subst (Current v.layout v.stages v.claims v.plan) (sym now) grown;
      each = subst (λ (x : World). EachOutcome slot P x.events) (sym made)
          (write_step P P slot pos bytes w.events h.each (λ old f k leaves. stays_sits v.layout v.plan.pieces old f (step old f k leaves) k));
      marked = λ m. subst (λ (x : World). EachOutcome slot IsMarked x.events) (sym made)
          (write_step (λ f. P f × IsMarked f) IsMarked slot pos bytes w.events (λ f k. (h.each f k, h.marked m f k))
          (λ old f k leaves. stays_marked v.layout old f (step old f k.0 leaves) k.1));
    }

-- the layer agrees with its file again, with the same map
pub put_agrees : (claims : List Extent) (null : NullBytes) (s next : LayerState) (old new : Seen) (pos : ℕ) (bytes : List ℕ) → 0 < length bytes → IsAmong (claim pos (length bytes)) claims
    → IsPut s next → new.world ≡ after_write s.slot pos bytes old.world → AgreesWith claims s old.world → AgreesAgainWith claims null s next old new
put_agrees claims null s next old new pos bytes some among put made a =
    let v = claimed_view claims s in
    let was = file_of old.world s.slot in
    let file = overlaid was pos bytes in
    let n = length bytes in
    let now : file_of new.world s.slot ≡ file = now_wrote s.slot pos bytes old.world new.world made in
    let fills = write_fills pos bytes was file (write_made pos bytes was) in
    let whole = stays_of v s.slot old.world pos n some among a.stands was file fills (stands_sits v s.slot old.world a.stands) in
    let stands = stands_written v s.slot old.world new.world pos bytes some among a.stands made in
    let free = free_of v s.slot old.world pos n some among a.stands was (stands_sits v s.slot old.world a.stands).rests in
    let are = tables_stay s.tables s.tables.layout was file pos n refl whole.stays.word free.tables fills a.are in
    let soft = ap (λ (x : LayerState). x.hardened) put in
    let slot : next.slot ≡ s.slot = ap (λ (x : LayerState). x.slot) put in
    let tables : next.tables ≡ s.tables = ap (λ (x : LayerState). x.tables) put in
    record {
      agrees = record {
        stands = subst (λ (m : ℕ). Stands (claimed_view claims next) m new.world) (sym slot) (subst (λ (x : LayerView). Stands x s.slot new.world) (sym (ap (claimed_view claims) put)) stands);
        are = subst (λ (t : TableView). AreOf t (file_of new.world next.slot)) (sym tables)
            (subst (λ (m : ℕ). AreOf s.tables (file_of new.world m)) (sym slot) (subst (λ (f : List ℕ). AreOf s.tables f) (sym now) are));
        fits = subst (λ (x : LayerState). FitsLayout x.tables.layout x.header.cckd) (sym put) a.fits;
        empty = λ h. absurd cc;
        alone = λ h. absurd cc;
      };
      entries = λ t low. ap (λ (x : LayerState). entry_now x new t) put
          ∙ ap (λ (f : List ℕ). new_entry s.tables.layout s.tables.stages f t) now
          ∙ ap (λ (e : L2Entry). unwrap_or (entry_for t s.tables.stages.entries) e) (whole.stays.entry t low);
      same = record {
        each = λ t low. ap (λ (x : LayerState). map_of null x new t) put
            ∙ ap (λ (f : List ℕ). held null s.tables.layout s.tables.stages f t) now
            ∙ map_of_file v s.slot old.world pos n some among a.stands file fills whole null t low;
      };
    }

-- at each operation of it
pub put_within : (claims : List Extent) (null : NullBytes) (s : LayerState) (old new : Seen) (pos : ℕ) (bytes : List ℕ) (result : Result (Unit {0}) Failed) → 0 < length bytes → IsAmong (claim pos (length bytes)) claims
    → OnOk result (Makes (after_write s.slot pos bytes) old new) → OnErr result (MayMake (after_torn s.slot pos bytes) old new) → StopsWithinWith claims null s old new
put_within claims null s old new pos bytes result some among done torn d later told a within each =
    let l = s.tables.layout in
    let v = claimed_view claims s in
    let P : List ℕ → Type 0 = λ f. Sits l s.plan.pieces f × Keeps null l d later f in
    wrote P (Keeps null l d later) s.slot pos bytes old new result done torn told
    (λ f o. (a.stands.each f o, each f o)) (λ was k. k.1)
    (λ was f k leaves. stays_keeps null l d later was f (stays_of v s.slot old.world pos (length bytes) some among a.stands was f (write_fills pos bytes was f leaves) k.0) k.1)

-- The opening mark: a layer agrees with its file again.
use Rattle.std.proofs.Common.{◌≡◌, ◌==◌, if◌then◌else◌, ◌+◌, ◌/◌, ◌%◌, ◌<◌, ℕ, List, length, Option, Some, None, refl, sym, ◌∙◌, ap, subst, inr, arith}
use Rattle.std.specs.Option.{unwrap_or}
use Rattle.cckd_shelf.specs.Files.{overlaid}
use Rattle.cckd_shelf.specs.World.{World, file_of, after_write, after_sync}
use Rattle.cckd_shelf.specs.Outcomes.{EachOutcome}
use Rattle.cckd_shelf.specs.Seen.{Seen}
use Rattle.cckd_shelf.specs.Stops.{StopsLeave}
use Rattle.cckd_shelf.proofs.OutcomeLemmas.{write_made}
use Rattle.cckd_shelf.proofs.WorldLemmas.{now_wrote}
use Rattle.cckd_base.specs.declared.geometry.Layout.{Layout}
use Rattle.cckd_base.specs.declared.entry.L2Entry.{L2Entry}
use Rattle.cckd_base.specs.declared.space.Extent.{Extent}
use Rattle.cckd_base.specs.Entry.{word_at, entry_at, bytes_by_entry}
use Rattle.cckd_base.specs.Geometry.{track_count}
use Rattle.cckd_base.specs.Image.{IsPlace, ShareNoByte}
use Rattle.cckd_base.specs.declared.order.Order.TheVariants.{Big, Little}
use Rattle.cckd_base.proofs.PlaceLemmas.{table_inside, stored_inside, bytes_stay}
use Rattle.cckd_image.specs.declared.header.CckdHeader.{CckdHeader}
use Rattle.cckd_tables.specs.Staging.{entry_for, new_entry}
use Rattle.cckd_tables.specs.Tables.{AreOf}
use Rattle.cckd_layer.specs.Held.{NullBytes, held}
use Rattle.cckd_layer.specs.Marks.{SpellsSecond, FitsLayout}
use Rattle.cckd_layer.specs.Chain.{opened_second}
use Rattle.cckd_layer.specs.Changes.{IsRemarked}
use Rattle.cckd_layer.specs.Mounted.{LayerState}
use Rattle.cckd_layer.specs.Writes.{AgreesWith, AgreesAgainWith, StopsWithinWith, claimed_view, marked_layer}
use Rattle.cckd_layer.proofs.FillLemmas.{write_fills, fills_part}
use Rattle.cckd_layer.proofs.RemarkedLemmas.{remarked, remark_keeps, stands_marked}
use Rattle.cckd_layer.proofs.StandLemmas.{stands_sits}
use Rattle.cckd_layer.proofs.ReservedLemmas.{tables_stay}

-- the mark changes nothing of what a second header says of the layout
pub opened_fits : (l : Layout) (c : CckdHeader) → FitsLayout l c → FitsLayout l (opened_second c)
opened_fits l c f =
    let same : (c.options % 128 + 128) / 2 % 2 ≡ c.options / 2 % 2 = omega arith in
    record { order = ap (λ (n : ℕ). if n == 1 then Big else Little) same ∙ f.order; words = f.words; entries = f.entries; cylinders = f.cylinders; format = f.format }

pub opened_marked : (c : CckdHeader) → (opened_second c).options / 128 % 2 ≡ 1
opened_marked c = omega arith

pub mark_agrees : (claims : List Extent) (null : NullBytes) (s : LayerState) (old new : Seen) (bytes : List ℕ) → SpellsSecond bytes (opened_second s.header.cckd)
    → new.world ≡ after_sync s.slot (after_write s.slot 512 bytes old.world)
    → EachOutcome s.slot (λ f. f ≡ file_of new.world s.slot) new.world.events → AgreesWith claims s old.world → AgreesAgainWith claims null s (marked_layer s) old new
mark_agrees claims null s old new bytes spells made alone a =
    let l = s.tables.layout in
    let v = claimed_view claims s in
    let was = file_of old.world s.slot in
    let file = overlaid was 512 bytes in
    let c = opened_second s.header.cckd in
    let fits = opened_fits l s.header.cckd a.fits in
    let sits = stands_sits v s.slot old.world a.stands in
    let x = remarked l c bytes was spells fits sits.whole in
    let fills = write_fills 512 bytes was file (write_made 512 bytes was) in
    let now : file_of new.world s.slot ≡ file =
    ap (λ (w : World). file_of w s.slot) made ∙ now_wrote s.slot 512 bytes old.world (after_write s.slot 512 bytes old.world) refl in
    let apart : (g : ℕ) → g < l.groups → IsPlace (word_at l was g) → ShareNoByte (word_at l was g) 2048 512 (length bytes) = λ g low place. inr (let k = table_inside l (length was) g (word_at l was g) (sits.whole.image.words g low) place in omega (arith, k.0, spells.long)) in
    let are = tables_stay s.tables l was file 512 (length bytes) refl x.stays.word apart fills a.are in
    record {
      agrees = record {
        stands = stands_marked v s.slot old.world new.world bytes c spells fits (opened_marked s.header.cckd) a.stands made;
        are = subst (λ (f : List ℕ). AreOf s.tables f) (sym now) are;
        fits = fits;
        empty = a.empty;
        alone = λ h. alone;
      };
      entries = λ t low. ap (λ (f : List ℕ). new_entry l s.tables.stages f t) now
          ∙ ap (λ (e : L2Entry). unwrap_or (entry_for t s.tables.stages.entries) e) (x.stays.entry t low);
      same = record { each = λ t low. ap (λ (f : List ℕ). held null l s.tables.stages f t) now ∙ same_track t low (entry_for t s.tables.stages.entries) refl };
    }
  where
    same_track : (t : ℕ) → t < track_count s.tables.layout.geo → (o : Option L2Entry) → entry_for t s.tables.stages.entries ≡ o
        → held null s.tables.layout s.tables.stages (overlaid (file_of old.world s.slot) 512 bytes) t ≡ held null s.tables.layout s.tables.stages (file_of old.world s.slot) t
    same_track t low None e =
        let l = s.tables.layout in
        let was = file_of old.world s.slot in
        let file = overlaid was 512 bytes in
        let sits = stands_sits (claimed_view claims s) s.slot old.world a.stands in
        let x = remarked l (opened_second s.header.cckd) bytes was spells (opened_fits l s.header.cckd a.fits) sits.whole in
        ap (λ (o : Option L2Entry). bytes_by_entry null l file t (unwrap_or o (entry_at l file t))) e
        ∙ (x.stays.stored null t low ∙ sym (ap (λ (o : Option L2Entry). bytes_by_entry null l was t (unwrap_or o (entry_at l was t))) e))
    same_track t low (Some y) e =
        let l = s.tables.layout in
        let was = file_of old.world s.slot in
        let file = overlaid was 512 bytes in
        let fills = write_fills 512 bytes was file (write_made 512 bytes was) in
        let k = a.stands.now.entries t y e in
        ap (λ (o : Option L2Entry). bytes_by_entry null l file t (unwrap_or o (entry_at l file t))) e
        ∙ (bytes_stay null l was file t y (λ place.
        let q = stored_inside l (length was) t y k.fits place in
        fills_part 512 (length bytes) was file y.pos y.len fills (inr (omega (arith, q.behind, spells.long))) q.within)
        ∙ sym (ap (λ (o : Option L2Entry). bytes_by_entry null l was t (unwrap_or o (entry_at l was t))) e))

pub mark_within : (claims : List Extent) (null : NullBytes) (s : LayerState) (old new : Seen) (bytes : List ℕ) → SpellsSecond bytes (opened_second s.header.cckd)
    → StopsLeave s.slot (IsRemarked old.world.events s.slot bytes) old new → StopsWithinWith claims null s old new
mark_within claims null s old new bytes spells stops d later told a within each =
    remark_keeps null d later s.tables.layout s.slot old new bytes (opened_second s.header.cckd) spells (opened_fits s.tables.layout s.header.cckd a.fits) told stops each

-- A layer once its image is closed: it agrees with its file, and a stop leaves its map.
use Rattle.std.proofs.Common.{◌≡◌, ◌/◌, ◌%◌, ◌<◌, ◌≤◌, ◌==◌, if◌then◌else◌, ℕ, true, List, [], length, refl, sym, ◌∙◌, ap, subst, inl, inr, arith}
use Rattle.std.specs.Option.{unwrap_or}
use Rattle.cckd_shelf.specs.Files.{overlaid}
use Rattle.cckd_shelf.specs.World.{World, IsSure, file_of}
use Rattle.cckd_shelf.specs.Outcomes.{EachOutcome}
use Rattle.cckd_shelf.specs.Seen.{Seen}
use Rattle.cckd_shelf.specs.Stops.{StopsLeave}
use Rattle.cckd_shelf.proofs.OutcomeLemmas.{write_made}
use Rattle.cckd_base.specs.declared.order.Order.TheVariants.{Big, Little}
use Rattle.cckd_base.specs.declared.geometry.Layout.{Layout}
use Rattle.cckd_base.specs.Geometry.{track_count}
use Rattle.cckd_base.specs.Entry.{word_at}
use Rattle.cckd_base.specs.Image.{IsPlace}
use Rattle.cckd_base.specs.Numbers.{bytes_at}
use Rattle.cckd_base.specs.Header.{headers_of}
use Rattle.cckd_base.proofs.PlaceLemmas.{table_inside}
use Rattle.cckd_base.proofs.WriteLemmas.{StaysImage}
use Rattle.cckd_image.specs.declared.header.CckdHeader.{CckdHeader}
use Rattle.cckd_image.specs.Image.{cckd_header_of}
use Rattle.cckd_space.specs.declared.piece.Totals.{Totals}
use Rattle.cckd_space.specs.Pieces.{reserved_piece}
use Rattle.cckd_space.specs.Plan.{Plan, totals_of}
use Rattle.cckd_tables.specs.Staging.{Stages, entry_for}
use Rattle.cckd_tables.proofs.CallerLemmas.{same_of}
use Rattle.cckd_layer.specs.Held.{NullBytes, AreSame, Holds, held, held_in}
use Rattle.cckd_layer.specs.Current.{Current}
use Rattle.cckd_layer.specs.Marks.{FitsLayout}
use Rattle.cckd_layer.specs.Chain.{chained, roomy_from, closed_second, IsClosingAs, IsClosedFrom}
use Rattle.cckd_layer.specs.Stands.{nothing_staged, LayerView, Stands}
use Rattle.cckd_layer.specs.Mounted.{LayerState, kept_view}
use Rattle.cckd_layer.specs.Writes.{Agrees, AgreesAgain, KeepsMap, StopsWithin, StopHolds, map_of, closed_layer}
use Rattle.cckd_layer.proofs.MountLemmas.{not_placed}
use Rattle.cckd_layer.proofs.FillLemmas.{write_fills, fills_part}
use Rattle.cckd_layer.proofs.StandLemmas.{stands_sits}
use Rattle.cckd_layer.proofs.ChainLemmas.{changes_nothing}
use Rattle.cckd_layer.proofs.RemarkedLemmas.{remarked}
use Rattle.cckd_layer.proofs.ClosedLemmas.{free_part, free_whole, closing_keeps, are_roomy, chained_changes, stands_closed}

-- totals and the mark change nothing of what a second header says of the layout
pub closed_fits : (l : Layout) (t : Totals) (c : CckdHeader) → FitsLayout l c → FitsLayout l (closed_second t c)
closed_fits l t c f =
    let same : c.options % 128 / 2 % 2 ≡ c.options / 2 % 2 = omega arith in
    record { order = ap (λ (n : ℕ). if n == 1 then Big else Little) same ∙ f.order; words = f.words; entries = f.entries; cylinders = f.cylinders; format = f.format }

-- the second header that a layer is closed with
abbrev pub last_second : LayerState → CckdHeader
last_second s = closed_second (totals_of s.plan) s.header.cckd

pub closing_within : (null : NullBytes) (s : LayerState) (old new : Seen) → StopsLeave s.slot (IsClosingAs old.world.events s.slot s.plan.pieces s.plan.size (last_second s)) old new → StopsWithin null s old new
closing_within null s old new stops d later told a within each =
    closing_keeps null d later (kept_view s) s.slot old new (last_second s) (closed_fits s.tables.layout (totals_of s.plan) s.header.cckd a.fits) told a.stands stops each

-- the same image, no longer and no shorter, with this second header
pub record KeepsImage (l : Layout) (c : CckdHeader) (was file : List ℕ) : Type 0 where
  pub stays : StaysImage l was file
  pub tables : (g : ℕ) → g < l.groups → IsPlace (word_at l was g) → bytes_at file (word_at l was g) 2048 ≡ bytes_at was (word_at l was g) 2048
  pub second : cckd_header_of (headers_of file) ≡ c
  pub no_shorter : length was ≤ length file
  pub no_longer : length file ≤ length was

pub closed_keeps : (v : LayerView) (slot : ℕ) (old new : Seen) (c : CckdHeader) → FitsLayout v.layout c → Stands v slot old.world
    → IsClosedFrom v.layout.order v.plan.pieces c (file_of old.world slot) (file_of new.world slot) → v.plan.size ≤ length (file_of old.world slot) → KeepsImage v.layout c (file_of old.world slot) (file_of new.world slot)
closed_keeps v slot old new c fits h closed ends =
    let l = v.layout in
    let ps = v.plan.pieces in
    let end = v.plan.size in
    let was = file_of old.world slot in
    let mid = chained l.order (roomy_from 0 ps) was in
    let file = overlaid mid 512 closed.0 in
    let sits = stands_sits v slot old.world h in
    let changes = chained_changes ps end l.order (roomy_from 0 ps) was was h.now.spans.laid (are_roomy 0 ps) (changes_nothing ps end was) in
    let x = free_whole l ps end was mid h.now.spans.laid h.now.spans.short changes sits in
    let y = remarked l c closed.0 mid closed.1 fits x.whole in
    let fills = write_fills 512 closed.0 mid file (write_made 512 closed.0 mid) in
    subst (KeepsImage l c was) (sym closed.2) (record {
      stays = record {
        image = y.stays.image;
        word = λ g low. y.stays.word g low ∙ x.stays.word g low;
        entry = λ t low. y.stays.entry t low ∙ x.stays.entry t low;
        stored = λ null t low. y.stays.stored null t low ∙ x.stays.stored null t low;
      };
      tables = λ g low place.
          let k = table_inside l (length was) g (word_at l was g) (sits.whole.image.words g low) place in
          fills_part 512 (length closed.0) mid file (word_at l was g) 2048 fills (inr (omega (arith, k.0, closed.1.long))) (omega (arith, k.1, changes.no_shorter))
          ∙ free_part ps end was mid (word_at l was g) 2048 (word_at l was g) 2048 h.now.spans.laid changes (sits.rests.tables g low place) (omega arith) (omega arith) k.1;
      second = y.second;
      no_shorter = omega (arith, changes.no_shorter, y.size);
      no_longer = omega (arith, changes.no_longer, y.size, ends);
    })

-- where nothing is staged or claimed, the pieces end with the file
pub ends_with : (l : Layout) (plan : Plan) (file : List ℕ) → Current l nothing_staged [] plan file → plan.size ≤ length file
ends_with l plan file c = elim c.spans.ends [
  | inl within ↦ within
  | inr piece ↦ let named = c.accounts.reserved.named (reserved_piece piece.0 piece.1) piece.2 refl in absurd (not_placed named.0 named.1)
]

pub current_of : (s : LayerState) (w : World) → s.tables.stages ≡ nothing_staged → Agrees s w → Current s.tables.layout nothing_staged [] s.plan (file_of w s.slot)
current_of s w empty a = subst (λ (st : Stages). Current s.tables.layout st [] s.plan (file_of w s.slot)) empty a.stands.now

-- A layer that has nothing staged agrees with its file once that is closed, with the same map.
pub closed_agrees : (null : NullBytes) (s : LayerState) (old new : Seen) → s.tables.stages ≡ nothing_staged → IsSure new.world
    → IsClosedFrom s.tables.layout.order s.plan.pieces (last_second s) (file_of old.world s.slot) (file_of new.world s.slot)
    → EachOutcome s.slot (λ f. f ≡ file_of new.world s.slot) new.world.events → Agrees s old.world → AgreesAgain null s (closed_layer s) old new
closed_agrees null s old new empty sure closed alone a =
    let l = s.tables.layout in
    let v = kept_view s in
    let was = file_of old.world s.slot in
    let file = file_of new.world s.slot in
    let fits = closed_fits l (totals_of s.plan) s.header.cckd a.fits in
    let x = closed_keeps v s.slot old new (last_second s) fits a.stands closed (ends_with l s.plan was (current_of s old.world empty a)) in
    record {
      agrees = record {
        stands = stands_closed v s.slot old.world new.world (last_second s) fits a.stands sure closed alone;
        are = same_of s.tables was file a.are x.no_shorter x.stays.word x.tables;
        fits = fits;
        empty = λ h. empty;
        alone = λ h. alone;
      };
      entries = λ t low. ap (unwrap_or (entry_for t s.tables.stages.entries)) (x.stays.entry t low);
      same = record {
        each = λ t low.
            ap (λ (st : Stages). held null l st file t) empty ∙ (x.stays.stored null t low ∙ sym (ap (λ (st : Stages). held null l st was t) empty));
      };
    }

-- a stop leaves exactly the map that a layer has kept, once all is on the disk for good
pub hardened_holds : (null : NullBytes) (s next : LayerState) (old new : Seen) → next.slot ≡ s.slot → next.tables.layout ≡ s.tables.layout → next.hardened ≡ true → KeepsMap null s next old new → StopHolds null s old new
hardened_holds null s next old new slot layout hard map told a =
    let k = map told a in
    let l = next.tables.layout in
    let m = map_of null s old in
    let file = file_of new.world next.slot in
    let same : AreSame (track_count l.geo) (map_of null next new) m = subst (λ (x : Layout). AreSame (track_count x.geo) (map_of null next new) m) (sym layout) k.same in
    let each : EachOutcome next.slot (Holds null l m) new.world.events = λ f o. record {
      whole = (k.agrees.stands.each f o).whole;
      same = record {
        each = λ t low.
            ap (λ (x : List ℕ). held_in null l x t) (k.agrees.alone hard f o)
            ∙ (ap (λ (st : Stages). held null l st file t) (sym (k.agrees.empty hard)) ∙ same.each t low);
      };
    } in
    subst (λ (n : ℕ). EachOutcome n (Holds null s.tables.layout m) new.world.events) slot
    (subst (λ (x : Layout). EachOutcome next.slot (Holds null x m) new.world.events) layout each)

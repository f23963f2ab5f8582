-- A close at each operation: the headers that the file had, or a closed image.
use Rattle.std.proofs.Common.{◌≡◌, true, ◌⊎◌, ℕ, ◌≤◌, List, ◌++◌, length, take, refl, sym, ◌∙◌, ap, subst, inl, inr, arith}
use Rattle.std.proofs.lemmas.List.{take_all}
use Rattle.cckd_shelf.specs.Events.{Event}
use Rattle.cckd_shelf.specs.Files.{overlaid}
use Rattle.cckd_shelf.specs.World.{IsSure, file_of, after_write, after_sync}
use Rattle.cckd_shelf.specs.Outcomes.{IsOutcome, EachOutcome, AtEach}
use Rattle.cckd_shelf.specs.Seen.{Seen, Tells}
use Rattle.cckd_shelf.specs.Stops.{StopsLeave}
use Rattle.cckd_shelf.proofs.MomentLemmas.{weaker, joins, at_end}
use Rattle.cckd_shelf.proofs.OutcomeLemmas.{now_is_outcome, sync_leaves_now, length_overlaid, overlaid_within_range}
use Rattle.cckd_shelf.proofs.WorldLemmas.{now_wrote, sure_wrote}
use Rattle.cckd_base.specs.declared.order.Order.{Order}
use Rattle.cckd_base.specs.declared.geometry.Layout.{Layout}
use Rattle.cckd_base.specs.Header.{headers_of}
use Rattle.cckd_image.specs.declared.header.CckdHeader.{CckdHeader}
use Rattle.cckd_image.specs.declared.header.ImageHeader.{ImageHeader}
use Rattle.cckd_space.specs.declared.piece.Piece.{Piece}
use Rattle.cckd_space.specs.Plan.{totals_of}
use Rattle.cckd_layer.specs.Sits.{IsMarked}
use Rattle.cckd_layer.specs.Changes.{IsRemarked, IsChained}
use Rattle.cckd_layer.specs.Marks.{SpellsSecond}
use Rattle.cckd_layer.specs.Chain.{chained, roomy_from, IsClosedFrom, IsEnding}
use Rattle.cckd_layer.specs.Closed.{IsClosed}
use Rattle.cckd_layer.specs.Mounted.{LayerState, kept_view}
use Rattle.cckd_layer.specs.Writes.{Agrees, IsSettled, IsSameLayer}
use Rattle.cckd_layer.specs.Headed.{KeepsMark, IsHeadedAs, KeepsHeaders, IsClosedOver, ClosesLast}
use Rattle.cckd_layer.proofs.HeadLemmas.{headers_written}
use Rattle.cckd_layer.proofs.StandLemmas.{stands_sits}
use Rattle.cckd_layer.proofs.ChainLemmas.{changes_nothing}
use Rattle.cckd_layer.proofs.ClosedLemmas.{free_whole, are_roomy, chained_changes}
use Rattle.cckd_layer.proofs.ClosedLayerLemmas.{last_second}
use Rattle.cckd_layer.proofs.ClosedImageLemmas.{image_closed}
use Rattle.cckd_layer.proofs.HeadedLemmas.{headed_before, same_headers}

-- ---- the chain, and then the second header over all of it

pub ending_first : (slot : ℕ) (ps : List Piece) (end : ℕ) (order : Order) (c : CckdHeader) (was : List ℕ) (old mid : Seen) → StopsLeave slot (IsChained old.world.events slot ps end) old mid
    → StopsLeave slot (IsEnding old.world.events slot ps end order c was) old mid
ending_first slot ps end order c was old mid first = λ told.
    weaker (EachOutcome slot (IsChained old.world.events slot ps end)) (EachOutcome slot (IsEnding old.world.events slot ps end order c was)) old.world.events mid.world.events (λ es h f o. inl (h f o)) (first told)

pub ending_both : (slot : ℕ) (ps : List Piece) (end : ℕ) (order : Order) (bytes : List ℕ) (c : CckdHeader) (old mid new : Seen) → (Tells old → Tells mid) → SpellsSecond bytes c
    → StopsLeave slot (IsChained old.world.events slot ps end) old mid → (Tells old → file_of mid.world slot ≡ chained order (roomy_from 0 ps) (file_of old.world slot))
    → (Tells old → IsSure old.world → EachOutcome slot (λ f. f ≡ file_of mid.world slot) mid.world.events) → StopsLeave slot (IsRemarked mid.world.events slot bytes) mid new
    → IsSure old.world → StopsLeave slot (IsEnding old.world.events slot ps end order c (file_of old.world slot)) old new
ending_both slot ps end order bytes c old mid new tells spells first chain alone second sure = λ told.
    let was = file_of old.world slot in
    let Q : List Event → Type 0 = EachOutcome slot (IsEnding old.world.events slot ps end order c was) in
    let links = at_end (EachOutcome slot (IsChained old.world.events slot ps end)) old.world.events mid.world.events (first told) in
    joins Q old.world.events mid.world.events new.world.events (ending_first slot ps end order c was old mid first told)
    (weaker (EachOutcome slot (IsRemarked mid.world.events slot bytes)) Q mid.world.events new.world.events
    (λ es h f o.
    let k = h f o in
    elim k.2 [
      | inl same ↦ inl (subst (IsChained old.world.events slot ps end) (sym same) (links k.0 k.1))
      | inr made ↦ inr (bytes, spells, made ∙ ap (λ (g : List ℕ). overlaid g 512 bytes) (alone told sure k.0 k.1 ∙ chain told))
    ]) (second (tells told)))

-- ---- a file that was closed so

-- a file that is no shorter, written over another from its first byte on, stands there
written_over : (was file : List ℕ) → length was ≤ length file → overlaid was 0 file ≡ file
written_over was file longer =
    let n = length_overlaid was 0 file in
    sym (take_full (overlaid was 0 file) (length file) (omega (arith, n, longer))) ∙ overlaid_within_range was 0 file
  where
    take_full : (xs : List ℕ) (n : ℕ) → length xs ≤ n → take n xs ≡ xs
    take_full xs n short = take_all n xs short

-- it is a closed image
file_closed : (s : LayerState) (old : Seen) → IsSettled s → Agrees s old.world → (f : List ℕ) → length (file_of old.world s.slot) ≤ length f
    → IsClosedFrom s.tables.layout.order s.plan.pieces (last_second s) (file_of old.world s.slot) f → IsClosed s.tables.layout f
file_closed s old settled a f longer closed =
    let was = file_of old.world s.slot in
    let mid = after_write s.slot 0 f old.world in
    let new : Seen = record old { world = after_sync s.slot mid } in
    let sure : IsSure mid = sure_wrote s.slot 0 f old.world mid refl a.stands.sure in
    let now : file_of new.world s.slot ≡ f = now_wrote s.slot 0 f old.world mid refl ∙ written_over was f longer in
    subst (IsClosed s.tables.layout) now
    (image_closed s old new settled sure (subst (IsClosedFrom s.tables.layout.order s.plan.pieces (last_second s) was) (sym now) closed) (λ g o. sync_leaves_now s.slot mid.events sure g o) a)

-- at each operation
pub closing_headers : (s : LayerState) (old new : Seen) → IsSettled s
    → (IsSure old.world → StopsLeave s.slot (IsEnding old.world.events s.slot s.plan.pieces s.plan.size s.tables.layout.order (last_second s) (file_of old.world s.slot)) old new) → ClosesLast s old new
closing_headers s old new settled stops told a =
    let l = s.tables.layout in
    let ps = s.plan.pieces in
    let end = s.plan.size in
    let es = old.world.events in
    let was = file_of old.world s.slot in
    let v = kept_view s in
    let laid = a.stands.now.spans.laid in
    let short = a.stands.now.spans.short in
    let sits = stands_sits v s.slot old.world a.stands in
    let ending : List ℕ → Type 0 = IsEnding es s.slot ps end l.order (last_second s) was in
    let P : List ℕ → Type 0 = λ f. IsHeadedAs es s.slot f ⊎ IsClosedOver l s.header.cckd es s.slot f in
    weaker (EachOutcome s.slot ending) (EachOutcome s.slot P) es new.world.events
    (λ more h f o. elim (h f o) [
      | inl links ↦ inl (links.0, links.1, (free_whole l ps end links.0 f laid short links.2 (a.stands.each links.0 links.1)).headers)
      | inr closed ↦
          let mid = chained l.order (roomy_from 0 ps) was in
          let changes = chained_changes ps end l.order (roomy_from 0 ps) was was laid (are_roomy 0 ps) (changes_nothing ps end was) in
          let x = free_whole l ps end was mid laid short changes sits in
          let size = ap length closed.2 ∙ length_overlaid mid 512 closed.0 in
          let headers = ap headers_of closed.2 ∙ (headers_written closed.0 mid (omega (arith, x.whole.image.area)) closed.1.long ∙ ap (λ (hs : List ℕ). take 512 hs ++ closed.0) x.headers) in
          inr (
            file_closed s old settled a f (omega (arith, size, changes.no_shorter)) closed,
            (totals_of s.plan, (was, now_is_outcome es s.slot, (closed.0, closed.1, headers))),
          )
    ]) (stops a.stands.sure told)

-- where nothing is closed
pub none_closed : (s : LayerState) (old new : Seen) → KeepsHeaders s old new → ClosesLast s old new
none_closed s old new h told a =
    let es = old.world.events in
    weaker (EachOutcome s.slot (IsHeadedAs es s.slot)) (EachOutcome s.slot (λ f. IsHeadedAs es s.slot f ⊎ IsClosedOver s.tables.layout s.header.cckd es s.slot f)) es new.world.events (λ more g f o. inl (g f o)) (h told a).headers

-- behind what keeps the headers
pub closes_behind : (s m : LayerState) (a b c : Seen) → (Tells a → Tells b) → IsSameLayer s m → (Tells a → Agrees s a.world → Agrees m b.world) → KeepsHeaders s a b → ClosesLast m b c → ClosesLast s a c
closes_behind s m a b c tells same map h k told agrees =
    let x = a.world.events in
    let y = b.world.events in
    let z = c.world.events in
    let before = (h told agrees).headers in
    let ended : (n : ℕ) (l : Layout) (i : ImageHeader) → List ℕ → Type 0 = λ n l i f. IsHeadedAs y n f ⊎ IsClosedOver l i.cckd y n f in
    let l = s.tables.layout in
    let i = s.header in
    let P : List ℕ → Type 0 = λ f. IsHeadedAs x s.slot f ⊎ IsClosedOver l i.cckd x s.slot f in
    let as_headed = at_end (EachOutcome s.slot (IsHeadedAs x s.slot)) x y before in
    let two = subst (λ (j : ImageHeader). AtEach y z (EachOutcome s.slot (ended s.slot l j))) same.header
    (subst (λ (n : Layout). AtEach y z (EachOutcome s.slot (ended s.slot n m.header))) same.layout
    (subst (λ (n : ℕ). AtEach y z (EachOutcome n (ended n m.tables.layout m.header))) same.slot (k (tells told) (map told agrees)))) in
    joins (EachOutcome s.slot P) x y z (none_closed s a b h told agrees)
    (weaker (EachOutcome s.slot (ended s.slot l i)) (EachOutcome s.slot P) y z (λ es g f o. elim (g f o) [
      | inl w ↦ inl (headed_before s.slot x y as_headed f w)
      | inr w ↦
          let k = w.1.1 in
          let was = as_headed k.0 k.1 in
          inr (w.0, (w.1.0, (was.0, was.1, (k.2.0, k.2.1, k.2.2 ∙ ap (λ (hs : List ℕ). take 512 hs ++ k.2.0) was.2))))
    ]) two)

-- ---- a layer that is marked

headed_marked : (slot : ℕ) (es : List Event) → EachOutcome slot IsMarked es → (f : List ℕ) → IsHeadedAs es slot f → IsMarked f
headed_marked slot es marked f k = same_headers f k.0 k.2 (marked k.0 k.1)

pub writes_marked : (s : LayerState) (old new : Seen) → KeepsMark s old new → Tells old → Agrees s old.world → s.marked ≡ true → AtEach old.world.events new.world.events (EachOutcome s.slot IsMarked)
writes_marked s old new h told a marked =
    let es = old.world.events in
    weaker (EachOutcome s.slot (λ f. IsOutcome es s.slot f ⊎ IsMarked f)) (EachOutcome s.slot IsMarked) es new.world.events
    (λ more g f o. elim (g f o) [ inl was ↦ a.stands.marked marked f was | inr on ↦ on ]) ((h told a).first (inl marked))

pub hardens_marked : (s : LayerState) (old new : Seen) → KeepsHeaders s old new → Tells old → Agrees s old.world → s.marked ≡ true → AtEach old.world.events new.world.events (EachOutcome s.slot IsMarked)
hardens_marked s old new h told a marked =
    let es = old.world.events in
    weaker (EachOutcome s.slot (IsHeadedAs es s.slot)) (EachOutcome s.slot IsMarked) es new.world.events
    (λ more g f o. headed_marked s.slot es (a.stands.marked marked) f (g f o)) (h told a).headers

pub closes_marked : (s : LayerState) (old new : Seen) → ClosesLast s old new → Tells old → Agrees s old.world → s.marked ≡ true
    → AtEach old.world.events new.world.events (EachOutcome s.slot (λ f. IsMarked f ⊎ IsClosed s.tables.layout f))
closes_marked s old new h told a marked =
    let es = old.world.events in
    weaker (EachOutcome s.slot (λ f. IsHeadedAs es s.slot f ⊎ IsClosedOver s.tables.layout s.header.cckd es s.slot f)) (EachOutcome s.slot (λ f. IsMarked f ⊎ IsClosed s.tables.layout f)) es new.world.events
    (λ more g f o. elim (g f o) [ inl k ↦ inl (headed_marked s.slot es (a.stands.marked marked) f k) | inr k ↦ inr k.0 ]) (h told a)

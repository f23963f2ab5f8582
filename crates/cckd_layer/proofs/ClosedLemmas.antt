-- An image whose free bytes were written: the same image, and a layer that stands once it is closed.
use Rattle.std.proofs.Common.{◌≡◌, ℕ, ◌+◌, ◌<◌, ◌≤◌, nat_le, true, false, List, [], ◌∷◌, length, refl, sym, ◌∙◌, ap, subst, inl, inr, arith}
use Rattle.std.proofs.lemmas.Bool.{and_parts, leb-true, cond_both}
use Rattle.cckd_shelf.specs.Files.{overlaid}
use Rattle.cckd_shelf.specs.World.{World, IsSure, file_of}
use Rattle.cckd_shelf.specs.Seen.{Seen, Tells}
use Rattle.cckd_shelf.specs.Outcomes.{EachOutcome, AtEach}
use Rattle.cckd_shelf.specs.Stops.{StopsLeave}
use Rattle.cckd_shelf.proofs.MomentLemmas.{weaker}
use Rattle.cckd_shelf.proofs.OutcomeLemmas.{write_made}
use Rattle.cckd_base.specs.declared.order.Order.{Order}
use Rattle.cckd_base.specs.declared.geometry.Layout.{Layout}
use Rattle.cckd_base.specs.Numbers.{bytes_at}
use Rattle.cckd_base.specs.Geometry.{area_of, format_limit}
use Rattle.cckd_base.specs.Entry.{word_at, entry_at}
use Rattle.cckd_base.proofs.HeaderLemmas.{headed_layout, headed_short}
use Rattle.cckd_base.proofs.PlaceLemmas.{part_same, table_inside}
use Rattle.cckd_image.specs.declared.header.CckdHeader.{CckdHeader}
use Rattle.cckd_space.specs.declared.piece.Piece.{Piece}
use Rattle.cckd_space.specs.Pieces.{Has, IsLaid, is_free, is_roomy, is_roomy_from}
use Rattle.cckd_space.proofs.PlaceLemmas.{laid_apart, has_within}
use Rattle.cckd_layer.specs.Held.{NullBytes, Tracks, Later, Keeps}
use Rattle.cckd_layer.specs.Sits.{identifiers_for, IsHeld, Sits}
use Rattle.cckd_layer.specs.Current.{Current}
use Rattle.cckd_layer.specs.Changes.{IsTaken, ChangesFree}
use Rattle.cckd_layer.specs.Marks.{FitsLayout}
use Rattle.cckd_layer.specs.Chain.{link_bytes, first_place, chained, roomy_from, IsClosingAs, IsClosedFrom}
use Rattle.cckd_layer.specs.Stands.{LayerView, Stands}
use Rattle.cckd_layer.proofs.SpanLemmas.{held_busy}
use Rattle.cckd_layer.proofs.HeadLemmas.{headers_kept, headed_kept}
use Rattle.cckd_layer.proofs.NamedLemmas.{named_stays}
use Rattle.cckd_layer.proofs.FillLemmas.{StaysWhole, stays_sits, stays_keeps}
use Rattle.cckd_layer.proofs.CurrentLemmas.{names_stay, current_grown}
use Rattle.cckd_layer.proofs.StandLemmas.{stands_sits, stands_layout}
use Rattle.cckd_layer.proofs.ChainLemmas.{link_long, changes_nothing}
use Rattle.cckd_layer.proofs.RemarkedLemmas.{remarked, remarked_keeps, remarked_sits}

-- a byte that is held lies in no Free piece
held_taken : (ps : List Piece) (end pos n i : ℕ) → IsLaid 0 ps end → IsHeld ps pos n → pos ≤ i → i < pos + n → IsTaken ps i
held_taken ps end pos n i laid h low high q there free = elim (laid_apart 0 ps end h.piece q laid h.there there) [
  | inl same ↦ absurd (let e : true ≡ false = sym free ∙ (sym (ap is_free same) ∙ held_busy h.piece.kind h.kind) in cc)
  | inr (inl a) ↦ inl (omega (arith, a, high, h.high))
  | inr (inr b) ↦ inr (omega (arith, b, low, h.low))
]

-- so a part of what is held is as it was
pub free_part : (ps : List Piece) (end : ℕ) (was file : List ℕ) (pos n p m : ℕ) → IsLaid 0 ps end → ChangesFree ps end was file → IsHeld ps pos n → pos ≤ p → p + m ≤ pos + n → p + m ≤ length was → bytes_at file p m ≡ bytes_at was p m
free_part ps end was file pos n p m laid c h low high within =
    part_same was file p m within c.no_shorter (λ i from to. c.taken i (omega (arith, to, within)) (held_taken ps end pos n i laid h (omega (arith, from, low)) (omega (arith, to, high))))

-- an outcome that sits in the pieces stays whole by writes to free bytes
pub free_whole : (l : Layout) (ps : List Piece) (end : ℕ) (was file : List ℕ) → IsLaid 0 ps end → end ≤ format_limit → ChangesFree ps end was file → Sits l ps was → StaysWhole l was file
free_whole l ps end was file laid short c s =
    let r = s.rests in
    let image = s.whole.image in
    let stays = named_stays l was file (headed_layout (identifiers_for l) l was s.whole.headed) image (record {
      no_shorter = c.no_shorter;
      area = λ p m low high. free_part ps end was file 0 (area_of l.groups) p m laid c r.area (omega arith) (omega (arith, high)) (omega (arith, high, image.area));
      tables = λ g low place p m from to.
          let k = table_inside l (length was) g (word_at l was g) (image.words g low) place in
          free_part ps end was file (word_at l was g) 2048 p m laid c (r.tables g low place) from to (omega (arith, to, k.1));
      tracks = λ t low place p m from to.
          let k = image.snug t low place in
          free_part ps end was file (entry_at l was t).pos (entry_at l was t).size p m laid c (r.tracks t low place) from to (omega (arith, to, k));
    }) in
    let headers = headers_kept was file (omega (arith, image.area)) c.no_shorter
    (λ i low. c.taken i (omega (arith, low, image.area)) (held_taken ps end 0 (area_of l.groups) i laid r.area (omega arith) (omega (arith, low)))) in
    let k = headed_short (identifiers_for l) l was s.whole.headed in
    record {
      whole = record { headed = headed_kept (identifiers_for l) l was file headers c.no_shorter (omega (arith, c.no_longer, k, short)) s.whole.headed; image = stays.image };
      stays = stays;
      headers = headers;
    }

-- what a stop leaves while an image is closed keeps what each outcome held
pub closing_keeps : (null : NullBytes) (d : Tracks) (later : List Later) (v : LayerView) (slot : ℕ) (old new : Seen) (c : CckdHeader) → FitsLayout v.layout c → Tells old → Stands v slot old.world
    → StopsLeave slot (IsClosingAs old.world.events slot v.plan.pieces v.plan.size c) old new → EachOutcome slot (Keeps null v.layout d later) old.world.events
    → AtEach old.world.events new.world.events (EachOutcome slot (Keeps null v.layout d later))
closing_keeps null d later v slot old new c fits told h stops each =
    let l = v.layout in
    weaker (EachOutcome slot (IsClosingAs old.world.events slot v.plan.pieces v.plan.size c)) (EachOutcome slot (Keeps null l d later)) old.world.events new.world.events
    (λ es g f o.
    let k = g f o in
    let chain = k.2.1 in
    let x = free_whole l v.plan.pieces v.plan.size chain.0 k.2.0 h.now.spans.laid h.now.spans.short chain.2 (h.each chain.0 chain.1) in
    let was = stays_keeps null l d later chain.0 k.2.0 x (each chain.0 chain.1) in
    elim k.2.2 [
      | inl same ↦ subst (Keeps null l d later) (sym same) was
      | inr made ↦ subst (Keeps null l d later) (sym made) (remarked_keeps null l d later c k.2.0 (overlaid k.2.0 512 k.0) (remarked l c k.0 k.2.0 k.1 fits x.whole) was)
    ]) (stops told)

-- ---- the chained file

-- each is a Free piece of at least 8 bytes
abbrev pub AreRoomy : List Piece → List Piece → Type 0
AreRoomy ps [] = Unit {0}
AreRoomy ps (r ∷ rs) = Has r ps × (is_roomy r ≡ true) × AreRoomy ps rs

more_roomy : (q : Piece) (ps rs : List Piece) → AreRoomy ps rs → AreRoomy (q ∷ ps) rs
more_roomy q ps [] h = tt
more_roomy q ps (r ∷ rs) h = (inr h.0, h.1, more_roomy q ps rs h.2)

pub are_roomy : (from : ℕ) (ps : List Piece) → AreRoomy ps (roomy_from from ps)
are_roomy from [] = tt
are_roomy from (q ∷ ps) =
    let rest = more_roomy q ps (roomy_from from ps) (are_roomy from ps) in
    cond_both (is_roomy_from from q) (q ∷ roomy_from from ps) (roomy_from from ps) (AreRoomy (q ∷ ps)) (λ e. (inl refl, (and_parts (is_roomy q) (nat_le from q.pos) e).0, rest)) (λ e. rest)

pub chained_changes : (ps : List Piece) (end : ℕ) (order : Order) (rs : List Piece) (was mid : List ℕ) → IsLaid 0 ps end → AreRoomy ps rs → ChangesFree ps end was mid → ChangesFree ps end was (chained order rs mid)
chained_changes ps end order [] was mid laid h c = c
chained_changes ps end order (r ∷ rs) was mid laid h c =
    let link = link_bytes order (first_place rs) r.size in
    let eight = link_long order (first_place rs) r.size in
    let parts = and_parts (is_free r) (nat_le 8 r.size) h.1 in
    let long = leb-true 8 r.size parts.1 in
    let ends = has_within 0 ps end r laid h.0 in
    let leaves = write_made r.pos link mid in
    chained_changes ps end order rs was (overlaid mid r.pos link) laid h.2 (record {
      taken = λ i low taken. elim (taken r h.0 parts.0) [
        | inl before ↦ leaves.before i (omega (arith, low, c.no_shorter)) (omega (arith, before)) ∙ c.taken i low taken
        | inr behind ↦ leaves.behind i (omega (arith, low, c.no_shorter)) (omega (arith, behind, long, eight)) ∙ c.taken i low taken
      ];
      no_shorter = omega (arith, c.no_shorter, leaves.no_shorter);
      no_longer = omega (arith, c.no_longer, leaves.no_longer, eight, ends, long);
    })

-- ---- a layer stands once it is closed

pub stands_closed : (v : LayerView) (slot : ℕ) (w after : World) (c : CckdHeader) → FitsLayout v.layout c → Stands v slot w → IsSure after
    → IsClosedFrom v.layout.order v.plan.pieces c (file_of w slot) (file_of after slot) → EachOutcome slot (λ f. f ≡ file_of after slot) after.events
    → Stands (record v { marked = false }) slot after
stands_closed v slot w after c fits h sure closed alone =
    let l = v.layout in
    let ps = v.plan.pieces in
    let end = v.plan.size in
    let was = file_of w slot in
    let mid = chained l.order (roomy_from 0 ps) was in
    let file = overlaid mid 512 closed.0 in
    let sits = stands_sits v slot w h in
    let changes = chained_changes ps end l.order (roomy_from 0 ps) was was h.now.spans.laid (are_roomy 0 ps) (changes_nothing ps end was) in
    let x = free_whole l ps end was mid h.now.spans.laid h.now.spans.short changes sits in
    let mid_sits = stays_sits l ps was mid x sits in
    let y = remarked l c closed.0 mid closed.1 fits x.whole in
    let layout = stands_layout v slot w h in
    let one = current_grown l v.stages v.claims v.plan was mid layout (names_stay l was mid x.stays) changes.no_shorter (omega (arith, changes.no_longer, h.now.spans.covers)) h.now in
    let two = current_grown l v.stages v.claims v.plan mid file layout (names_stay l mid file y.stays) (omega (arith, y.size)) (omega (arith, y.size, one.spans.covers)) one in
    record {
      sure = sure;
      now = subst (Current l v.stages v.claims v.plan) (sym closed.2) two;
      each = λ f o. subst (Sits l ps) (sym (alone f o ∙ closed.2)) (remarked_sits l ps c mid file y mid_sits);
      marked = λ m. absurd (let e : false ≡ true = m in cc);
    }

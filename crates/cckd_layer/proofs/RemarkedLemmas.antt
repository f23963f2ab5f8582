-- A file whose second header was written anew: the same image, which says what the new header says.
use Rattle.std.proofs.Common.{◌≡◌, ◌⊎◌, ℕ, ◌+◌, ◌/◌, ◌%◌, ◌<◌, ◌≤◌, true, List, length, take, get_or, None, refl, sym, ◌∙◌, ap, subst, inl, inr, arith}
use Rattle.std.specs.Int.{w32}
use Rattle.std.specs.Str.{bytes_eq}
use Rattle.std.proofs.lemmas.Bool.{eqb-true, not-false}
use Rattle.std.proofs.lemmas.List.{length-take, length-append, get_or-take, get_or_append_left}
use Rattle.cckd_shelf.specs.Files.{overlaid}
use Rattle.cckd_shelf.specs.World.{World, IsSure, file_of, after_write, after_sync}
use Rattle.cckd_shelf.specs.Seen.{Seen, Tells}
use Rattle.cckd_shelf.specs.Outcomes.{EachOutcome, AtEach}
use Rattle.cckd_shelf.specs.Stops.{StopsLeave}
use Rattle.cckd_shelf.proofs.MomentLemmas.{weaker}
use Rattle.cckd_shelf.proofs.OutcomeLemmas.{length_overlaid, write_made, sync_leaves_now}
use Rattle.cckd_shelf.proofs.WorldLemmas.{now_wrote, sure_wrote}
use Rattle.cckd_base.specs.declared.order.Order.TheVariants.{Little}
use Rattle.cckd_base.specs.declared.geometry.Layout.{Layout}
use Rattle.cckd_base.specs.Numbers.{bytes_at, number_of}
use Rattle.cckd_base.specs.Geometry.{group_count}
use Rattle.cckd_base.specs.Header.{shadow_identifier, headers_of, identifier, header_heads, header_track_size, header_cylinders, header_device_type, header_sequence, header_null_format, image_order, level_one_count, level_two_count, header_geometry, layout_of, judged_in, header_cases, first_case, header_fault}
use Rattle.cckd_base.specs.Entry.{word_at, entry_at}
use Rattle.cckd_base.proofs.HeaderLemmas.{none_stands, headed_layout}
use Rattle.cckd_base.proofs.PlaceLemmas.{part_same, table_inside, stored_inside}
use Rattle.cckd_base.proofs.WriteLemmas.{StaysImage}
use Rattle.cckd_space.specs.declared.piece.Piece.{Piece}
use Rattle.cckd_image.specs.declared.header.CckdHeader.{CckdHeader}
use Rattle.cckd_image.specs.Image.{order_by, cckd_header_of}
use Rattle.cckd_layer.specs.Held.{NullBytes, Tracks, Later, IsLater, Keeps}
use Rattle.cckd_layer.specs.Sits.{identifiers_for, IsWhole, IsMarked, Sits}
use Rattle.cckd_layer.specs.Current.{Current}
use Rattle.cckd_layer.specs.Changes.{IsRemarked}
use Rattle.cckd_layer.specs.Marks.{SpellsSecond, FitsLayout}
use Rattle.cckd_layer.specs.Stands.{LayerView, Stands}
use Rattle.cckd_layer.proofs.HeadLemmas.{headers_front, headers_written}
use Rattle.cckd_layer.proofs.FillLemmas.{write_fills, fills_part, stays_rests}
use Rattle.cckd_layer.proofs.NamedLemmas.{named_stays}
use Rattle.cckd_layer.proofs.CurrentLemmas.{names_stay, current_grown}
use Rattle.cckd_layer.proofs.StandLemmas.{stands_sits, stands_layout}

-- headers of which only the second half changed
pub record Rehead (old : List ℕ) (c : CckdHeader) (new : List ℕ) : Type 0 where
  pub long : length old ≡ 1024
  pub as_long : length new ≡ 1024
  pub front : (i : ℕ) → i < 512 → get_or new i 0 ≡ get_or old i 0
  pub second : cckd_header_of new ≡ c

front_part : (old new : List ℕ) (c : CckdHeader) (p n : ℕ) → Rehead old c new → p + n ≤ 512 → bytes_at new p n ≡ bytes_at old p n
front_part old new c p n h within = part_same old new p n (omega (arith, within, h.long)) (omega (arith, h.long, h.as_long)) (λ i a b. h.front i (omega (arith, b, within)))

rehead_judged : (identifiers : List (List ℕ)) (l : Layout) (old new : List ℕ) (c : CckdHeader) (len : ℕ) → Rehead old c new → FitsLayout l c → l ≡ layout_of old → header_fault identifiers old len ≡ None → judged_in new ≡ judged_in old
unfolding header_fault
rehead_judged identifiers l old new c len h fits says e =
    let n = none_stands (header_cases identifiers (judged_in old) len) e in
    let id : identifier new ≡ identifier old = front_part old new c 0 8 h (omega arith) in
    let heads : header_heads new ≡ header_heads old = ap (number_of Little w32) (front_part old new c 8 4 h (omega arith)) in
    let size : header_track_size new ≡ header_track_size old = ap (number_of Little w32) (front_part old new c 12 4 h (omega arith)) in
    let devtype : header_device_type new ≡ header_device_type old = h.front 16 (omega arith) in
    let sequence : header_sequence new ≡ header_sequence old = h.front 17 (omega arith) in
    let cyls : header_cylinders new ≡ header_cylinders old = ap (λ (x : CckdHeader). x.cyls) h.second ∙ (fits.cylinders ∙ ap (λ (x : Layout). x.geo.cyls) says) in
    let geo : l.geo ≡ header_geometry old = ap (λ (x : Layout). x.geo) says in
    let words_old : level_one_count old ≡ group_count (header_geometry old) = eqb-true (level_one_count old) (group_count (header_geometry old)) (not-false _ n.1.1.1.1.1.1.0) in
    let entries_old : level_two_count old ≡ 256 = eqb-true (level_two_count old) 256 (not-false _ n.1.1.1.1.1.1.1.0) in
    let words : level_one_count new ≡ level_one_count old = ap (λ (x : CckdHeader). x.words) h.second ∙ (fits.words ∙ (ap group_count geo ∙ sym words_old)) in
    let entries : level_two_count new ≡ level_two_count old = ap (λ (x : CckdHeader). x.entries) h.second ∙ (fits.entries ∙ sym entries_old) in
    let format : header_null_format new ≡ header_null_format old = ap (λ (x : CckdHeader). x.null_fmt) h.second ∙ (fits.format ∙ ap (λ (x : Layout). x.null_fmt) says) in
    λ i. record {
      id = id i;
      geometry = record { devtype = devtype i; heads = heads i; cyls = cyls i; track_size = size i };
      sequence = sequence i;
      words = words i;
      entries = entries i;
      null_fmt = format i;
    }

rehead_fault : (identifiers : List (List ℕ)) (old new : List ℕ) (len : ℕ) → judged_in new ≡ judged_in old → header_fault identifiers old len ≡ None → header_fault identifiers new len ≡ None
unfolding header_fault
rehead_fault identifiers old new len same e = ap (λ j. first_case (header_cases identifiers j len)) same ∙ e

rehead_says : (identifiers : List (List ℕ)) (l : Layout) (old new : List ℕ) (c : CckdHeader) (len : ℕ) → Rehead old c new → FitsLayout l c → l ≡ layout_of old → header_fault identifiers old len ≡ None → l ≡ layout_of new
rehead_says identifiers l old new c len h fits says e =
    let same = rehead_judged identifiers l old new c len h fits says e in
    let order : image_order new ≡ image_order old = ap (λ (x : CckdHeader). order_by x.options) h.second ∙ (fits.order ∙ ap (λ (x : Layout). x.order) says) in
    says ∙ sym (λ i. record {
      order = order i;
      geo = (same i).geometry;
      groups = group_count (same i).geometry;
      shadow = bytes_eq (same i).id shadow_identifier;
      null_fmt = (same i).null_fmt;
    })

-- the headers of the file
rehead_of : (bytes was : List ℕ) (c : CckdHeader) → 1024 ≤ length was → SpellsSecond bytes c → Rehead (headers_of was) c (headers_of (overlaid was 512 bytes))
rehead_of bytes was c long spells =
    let old = headers_of was in
    let new = headers_of (overlaid was 512 bytes) in
    let front = headers_front was long in
    let size : length old ≡ 1024 = omega (arith, ap length front, length-take 1024 was, long) in
    let is = headers_written bytes was long spells.long in
    let half : length (take 512 old) ≡ 512 = omega (arith, length-take 512 old, size) in
    record {
      long = size;
      as_long = omega (arith, ap length is, length-append (take 512 old) bytes, half, spells.long);
      front = λ i low. ap (λ (hs : List ℕ). get_or hs i 0) is ∙ (get_or_append_left (take 512 old) bytes 0 i (omega (arith, low, half)) ∙ get_or-take 512 old i 0 low);
      second = ap cckd_header_of is ∙ spells.back (take 512 old) half;
    }

-- the file with it is the same image
pub record Remarked (l : Layout) (c : CckdHeader) (was file : List ℕ) : Type 0 where
  pub whole : IsWhole l file
  pub stays : StaysImage l was file
  pub second : cckd_header_of (headers_of file) ≡ c
  pub size : length file ≡ length was

pub remarked : (l : Layout) (c : CckdHeader) (bytes was : List ℕ) → SpellsSecond bytes c → FitsLayout l c → IsWhole l was → Remarked l c was (overlaid was 512 bytes)
remarked l c bytes was spells fits whole =
    let file = overlaid was 512 bytes in
    let long : 1024 ≤ length was = omega (arith, whole.image.area) in
    let size : length file ≡ length was = omega (arith, length_overlaid was 512 bytes, spells.long, long) in
    let fills = write_fills 512 bytes was file (write_made 512 bytes was) in
    let part : (p m : ℕ) → 1024 ≤ p → p + m ≤ length was → bytes_at file p m ≡ bytes_at was p m = λ p m far within. fills_part 512 (length bytes) was file p m fills (inr (omega (arith, far, spells.long))) within in
    let h = rehead_of bytes was c long spells in
    let old = headers_of was in
    let judged = rehead_judged (identifiers_for l) l old (headers_of file) c (length was) h fits whole.headed.says whole.headed.sound in
    let layout = headed_layout (identifiers_for l) l was whole.headed in
    let stays = named_stays l was file layout whole.image (record {
      no_shorter = omega (arith, size);
      area = λ p m low high. part p m low (omega (arith, high, whole.image.area));
      tables = λ g low place p m from to. let k = table_inside l (length was) g (word_at l was g) (whole.image.words g low) place in part p m (omega (arith, k.0, from)) (omega (arith, k.1, to));
      tracks = λ t low place p m from to.
          let k = stored_inside l (length was) t (entry_at l was t) (whole.image.entries t low) place in
          let n = whole.image.snug t low place in
          part p m (omega (arith, k.behind, from)) (omega (arith, n, to));
    }) in
    record {
      whole = record {
        headed = record {
          sound = subst (λ (n : ℕ). header_fault (identifiers_for l) (headers_of file) n ≡ None) (sym size) (rehead_fault (identifiers_for l) old (headers_of file) (length was) judged whole.headed.sound);
          says = rehead_says (identifiers_for l) l old (headers_of file) c (length was) h fits whole.headed.says whole.headed.sound;
        };
        image = stays.image;
      };
      stays = stays;
      second = h.second;
      size = size;
    }

pub remarked_keeps : (null : NullBytes) (l : Layout) (d : Tracks) (later : List Later) (c : CckdHeader) (was file : List ℕ) → Remarked l c was file → Keeps null l d later was → Keeps null l d later file
remarked_keeps null l d later c was file x k = record {
  whole = x.whole;
  lies = record { each = λ t low. subst (λ o. (o ≡ d t) ⊎ IsLater later t o) (sym (x.stays.stored null t low)) (k.lies.each t low) };
}

pub remarked_sits : (l : Layout) (ps : List Piece) (c : CckdHeader) (was file : List ℕ) → Remarked l c was file → Sits l ps was → Sits l ps file
remarked_sits l ps c was file x s = record { whole = x.whole; rests = stays_rests l ps was file x.stays s.rests }

pub remarked_marked : (l : Layout) (c : CckdHeader) (was file : List ℕ) → Remarked l c was file → c.options / 128 % 2 ≡ 1 → IsMarked file
remarked_marked l c was file x on = record { on = ap (λ (h : CckdHeader). h.options / 128 % 2) x.second ∙ on }

-- at each operation of such a write
pub remark_keeps : (null : NullBytes) (d : Tracks) (later : List Later) (l : Layout) (slot : ℕ) (old new : Seen) (bytes : List ℕ) (c : CckdHeader) → SpellsSecond bytes c → FitsLayout l c → Tells old
    → StopsLeave slot (IsRemarked old.world.events slot bytes) old new → EachOutcome slot (Keeps null l d later) old.world.events → AtEach old.world.events new.world.events (EachOutcome slot (Keeps null l d later))
remark_keeps null d later l slot old new bytes c spells fits told stops each =
    weaker (EachOutcome slot (IsRemarked old.world.events slot bytes)) (EachOutcome slot (Keeps null l d later)) old.world.events new.world.events
    (λ es h f o.
    let k = h f o in
    let was = each k.0 k.1 in
    elim k.2 [
      | inl same ↦ subst (Keeps null l d later) (sym same) was
      | inr made ↦ subst (Keeps null l d later) (sym made) (remarked_keeps null l d later c k.0 (overlaid k.0 512 bytes) (remarked l c bytes k.0 spells fits was.whole) was)
    ]) (stops told)

-- A layer stands behind its opening mark, and each outcome says that it was opened.
pub stands_marked : (v : LayerView) (slot : ℕ) (w after : World) (bytes : List ℕ) (c : CckdHeader) → SpellsSecond bytes c → FitsLayout v.layout c → c.options / 128 % 2 ≡ 1 → Stands v slot w
    → after ≡ after_sync slot (after_write slot 512 bytes w) → Stands (record v { marked = true }) slot after
stands_marked v slot w after bytes c spells fits on h made =
    let l = v.layout in
    let was = file_of w slot in
    let mid = after_write slot 512 bytes w in
    let sits = stands_sits v slot w h in
    let x = remarked l c bytes was spells fits sits.whole in
    let file = overlaid was 512 bytes in
    let now : file_of after slot ≡ file = ap (λ (y : World). file_of y slot) made ∙ now_wrote slot 512 bytes w mid refl in
    let sure : IsSure mid = sure_wrote slot 512 bytes w mid refl h.sure in
    let alone : EachOutcome slot (λ f. f ≡ file) after.events =
    subst (λ (y : World). EachOutcome slot (λ f. f ≡ file) y.events) (sym made) (λ f o. sync_leaves_now slot mid.events sure f o ∙ now_wrote slot 512 bytes w mid refl) in
    record {
      sure = subst IsSure (sym made) sure;
      now = subst (Current l v.stages v.claims v.plan) (sym now)
          (current_grown l v.stages v.claims v.plan was file (stands_layout v slot w h) (names_stay l was file x.stays) (omega (arith, x.size)) (omega (arith, x.size, h.now.spans.covers)) h.now);
      each = λ f o. subst (Sits l v.plan.pieces) (sym (alone f o)) (remarked_sits l v.plan.pieces c was file x sits);
      marked = λ m f o. subst IsMarked (sym (alone f o)) (remarked_marked l c was file x on);
    }

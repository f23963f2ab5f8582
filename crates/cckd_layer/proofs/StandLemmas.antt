-- What holds between calls is kept by bytes that are put to a free place.
use Rattle.std.proofs.Common.{◌≡◌, ◌⊎◌, ℕ, ◌+◌, ◌%◌, ◌<◌, ◌≤◌, max, true, List, ◌∷◌, length, map, Option, Some, None, IsSome, refl, sym, ◌∙◌, ap, subst, inl, inr, arith}
use Rattle.std.specs.Option.{option_map, unwrap_or}
use Rattle.cckd_shelf.specs.Files.{overlaid}
use Rattle.cckd_shelf.specs.World.{World, file_of, after_write, after_sync}
use Rattle.cckd_shelf.specs.Outcomes.{WriteLeaves, EachOutcome}
use Rattle.cckd_shelf.proofs.OutcomeLemmas.{sync_step, sync_leaves_now, write_step, write_made, now_is_outcome, length_overlaid, overlaid_within_range}
use Rattle.cckd_shelf.proofs.WorldLemmas.{now_wrote, sure_wrote}
use Rattle.cckd_base.specs.declared.geometry.Layout.{Layout}
use Rattle.cckd_base.specs.declared.entry.L2Entry.{L2Entry}
use Rattle.cckd_base.specs.declared.space.Extent.{Extent}
use Rattle.cckd_base.specs.Numbers.{bytes_at}
use Rattle.cckd_base.specs.Geometry.{track_count, area_of, format_limit, IsLayout}
use Rattle.cckd_base.specs.Entry.{word_at, entry_at, bytes_by_entry}
use Rattle.cckd_base.specs.Survey.{header_space, table_space}
use Rattle.cckd_base.specs.Image.{IsPlace}
use Rattle.cckd_base.proofs.HeaderLemmas.{headed_layout, headed_short}
use Rattle.cckd_base.proofs.PlaceLemmas.{stored_inside, bytes_stay, inside_first}
use Rattle.cckd_space.specs.declared.piece.Piece.{Piece}
use Rattle.cckd_space.specs.Pieces.{Has, IsLaid, first, has_room, aligned_up, end_place, used_piece, merged, released}
use Rattle.cckd_space.specs.Plan.{Plan, Becomes, place_of}
use Rattle.cckd_space.proofs.PlaceLemmas.{placed_clear, has_within}
use Rattle.cckd_tables.specs.Staging.{Stages, IsStaged, IsMoved, entry_for, place_for}
use Rattle.cckd_layer.specs.Held.{NullBytes, held}
use Rattle.cckd_layer.specs.Sits.{identifiers_for, IsMarked, held_kind, IsHeld, Rests, Sits}
use Rattle.cckd_layer.specs.Current.{stored_space, claim, IsInUse, IsReplaced, IsPlaced, leaving_piece, placed_piece, Accounts, Current}
use Rattle.cckd_layer.specs.Changes.{Fills}
use Rattle.cckd_layer.specs.Puts.{IsReserved}
use Rattle.cckd_layer.specs.Stands.{LayerView, Stands}
use Rattle.cckd_layer.proofs.AccountLemmas.{accounts_released}
use Rattle.cckd_layer.proofs.SpanLemmas.{KeepsHeld, held_placed, keeps_sits, spans_released}
use Rattle.cckd_layer.proofs.FillLemmas.{StaysWhole, filled_whole, rests_free, stays_sits, stays_marked, write_fills, fills_part}
use Rattle.cckd_layer.proofs.CurrentLemmas.{names_stay, current_grown, current_placed}

-- the file now sits in the pieces
pub stands_sits : (v : LayerView) (slot : ℕ) (w : World) → Stands v slot w → Sits v.layout v.plan.pieces (file_of w slot)
stands_sits v slot w s = s.each (file_of w slot) (now_is_outcome w.events slot)

pub stands_layout : (v : LayerView) (slot : ℕ) (w : World) → Stands v slot w → IsLayout v.layout
stands_layout v slot w s = headed_layout (identifiers_for v.layout) v.layout (file_of w slot) (stands_sits v slot w s).whole.headed

-- a place is a multiple of 8
pub place_aligned : (need : ℕ) (ps : List Piece) → place_of need ps % 8 ≡ 0
place_aligned need ps = by (first (has_room need) ps) refl
  where
    by : (o : Option Piece) → first (has_room need) ps ≡ o → place_of need ps % 8 ≡ 0
    by None e = let p : place_of need ps ≡ end_place ps = ap (λ (o : Option Piece). unwrap_or (option_map (λ p. aligned_up p.pos) o) (end_place ps)) e in omega (arith, p)
    by (Some q) e = let p : place_of need ps ≡ aligned_up q.pos = ap (λ (o : Option Piece). unwrap_or (option_map (λ p. aligned_up p.pos) o) (end_place ps)) e in omega (arith, p)

-- what a layer keeps once a space is claimed
abbrev pub with_claim : ℕ → ℕ → Plan → LayerView → LayerView
with_claim pos n plan v = record v { claims = claim pos n ∷ v.claims; plan = plan }

-- bytes that were put, with all else as it was
pub record HasPut (v : LayerView) (pos : ℕ) (bytes was file : List ℕ) : Type 0 where
  pub whole : StaysWhole v.layout was file
  pub map : (null : NullBytes) (t : ℕ) → t < track_count v.layout.geo → held null v.layout v.stages file t ≡ held null v.layout v.stages was t
  pub has : bytes_at file pos (length bytes) ≡ bytes
  pub behind : area_of v.layout.groups ≤ pos
  pub aligned : pos % 8 ≡ 0
  pub place : IsPlace pos
  pub within : pos + length bytes ≤ length file
  pub longer : length was ≤ length file

-- a write of bytes that were placed leaves an outcome whole
put_whole : (l : Layout) (plan : Plan) (n : ℕ) (was file : List ℕ) → 0 < n → IsLaid 0 plan.pieces plan.size → place_of n plan.pieces + n ≤ max plan.limit plan.size → plan.size ≤ format_limit → plan.limit ≤ format_limit
    → Fills (place_of n plan.pieces) n was file → Sits l plan.pieces was → StaysWhole l was file
put_whole l plan n was file some laid within short limited fills sits =
    let k = headed_short (identifiers_for l) l was sits.whole.headed in
    filled_whole l plan.pieces was file (place_of n plan.pieces) n some (placed_clear n plan.pieces plan.size laid)
    (omega (arith, fills.no_longer, k, within, short, limited)) fills sits

-- the layer's map stays
put_map : (l : Layout) (s : Stages) (claims : List Extent) (plan : Plan) (n : ℕ) (was file : List ℕ) → IsLaid 0 plan.pieces plan.size → Current l s claims plan was → StaysWhole l was file
    → Fills (place_of n plan.pieces) n was file → (null : NullBytes) (t : ℕ) → t < track_count l.geo → held null l s file t ≡ held null l s was t
put_map l s claims plan n was file laid c whole fills null t low = by (entry_for t s.entries) refl
  where
    by : (o : Option L2Entry) → entry_for t s.entries ≡ o → held null l s file t ≡ held null l s was t
    by None e =
        ap (λ (o : Option L2Entry). bytes_by_entry null l file t (unwrap_or o (entry_at l file t))) e
        ∙ (whole.stays.stored null t low ∙ sym (ap (λ (o : Option L2Entry). bytes_by_entry null l was t (unwrap_or o (entry_at l was t))) e))
    by (Some x) e =
        let k = c.entries t x e in
        ap (λ (o : Option L2Entry). bytes_by_entry null l file t (unwrap_or o (entry_at l file t))) e
        ∙ (bytes_stay null l was file t x (λ place.
        let f = stored_inside l (length was) t x k.fits place in
        let there = c.accounts.reserved.there (stored_space t x) (inl (inr (t, record { entry = x; named = e; place = place; is = refl }))) in
        let far = (placed_clear n plan.pieces plan.size laid).each (placed_piece (stored_space t x)) there refl in
        fills_part (place_of n plan.pieces) n was file x.pos x.len fills (inside_first x.pos x.size (place_of n plan.pieces) n far x.pos x.len (omega arith) (omega (arith, f.holds))) f.within)
        ∙ sym (ap (λ (o : Option L2Entry). bytes_by_entry null l was t (unwrap_or o (entry_at l was t))) e))

-- what a place is, behind the header area and inside the format limit
is_place : (pos n area : ℕ) → 1024 ≤ area → area ≤ pos → pos + n ≤ format_limit → IsPlace pos
is_place pos n area some behind short = (λ e. omega (arith, some, behind, e), λ e. omega (arith, short, e))

pub put_done : (v : LayerView) (slot : ℕ) (w : World) (new : Plan) (bytes : List ℕ) → 0 < length bytes → Stands v slot w → IsReserved (length bytes) v.plan new
    → HasPut v (place_of (length bytes) v.plan.pieces) bytes (file_of w slot) (overlaid (file_of w slot) (place_of (length bytes) v.plan.pieces) bytes)
put_done v slot w new bytes some s r =
    let n = length bytes in
    let pos = place_of n v.plan.pieces in
    let was = file_of w slot in
    let file = overlaid was pos bytes in
    let spans = s.now.spans in
    let fills = write_fills pos bytes was file (write_made pos bytes was) in
    let sits = stands_sits v slot w s in
    let whole = put_whole v.layout v.plan n was file some spans.laid r.within spans.short spans.limited fills sits in
    let free = rests_free v.layout v.plan.pieces was pos n some (placed_clear n v.plan.pieces v.plan.size spans.laid) sits.rests in
    record {
      whole = whole;
      map = put_map v.layout v.stages v.claims v.plan n was file spans.laid s.now whole fills;
      has = overlaid_within_range was pos bytes;
      behind = free.area;
      aligned = place_aligned n v.plan.pieces;
      place = is_place pos n (area_of v.layout.groups) (omega arith) free.area (omega (arith, r.within, spans.short, spans.limited));
      within = omega (arith, length_overlaid was pos bytes);
      longer = fills.no_shorter;
    }

-- a layer stands once bytes are put
pub stands_put : (v : LayerView) (slot : ℕ) (w after : World) (new : Plan) (bytes : List ℕ) → 0 < length bytes → length bytes % 8 ≡ 0 → Stands v slot w → IsReserved (length bytes) v.plan new → IsLaid 0 new.pieces new.size
    → after ≡ after_write slot (place_of (length bytes) v.plan.pieces) bytes w
    → Stands (with_claim (place_of (length bytes) v.plan.pieces) (length bytes) new v) slot after
stands_put v slot w after new bytes some even s r laid made =
    let n = length bytes in
    let pos = place_of n v.plan.pieces in
    let was = file_of w slot in
    let file = overlaid was pos bytes in
    let spans = s.now.spans in
    let now : file_of after slot ≡ file = now_wrote slot pos bytes w after made in
    let done = put_done v slot w new bytes some s r in
    let area = (stands_sits v slot w s).whole.image.area in
    let placed = current_placed v.layout v.stages v.claims v.plan new was n some even (omega (arith, area, spans.covers)) r.becomes laid r.within s.now in
    let there = placed.accounts.reserved.there (claim pos n) (inr (inl refl)) in
    let ends = has_within 0 new.pieces new.size (placed_piece (claim pos n)) laid there in
    let size : length file ≤ new.size = omega (arith, length_overlaid was pos bytes, ends, placed.spans.covers) in
    let grown = current_grown v.layout v.stages (claim pos n ∷ v.claims) new was file (stands_layout v slot w s) (names_stay v.layout was file done.whole.stays) done.longer size placed in
    let P : List ℕ → Type 0 = λ f. Sits v.layout v.plan.pieces f in
    let step : (old f : List ℕ) → P old → WriteLeaves pos bytes old f → StaysWhole v.layout old f = λ old f h leaves.
    put_whole v.layout v.plan n old f some spans.laid r.within spans.short spans.limited (write_fills pos bytes old f leaves) h in
    let keeps = subst (λ (qs : List Piece). KeepsHeld v.plan.pieces qs) (sym r.becomes.made) (held_placed n v.plan.pieces) in
    record {
      sure = sure_wrote slot pos bytes w after made s.sure;
      now = subst (Current v.layout v.stages (claim pos n ∷ v.claims) new) (sym now) grown;
      each = subst (λ (x : World). EachOutcome slot (Sits v.layout new.pieces) x.events) (sym made)
          (write_step P (Sits v.layout new.pieces) slot pos bytes w.events s.each
          (λ old f h leaves. keeps_sits v.layout v.plan.pieces new.pieces f keeps (stays_sits v.layout v.plan.pieces old f (step old f h leaves) h)));
      marked = λ m. subst (λ (x : World). EachOutcome slot IsMarked x.events) (sym made)
          (write_step (λ f. P f × IsMarked f) IsMarked slot pos bytes w.events (λ f h. (s.each f h, s.marked m f h))
          (λ old f h leaves. stays_marked v.layout old f (step old f h.0 leaves) h.1));
    }

-- ---- at each operation

-- ---- a space is placed, and nothing is written

pub stands_placed : (v : LayerView) (slot : ℕ) (w : World) (new : Plan) (n : ℕ) → 0 < n → n % 8 ≡ 0 → Stands v slot w → IsReserved n v.plan new → IsLaid 0 new.pieces new.size → Stands (with_claim (place_of n v.plan.pieces) n new v) slot w
stands_placed v slot w new n some even s r laid =
    let keeps = subst (λ (qs : List Piece). KeepsHeld v.plan.pieces qs) (sym r.becomes.made) (held_placed n v.plan.pieces) in
    let area = (stands_sits v slot w s).whole.image.area in
    record {
      sure = s.sure;
      now = current_placed v.layout v.stages v.claims v.plan new (file_of w slot) n some even (omega (arith, area, s.now.spans.covers)) r.becomes laid r.within s.now;
      each = λ f o. keeps_sits v.layout v.plan.pieces new.pieces f keeps (s.each f o);
      marked = s.marked;
    }

-- ---- the file now rests in the pieces

pub moved_or_not : (g : ℕ) (s : Stages) → IsMoved g s ⊎ (IsMoved g s → ⊥)
moved_or_not g s = by (place_for g s.words)
  where
    by : (o : Option ℕ) → IsSome o ⊎ (IsSome o → ⊥)
    by (Some x) = inl refl
    by None = inr (λ h. cc)

pub staged_or_not : (t : ℕ) (s : Stages) → IsStaged t s ⊎ (IsStaged t s → ⊥)
staged_or_not t s = by (entry_for t s.entries)
  where
    by : (o : Option L2Entry) → IsSome o ⊎ (IsSome o → ⊥)
    by (Some x) = inl refl
    by None = inr (λ h. cc)

pub held_as : (ps : List Piece) (p : Piece) → Has p ps → held_kind p.kind ≡ true → IsHeld ps p.pos p.size
held_as ps p h k = record { piece = p; there = h; kind = k; low = omega arith; high = omega arith }

pub current_rests : (l : Layout) (s : Stages) (claims : List Extent) (plan : Plan) (file : List ℕ) → Current l s claims plan file → Rests l plan.pieces file
current_rests l s claims plan file c = record {
  area = held_as plan.pieces (used_piece (header_space l.groups)) (c.accounts.used.there (header_space l.groups) (inl refl)) refl;
  tables = λ g low place.
      let x = table_space g (word_at l file g) in
      elim (moved_or_not g s) [
        | inl moved ↦ held_as plan.pieces (leaving_piece x) (c.accounts.leaving.there x (inl (g, moved, record { low = low; place = place; is = refl }))) refl
        | inr stays ↦ held_as plan.pieces (used_piece x) (c.accounts.used.there x (inr (inl (g, stays, record { low = low; place = place; is = refl })))) refl
      ];
  tracks = λ t low place.
      let x = stored_space t (entry_at l file t) in
      elim (staged_or_not t s) [
        | inl staged ↦ held_as plan.pieces (leaving_piece x) (c.accounts.leaving.there x (inr (t, staged, record { low = low; place = place; is = refl }))) refl
        | inr stays ↦ held_as plan.pieces (used_piece x) (c.accounts.used.there x (inr (inr (t, stays, record { low = low; place = place; is = refl })))) refl
      ];
}

-- ---- a sync was made, and what is Pending is released

pub current_released : (l : Layout) (s : Stages) (claims : List Extent) (old new : Plan) (file : List ℕ) → Becomes old new (merged (map released old.pieces)) old.size → IsLaid 0 new.pieces new.size
    → Current l s claims old file → Current l s claims new file
current_released l s claims old new file b laid c = record {
  spans = spans_released old new file b laid c.spans;
  accounts = subst (Accounts (IsInUse l s file) (IsReplaced l s file) (IsPlaced s claims)) (sym b.made) (accounts_released (IsInUse l s file) (IsReplaced l s file) (IsPlaced s claims) old.pieces c.accounts);
  claims_are = c.claims_are;
  entries = c.entries;
  words = c.words;
  lacks = c.lacks;
}

-- Each outcome is the file now, so only what that names has to be held.
pub stands_released : (v : LayerView) (new : Plan) (slot : ℕ) (w : World) → Becomes v.plan new (merged (map released v.plan.pieces)) v.plan.size → IsLaid 0 new.pieces new.size
    → EachOutcome slot (λ f. f ≡ file_of w slot) w.events → Stands v slot w → Stands (record v { plan = new }) slot w
stands_released v new slot w b laid alone h =
    let now = current_released v.layout v.stages v.claims v.plan new (file_of w slot) b laid h.now in
    record {
      sure = h.sure;
      now = now;
      each = λ f o. record {
        whole = (h.each f o).whole;
        rests = subst (Rests v.layout new.pieces) (sym (alone f o)) (current_rests v.layout v.stages v.claims new (file_of w slot) now);
      };
      marked = h.marked;
    }

-- a sync changes nothing that holds, and leaves the file now alone
pub stands_synced : (v : LayerView) (slot : ℕ) (w after : World) → after ≡ after_sync slot w → Stands v slot w → Stands v slot after × EachOutcome slot (λ f. f ≡ file_of after slot) after.events
stands_synced v slot w after made h =
    let alone = sync_leaves_now slot w.events h.sure in
    subst (λ (x : World). Stands v slot x × EachOutcome slot (λ f. f ≡ file_of x slot) x.events) (sym made)
    (record { sure = h.sure; now = h.now; each = sync_step (Sits v.layout v.plan.pieces) slot slot w.events h.each; marked = λ m. sync_step IsMarked slot slot w.events (h.marked m) }, alone)

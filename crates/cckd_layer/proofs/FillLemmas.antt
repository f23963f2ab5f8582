-- A file that sits in pieces, once bytes are written that none of its spaces has.
use Rattle.std.proofs.Common.{◌≡◌, ◌⊎◌, ℕ, ◌+◌, ◌/◌, ◌%◌, ◌<◌, ◌≤◌, List, length, refl, sym, subst, inl, inr, arith}
use Rattle.cckd_shelf.specs.Outcomes.{WriteLeaves}
use Rattle.cckd_base.specs.declared.geometry.Layout.{Layout}
use Rattle.cckd_base.specs.declared.entry.L2Entry.{L2Entry}
use Rattle.cckd_base.specs.Geometry.{area_of, format_limit}
use Rattle.cckd_base.specs.Numbers.{bytes_at}
use Rattle.cckd_base.specs.Entry.{word_at, entry_at}
use Rattle.cckd_base.specs.Header.{headers_of, header_options}
use Rattle.cckd_base.specs.Image.{IsPlace, ShareNoByte}
use Rattle.cckd_base.proofs.HeaderLemmas.{headed_layout}
use Rattle.cckd_base.proofs.PlaceLemmas.{inside_first, part_same}
use Rattle.cckd_base.proofs.WriteLemmas.{IsFree, StaysImage, free_write}
use Rattle.cckd_space.specs.declared.piece.Piece.{Piece}
use Rattle.cckd_space.specs.Plan.{IsClear}
use Rattle.cckd_layer.specs.Held.{NullBytes, Tracks, Later, IsLater, Keeps}
use Rattle.cckd_layer.specs.Sits.{identifiers_for, IsWhole, IsMarked, IsHeld, Rests, Sits}
use Rattle.cckd_layer.specs.Changes.{Fills}
use Rattle.cckd_layer.proofs.SpanLemmas.{held_busy}
use Rattle.cckd_layer.proofs.HeadLemmas.{headers_kept, headed_kept}

-- what is held shares no byte with what is clear
held_apart : (ps : List Piece) (pos n at m : ℕ) → IsClear ps at m → IsHeld ps pos n → ShareNoByte pos n at m
held_apart ps pos n at m clear h =
    inside_first h.piece.pos h.piece.size at m (clear.each h.piece h.there (held_busy h.piece.kind h.kind)) pos n h.low h.high

-- so do the spaces of a file that rests in the pieces
pub rests_free : (l : Layout) (ps : List Piece) (file : List ℕ) (at m : ℕ) → 0 < m → IsClear ps at m → Rests l ps file → IsFree l at m file
rests_free l ps file at m some clear r = record {
  area = elim (held_apart ps 0 (area_of l.groups) at m clear r.area) [ inl h ↦ omega (arith, h) | inr h ↦ absurd (omega (arith, h, some)) ];
  tables = λ g low place. held_apart ps (word_at l file g) 2048 at m clear (r.tables g low place);
  tracks = λ t low place. held_apart ps (entry_at l file t).pos (entry_at l file t).size at m clear (r.tracks t low place);
}

-- the same words, entries and stored bytes, and the same headers
pub record StaysWhole (l : Layout) (was file : List ℕ) : Type 0 where
  pub whole : IsWhole l file
  pub stays : StaysImage l was file
  pub headers : headers_of file ≡ headers_of was

pub filled_whole : (l : Layout) (ps : List Piece) (was file : List ℕ) (at m : ℕ) → 0 < m → IsClear ps at m → length file ≤ format_limit → Fills at m was file → Sits l ps was → StaysWhole l was file
filled_whole l ps was file at m some clear short fills s =
    let free = rests_free l ps was at m some clear s.rests in
    let headers = headers_kept was file (omega (arith, s.whole.image.area)) fills.no_shorter (λ i low. fills.outside i (omega (arith, low, s.whole.image.area)) (inl (omega (arith, low, free.area)))) in
    let stays = free_write l was file at m (headed_layout (identifiers_for l) l was s.whole.headed) s.whole.image free (record { outside = fills.outside; no_shorter = fills.no_shorter }) in
    record {
      whole = record { headed = headed_kept (identifiers_for l) l was file headers fills.no_shorter short s.whole.headed; image = stays.image };
      stays = stays;
      headers = headers;
    }

-- a file that is whole and has the same words and entries rests where the other did
pub stays_rests : (l : Layout) (ps : List Piece) (was file : List ℕ) → StaysImage l was file → Rests l ps was → Rests l ps file
stays_rests l ps was file stays r = record {
  area = r.area;
  tables = λ g low. subst (λ (x : ℕ). IsPlace x → IsHeld ps x 2048) (sym (stays.word g low)) (r.tables g low);
  tracks = λ t low. subst (λ (e : L2Entry). IsPlace e.pos → IsHeld ps e.pos e.size) (sym (stays.entry t low)) (r.tracks t low);
}

pub stays_sits : (l : Layout) (ps : List Piece) (was file : List ℕ) → StaysWhole l was file → Sits l ps was → Sits l ps file
stays_sits l ps was file x s = record { whole = x.whole; rests = stays_rests l ps was file x.stays s.rests }

pub stays_marked : (l : Layout) (was file : List ℕ) → StaysWhole l was file → IsMarked was → IsMarked file
stays_marked l was file x m = record { on = subst (λ (hs : List ℕ). header_options hs / 128 % 2 ≡ 1) (sym x.headers) m.on }

-- and keeps what it held
pub stays_keeps : (null : NullBytes) (l : Layout) (d : Tracks) (later : List Later) (was file : List ℕ) → StaysWhole l was file → Keeps null l d later was → Keeps null l d later file
stays_keeps null l d later was file x k = record {
  whole = x.whole;
  lies = record { each = λ t low. subst (λ o. (o ≡ d t) ⊎ IsLater later t o) (sym (x.stays.stored null t low)) (k.lies.each t low) };
}

-- a write that was made, in whole, in part or not, fills its range
pub write_fills : (pos : ℕ) (bytes was file : List ℕ) → WriteLeaves pos bytes was file → Fills pos (length bytes) was file
write_fills pos bytes was file leaves = record {
  outside = λ i low far. elim far [ inl h ↦ leaves.before i low h | inr h ↦ leaves.behind i low h ];
  no_shorter = leaves.no_shorter;
  no_longer = leaves.no_longer;
}

pub fills_nothing : (pos n : ℕ) (was : List ℕ) → Fills pos n was was
fills_nothing pos n was = record { outside = λ i low far. refl; no_shorter = omega arith; no_longer = omega arith }

-- bytes beside the range stay
pub fills_part : (pos n : ℕ) (was file : List ℕ) (at m : ℕ) → Fills pos n was file → ShareNoByte at m pos n → at + m ≤ length was → bytes_at file at m ≡ bytes_at was at m
fills_part pos n was file at m fills far within =
    part_same was file at m within fills.no_shorter (λ i a b. fills.outside i (omega (arith, b, within)) (elim far [
      | inl h ↦ inl (omega (arith, b, h))
      | inr h ↦ inr (omega (arith, a, h))
    ]))

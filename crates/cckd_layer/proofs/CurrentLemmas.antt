-- The file now and the pieces, once a space is placed and bytes are written beside all that is named.
use Rattle.std.proofs.Common.{◌≡◌, ◌⊎◌, ℕ, ◌+◌, ◌/◌, ◌%◌, ◌<◌, ◌≤◌, max, List, ◌∷◌, length, Option, Some, None, IsSome, refl, sym, ◌∙◌, ap, subst, inl, inr, arith}
use Rattle.cckd_base.specs.declared.geometry.Layout.{Layout}
use Rattle.cckd_base.specs.declared.entry.L2Entry.{L2Entry}
use Rattle.cckd_base.specs.declared.space.Extent.{Extent}
use Rattle.cckd_base.specs.Geometry.{track_count, IsLayout}
use Rattle.cckd_base.specs.Entry.{word_at, entry_at}
use Rattle.cckd_base.specs.Survey.{table_space}
use Rattle.cckd_base.specs.Image.{IsPlace}
use Rattle.cckd_base.proofs.PlaceLemmas.{entry_longer}
use Rattle.cckd_base.proofs.WriteLemmas.{StaysImage}
use Rattle.cckd_space.specs.declared.piece.Piece.{Piece}
use Rattle.cckd_space.specs.Pieces.{IsLaid}
use Rattle.cckd_space.specs.Plan.{Plan, Becomes, place_of, with_reserved, size_with}
use Rattle.cckd_tables.specs.Staging.{Stages, IsMoved, place_for}
use Rattle.cckd_layer.specs.Current.{stored_space, claim, IsTableOf, IsTrackOf, IsInUse, IsReplaced, IsPlaced, placed_piece, NamesAligned, Accounts, Current}
use Rattle.cckd_layer.proofs.AccountLemmas.{accounts_same, accounts_placed, has_some}
use Rattle.cckd_layer.proofs.SpanLemmas.{spans_placed, spans_grown}
use Rattle.cckd_space.proofs.PlaceLemmas.{placed_clear}

-- two files have the same words and entries
pub record SameNames (l : Layout) (was file : List ℕ) : Type 0 where
  pub word : (g : ℕ) → g < l.groups → word_at l file g ≡ word_at l was g
  pub entry : (t : ℕ) → t < track_count l.geo → entry_at l file t ≡ entry_at l was t

pub names_stay : (l : Layout) (was file : List ℕ) → StaysImage l was file → SameNames l was file
names_stay l was file s = record { word = s.word; entry = s.entry }

pub names_turned : (l : Layout) (was file : List ℕ) → SameNames l was file → SameNames l file was
names_turned l was file s = record { word = λ g low. sym (s.word g low); entry = λ t low. sym (s.entry t low) }

table_same : (l : Layout) (was file : List ℕ) (g : ℕ) (e : Extent) → SameNames l was file → IsTableOf l was g e → IsTableOf l file g e
table_same l was file g e s h = record {
  low = h.low;
  place = subst IsPlace (sym (s.word g h.low)) h.place;
  is = h.is ∙ ap (table_space g) (sym (s.word g h.low));
}

track_same : (l : Layout) (was file : List ℕ) (t : ℕ) (e : Extent) → SameNames l was file → IsTrackOf l was t e → IsTrackOf l file t e
track_same l was file t e s h = record {
  low = h.low;
  place = subst (λ (x : L2Entry). IsPlace x.pos) (sym (s.entry t h.low)) h.place;
  is = h.is ∙ ap (stored_space t) (sym (s.entry t h.low));
}

pub in_use_same : (l : Layout) (s : Stages) (was file : List ℕ) → SameNames l was file → (e : Extent) → IsInUse l s was e → IsInUse l s file e
in_use_same l s was file same e h = elim h [
  | inl area ↦ inl area
  | inr (inl table) ↦ inr (inl (table.0, table.1, table_same l was file table.0 e same table.2))
  | inr (inr track) ↦ inr (inr (track.0, track.1, track_same l was file track.0 e same track.2))
]

pub replaced_same : (l : Layout) (s : Stages) (was file : List ℕ) → SameNames l was file → (e : Extent) → IsReplaced l s was e → IsReplaced l s file e
replaced_same l s was file same e h = elim h [
  | inl table ↦ inl (table.0, table.1, table_same l was file table.0 e same table.2)
  | inr track ↦ inr (track.0, track.1, track_same l was file track.0 e same track.2)
]

-- a group that is moved gets a table at a place
pub moved_place : (g : ℕ) (s : Stages) → IsMoved g s → (pos : ℕ) × (place_for g s.words ≡ Some pos)
moved_place g s moved = by (place_for g s.words) refl
  where
    by : (o : Option ℕ) → place_for g s.words ≡ o → (pos : ℕ) × (place_for g s.words ≡ Some pos)
    by None none = absurd (let m = subst (λ (o : Option ℕ). IsSome o) none moved in cc)
    by (Some pos) some = (pos, some)

-- the file grew beside all that is named, within the pieces
pub current_grown : (l : Layout) (s : Stages) (claims : List Extent) (plan : Plan) (was file : List ℕ) → IsLayout l → SameNames l was file → length was ≤ length file → length file ≤ plan.size
    → Current l s claims plan was → Current l s claims plan file
current_grown l s claims plan was file layout same longer within c = record {
  spans = spans_grown plan was file longer within c.spans;
  accounts = accounts_same (IsInUse l s was) (IsReplaced l s was) (IsPlaced s claims) (IsInUse l s file) (IsReplaced l s file) (IsPlaced s claims) plan.pieces
      (in_use_same l s was file same) (in_use_same l s file was (names_turned l was file same)) (replaced_same l s was file same) (replaced_same l s file was (names_turned l was file same))
      (λ e h. h) (λ e h. h) c.accounts;
  claims_are = c.claims_are;
  entries = λ t e h.
      let k = c.entries t e h in
      record {
        low = k.low;
        fits = entry_longer l (length was) (length file) t e longer k.fits;
        snug = λ place. let n = k.snug place in omega (arith, n, longer);
        tabled = elim k.tabled [
          | inl moved ↦ inl moved
          | inr stands ↦ inr (subst (λ (w : ℕ). IsPlace w × (w % 8 ≡ 0)) (sym (same.word (t / 256) (omega (arith, layout.groups, k.low)))) stands)
        ];
      };
  words = c.words;
  lacks = λ g moved names.
      let named = moved_place g s moved in
      c.lacks g moved (subst NamesAligned (same.word g (c.words g named.0 named.1).low) names);
}

-- no space of claims begins where another space is placed
pub claim_alone : (R : Extent → Type 0) (U L : Extent → Type 0) (need : ℕ) (ps : List Piece) (end : ℕ) → 0 < need → IsLaid 0 ps end → Accounts U L R ps → (e : Extent) → R e → e.pos ≡ place_of need ps → ⊥
claim_alone R U L need ps end some laid a e r same =
    let h = a.reserved.there e r in
    let size = has_some 0 ps end (placed_piece e) laid h in
    elim ((placed_clear need ps end laid).each (placed_piece e) h refl) [ inl b ↦ omega (arith, b, same, size) | inr b ↦ omega (arith, b, same, some) ]

-- a space is placed, and the file is as it was
pub current_placed : (l : Layout) (s : Stages) (claims : List Extent) (old new : Plan) (file : List ℕ) (need : ℕ) → 0 < need → need % 8 ≡ 0 → 0 < old.size
    → Becomes old new (with_reserved need old.pieces) (size_with need old) → IsLaid 0 new.pieces new.size → place_of need old.pieces + need ≤ max old.limit old.size
    → Current l s claims old file → Current l s (claim (place_of need old.pieces) need ∷ claims) new file
current_placed l s claims old new file need some even full b laid within c =
    let pos = place_of need old.pieces in
    let accounts : Accounts (IsInUse l s file) (IsReplaced l s file) (λ e. IsPlaced s claims e ⊎ (claim pos need ≡ e)) (with_reserved need old.pieces) =
    accounts_placed (IsInUse l s file) (IsReplaced l s file) (IsPlaced s claims) need old.pieces old.size some c.spans.laid c.accounts in
    record {
      spans = spans_placed old new file need some even full b laid within c.spans;
      accounts = subst (Accounts (IsInUse l s file) (IsReplaced l s file) (IsPlaced s (claim pos need ∷ claims))) (sym b.made)
          (accounts_same (IsInUse l s file) (IsReplaced l s file) (λ e. IsPlaced s claims e ⊎ (claim pos need ≡ e)) (IsInUse l s file) (IsReplaced l s file) (IsPlaced s (claim pos need ∷ claims)) (with_reserved need old.pieces)
          (λ e h. h) (λ e h. h) (λ e h. h) (λ e h. h)
          (λ e h. elim h [ inl (inl new) ↦ inl new | inl (inr among) ↦ inr (inr among) | inr same ↦ inr (inl same) ])
          (λ e h. elim h [ inl new ↦ inl (inl new) | inr (inl same) ↦ inr same | inr (inr among) ↦ inl (inr among) ]) accounts);
      claims_are = (refl, λ among. claim_alone (IsPlaced s claims) (IsInUse l s file) (IsReplaced l s file) need old.pieces old.size some c.spans.laid c.accounts (claim pos need) (inr among) refl, c.claims_are);
      entries = c.entries;
      words = c.words;
      lacks = c.lacks;
    }

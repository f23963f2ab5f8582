-- Places that are claimed, and new tables that are staged: a layer agrees with its file again.
use Rattle.std.proofs.Common.{◌≡◌, ◌⊎◌, ◌+◌, ◌%◌, ◌<◌, ◌≤◌, ℕ, List, ◌∷◌, length, slice_index, false, Option, Some, None, Result, Ok, Err, IfOk, OnOk, IsErr, IsSome, ◌↔◌, max, refl, sym, ◌∙◌, ap, subst, inl, inr, arith, Bool, true, IfSome, []}
use Rattle.std.specs.Option.{unwrap_or, is_some}
use Rattle.std.proofs.lemmas.Bool.{cases_lt}
use Rattle.cckd_shelf.specs.World.{file_of}
use Rattle.cckd_shelf.specs.Seen.{Seen}
use Rattle.cckd_base.specs.declared.geometry.Layout.{Layout}
use Rattle.cckd_base.specs.declared.entry.L2Entry.{L2Entry}
use Rattle.cckd_base.specs.declared.space.Extent.{Extent}
use Rattle.cckd_base.specs.declared.space.Full.{Full}
use Rattle.std.specs.Option.{option_map}
use Rattle.cckd_space.specs.Pieces.{first, largest, aligned_up, has_room, end_place, used_end}
use Rattle.cckd_base.specs.Entry.{word_at, entry_at, bytes_by_entry}
use Rattle.cckd_base.specs.Image.{IsPlace}
use Rattle.cckd_base.proofs.PlaceLemmas.{place_or_not}
use Rattle.cckd_space.specs.Plan.{Plan, Becomes, IsSound, place_of, with_reserved, size_with, room}
use Rattle.cckd_tables.specs.Staging.{Stages, IsStaged, entry_for, place_for}
use Rattle.cckd_tables.specs.Stages.{with_entry, with_word}
use Rattle.cckd_tables.specs.Tables.{TableView, AreOf}
use Rattle.cckd_tables.specs.Looking.{with_stages, word_of, HasAlignedTable}
use Rattle.cckd_tables.proofs.StageLemmas.{entry_here, entry_other, place_here, place_other}
use Rattle.cckd_layer.specs.Held.{NullBytes}
use Rattle.cckd_space.specs.declared.piece.Piece.{Piece}
use Rattle.cckd_space.specs.Pieces.{IsLaid}
use Rattle.cckd_layer.specs.Current.{claim, IsInUse, IsReplaced, IsAmong, IsPlaced, Accounts, Current, NamesAligned}
use Rattle.cckd_layer.specs.Puts.{IsReserved}
use Rattle.cckd_layer.specs.Acts.{StagesEntry, StagesWord, left_at, given_back, GivesBack, MayGiveBack, EndsBefore}
use Rattle.cckd_layer.specs.Stands.{LayerView, Stands}
use Rattle.cckd_layer.specs.Mounted.{LayerState}
use Rattle.cckd_layer.specs.Writes.{AgreesWith, AgreesAgainWith, KeepsMapWith, CanStage, StoresIn, FreesOld, entry_now, claimed_view, IsGranted, table_need}
use Rattle.cckd_layer.proofs.StandLemmas.{stands_placed, stands_sits}
use Rattle.cckd_layer.proofs.StagedLemmas.{Takes, stands_by, stands_word, stands_staged, stands_again, stands_again_none, map_word, map_staged}
use Rattle.cckd_layer.proofs.AccountLemmas.{placed_at, accounts_same, accounts_given, accounts_cut}
use Rattle.cckd_layer.proofs.SpanLemmas.{KeepsHeld, keeps_twice, held_given, held_cut, spans_given, placed_before}
use Rattle.cckd_layer.proofs.StageLemmas.{new_owner}
use Rattle.cckd_layer.proofs.ReservedLemmas.{free_of, inside_of}

up_aligned : (at : ℕ) → aligned_up at % 8 ≡ 0
up_aligned at = omega arith

-- a place stands at a multiple of 8
pub place_aligned : (need : ℕ) (ps : List Piece) → place_of need ps % 8 ≡ 0
place_aligned need ps = by (first (has_room need) ps) refl
  where
    by : (o : Option Piece) → first (has_room need) ps ≡ o → place_of need ps % 8 ≡ 0
    by None e = subst (λ (p : ℕ). p % 8 ≡ 0) (sym (ap (λ (o : Option Piece). unwrap_or (option_map (λ (p : Piece). aligned_up p.pos) o) (end_place ps)) e)) (up_aligned (used_end ps))
    by (Some p) e = subst (λ (p : ℕ). p % 8 ≡ 0) (sym (ap (λ (o : Option Piece). unwrap_or (option_map (λ (p : Piece). aligned_up p.pos) o) (end_place ps)) e)) (up_aligned p.pos)

pub place_result : (need : ℕ) (ps : List Piece) (r : Result ℕ Full) → IfOk r (λ pos. pos ≡ place_of need ps) → IfOk r (λ pos. pos % 8 ≡ 0)
place_result need ps (Ok pos) is = subst (λ (p : ℕ). p % 8 ≡ 0) (sym is) (place_aligned need ps)
place_result need ps (Err full) is = tt

-- a place was claimed, and nothing written
pub claim_agrees : (claims : List Extent) (null : NullBytes) (s : LayerState) (plan : Plan) (need : ℕ) (w : Seen) → 0 < need → need % 8 ≡ 0 → IsReserved need s.plan plan → IsSound plan → AgreesWith claims s w.world
    → AgreesAgainWith (claim (place_of need s.plan.pieces) need ∷ claims) null s (record s { plan = plan }) w w
claim_agrees claims null s plan need w some even r sound a = record {
  agrees = record {
    stands = stands_placed (claimed_view claims s) s.slot w.world plan need some even a.stands r sound.laid;
    are = a.are;
    fits = a.fits;
    empty = a.empty;
    alone = a.alone;
  };
  entries = λ t low. refl;
  same = record { each = λ t low. refl };
}

-- a position names a space, or it doesn't
pub place_or_none : (pos : ℕ) → IsPlace pos ⊎ (IsPlace pos → ⊥)
place_or_none pos = elim (place_or_not pos) [ inl place ↦ inl place | inr (inl zero) ↦ inr (λ place. place.0 zero) | inr (inr parent) ↦ inr (λ place. place.1 parent) ]

-- what is staged, once a word is
pub stages_word : (g pos : ℕ) (s : Stages) → StagesWord g pos s (with_word (record { group = g; pos = pos }) s)
stages_word g pos s = record {
  here = place_here (record { group = g; pos = pos }) s;
  others = λ h other. place_other (record { group = g; pos = pos }) s h (λ same. other (sym same));
  entries = λ t. refl;
}

-- what is staged, once an entry is
pub stages_entry : (t : ℕ) (e : L2Entry) (s : Stages) → StagesEntry t e s (with_entry (record { track = t; entry = e }) s)
stages_entry t e s = record {
  here = entry_here (record { track = t; entry = e }) s;
  others = λ u other. entry_other (record { track = t; entry = e }) s u (λ same. other (sym same));
  words = λ g. refl;
}

-- the tables with other things staged are still the file's
pub are_staged : (v : TableView) (n : Stages) (file : List ℕ) → AreOf v file → AreOf (with_stages v n) file
are_staged v n file are = record { area = are.area; words = are.words; tables = are.tables; cached = are.cached }

-- the word of a group that isn't moved
word_plain : (v : TableView) (g : ℕ) → place_for g v.stages.words ≡ None → word_of v g ≡ slice_index v.words g
word_plain v g none = ap (λ (o : Option ℕ). unwrap_or o (slice_index v.words g)) none

-- a group without an aligned table has none staged
pub lacks_new : (v : TableView) (g : ℕ) → (HasAlignedTable v g → ⊥) → place_for g v.stages.words ≡ None
lacks_new v g lacks = by (place_for g v.stages.words) refl
  where
    by : (o : Option ℕ) → place_for g v.stages.words ≡ o → place_for g v.stages.words ≡ None
    by None none = none
    by (Some pos) some = absurd (lacks (inl (subst (λ (o : Option ℕ). IsSome o) (sym some) refl)))

-- a new table is staged at a place that was claimed, and the group's old table leaves
pub word_agrees : (claims : List Extent) (null : NullBytes) (s : LayerState) (plan : Plan) (g pos : ℕ) (w : Seen) → g < s.tables.layout.groups → pos % 8 ≡ 0 → (HasAlignedTable s.tables g → ⊥)
    → Becomes s.plan plan (left_at (word_of s.tables g) s.plan.pieces) s.plan.size → IsSound plan → AgreesWith (claim pos 2048 ∷ claims) s w.world
    → AgreesAgainWith claims null s (record s { tables = with_stages s.tables (with_word (record { group = g; pos = pos }) s.tables.stages); plan = plan; hardened = false }) w w
word_agrees claims null s plan g pos w low aligned lacks b sound a =
    let fresh = lacks_new s.tables g lacks in
    let l = s.tables.layout in
    let file = file_of w.world s.slot in
    let v = claimed_view (claim pos 2048 ∷ claims) s in
    let n = with_word (record { group = g; pos = pos }) s.tables.stages in
    let st = stages_word g pos s.tables.stages in
    let free = free_of v s.slot w.world pos 2048 (omega arith) (inl refl) a.stands file (stands_sits v s.slot w.world a.stands).rests in
    let end = inside_of v s.slot w.world pos 2048 (omega arith) (inl refl) a.stands in
    let short = a.stands.now.spans.short in
    let place : IsPlace pos = (λ zero. absurd (omega (arith, zero, free.area)), λ parent. absurd (omega (arith, parent, end, short))) in
    let word : word_of s.tables g ≡ word_at l file g = word_plain s.tables g fresh ∙ sym (a.are.words g low) in
    let none : NamesAligned (word_at l file g) → ⊥ = (λ names. lacks (inr (subst NamesAligned (a.are.words g low) names))) in
    record {
      agrees = record {
        stands = stands_word v n claims plan s.slot w.world g pos refl fresh st (record { low = low; place = place; behind = free.area; aligned = aligned }) none
            (subst (λ (p : ℕ). Becomes s.plan plan (left_at p s.plan.pieces) s.plan.size) word b) sound.laid a.stands;
        are = are_staged s.tables n file a.are;
        fits = a.fits;
        empty = λ h. absurd cc;
        alone = λ h. absurd cc;
      };
      entries = λ t low. refl;
      same = record { each = λ t low. map_word null l s.tables.stages n file g pos st t };
    }

-- the same, of what placing answers
pub claim_map : (claims : List Extent) (null : NullBytes) (s : LayerState) (plan : Plan) (need : ℕ) (w : Seen) (r : Result ℕ Full) → 0 < need → need % 8 ≡ 0 → IfOk r (λ pos. pos ≡ place_of need s.plan.pieces)
    → OnOk r (Becomes s.plan plan (with_reserved need s.plan.pieces) (size_with need s.plan)) → (IsErr r ↔ ((largest s.plan.pieces < need) × (room s.plan < need))) → IfOk r (λ pos. pos + need ≤ max s.plan.limit s.plan.size) → IsSound plan
    → IfOk r (λ pos. KeepsMapWith claims (claim pos need ∷ claims) null s (record s { plan = plan }) w w)
claim_map claims null s plan need w (Err why) some even place becomes full within sound = tt
claim_map claims null s plan need w (Ok pos) some even place becomes full within sound = λ told a.
    let roomy : (need ≤ largest s.plan.pieces) ⊎ (need ≤ room s.plan) = elim (cases_lt (largest s.plan.pieces) need) [
      | inl small ↦ elim (cases_lt (room s.plan) need) [ inl low ↦ absurd (let none = full.1 (small, low) in cc) | inr high ↦ inr high ]
      | inr high ↦ inl high
    ] in
    let r : IsReserved need s.plan plan = record { roomy = roomy; within = subst (λ (p : ℕ). p + need ≤ max s.plan.limit s.plan.size) place within; becomes = becomes } in
    subst (λ (p : ℕ). AgreesAgainWith (claim p need ∷ claims) null s (record s { plan = plan }) w w) (sym place) (claim_agrees claims null s plan need w some even r sound a)

-- an entry is staged for a track, whose old space goes
pub track_agrees : (claims rest : List Extent) (null : NullBytes) (s : LayerState) (plan : Plan) (t : ℕ) (e : L2Entry) (pos len : ℕ) (w : Seen) → FreesOld (entry_for t s.tables.stages.entries) pos len s.plan plan → IsSound plan
    → CanStage claims rest s t e w → pos ≡ (entry_now s w t).pos → (IsStaged t s.tables.stages → len ≡ length (file_of w.world s.slot))
    → StoresIn rest null s (record s { tables = with_stages s.tables (with_entry (record { track = t; entry = e }) s.tables.stages); plan = plan; hardened = false }) t (bytes_by_entry null s.tables.layout (file_of w.world s.slot) t e) w w
track_agrees claims rest null s plan t e pos len w frees sound can at long = record {
  agrees = record {
    stands = by (entry_for t s.tables.stages.entries) refl frees;
    are = are_staged s.tables n file can.agrees.are;
    fits = can.agrees.fits;
    empty = λ h. absurd cc;
    alone = λ h. absurd cc;
  };
  stores = map_staged null s.tables.layout s.tables.stages n file t e st;
}
  where
    n : Stages
    n = with_entry (record { track = t; entry = e }) s.tables.stages

    st : StagesEntry t e s.tables.stages n
    st = stages_entry t e s.tables.stages

    file : List ℕ
    file = file_of w.world s.slot

    v : LayerView
    v = claimed_view claims s

    takes : Takes e claims rest
    takes = record { space = can.takes.space; nothing = can.takes.nothing }

    by : (o : Option L2Entry) → entry_for t s.tables.stages.entries ≡ o → FreesOld o pos len s.plan plan → Stands (record v { stages = n; claims = rest; plan = plan }) s.slot w.world
    by None fresh f =
        let same : pos ≡ (entry_at s.tables.layout file t).pos = at ∙ ap (λ (o : Option L2Entry). (unwrap_or o (entry_at s.tables.layout file t)).pos) fresh in
        stands_staged v n rest plan s.slot w.world t e fresh st can.can takes
        (subst (λ (p : ℕ). Becomes s.plan plan (left_at p s.plan.pieces) s.plan.size) same (f.leaves refl)) sound.laid can.agrees.stands
    by (Some o) again f =
        let same : pos ≡ o.pos = at ∙ ap (λ (x : Option L2Entry). (unwrap_or x (entry_at s.tables.layout file t)).pos) again in
        let area = (stands_sits v s.slot w.world can.agrees.stands).whole.image.area in
        let covers = can.agrees.stands.now.spans.covers in
        elim (place_or_none pos) [
          | inl place ↦ stands_again v n rest plan s.slot w.world t e o again (subst IsPlace same place) st can.can takes
              (subst (λ (m : ℕ). MayGiveBack o.pos m s.plan plan) (long (subst (λ (x : Option L2Entry). IsSome x) (sym again) refl)) (subst (λ (p : ℕ). MayGiveBack p len s.plan plan) same (f.given refl place))) sound.laid (omega (arith, area, covers)) can.agrees.stands
          | inr none ↦ subst (λ (p : Plan). Stands (record v { stages = n; claims = rest; plan = p }) s.slot w.world) (sym (f.kept refl none))
              (stands_again_none v n rest s.slot w.world t e o again (λ place. none (subst IsPlace (sym same) place)) st can.can takes can.agrees.stands)
        ]

-- ---- a claimed place is given back

unclaimed : (l : Layout) (s : Stages) (claims : List Extent) (old new : Plan) (pos n : ℕ) (file : List ℕ) → EndsBefore (pos + n) (length file) old → MayGiveBack pos (length file) old new → IsLaid 0 new.pieces new.size → 0 < old.size
    → Current l s (claim pos n ∷ claims) old file → GivesBack pos (length file) old new × Current l s claims new file
unclaimed l s claims old new pos n file well may laid full c =
    let z = claim pos n in
    let U = IsInUse l s file in
    let L = IsReplaced l s file in
    let K : Extent → Type 0 = IsPlaced s (z ∷ claims) in
    let R : Extent → Type 0 = λ x. K x × (x ≡ z → ⊥) in
    let f = placed_at z old.pieces old.size c.spans.laid (c.accounts.reserved.there z (inr (inl refl))) in
    let b = may.given (subst (λ (p : Option Piece). IsSome p) (sym f) refl) in
    let a : Accounts U L R new.pieces = subst (Accounts U L R) (sym b.made)
    (accounts_cut U L R (length file) old.size (given_back pos old.pieces) (accounts_given U L K z old.pieces old.size c.spans.laid (inr (inl refl)) c.accounts)) in (
      b,
      record {
        spans = spans_given old new file pos n (c.accounts.reserved.there z (inr (inl refl))) well b laid full c.spans;
        accounts = accounts_same U L R U L (IsPlaced s claims) new.pieces (λ x h. h) (λ x h. h) (λ x h. h) (λ x h. h)
            (λ x h. elim h.0 [ inl new ↦ inl new | inr (inl own) ↦ absurd (h.1 (sym own)) | inr (inr m) ↦ inr m ])
            (λ x h. elim h [
              | inl new ↦ (inl new, λ e. new_owner s x new (ap (λ (y : Extent). y.owner) e))
              | inr m ↦ (inr (inr m), λ e. c.claims_are.1 (subst (λ (y : Extent). IsAmong y claims) e m))
            ])
            a;
        claims_are = c.claims_are.2;
        entries = c.entries;
        words = c.words;
        lacks = c.lacks;
      },
    )

pub unclaim_agrees : (claims : List Extent) (null : NullBytes) (s : LayerState) (plan : Plan) (pos n len : ℕ) (w : Seen) → EndsBefore (pos + n) len s.plan → MayGiveBack pos len s.plan plan → IsSound plan → len ≡ length (file_of w.world s.slot)
    → AgreesWith (claim pos n ∷ claims) s w.world → AgreesAgainWith claims null s (record s { plan = plan }) w w
unclaim_agrees claims null s plan pos n len w well may sound long a =
    let file = file_of w.world s.slot in
    let v = claimed_view (claim pos n ∷ claims) s in
    let h = a.stands in
    let area = (stands_sits v s.slot w.world h).whole.image.area in
    let k = unclaimed s.tables.layout s.tables.stages claims s.plan plan pos n file (subst (λ (m : ℕ). EndsBefore (pos + n) m s.plan) long well) (subst (λ (m : ℕ). MayGiveBack pos m s.plan plan) long may) sound.laid (omega (arith, area, h.now.spans.covers)) h.now in
    let mid = given_back pos s.plan.pieces in
    record {
      agrees = record {
        stands = stands_by v s.tables.stages claims plan s.slot w.world
            (keeps_twice s.plan.pieces mid plan.pieces (held_given pos s.plan.pieces) (subst (KeepsHeld mid) (sym k.0.made) (held_cut (length file) s.plan.size mid))) k.1 h;
        are = a.are;
        fits = a.fits;
        empty = a.empty;
        alone = a.alone;
      };
      entries = λ t low. refl;
      same = record { each = λ t low. refl };
    }

-- the place of a new table may be given back, as long as nothing was placed behind it
pub table_before : (s m : LayerState) (w : Seen) (wanted : Bool) (table : Option ℕ) (len : ℕ) → is_some table ≡ wanted → IfSome table (λ pos. pos ≡ place_of 2048 s.plan.pieces) → IsGranted (table_need wanted) s.plan m.plan
    → (wanted ≡ true → len ≡ length (file_of w.world s.slot)) → AgreesWith [] s w.world → IfSome table (λ pos. EndsBefore (pos + 2048) len m.plan)
table_before s m w wanted None len is place granted long a = tt
table_before s m w true (Some pos) len is place granted long a =
    let k = placed_before s.plan m.plan (file_of w.world s.slot) 2048 a.stands.now.spans granted.becomes.sized in
    subst (λ (n : ℕ). EndsBefore (pos + 2048) n m.plan) (sym (long refl)) (subst (λ (p : ℕ). EndsBefore (p + 2048) (length (file_of w.world s.slot)) m.plan) (sym place) k)
table_before s m w false (Some pos) len is place granted long a = absurd (let e : true ≡ false = is in cc)

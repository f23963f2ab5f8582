-- What is found of the last space of a file, and how a layer is tied to its file once it was looked at.
use Rattle.std.proofs.Common.{◌≡◌, ℕ, ◌-◌, ◌<◌, min, true, List, [], length, Option, Some, None, IfSome, refl, sym, ◌∙◌, ap, subst, inl, inr, arith}
use Rattle.std.proofs.lemmas.Bool.{cases_lt, false≢true}
use Rattle.cckd_shelf.specs.World.{World, IsSure, file_of, after_put}
use Rattle.cckd_shelf.specs.Events.{Event}
use Rattle.cckd_shelf.proofs.OutcomeLemmas.{put_step}
use Rattle.cckd_shelf.specs.Outcomes.{EachOutcome}
use Rattle.cckd_shelf.specs.Frame.{SparesOthers}
use Rattle.cckd_shelf.proofs.FrameLemmas.{others_keep}
use Rattle.cckd_shelf.proofs.MomentLemmas.{at_end}
use Rattle.cckd_base.specs.Image.{IsSound}
use Rattle.cckd_base.specs.Survey.{used_spaces}
use Rattle.cckd_space.specs.Pieces.{pieces_of}
use Rattle.cckd_layer.specs.Sits.{identifiers_for}
use Rattle.cckd_shelf.specs.Seen.{Seen, Tells, Stays}
use Rattle.cckd_base.specs.declared.entry.L2Entry.{L2Entry}
use Rattle.cckd_base.specs.declared.geometry.Track.{Track as Track_of}
use Rattle.cckd_layer.specs.declared.completing.Excess.{Excess}
use Rattle.cckd_base.specs.declared.space.Owner.TheVariants.{Track}
use Rattle.cckd_base.specs.Geometry.{track_count}
use Rattle.cckd_base.specs.Entry.{entry_at}
use Rattle.cckd_space.specs.declared.piece.Piece.{Piece}
use Rattle.cckd_tables.specs.Looking.{with_cached}
use Rattle.cckd_tables.specs.Staging.{Stages, new_entry}
use Rattle.cckd_tables.specs.Tables.{TableView, CachedTable, HasWords, AreOf}
use Rattle.cckd_layer.specs.Held.{NullBytes, held}
use Rattle.cckd_layer.specs.Mounted.{LayerState, CanRead, with_tables}
use Rattle.cckd_layer.specs.Writes.{Agrees, AgreesAgain, map_of}
use Rattle.cckd_layer.specs.Loose.{Loose, Tied, TiedIn, IsLastTrack, PassesEnd, IsOnlyLooked, IsUndisturbed, Completes, bare_tables}
use Rattle.cckd_layer.proofs.PrepareLemmas.{looked_agrees}
use Rattle.cckd_layer.proofs.TiedLemmas.{loose_agrees, loose_snug, loose_with, last_cut, agrees_last, tied_cached}

-- no operation failed half way
pub tied_sure : (s : LayerState) (w : World) → Tied s w → IsSure w
tied_sure s w (inl a) = a.stands.sure
tied_sure s w (inr h) = h.sure

pub tied_are : (s : LayerState) (w : World) → Tied s w → AreOf s.tables (file_of w s.slot)
tied_are s w (inl a) = a.are
tied_are s w (inr h) = h.are

-- there is one last piece
last_same : (ps : List Piece) (t n u m : ℕ) → IsLastTrack ps t n → IsLastTrack ps u m → (t ≡ u) × (n ≡ m)
last_same ps t n u m a b =
    let e : Some a.piece ≡ Some b.piece = sym a.last_is ∙ b.last_is in
    let p : a.piece ≡ b.piece = cc in
    let o : Track t ≡ Track u = sym a.owner ∙ (ap (λ (x : Piece). x.owner) p ∙ b.owner) in
    (cc, sym a.size_is ∙ (ap (λ (x : Piece). x.size) p ∙ b.size_is))

-- the entry of a layer with nothing staged is that of its file
plain_entry : (s : LayerState) (w : World) (t : ℕ) (e : L2Entry) → Loose s w → e ≡ new_entry s.tables.layout s.tables.stages (file_of w s.slot) t → e ≡ entry_at s.tables.layout (file_of w s.slot) t
plain_entry s w t e h is = is ∙ ap (λ (st : Stages). new_entry s.tables.layout st (file_of w s.slot) t) h.stages

-- where the last space is none of a track, the layer agrees with its file
pub excess_none : (s : LayerState) (w : World) → Tied s w → ((t n : ℕ) → t < track_count s.tables.layout.geo → IsLastTrack s.plan.pieces t n → ⊥) → Agrees s w
excess_none s w (inl a) none = a
excess_none s w (inr h) none = loose_agrees s w h (loose_snug s w h (λ t n is low. absurd (none t n low is)))

-- so it does, where the entry of the last track says no more than there is
pub excess_fits : (s : LayerState) (w : World) (t n : ℕ) (e : L2Entry) → Tied s w → IsLastTrack s.plan.pieces t n → e ≡ new_entry s.tables.layout s.tables.stages (file_of w s.slot) t → (n < e.size → ⊥) → Agrees s w
excess_fits s w t n e (inl a) is entry fits = a
excess_fits s w t n e (inr h) is entry fits = loose_agrees s w h (loose_snug s w h (λ u m other low.
    let same = last_same s.plan.pieces t n u m is other in
    let x : e ≡ entry_at s.tables.layout (file_of w s.slot) u = plain_entry s w t e h entry ∙ ap (entry_at s.tables.layout (file_of w s.slot)) same.0 in
    let size : e.size ≡ (entry_at s.tables.layout (file_of w s.slot) u).size = ap (λ (y : L2Entry). y.size) x in
    elim (cases_lt n e.size) [
      | inl more ↦ absurd (fits more)
      | inr all ↦ omega (arith, all, size, same.1)
    ]))

-- where it says more, the space passes the end
pub excess_passes : (s : LayerState) (w : World) (t n : ℕ) (e new : L2Entry) → Tied s w → IsLastTrack s.plan.pieces t n → e ≡ new_entry s.tables.layout s.tables.stages (file_of w s.slot) t → n < e.size
    → new ≡ record { pos = e.pos; len = e.len; size = n } → PassesEnd s w t new
excess_passes s w t n e new (inl a) is entry more made =
    let k = agrees_last s w t n a is in
    let size = ap (λ (y : L2Entry). y.size) entry in
    absurd (omega (arith, more, size, k.1))
excess_passes s w t n e new (inr h) is entry more made =
    let file = file_of w s.slot in
    let old = entry_at s.tables.layout file t in
    let k = last_cut s w t n h is in
    let x : e ≡ old = plain_entry s w t e h entry in
    let size : e.size ≡ old.size = ap (λ (y : L2Entry). y.size) x in
    let cut : n ≡ min old.size (length file - old.pos) = k.2 in
    let left : n ≡ length file - old.pos = omega (arith, cut, more, size) in
    record {
      loose = h;
      low = k.0;
      place = k.1;
      past = omega (arith, left, more, size);
      clipped = made ∙ (ap (λ (y : L2Entry). record { pos = y.pos; len = y.len; size = n }) x ∙ ap (λ (m : ℕ). record { pos = old.pos; len = old.len; size = m }) left);
    }

-- and it does nothing of the kind where the layer agrees
pub agrees_fits : (s : LayerState) (w : World) (t n : ℕ) (e : L2Entry) → Agrees s w → IsLastTrack s.plan.pieces t n → e ≡ new_entry s.tables.layout s.tables.stages (file_of w s.slot) t → n < e.size → ⊥
agrees_fits s w t n e a is entry more =
    let k = agrees_last s w t n a is in
    let size = ap (λ (y : L2Entry). y.size) entry in
    omega (arith, more, size, k.1)

-- ---- what was looked at

-- the tables with these words and cached tables
abbrev pub tables_with : TableView → List ℕ → List CachedTable → TableView
tables_with v words cached = record { layout = v.layout; words = words; stages = v.stages; cached = cached }

pub passes_with : (s : LayerState) (words : List ℕ) (cached : List CachedTable) (w v : World) (t : ℕ) (e : L2Entry) → v ≡ w → AreOf (tables_with s.tables words cached) (file_of w s.slot)
    → PassesEnd s w t e → PassesEnd (with_tables s (tables_with s.tables words cached)) v t e
passes_with s words cached w v t e same are p =
    let next = with_tables s (tables_with s.tables words cached) in
    subst (λ (x : World). PassesEnd next x t e) (sym same) (record {
      loose = loose_with s (tables_with s.tables words cached) w refl refl are p.loose;
      low = p.low;
      place = p.place;
      past = p.past;
      clipped = p.clipped;
    })

-- nothing was looked at
pub looked_nothing : (s : LayerState) (a : Seen) → TiedIn s a → IsOnlyLooked s s a a
looked_nothing s a tied = record { kept = λ told. refl; rest = refl; tied = tied }

-- nothing more was done
pub looked_then : (s m : LayerState) (a b c : Seen) → (Tells a → Tells b) → (Tells c → Tells b) → IsOnlyLooked s m a b → Stays b c → IsOnlyLooked s m a c
looked_then s m a b c tells back h stays = record {
  kept = λ told. stays (tells told) ∙ h.kept told;
  rest = h.rest;
  tied = λ told sure. subst (Tied m) (sym (stays (back told))) (h.tied (back told) (subst IsSure (stays (back told)) sure));
}

-- ---- what is the same

-- ---- what is done where the layer agrees

-- whatever was looked at, it agrees as before
pub still_looked : (null : NullBytes) (s m : LayerState) (a b : Seen) → (Tells a → Tells b) → IsOnlyLooked s m a b → Tells a → Agrees s a.world → IsUndisturbed null s m a b
still_looked null s m a b tells h told agrees =
    let cached = m.tables.cached in
    let next = with_tables s (with_cached s.tables cached) in
    let are : AreOf m.tables (file_of b.world m.slot) = tied_are m b.world (h.tied (tells told) (subst IsSure (sym (h.kept told)) agrees.stands.sure)) in
    let same : AreOf next.tables (file_of a.world s.slot) =
    subst (λ (w : World). AreOf next.tables (file_of w s.slot)) (h.kept told) (subst (λ (x : LayerState). AreOf x.tables (file_of b.world x.slot)) h.rest are) in
    record {
      world = h.kept told;
      rest = h.rest;
      again = subst (λ (x : LayerState). AgreesAgain null s x a b) (sym h.rest) (looked_agrees [] null s cached a b (h.kept told) same agrees);
    }

-- ---- the map

-- the layer that was looked at has the same bytes
pub completes_looked : (null : NullBytes) (s m : LayerState) (a b : Seen) → IsOnlyLooked s m a b → (Tells a → IsSure a.world → Agrees m b.world) → Completes null s m a b
completes_looked null s m a b h agrees told sure = record {
  agrees = agrees told sure;
  same = record {
    each = λ t low.
        subst (λ (x : LayerState). map_of null x b t ≡ map_of null s a t) (sym h.rest)
        (ap (λ (w : World). held null s.tables.layout s.tables.stages (file_of w s.slot) t) (h.kept told));
  };
}

-- the space passes the end still, once the words were read anew
pub passes_bare : (s : LayerState) (words : List ℕ) (w v : World) (t : ℕ) (e : L2Entry) → v ≡ w → HasWords s.tables.layout words (file_of w s.slot) → PassesEnd s w t e
    → PassesEnd (with_tables s (bare_tables s.tables words)) v t e
passes_bare s words w v t e same has p =
    passes_with s words [] w v t e same (record { area = p.loose.are.area; words = has; tables = p.loose.are.tables; cached = tt }) p

-- ---- for callers

-- a layer that is tied to its file stays so through a read
pub tied_stays : (s next : LayerState) (old new : Seen) → Tied s old.world → new.world ≡ old.world → next ≡ with_tables s (with_cached s.tables next.tables.cached) → CanRead next new → Tells new
    → Tied next new.world
tied_stays s next old new tied same rest reads told =
    let cached = next.tables.cached in
    let are : AreOf next.tables (file_of new.world next.slot) = (reads told (subst IsSure (sym same) (tied_sure s old.world tied))).are in
    let here : AreOf (with_cached s.tables cached) (file_of new.world s.slot) = subst (λ (x : LayerState). AreOf x.tables (file_of new.world x.slot)) rest are in
    subst (λ (x : LayerState). Tied x new.world) (sym rest)
    (tied_cached s cached old new same (subst (λ (w : World). AreOf (with_cached s.tables cached) (file_of w s.slot)) same here) tied)

-- a layer that was changed agrees with its file
pub tied_marked : (s : LayerState) (w : World) → Tied s w → s.marked ≡ true → Agrees s w
tied_marked s w (inl a) marked = a
tied_marked s w (inr h) marked = absurd (false≢true (sym h.marked ∙ marked))

-- a layer stays as it was mounted where another slot is written
pub loose_beside : (s : LayerState) (slot : ℕ) (old new : World) → (slot ≡ s.slot → ⊥) → IsSure new → SparesOthers slot old new → Loose s old → Loose s new
loose_beside s slot old new other sure spares h =
    let now : file_of old s.slot ≡ file_of new s.slot = sym (spares.files s.slot other) in
    let each = at_end (EachOutcome s.slot (λ file. file ≡ file_of old s.slot)) old.events new.events
    (others_keep (λ file. file ≡ file_of old s.slot) slot s.slot old.events new.events other spares.others h.alone) in
    record {
      sure = sure;
      sound = subst (λ (f : List ℕ). IsSound (identifiers_for s.tables.layout) s.tables.layout f) now h.sound;
      stages = h.stages;
      marked = h.marked;
      hardened = h.hardened;
      are = subst (λ (f : List ℕ). AreOf s.tables f) now h.are;
      fits = h.fits;
      pieces = subst (λ (f : List ℕ). s.plan.pieces ≡ pieces_of 0 (used_spaces s.tables.layout f) (length f)) now h.pieces;
      size = subst (λ (f : List ℕ). s.plan.size ≡ length f) now h.size;
      laid = h.laid;
      limited = h.limited;
      alone = subst (λ (f : List ℕ). EachOutcome s.slot (λ file. file ≡ f) new.events) now each;
    }

-- only what has happened counts
pub loose_events : (s : LayerState) (v w : World) → v.events ≡ w.events → Loose s v → Loose s w
loose_events s v w same h =
    let k : Loose s (record v { events = w.events }) = subst (λ (es : List Event). Loose s (record v { events = es })) same h in
    record {
      sure = k.sure;
      sound = k.sound;
      stages = k.stages;
      marked = k.marked;
      hardened = k.hardened;
      are = k.are;
      fits = k.fits;
      pieces = k.pieces;
      size = k.size;
      laid = k.laid;
      limited = k.limited;
      alone = k.alone;
    }

-- and what is put doesn't
pub loose_put : (s : LayerState) (bytes : List ℕ) (w : World) → Loose s w → Loose s (after_put bytes w)
loose_put s bytes w h = record {
  sure = h.sure;
  sound = h.sound;
  stages = h.stages;
  marked = h.marked;
  hardened = h.hardened;
  are = h.are;
  fits = h.fits;
  pieces = h.pieces;
  size = h.size;
  laid = h.laid;
  limited = h.limited;
  alone = put_step (λ file. file ≡ file_of w s.slot) s.slot bytes w.events h.alone;
}

-- ---- behind a look-up of the last entry

-- a look-up changes which tables are cached, and nothing else
pub entry_looked : (s : LayerState) (tables : TableView) (a b : Seen) → (Tells a → Tells b) → (Tells b → Tells a) → TiedIn s a → Stays a b → tables ≡ with_cached s.tables tables.cached → CanRead (with_tables s tables) b
    → IsOnlyLooked s (with_tables s tables) a b
entry_looked s tables a b tells back tied stays rest reads =
    let same : with_tables s tables ≡ with_tables s (with_cached s.tables tables.cached) = ap (with_tables s) rest in
    record {
      kept = stays;
      rest = same;
      tied = λ told sure. tied_stays s (with_tables s tables) a b (tied (back told) (subst IsSure (stays (back told)) sure)) (stays (back told)) same reads told;
    }

agrees_looked : (null : NullBytes) (s m : LayerState) (a b : Seen) → (Tells a → Tells b) → IsOnlyLooked s m a b → Tells a → Agrees s a.world → Agrees m b.world
agrees_looked null s m a b tells h told agrees = (still_looked null s m a b tells h told agrees).again.agrees

passes_looked : (s m : LayerState) (a b : Seen) (t : ℕ) (e : L2Entry) → (Tells a → Tells b) → IsOnlyLooked s m a b → Tells a → PassesEnd s a.world t e → PassesEnd m b.world t e
passes_looked s m a b t e tells h told p =
    let cached = m.tables.cached in
    let next = with_tables s (with_cached s.tables cached) in
    let are : AreOf m.tables (file_of b.world m.slot) = tied_are m b.world (h.tied (tells told) (subst IsSure (sym (h.kept told)) p.loose.sure)) in
    let same : AreOf next.tables (file_of a.world s.slot) =
    subst (λ (w : World). AreOf next.tables (file_of w s.slot)) (h.kept told) (subst (λ (x : LayerState). AreOf x.tables (file_of b.world x.slot)) h.rest are) in
    subst (λ (x : LayerState). PassesEnd x b.world t e) (sym h.rest) (passes_with s s.tables.words cached a.world b.world t e (h.kept told) same p)

-- the entry says no more than there is, so the layer agrees with its file
pub looked_fits : (null : NullBytes) (s m : LayerState) (a b : Seen) (t n : ℕ) (e : L2Entry) → (Tells a → Tells b) → IsOnlyLooked s m a b → Tells a → Tied s a.world → IsLastTrack s.plan.pieces t n
    → e ≡ new_entry s.tables.layout s.tables.stages (file_of a.world s.slot) t → (n < e.size → ⊥) → Agrees m b.world
looked_fits null s m a b t n e tells h told tied is entry fits = agrees_looked null s m a b tells h told (excess_fits s a.world t n e tied is entry fits)

-- it says more, so the space passes the end
pub looked_passes : (s m : LayerState) (a b : Seen) (t : Track_of) (n : ℕ) (e : L2Entry) (o : Option Excess) → (Tells a → Tells b) → IsOnlyLooked s m a b → Tells a → Tied s a.world → IsLastTrack s.plan.pieces t.0 n
    → e ≡ new_entry s.tables.layout s.tables.stages (file_of a.world s.slot) t.0 → IfSome o (λ x. (n < e.size) × (x.track ≡ t) × (x.entry ≡ record { pos = e.pos; len = e.len; size = n }))
    → IfSome o (λ x. PassesEnd m b.world x.track.0 x.entry)
looked_passes s m a b t n e None tells h told tied is entry found = tt
looked_passes s m a b t n e (Some x) tells h told tied is entry found =
    let p = passes_looked s m a b t.0 x.entry tells h told (excess_passes s a.world t.0 n e x.entry tied is entry found.0 found.2) in
    subst (λ (u : Track_of). PassesEnd m b.world u.0 x.entry) (sym found.1) p

-- a layer that agrees has none
pub agreed_none : (s : LayerState) (w : World) (t : Track_of) (n : ℕ) (e : L2Entry) (o : Option Excess) → Agrees s w → IsLastTrack s.plan.pieces t.0 n → e ≡ new_entry s.tables.layout s.tables.stages (file_of w s.slot) t.0
    → IfSome o (λ x. (n < e.size) × (x.track ≡ t) × (x.entry ≡ record { pos = e.pos; len = e.len; size = n })) → o ≡ None
agreed_none s w t n e None a is entry found = refl
agreed_none s w t n e (Some x) a is entry found = absurd (agrees_fits s w t.0 n e a is entry found.0)

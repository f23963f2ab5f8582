-- What holds of a layer once what was staged is committed.
use Rattle.std.proofs.Common.{◌≡◌, ℕ, List, [], Result, OnOk, OnErr, refl, sym, ◌∙◌, ap, subst}
use Rattle.cckd_shelf.specs.World.{World, IsSure, file_of, after_sync}
use Rattle.cckd_shelf.specs.Outcomes.{EachOutcome}
use Rattle.cckd_shelf.specs.Seen.{Seen, Tells, Stays, Makes}
use Rattle.cckd_shelf.specs.Stops.{StopsLeave}
use Rattle.cckd_shelf.proofs.MomentLemmas.{weaker, synced}
use Rattle.cckd_shelf.specs.declared.fault.Failed.{Failed}
use Rattle.cckd_base.specs.declared.geometry.Layout.{Layout}
use Rattle.cckd_base.specs.declared.entry.L2Entry.{L2Entry}
use Rattle.cckd_base.specs.Geometry.{track_count}
use Rattle.cckd_tables.specs.Staging.{Stages, new_entry}
use Rattle.cckd_tables.specs.Tables.{TableView, AreOf}
use Rattle.cckd_tables.specs.Looking.{IsTables}
use Rattle.cckd_tables.specs.Commit.{MayLeave, IsBlended, IsCommittedFrom}
use Rattle.cckd_tables.specs.Making.{Commits}
use Rattle.cckd_tables.proofs.StagedLemmas.{same_entry}
use Rattle.cckd_tables.proofs.CommittedLemmas.{order_of}
use Rattle.cckd_layer.specs.Held.{NullBytes, Tracks, AreSame, Keeps, Holds, held}
use Rattle.cckd_layer.specs.Stands.{LayerView, Stands, AreRising, nothing_staged}
use Rattle.cckd_layer.specs.Marks.{FitsLayout}
use Rattle.cckd_layer.specs.Mounted.{LayerState, kept_view}
use Rattle.cckd_layer.specs.Writes.{Agrees, AgreesAgain, map_of, entry_now, IsCommitted, IsReleased, StopsWithin, StopHolds}
use Rattle.cckd_layer.proofs.StandLemmas.{stands_sits, stands_synced, stands_released}
use Rattle.cckd_layer.proofs.CommitLemmas.{can_commit}
use Rattle.cckd_layer.proofs.CommittedLemmas.{stands_committed, committed_holds, commit_keeps}

pub rising_of : (v : TableView) → IsTables v → AreRising v.stages
rising_of v t = let o = order_of v.layout v.stages t.staged t.there in record { tracks = o.tracks; groups = o.groups }

-- what a layer has staged can be committed, where the layer agrees with its file
pub commits_of : (s : LayerState) (old : Seen) → IsTables s.tables → Tells old → Agrees s old.world → Commits s.tables.layout s.tables.stages s.slot old
commits_of s old t told a = record {
  tells = told;
  sure = a.stands.sure;
  can = can_commit s.tables.layout s.tables.stages [] s.plan (file_of old.world s.slot) (rising_of s.tables t).groups (stands_sits (kept_view s) s.slot old.world a.stands) a.stands.now;
}

-- what goes with the file once all is committed
view_committed : (s next : LayerState) → IsCommitted s next → kept_view next ≡ record (kept_view s) { stages = nothing_staged; plan = next.plan }
view_committed s next c =
    ap kept_view c.rest
    ∙ ap (λ (t : TableView). let v : LayerView = record { layout = t.layout; stages = t.stages; claims = []; plan = next.plan; marked = s.marked } in v) c.tables.rest

slot_committed : (s next : LayerState) → IsCommitted s next → next.slot ≡ s.slot
slot_committed s next c = ap (λ (x : LayerState). x.slot) c.rest

map_committed : (null : NullBytes) (s next : LayerState) (new : Seen) → IsCommitted s next → map_of null next new ≡ held null s.tables.layout nothing_staged (file_of new.world s.slot)
map_committed null s next new c =
    ap (λ (x : LayerState). map_of null x new) c.rest
    ∙ ap (λ (t : TableView). held null t.layout t.stages (file_of new.world s.slot)) c.tables.rest

entries_committed : (s next : LayerState) (new : Seen) → IsCommitted s next → entry_now next new ≡ new_entry s.tables.layout nothing_staged (file_of new.world s.slot)
entries_committed s next new c =
    ap (λ (x : LayerState). entry_now x new) c.rest
    ∙ ap (λ (t : TableView). new_entry t.layout t.stages (file_of new.world s.slot)) c.tables.rest

-- It agrees with its file again, with the same map.
pub committed_agrees : (null : NullBytes) (s next : LayerState) (old new : Seen) → IsTables s.tables → Agrees s old.world → IsSure new.world
    → EachOutcome s.slot (IsBlended s.tables.layout s.tables.stages (file_of old.world s.slot)) new.world.events
    → IsCommittedFrom s.tables.layout s.tables.stages (file_of old.world s.slot) (file_of new.world s.slot)
    → AreOf next.tables (file_of new.world s.slot) → IsCommitted s next → AgreesAgain null s next old new
committed_agrees null s next old new t a sure each now of c =
    let v = kept_view s in
    let w = after_sync s.slot old.world in
    let rising = rising_of s.tables t in
    let k = stands_synced v s.slot old.world w refl a.stands in
    let free = stands_released v c.pieces.freed s.slot w c.pieces.free c.pieces.sound.laid k.1 k.0 in
    let done = stands_committed (record v { plan = c.pieces.freed }) next.plan s.slot w new.world rising free sure each now c.pieces.settled c.sound.laid in
    let holds = committed_holds null v s.slot old.world (file_of new.world s.slot) rising a.stands now in
    record {
      agrees = record {
        stands = subst (λ (n : ℕ). Stands (kept_view next) n new.world) (sym (slot_committed s next c))
            (subst (λ (x : LayerView). Stands x s.slot new.world) (sym (view_committed s next c)) done);
        are = subst (λ (n : ℕ). AreOf next.tables (file_of new.world n)) (sym (slot_committed s next c)) of;
        fits = subst (λ (x : LayerState). FitsLayout x.tables.layout x.header.cckd) (sym c.rest)
            (subst (λ (l : Layout). FitsLayout l s.header.cckd) (sym (ap (λ (x : TableView). x.layout) c.tables.rest)) a.fits);
        empty = λ h. absurd (let soft = ap (λ (x : LayerState). x.hardened) c.rest in cc);
        alone = λ h. absurd (let soft = ap (λ (x : LayerState). x.hardened) c.rest in cc);
      };
      entries = λ u low. ap (λ (f : ℕ → L2Entry). f u) (entries_committed s next new c)
          ∙ now.2.entries u low ∙ same_entry s.tables.layout s.tables.stages (file_of old.world s.slot) now.0 u (now.1.entries u low);
      same = subst (λ (m : Tracks). AreSame (track_count s.tables.layout.geo) m (map_of null s old)) (sym (map_committed null s next new c)) (record { each = holds.same.each });
    }

-- at each operation of a commit
pub commit_within : (null : NullBytes) (s : LayerState) (old new : Seen) → IsTables s.tables
    → (Commits s.tables.layout s.tables.stages s.slot old → StopsLeave s.slot (MayLeave s.tables.layout s.tables.stages s.slot old.world.events (file_of old.world s.slot)) old new)
    → StopsWithin null s old new
commit_within null s old new t stopped d later told a within each =
    let l = s.tables.layout in
    let may = MayLeave l s.tables.stages s.slot old.world.events (file_of old.world s.slot) in
    weaker (EachOutcome s.slot may) (EachOutcome s.slot (Keeps null l d later)) old.world.events new.world.events
    (λ es h f o. commit_keeps null d later (kept_view s) s.slot old.world (rising_of s.tables t) a.stands within each f (h f o))
    (stopped (commits_of s old t told a) told)

-- ---- a sync that makes it stay

-- it agrees again, where nothing was staged
pub released_agrees : (null : NullBytes) (s next : LayerState) (old new : Seen) → s.tables.stages ≡ nothing_staged → new.world ≡ after_sync s.slot old.world → IsReleased s next → Agrees s old.world
    → AgreesAgain null s next old new
released_agrees null s next old new empty made c a =
    let k = stands_synced (kept_view s) s.slot old.world new.world made a.stands in
    let done = stands_released (kept_view s) next.plan s.slot new.world c.pieces c.sound.laid k.1 k.0 in
    let file : file_of new.world s.slot ≡ file_of old.world s.slot = ap (λ (w : World). file_of w s.slot) made in
    let slot : next.slot ≡ s.slot = ap (λ (x : LayerState). x.slot) c.rest in
    let tables : next.tables ≡ s.tables = ap (λ (x : LayerState). x.tables) c.rest in
    let view : kept_view next ≡ record (kept_view s) { plan = next.plan } = ap kept_view c.rest in
    let now : map_of null next new ≡ map_of null s old =
    ap (λ (x : LayerState). map_of null x new) c.rest ∙ ap (λ (f : List ℕ). held null s.tables.layout s.tables.stages f) file in
    let entry : entry_now next new ≡ entry_now s old =
    ap (λ (x : LayerState). entry_now x new) c.rest ∙ ap (λ (f : List ℕ). new_entry s.tables.layout s.tables.stages f) file in
    record {
      agrees = record {
        stands = subst (λ (n : ℕ). Stands (kept_view next) n new.world) (sym slot) (subst (λ (x : LayerView). Stands x s.slot new.world) (sym view) done);
        are = subst (λ (t : TableView). AreOf t (file_of new.world next.slot)) (sym tables)
            (subst (λ (n : ℕ). AreOf s.tables (file_of new.world n)) (sym slot) (subst (λ (f : List ℕ). AreOf s.tables f) (sym file) a.are));
        fits = subst (λ (x : LayerState). FitsLayout x.tables.layout x.header.cckd) (sym c.rest) a.fits;
        empty = λ h. ap (λ (t : TableView). t.stages) tables ∙ empty;
        alone = λ h. subst (λ (n : ℕ). EachOutcome n (λ f. f ≡ file_of new.world n) new.world.events) (sym slot) k.1;
      };
      entries = λ t low. ap (λ (f : ℕ → L2Entry). f t) entry;
      same = record { each = λ t low. ap (λ (m : Tracks). m t) now };
    }

-- a stop leaves exactly the layer's map, where nothing is staged and the file is alone
pub alone_holds : (null : NullBytes) (s : LayerState) (old new : Seen) → s.tables.stages ≡ nothing_staged → Stands (kept_view s) s.slot new.world → file_of new.world s.slot ≡ file_of old.world s.slot
    → EachOutcome s.slot (λ f. f ≡ file_of new.world s.slot) new.world.events → EachOutcome s.slot (Holds null s.tables.layout (map_of null s old)) new.world.events
alone_holds null s old new empty stands file alone f o = record {
  whole = (stands.each f o).whole;
  same = record {
    each = λ t low.
        ap (λ (x : List ℕ). held null s.tables.layout nothing_staged x t) (alone f o ∙ file)
        ∙ ap (λ (st : Stages). held null s.tables.layout st (file_of old.world s.slot) t) (sym empty);
  };
}

pub synced_holds : (null : NullBytes) (s : LayerState) (old new : Seen) → s.tables.stages ≡ nothing_staged → new.world ≡ after_sync s.slot old.world → StopHolds null s old new
synced_holds null s old new empty made told a =
    let k = stands_synced (kept_view s) s.slot old.world new.world made a.stands in
    alone_holds null s old new empty k.0 (ap (λ (w : World). file_of w s.slot) made) k.1

pub sync_within : (null : NullBytes) (s : LayerState) (old new : Seen) (result : Result (Unit {0}) Failed) → OnOk result (Makes (after_sync s.slot) old new) → OnErr result (Stays old new) → StopsWithin null s old new
sync_within null s old new result done kept d later told a within each =
    synced (Keeps null s.tables.layout d later) s.slot s.slot old new result done kept told each

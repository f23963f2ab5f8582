-- An engine that was just mounted.
use Rattle.cckd_engine.proofs.RoomLemmas.{last_slot}
use Rattle.cckd_stack.specs.Room.{IsInRoom, HasRoom, first_room, last_file}
use Rattle.cckd_stack.specs.Tops.{top_slot}
use Rattle.cckd_layer.specs.Stands.{nothing_staged}
use Rattle.cckd_tables.specs.Staging.{Stages, IsMoved}
use Rattle.std.proofs.Common.{◌≡◌, ℕ, suc, ◌∷◌, false, List, [], length, Option, None, refl, sym, ◌∙◌, ap, subst, ◌≤◌, arith, inl, inr}
use Rattle.std.proofs.Math.Path.{fun_ext}
use Rattle.cckd_base.specs.Track.{null_track}
use Rattle.cckd_shelf.specs.Seen.{Seen, Tells, Makes}
use Rattle.cckd_shelf.specs.Events.{is_sure}
use Rattle.cckd_shelf.specs.World.{World, IsSure, file_of}
use Rattle.cckd_layer.specs.Mounted.{LayerState}
use Rattle.cckd_stack.specs.Layers.{Stack}
use Rattle.cckd_stack.specs.Opened.{Opens}
use Rattle.cckd_stack.specs.Stops.{Lies, Survives}
use Rattle.cckd_stack.specs.Moments.{EachOpens}
use Rattle.cckd_stack.specs.Stacked.{StackState, IsStack, OfFiles, stack_of}
use Rattle.cckd_stack.specs.Mounting.{IsMounted, AreFreshFrom, StandFrom, after_syncs, AreOfFrom}
use Rattle.cckd_stack.specs.Writes.{AgreeAll, AreTied, AreUnchanged, AreAbsentAbove, EndsWith}
use Rattle.cckd_stack.specs.Called.{AreSnug, StayAbsent, CanCall, AgreesAfter, stack_in}
use Rattle.cckd_stack.proofs.BridgeLemmas.{mounted_opens}
use Rattle.cckd_stack.proofs.MountedLemmas.{syncs_files, syncs_sure}
use Rattle.cckd_stack.proofs.SomeLemmas.{sure_unsynced}
use Rattle.cckd_stack.proofs.TiedLemmas.{mounted_agree, mounted_hardening}
use Rattle.cckd_stack.proofs.OpenedLemmas.{opens_once, mounted_snug, mounted_absent}
use Rattle.cckd_engine.specs.declared.tally.Tally.{Tally}
use Rattle.cckd_engine.specs.Engine.{Stands, no_tally}
use Rattle.cckd_base.specs.Header.{is_present}
use Rattle.cckd_layer.proofs.CalmLemmas.{stays_once}
use Rattle.cckd_stack.specs.Marking.{MarkChanges, MarksSince}
use Rattle.cckd_engine.proofs.CallLemmas.{agrees_now, agrees_then}

module _ (limit : ℕ) (s : StackState) (old new : Seen) (is : IsStack s) (fresh : AreFreshFrom limit 0 s.layers) (tells : Tells old → Tells new) (back : Tells new → Tells old)
    (mounted : OfFiles (λ files. IsMounted files s) old) (stand : OfFiles (λ files. StandFrom files new.world 0 s.layers) old)
    (synced : Makes (after_syncs (length s.layers)) old new)
  where
    -- the files open to it
    now_opens : Tells old → IsSure old.world → Opens s.geometry (file_of old.world) (stack_in s new.world.events)
    now_opens told sure =
        let same : file_of new.world ≡ file_of old.world =
        fun_ext (λ k. ap (λ (w : World). file_of w k) (synced told) ∙ syncs_files (length s.layers) old.world k) in
        subst (λ (files : ℕ → List ℕ). Opens s.geometry (file_of old.world) (stack_of null_track s.layers files)) (sym same)
        (mounted_opens limit (file_of old.world) s is fresh (mounted told sure))

    pub mount_opens : OfFiles (λ files. (s0 : Stack) × Opens s.geometry files s0) old
    mount_opens = λ told sure. (stack_in s new.world.events, now_opens told sure)

    pub mount_stands : OfFiles (λ files. (s0 : Stack) → Opens s.geometry files s0
        → Stands s0 [] (record { geometry = s.geometry; stack = stack_in s new.world.events; sure = is_sure new.world.events; calls = 0; broken = None; tally = no_tally })) old
    mount_stands = λ told sure s0 opens. record {
      legal = tt;
      last = λ none. opens_once s.geometry (file_of old.world) (stack_in s new.world.events) s0 (now_opens told sure) opens;
      sure = λ none. subst IsSure (sym (synced told)) (syncs_sure (length s.layers) old.world sure);
      number = refl;
      breaks = refl;
      tally = refl;
    }

    agree_all : Tells old → IsSure old.world → AreSnug (file_of old.world) → AgreeAll s.layers new.world
    agree_all told sure snug =
        mounted_agree limit s old new is fresh (tells told) sure (mounted told sure) (mounted_snug (file_of old.world) s snug (mounted told sure)) (synced told) (stand told sure)

    pub mount_agrees : OfFiles (λ files. AreSnug files → AgreesAfter s new.world.events) old
    mount_agrees = λ told sure snug. agrees_then s new.world (agree_all told sure snug)

    pub mount_stops : OfFiles (λ files. AreSnug files → StayAbsent old.world → (s0 : Stack) → Opens s.geometry files s0 → EachOpens s.geometry (Survives s.geometry s0 []) new.world.events) old
    mount_stops = λ told sure snug absent s0 opens.
        let same : stack_in s new.world.events ≡ s0 = opens_once s.geometry (file_of old.world) (stack_in s new.world.events) s0 (now_opens told sure) opens in
        let above : AreAbsentAbove (length s.layers) new.world = subst (AreAbsentAbove (length s.layers)) (sym (synced told)) (mounted_absent old.world s absent (mounted told sure)) in
        let h =
        mounted_hardening limit s old new is fresh (tells told) sure (mounted told sure) (mounted_snug (file_of old.world) s snug (mounted told sure)) (synced told) (stand told sure) above in
        subst (λ (x : Stack). EachOpens s.geometry (Lies x []) new.world.events) same h.hardened.stops

-- ---- all of it at once

-- the files were mounted as this stack, and nothing was done but their syncs
pub record IsJustMounted (limit : ℕ) (s : StackState) (old new : Seen) : Type 0 where
  pub is : IsStack s
  pub whole : s.broken ≡ false
  pub fresh : AreFreshFrom limit 0 s.layers
  pub tells : Tells old → Tells new
  pub back : Tells new → Tells old
  pub mounted : OfFiles (λ files. IsMounted files s) old
  pub stand : OfFiles (λ files. StandFrom files new.world 0 s.layers) old
  pub synced : Makes (after_syncs (length s.layers)) old new
  pub tied : OfFiles (λ files. AreTied s.layers new.world) old

pub just_by : (limit : ℕ) (s next : StackState) (old mid new : Seen) → next ≡ s → new ≡ mid → IsJustMounted limit s old mid → IsJustMounted limit next old new
just_by limit s next old mid new same still just =
    subst (λ (x : StackState). IsJustMounted limit x old new) (sym same) (subst (IsJustMounted limit s old) (sym still) just)

module _ (limit : ℕ) (s : StackState) (old new : Seen) (m : IsJustMounted limit s old new) where
  pub just_opens : OfFiles (λ files. (s0 : Stack) × Opens s.geometry files s0) old
  just_opens = mount_opens limit s old new m.is m.fresh m.tells m.back m.mounted m.stand m.synced

  pub just_stands : OfFiles (λ files. (s0 : Stack) → Opens s.geometry files s0
      → Stands s0 [] (record { geometry = s.geometry; stack = stack_in s new.world.events; sure = is_sure new.world.events; calls = 0; broken = None; tally = no_tally })) old
  just_stands = mount_stands limit s old new m.is m.fresh m.tells m.back m.mounted m.stand m.synced

  -- it can make calls, whatever the files are
  pub just_runs : CanCall s new
  just_runs = record {
    whole = m.whole;
    tied = λ told sure. m.tied (m.back told) (sure_unsynced (length s.layers) old.world (subst IsSure (m.synced (m.back told)) sure));
  }

  pub just_agrees : OfFiles (λ files. AreSnug files → AgreesAfter s new.world.events) old
  just_agrees = mount_agrees limit s old new m.is m.fresh m.tells m.back m.mounted m.stand m.synced

  pub just_stops : OfFiles (λ files. AreSnug files → StayAbsent old.world → (s0 : Stack) → Opens s.geometry files s0 → EachOpens s.geometry (Survives s.geometry s0 []) new.world.events) old
  just_stops = mount_stops limit s old new m.is m.fresh m.tells m.back m.mounted m.stand m.synced

  pub just_new : (calls : ℕ) (broken : Option ℕ) (tally : Tally) → calls ≡ 0 → broken ≡ None → tally ≡ no_tally
      → OfFiles (λ files. (s0 : Stack) → Opens s.geometry files s0
      → Stands s0 [] (record { geometry = s.geometry; stack = stack_in s new.world.events; sure = is_sure new.world.events; calls = calls; broken = broken; tally = tally })) old
  just_new calls broken tally none whole still = λ told sure s0 opens.
      subst (λ (n : ℕ). Stands s0 [] (record { geometry = s.geometry; stack = stack_in s new.world.events; sure = is_sure new.world.events; calls = n; broken = broken; tally = tally })) (sym none)
      (subst (λ (b : Option ℕ). Stands s0 [] (record { geometry = s.geometry; stack = stack_in s new.world.events; sure = is_sure new.world.events; calls = 0; broken = b; tally = tally })) (sym whole)
      (subst (λ (t : Tally). Stands s0 [] (record { geometry = s.geometry; stack = stack_in s new.world.events; sure = is_sure new.world.events; calls = 0; broken = None; tally = t })) (sym still)
      (just_stands told sure s0 opens)))

-- layers that were just mounted weren't changed
pub fresh_unchanged : (limit slot : ℕ) (layers : List LayerState) → AreFreshFrom limit slot layers → AreUnchanged layers
fresh_unchanged limit slot [] fresh = tt
fresh_unchanged limit slot (s ∷ ss) fresh = (record { unmarked = fresh.0.marked; hardened = fresh.0.hardened }, fresh_unchanged limit (suc slot) ss fresh.1)

-- ---- the room

-- the last of layers that were just mounted has the room of its file
fresh_room : (limit slot : ℕ) (layers : List LayerState) (files : ℕ → List ℕ) → 1 ≤ length layers → AreFreshFrom limit slot layers → AreOfFrom files slot layers
    → EndsWith (λ s. IsInRoom (first_room limit (length (files s.slot))) s) layers
fresh_room limit slot [] files some fresh are = absurd (omega (arith, some))
fresh_room limit slot (s ∷ []) files some fresh are = record {
  lower = [];
  last = s;
  layers_are = refl;
  holds = record {
    limit = fresh.0.limit_is;
    low = omega arith;
    size = (let n = are.0.size in let at = ap (λ (k : ℕ). length (files k)) fresh.0.slot_is in omega (arith, n, at));
    tables = λ g moved. absurd (none_moved g (subst (λ (st : Stages). IsMoved g st) fresh.0.stages moved));
    empty = λ quiet. fresh.0.stages;
  };
}
  where
    none_moved : (g : ℕ) → IsMoved g nothing_staged → ⊥
    none_moved g h = cc
fresh_room limit slot (s ∷ n ∷ ns) files some fresh are =
    let h = fresh_room limit (suc slot) (n ∷ ns) files (omega arith) fresh.1 are.1 in
    record { lower = s ∷ h.lower; last = h.last; layers_are = ap (λ (l : List LayerState). s ∷ l) h.layers_are; holds = h.holds }

pub just_room : (limit : ℕ) (s : StackState) (old new : Seen) → IsJustMounted limit s old new
    → OfFiles (λ files. (s0 : Stack) → Opens s.geometry files s0 → HasRoom s (first_room limit (length (last_file s0 files)))) old
just_room limit s old new m = λ told sure s0 opens.
    let files = file_of old.world in
    let h = fresh_room limit 0 s.layers files m.is.some m.fresh (m.mounted told sure).are in
    let same : stack_in s new.world.events ≡ s0 = opens_once s.geometry files (stack_in s new.world.events) s0 (now_opens limit s old new m.is m.fresh m.tells m.back m.mounted m.stand m.synced told sure) opens in
    let at : top_slot s0 ≡ h.last.slot = ap top_slot (sym same) ∙ last_slot s.geometry s new.world.events h.lower h.last m.is.layers h.layers_are in
    record {
      lower = h.lower;
      last = h.last;
      layers_are = h.layers_are;
      holds = subst (λ (n : ℕ). IsInRoom (first_room limit (length (files n))) h.last) (sym at) h.holds;
    }

-- ---- what its marks say

marks_fresh : (layers : List LayerState) (w : World) → AreUnchanged layers → AgreeAll layers w → MarkChanges w.events w.events layers
marks_fresh [] w calm agree = tt
marks_fresh (s ∷ ss) w calm agree = (inr (calm.0, inl (stays_once s.slot w.events (agree.0.alone calm.0.hardened))), marks_fresh ss w calm.1 agree.1)

pub just_marks : (limit : ℕ) (s : StackState) (old new : Seen) → IsJustMounted limit s old new → OfFiles (λ files. AreSnug files → MarksSince s new.world.events new.world.events) old
just_marks limit s old new m = λ told sure snug. record {
  layers = m.is.layers;
  marks = marks_fresh s.layers new.world (fresh_unchanged limit 0 s.layers m.fresh) (agrees_now s new.world (just_agrees limit s old new m told sure snug));
  above = λ slot high few.
      subst (λ (file : List ℕ). is_present file ≡ false) (sym (ap (λ (w : World). file_of w slot) (m.synced told) ∙ syncs_files (length s.layers) old.world slot))
      ((m.mounted told sure).row.none slot high few);
}

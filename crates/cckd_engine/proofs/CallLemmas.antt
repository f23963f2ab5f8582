-- What a call of a stack is, as an engine asks it of its disk.
use Rattle.cckd_engine.proofs.RoomLemmas.{StaysLast, room_looks, room_hardens}
use Rattle.cckd_base.specs.declared.space.Full.{Full}
use Rattle.cckd_stack.specs.Room.{IfFull}
use Rattle.std.proofs.Common.{◌≡◌, ℕ, ◌≤◌, false, List, [], length, Option, Some, None, Result, Ok, Err, OnOk, IfErr, refl, sym, ◌∙◌, ap, subst}
use Rattle.std.specs.Option.{option_or}
use Rattle.cckd_base.specs.declared.geometry.Geometry.{Geometry}
use Rattle.cckd_base.specs.declared.call.Call.{Call}
use Rattle.cckd_base.specs.declared.reply.Reply.{Reply}
use Rattle.cckd_base.specs.declared.reply.Reply.TheVariants as reply
use Rattle.cckd_base.specs.declared.reply.Refusal.{Refusal}
use Rattle.cckd_base.specs.declared.reply.Refusal.TheVariants as refusal
use Rattle.cckd_base.specs.declared.layer_fault.LayerFault.{LayerFault}
use Rattle.cckd_base.specs.declared.layer_fault.LayerFault.TheVariants as fault
use Rattle.cckd_base.specs.declared.layer_fault.StackFault.{StackFault}
use Rattle.cckd_base.specs.declared.layer_fault.StackFault.TheVariants as stack_fault
use Rattle.cckd_base.specs.Track.{null_track}
use Rattle.cckd_shelf.specs.declared.fault.Faults.{Faults}
use Rattle.cckd_shelf.specs.Events.{output_of}
use Rattle.cckd_shelf.specs.World.{World, IsSure}
use Rattle.cckd_shelf.specs.Seen.{Seen, Tells, Stays}
use Rattle.cckd_shelf.proofs.MomentLemmas.{at_once, kept_at}
use Rattle.cckd_script.specs.Text.{FitsCall, RefusalFitsCall}
use Rattle.cckd_layer.specs.Writes.{IsOutside}
use Rattle.cckd_stack.specs.Layers.{Stack}
use Rattle.cckd_stack.specs.Answers.{Request, Answer, MayAnswer, refuses, plain, refused, address_in, no_such_track, refusal_to, is_refused, stack_after_call}
use Rattle.cckd_stack.specs.History.{refusal_breaks, reply_breaks}
use Rattle.cckd_stack.specs.Stops.{Lies, hardens}
use Rattle.cckd_stack.specs.Moments.{EachOpens, Hardening, IsHardened}
use Rattle.cckd_stack.specs.Stacked.{StackState, InLayer, CanReadAll, OnlyCaches, CountsFault, CountsKind, kind_told, with_layers, IsStack, AreLayersFrom}
use Rattle.cckd_stack.specs.Writes.{AgreeAll, AreUnchanged, KeepsEach, HasHardening, StopsLie, StopsSettle, OnlyHardens, reply_by, refusal_by, is_broken_by, IsHardenedLast}
use Rattle.cckd_stack.specs.Called.{CanCall, AgreesAfter, stack_in, only_events}
use Rattle.cckd_stack.proofs.CalledLemmas.{stops_unhardened, harden_answers, harden_stack, harden_stops, call_breaks}
use Rattle.cckd_stack.proofs.TiedLemmas.{agree_by, caches_keep, caches_unchanged, tied_sure}
use Rattle.cckd_engine.specs.Calls.{CountsReply, CountsOne, RunStays, asks, fault_told}
use Rattle.cckd_engine.specs.Frame.{Spares, IsLower}
use Rattle.cckd_engine.specs.Performs.{Performs}
use Rattle.cckd_engine.specs.Closing.{ClosesFiles}
use Rattle.cckd_engine.proofs.FrameLemmas.{spares_still, reads_spare}

-- ---- a world of which what happened is told

pub agrees_now : (s : StackState) (w : World) → AgreesAfter s w.events → AgreeAll s.layers w
agrees_now s w agree = agree_by s.layers (only_events w.events) w refl agree

pub agrees_then : (s : StackState) (w : World) → AgreeAll s.layers w → AgreesAfter s w.events
agrees_then s w agree = agree_by s.layers w (only_events w.events) refl agree

-- ---- a track that the device doesn't have

module _ (old : StackState) (now : Seen) (can : CanCall old now) (is : IsStack old) where
  pub no_track : (r : Request) → no_such_track old.geometry (address_in r.asked) ≡ Some refusal.NoSuchTrack
      → Performs r (refused refusal.NoSuchTrack) old old now now
  no_track r none = record {
    answers = λ told sure. refuses refusal.NoSuchTrack (no_track_first old.geometry (stack_in old now.world.events) r none) refl;
    fits = tt;
    stack = λ told sure fine. refl;
    sure = λ told sure fine. sure;
    ready = λ fine. can;
    geometry = refl;
    agrees = λ fine told agree. agree;
    stops = λ was told agree is hardened.
        stops_unhardened old.geometry was r (reply.Refused refusal.NoSuchTrack) now.world.events now.world.events
        (at_once (EachOpens old.geometry (Lies was.hard was.later)) now.world.events hardened.stops) refl;
    quiet = λ unchanged silent. (unchanged, λ told. refl);
    spares = spares_still (IsLower old) now;
    room = λ told sure. room_looks r (reply.Refused refusal.NoSuchTrack) old old now now is.layers is.some refl (can.tied told sure) refl (λ P. tt);
    closes = λ base told agree m. record { again = λ fine. m; closed = λ closed. absurd (let e = closed in cc) };
    counts = refl;
    run = λ told. record { output = refl; script = refl };
  }
    where
      or_first : (a b c : Option Refusal) (why : Refusal) → a ≡ Some why → option_or (option_or a b) c ≡ Some why
      or_first a b c why e = ap (λ (o : Option Refusal). option_or (option_or o b) c) e

      no_track_first : (g : Geometry) (s : Stack) (r : Request) → no_such_track g (address_in r.asked) ≡ Some refusal.NoSuchTrack → refusal_to g s r ≡ Some refusal.NoSuchTrack
      no_track_first g s r none = or_first (no_such_track g (address_in r.asked)) _ _ refusal.NoSuchTrack none

-- ---- faults and counts

-- a fault of a stack fits each call, but that there are too many layers
pub fault_fits : (P : LayerFault → Type 0) (why : StackFault) → InLayer P why → RefusalFitsCall (refusal_by why)
fault_fits P (stack_fault.Layer (fault.Track why)) h = tt
fault_fits P (stack_fault.Layer (fault.Full full)) h = tt
fault_fits P (stack_fault.Layer fault.ReadFault) h = tt
fault_fits P (stack_fault.Layer fault.WriteFault) h = tt
fault_fits P (stack_fault.Layer fault.SyncFault) h = tt
fault_fits P (stack_fault.TooMany have) h = absurd h
fault_fits P stack_fault.OnlyBase h = tt
fault_fits P stack_fault.Memory h = tt

-- what it counts is what its refusal tells
pub fault_counts : (why : StackFault) (old new : Faults) → CountsKind (kind_told why) old new → CountsReply (reply.Refused (refusal_by why)) old new
fault_counts (stack_fault.Layer (fault.Track why)) old new h = h
fault_counts (stack_fault.Layer (fault.Full full)) old new h = h
fault_counts (stack_fault.Layer fault.ReadFault) old new h = h
fault_counts (stack_fault.Layer fault.WriteFault) old new h = h
fault_counts (stack_fault.Layer fault.SyncFault) old new h = h
fault_counts (stack_fault.TooMany have) old new h = h
fault_counts stack_fault.OnlyBase old new h = h
fault_counts stack_fault.Memory old new h = h

pub done_counts : (A : Type 0) (done : Reply) (result : Result A StackFault) (old new : Faults) → fault_told done ≡ None → CountsFault result old new → CountsReply (reply_by done result) old new
done_counts A done (Ok a) old new none h = subst (λ (k : _). CountsOne k old new) (sym none) h
done_counts A done (Err why) old new none h = fault_counts why old new h

pub done_fits : (A : Type 0) (P : LayerFault → Type 0) (c : Call) (n : ℕ) (done : Reply) (result : Result A StackFault) → FitsCall c n done → IfErr result (InLayer P) → FitsCall c n (reply_by done result)
done_fits A P c n done (Ok a) fits h = fits
done_fits A P c n done (Err why) fits h = fault_fits P why h

on_ok : (A : Type 0) (P Q : Type 0) (result : Result A StackFault) → OnOk result P → (P → Q) → OnOk result Q
on_ok A P Q (Ok a) h f = f h
on_ok A P Q (Err why) h f = tt

-- ---- calls that only read

module _ (old new : StackState) (before after : Seen) (can : CanCall old before) (tells : Tells before → Tells after) (back : Tells after → Tells before)
    (rest : new ≡ with_layers old new.layers) (caches : OnlyCaches old.layers new.layers) (can_read : CanReadAll new.layers after) (kept : Stays before after) (is : IsStack old)
  where
    pub reads_keep : KeepsEach null_track old.layers new.layers before after
    reads_keep = caches_keep null_track old.layers new.layers before after caches tells kept can_read

    pub reads_do : (r : Request) (said : Answer)
        → (Tells before → IsSure before.world → MayAnswer old.geometry (stack_in old before.world.events) r said)
        → FitsCall r.asked (length r.given) said.reply
        → ((s : Stack) → stack_after_call old.geometry s r said.reply ≡ s)
        → hardens r.asked said.reply ≡ false
        → CountsReply said.reply before.faults after.faults
        → ((P : Full → Type 0) → IfFull said.reply P)
        → ClosesFiles r said old new before after
        → Performs r said old new before after
    reads_do r said answers fits same calm counts roomy closes = record {
      answers = answers;
      fits = fits;
      stack = λ told sure fine. (reads_keep.tied told (can.tied told sure)).are ∙ sym (same (stack_in old before.world.events));
      sure = λ told sure fine. subst IsSure (sym (kept told)) sure;
      ready = λ fine. record {
        whole = ap (λ (s : StackState). s.broken) rest ∙ can.whole;
        tied = λ told sure. (reads_keep.tied (back told) (can.tied (back told) (subst IsSure (kept (back told)) sure))).agree;
      };
      geometry = ap (λ (s : StackState). s.geometry) rest;
      agrees = λ fine told agree. agrees_then new after.world (reads_keep.agreed told (agrees_now old before.world agree)).agree;
      stops = λ was told agree is hardened.
          stops_unhardened old.geometry was r said.reply before.world.events after.world.events
          (kept_at (EachOpens old.geometry (Lies was.hard was.later)) before.world after.world (kept told) hardened.stops) calm;
      quiet = λ unchanged silent. (caches_unchanged old.layers new.layers caches unchanged, kept);
      spares = reads_spare old new before after caches kept;
      room = λ told sure. room_looks r said.reply old new before after is.layers is.some caches (reads_keep.tied told (can.tied told sure)).agree calm roomy;
      closes = closes;
      counts = counts;
      run = λ told. record { output = ap (λ (w : World). output_of w.events) (kept told); script = ap (λ (w : World). w.script) (kept told) };
    }

-- ---- calls that only harden

-- where nothing is done, nothing is changed
pub still_quiet : (old new : StackState) (before after : Seen) → new ≡ old → after ≡ before → AreUnchanged old.layers → AreUnchanged new.layers × Stays before after
still_quiet old new before after same still unchanged = (subst (λ (s : StackState). AreUnchanged s.layers) (sym same) unchanged, λ told. ap (λ (s : Seen). s.world) still)

-- what was hardened and written, of this stack
pub has : (old : StackState) (before : Seen) (was : Hardening) → Tells before → AgreesAfter old before.world.events → was.stack ≡ stack_in old before.world.events
    → IsHardened old.geometry was before.world.events → HasHardening null_track old.geometry old.layers was before
has old before was told agree is hardened = record {
  null_is = refl;
  tells = told;
  agree = agrees_now old before.world agree;
  stack_is = is;
  hardened = hardened;
}

module _ (old new : StackState) (before after : Seen) (can : CanCall old before) (back : Tells after → Tells before)
    (result : Result (Unit {0}) StackFault) (geometry : new.geometry ≡ old.geometry) (broken : new.broken ≡ is_broken_by result)
    (lies : StopsLie null_track old.geometry old.layers before after) (run : Tells before → RunStays before.world after.world)
    (some : 1 ≤ length new.layers) (grown : Tells before → IsSure after.world → IsSure before.world) (spares : Spares (IsLower old) (IsLower new) before after)
  where
    pub harden_does : (c : Call) (given : List ℕ) (done : Reply) → OnlyHardens c done → refusal_breaks c refusal.ReadFault ≡ false → is_refused done ≡ false
        → FitsCall c (length given) done → fault_told done ≡ None
        → (new.broken ≡ false → KeepsEach null_track old.layers new.layers before after)
        → OnOk result (StopsSettle null_track old.geometry old.layers before after)
        → IfErr result (InLayer IsOutside) → CountsFault result before.faults after.faults
        → (AreUnchanged old.layers → AreUnchanged new.layers × Stays before after)
        → AreLayersFrom old.geometry 0 old.layers → StaysLast old.layers new.layers → OnOk result (IsHardenedLast new.layers)
        → ((reply_breaks c (reply_by done result) ≡ false → new.broken ≡ false)
        → (reply_breaks c (reply_by done result) ≡ false → Tells before → AgreesAfter old before.world.events → AgreesAfter new after.world.events)
        → ClosesFiles (asks c given) (plain (reply_by done result)) old new before after)
        → Performs (asks c given) (plain (reply_by done result)) old new before after
    harden_does c given done only calm answered fits none map settles refusal counts quiet layers last hard closes =
        let whole : reply_breaks c (reply_by done result) ≡ false → new.broken ≡ false =
        λ fine. broken ∙ sym (call_breaks (Unit {0}) c done result calm answered) ∙ fine in
        let again : reply_breaks c (reply_by done result) ≡ false → Tells before → AgreesAfter old before.world.events → AgreesAfter new after.world.events =
        λ fine told agree. agrees_then new after.world ((map (whole fine)).agreed told (agrees_now old before.world agree)).agree in
        record {
          answers = λ told sure. harden_answers (Unit {0}) old.geometry (stack_in old before.world.events) given c done result only refusal;
          fits = done_fits (Unit {0}) IsOutside c (length given) done result fits refusal;
          stack = λ told sure fine.
              ((map (whole fine)).tied told (can.tied told sure)).are
              ∙ sym (harden_stack (Unit {0}) old.geometry (stack_in old before.world.events) given c done result only);
          sure = λ told sure fine. tied_sure new.layers after.world some ((map (whole fine)).tied told (can.tied told sure)).agree;
          ready = λ fine. record {
            whole = whole fine;
            tied = λ told sure. ((map (whole fine)).tied (back told) (can.tied (back told) (grown (back told) sure))).agree;
          };
          geometry = geometry;
          agrees = again;
          closes = closes whole again;
          stops = λ was told agree is hardened.
              let h = has old before was told agree is hardened in
              harden_stops (Unit {0}) old.geometry was given c done result before.world.events after.world.events only (lies was h)
              (on_ok (Unit {0}) (StopsSettle null_track old.geometry old.layers before after) (EachOpens old.geometry (Lies was.stack []) after.world.events) result settles (λ settle. settle was h));
          quiet = λ unchanged silent. quiet unchanged;
          spares = spares;
          room = λ told sure. room_hardens c given done result old new before after layers only refusal last hard (λ fine. ((map (whole fine)).tied told (can.tied told sure)).agree);
          counts = done_counts (Unit {0}) done result before.faults after.faults none counts;
          run = run;
        }

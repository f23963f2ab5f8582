-- The calls at a track, and those that look at all of them, as an engine asks them of its disk.
use Rattle.cckd_engine.proofs.RoomLemmas.{room_written, room_refused, room_broke}
use Rattle.cckd_stack.specs.Room.{IfFull, LacksPlace}
use Rattle.cckd_layer.specs.Justified.{StaysInRoom, AddsInRoom}
use Rattle.cckd_base.specs.declared.space.Full.{Full}
use Rattle.std.proofs.Common.{◌≡◌, ℕ, ◌≤◌, false, List, length, take, drop, length-take-le, Option, Some, None, Result, Ok, Err, OnOk, IfOk, IfErr, refl, sym, ◌∙◌, ap, subst, arith, ◌/◌, ◌<◌, Bool, true}
use Rattle.std.specs.Option.{option_map, option_or}
use Rattle.std.proofs.Math.Seq.{take-append_seam}
use Rattle.std.proofs.lemmas.Bool.{false≢true}
use Rattle.cckd_base.specs.declared.geometry.Geometry.{Geometry}
use Rattle.cckd_base.specs.declared.geometry.Addr.{Addr}
use Rattle.cckd_base.specs.declared.geometry.Track.{Track}
use Rattle.cckd_base.specs.declared.fault.TrackFault.{TrackFault}
use Rattle.cckd_base.specs.declared.call.Call.{Call}
use Rattle.cckd_base.specs.declared.call.Call.TheVariants as call
use Rattle.cckd_base.specs.declared.reply.Reply.{Reply}
use Rattle.cckd_base.specs.declared.reply.Reply.TheVariants as reply
use Rattle.cckd_base.specs.declared.reply.Refusal.TheVariants as refusal
use Rattle.cckd_base.specs.declared.layer_fault.LayerFault.{LayerFault}
use Rattle.cckd_base.specs.declared.layer_fault.LayerFault.TheVariants as fault
use Rattle.cckd_base.specs.declared.layer_fault.StackFault.{StackFault}
use Rattle.cckd_base.specs.declared.layer_fault.StackFault.TheVariants as stack_fault
use Rattle.cckd_base.specs.Geometry.{track_at, IsGeometry, track_count}
use Rattle.cckd_base.specs.Track.{null_track, track_fault, track_value}
use Rattle.cckd_base.proofs.TrackLemmas.{accepted_length_lem, value_length_lem}
use Rattle.cckd_shelf.specs.declared.fault.Faults.{Faults}
use Rattle.cckd_shelf.specs.Seen.{Seen, Tells}
use Rattle.cckd_script.specs.Text.{FitsCall}
use Rattle.cckd_layer.specs.Reads.{IsReadRefusal, IsReadFault}
use Rattle.cckd_layer.specs.Mounted.{LayerState}
use Rattle.cckd_layer.specs.Writes.{Agrees, IsSameFile}
use Rattle.cckd_layer.specs.Loose.{Tied}
use Rattle.cckd_shelf.specs.World.{World, IsSure}
use Rattle.std.specs.List.{AllByRecursion}
use Rattle.cckd_stack.specs.Layers.{Stack, visible, layer_count}
use Rattle.cckd_stack.specs.Answers.{Request, MayAnswer, refuses, answers, from_outside, plain, refused, no_such_track, first_refusal, refusal_to, pair_by, stack_after_call}
use Rattle.cckd_stack.specs.History.{reply_breaks}
use Rattle.cckd_stack.specs.Stops.{hardens}
use Rattle.cckd_stack.specs.Stacked.{StackState, InLayer, IsPut, Passes, Shows, FitsShown, CountsFault, AreLayersFrom}
use Rattle.cckd_stack.specs.Faulty.{bad_tracks}
use Rattle.cckd_stack.specs.Writes.{AgreeAll, AreTied, AreStackBy, KeepsStackBy, KeepsEach, StoresOnTopBy, StoresEach, stack_now, StopsLie, IsWriteRefused, reply_by, refusal_by, is_broken_by, with_pair_on_top, EndsWith, ChangesLast}
use Rattle.cckd_stack.specs.Called.{CanCall, stack_in, AgreesAfter}
use Rattle.cckd_stack.proofs.TopLemmas.{with_own}
use Rattle.cckd_stack.proofs.TiedLemmas.{tied_sure}
use Rattle.cckd_stack.proofs.CalledLemmas.{stops_unhardened, call_breaks, write_stack}
use Rattle.cckd_engine.specs.Calls.{CountsReply, RunStays, asks, answer_in}
use Rattle.cckd_engine.specs.Frame.{Spares, IsLower}
use Rattle.cckd_engine.specs.Performs.{Performs, said_to_read, said_to_display, said_to_check, KeepsRooms}
use Rattle.cckd_engine.specs.Closing.{ClosesFiles}
use Rattle.cckd_engine.proofs.CallLemmas.{agrees_now, agrees_then, fault_fits, fault_counts, done_counts, done_fits, has}

-- ---- the track at an address

pub or_none : {A : Type 0} (o : Option A) → option_or o None ≡ o
or_none None = refl
or_none (Some a) = refl

module _ (g : Geometry) (at : Addr) (t : ℕ) (found : track_at g at ≡ Some (record { 0 = t })) (s : Stack) where
  such : no_such_track g (Some at) ≡ None
  such = ap (λ (o : Option Track). elim o [ None ↦ Some refusal.NoSuchTrack | Some t ↦ None ]) found

  -- a read is refused by what is visible
  read_refused : (given : List ℕ) → refusal_to g s (asks (call.Read at) given) ≡ option_map refusal.Track (track_fault g t (visible s t))
  read_refused given = rw (such, found)

  read_first : (given : List ℕ) → first_refusal g s (asks (call.Read at) given) ≡ None
  read_first given = rw (such, found)

  pub read_stays : (given : List ℕ) (said : Reply) → stack_after_call g s (asks (call.Read at) given) said ≡ s
  read_stays given (reply.Refused why) = refl
  read_stays given (reply.Track len) = rw found (with_own s)
  read_stays given (reply.Written len) = rw found (with_own s)
  read_stays given (reply.Record key body) = rw found (with_own s)
  read_stays given (reply.Replaced len) = rw found (with_own s)
  read_stays given reply.Hardened = rw found (with_own s)
  read_stays given (reply.Turned turn) = rw found (with_own s)
  read_stays given (reply.Added slot) = rw found (with_own s)
  read_stays given (reply.Merged slot) = rw found (with_own s)
  read_stays given (reply.Dropped slot) = rw found (with_own s)
  read_stays given reply.Compressed = rw found (with_own s)
  read_stays given (reply.Shown layers counts) = rw found (with_own s)
  read_stays given (reply.Checked level bad) = rw found (with_own s)
  read_stays given reply.Closed = rw found (with_own s)

  -- a write by what is given
  write_refused : (given : List ℕ) → refusal_to g s (asks (call.Write at) given) ≡ option_map refusal.Track (track_fault g t given)
  write_refused given = rw (such, found) (or_none (option_map refusal.Track (track_fault g t given)))

  write_first : (given : List ℕ) → first_refusal g s (asks (call.Write at) given) ≡ option_map refusal.Track (track_fault g t given)
  write_first given = rw (such, found)

  write_pair : (given : List ℕ) → pair_by g s (asks (call.Write at) given) ≡ Some (t, track_value given)
  write_pair given = rw found

-- ---- a read

-- what a call of a track's bytes is refused by
refused_by : (g : Geometry) (s : Stack) (r : Request) (found : Option TrackFault) (why : TrackFault) → refusal_to g s r ≡ option_map refusal.Track found → found ≡ Some why
    → MayAnswer g s r (refused (refusal.Track why))
refused_by g s r found why e is = refuses (refusal.Track why) (e ∙ ap (option_map refusal.Track) is) refl

module _ (g : Geometry) (at : Addr) (t : ℕ) (found : track_at g at ≡ Some (record { 0 = t })) (s : Stack) (given was out : List ℕ) where
  read_ok : (len : ℕ) → IsPut (track_value (visible s t)) len was out → track_fault g t (visible s t) ≡ None
      → MayAnswer g s (asks (call.Read at) given) (answer_in (reply.Track len) out)
  read_ok len put none =
      let bytes = track_value (visible s t) in
      let long : len ≡ length (visible s t) = put.length_is ∙ value_length_lem g t (visible s t) none in
      let front : take len out ≡ bytes =
      ap (λ (k : ℕ). take k out) put.length_is ∙ ap (take (length bytes)) put.put ∙ take-append_seam bytes (drop (length bytes) was) in
      let same : record { reply = reply.Track (length (visible s t)); bytes = bytes } ≡ answer_in (reply.Track len) out =
      ap (λ (k : ℕ). record { reply = reply.Track k; bytes = bytes }) (sym long) ∙ ap (λ (bs : List ℕ). record { reply = reply.Track len; bytes = bs }) (sym front) in
      answers (read_refused g at t found s given ∙ ap (option_map refusal.Track) none) (rw found (ap Some same))

  read_err : (why : StackFault) → InLayer (IsReadRefusal (track_fault g t (visible s t))) why → MayAnswer g s (asks (call.Read at) given) (refused (refusal_by why))
  read_err (stack_fault.Layer (fault.Track why)) h = refused_by g s (asks (call.Read at) given) (track_fault g t (visible s t)) why (read_refused g at t found s given) h
  read_err (stack_fault.Layer (fault.Full full)) h = absurd h
  read_err (stack_fault.Layer fault.ReadFault) h = from_outside refusal.ReadFault (read_first g at t found s given) refl
  read_err (stack_fault.Layer fault.WriteFault) h = absurd h
  read_err (stack_fault.Layer fault.SyncFault) h = absurd h
  read_err (stack_fault.TooMany have) h = absurd h
  read_err stack_fault.OnlyBase h = absurd h
  read_err stack_fault.Memory h = absurd h

  pub read_answers : (result : Result ℕ StackFault) → IfOk result (λ len. IsPut (track_value (visible s t)) len was out) → OnOk result (track_fault g t (visible s t) ≡ None)
      → IfErr result (InLayer (IsReadRefusal (track_fault g t (visible s t)))) → MayAnswer g s (asks (call.Read at) given) (answer_in (said_to_read result) out)
  read_answers (Ok len) put none why = read_ok len put none
  read_answers (Err refusal) put none why = read_err refusal why

pub read_fits : (g : Geometry) (at : Addr) (t n : ℕ) (out : List ℕ) (result : Result ℕ StackFault) → IsGeometry g → IfOk result (Passes (track_fault g t) out) → IfErr result (InLayer IsReadFault)
    → FitsCall (call.Read at) n (said_to_read result)
read_fits g at t n out (Ok len) is passes why =
    let long : length (take len out) ≡ len = length-take-le len out passes.within in
    (refl, omega (arith, long, (accepted_length_lem g t (take len out) passes.none).1, is.greatest_track))
read_fits g at t n out (Err fault) is passes why = fault_fits IsReadFault fault why

pub read_calm : (at : Addr) (result : Result ℕ StackFault) → hardens (call.Read at) (said_to_read result) ≡ false
read_calm at (Ok len) = refl
read_calm at (Err why) = refl

-- no call that only reads wants room
pub read_roomy : (result : Result ℕ StackFault) → IfErr result (InLayer IsReadFault) → (P : Full → Type 0) → IfFull (said_to_read result) P
read_roomy (Ok len) why P = tt
read_roomy (Err (stack_fault.Layer (fault.Track found))) why P = tt
read_roomy (Err (stack_fault.Layer (fault.Full full))) why P = absurd why
read_roomy (Err (stack_fault.Layer fault.ReadFault)) why P = tt
read_roomy (Err (stack_fault.Layer fault.WriteFault)) why P = tt
read_roomy (Err (stack_fault.Layer fault.SyncFault)) why P = tt
read_roomy (Err (stack_fault.TooMany have)) why P = tt
read_roomy (Err stack_fault.OnlyBase) why P = tt
read_roomy (Err stack_fault.Memory) why P = tt

pub read_counts : (result : Result ℕ StackFault) (old new : Faults) → CountsFault result old new → CountsReply (said_to_read result) old new
read_counts (Ok len) old new h = h
read_counts (Err why) old new h = fault_counts why old new h

-- ---- the counts of tracks

module _ (g : Geometry) (s : Stack) (given : List ℕ) where
  read_fault_only : (c : Call) → first_refusal g s (asks c given) ≡ None → (why : StackFault) → why ≡ stack_fault.Layer fault.ReadFault → MayAnswer g s (asks c given) (refused (refusal_by why))
  read_fault_only c none why is =
      subst (λ (w : StackFault). MayAnswer g s (asks c given) (refused (refusal_by w))) (sym is) (from_outside refusal.ReadFault none refl)

  pub display_answers : (result : Result (ℕ × List ℕ) StackFault) → IfOk result (Shows g s) → IfErr result (λ why. why ≡ stack_fault.Layer fault.ReadFault)
      → MayAnswer g s (asks call.Display given) (plain (said_to_display result))
  display_answers (Ok shown) shows why =
      answers refl
      (ap (λ (k : ℕ). plain (reply.Shown k shown.1)) shows.layers ∙ ap (λ (ks : List ℕ). plain (reply.Shown (layer_count s) ks)) shows.counts)
  display_answers (Err fault) shows why = read_fault_only call.Display refl fault why

  pub check_answers : (level : ℕ) (result : Result ℕ StackFault) → IfOk result (λ bad. bad ≡ bad_tracks level g s) → IfErr result (λ why. why ≡ stack_fault.Layer fault.ReadFault)
      → MayAnswer g s (asks (call.Check level) given) (plain (said_to_check level result))
  check_answers level (Ok bad) is why = answers refl (ap (λ (k : ℕ). plain (reply.Checked level k)) is)
  check_answers level (Err fault) is why = read_fault_only (call.Check level) refl fault why

  pub display_stays : (result : Result (ℕ × List ℕ) StackFault) → stack_after_call g s (asks call.Display given) (said_to_display result) ≡ s
  display_stays (Ok shown) = with_own s
  display_stays (Err why) = refl

  pub check_stays : (level : ℕ) (result : Result ℕ StackFault) → stack_after_call g s (asks (call.Check level) given) (said_to_check level result) ≡ s
  check_stays level (Ok bad) = with_own s
  check_stays level (Err why) = refl

only_read : (why : StackFault) → why ≡ stack_fault.Layer fault.ReadFault → InLayer IsReadFault why
only_read why is = subst (InLayer IsReadFault) (sym is) tt

pub display_fits : (n : ℕ) (result : Result (ℕ × List ℕ) StackFault) → IfOk result FitsShown → IfErr result (λ why. why ≡ stack_fault.Layer fault.ReadFault) → FitsCall call.Display n (said_to_display result)
display_fits n (Ok shown) fits why = (refl, fits.few, fits.rest)
display_fits n (Err fault) fits why = fault_fits IsReadFault fault (only_read fault why)

only_reads_roomy : (why : StackFault) → why ≡ stack_fault.Layer fault.ReadFault → (P : Full → Type 0) → IfFull (reply.Refused (refusal_by why)) P
only_reads_roomy why is P = subst (λ (w : StackFault). IfFull (reply.Refused (refusal_by w)) P) (sym is) tt

pub display_roomy : (result : Result (ℕ × List ℕ) StackFault) → IfErr result (λ why. why ≡ stack_fault.Layer fault.ReadFault) → (P : Full → Type 0) → IfFull (said_to_display result) P
display_roomy (Ok shown) why P = tt
display_roomy (Err fault) why P = only_reads_roomy fault why P

pub check_roomy : (level : ℕ) (result : Result ℕ StackFault) → IfErr result (λ why. why ≡ stack_fault.Layer fault.ReadFault) → (P : Full → Type 0) → IfFull (said_to_check level result) P
check_roomy level (Ok bad) why P = tt
check_roomy level (Err fault) why P = only_reads_roomy fault why P

pub display_calm : (result : Result (ℕ × List ℕ) StackFault) → hardens call.Display (said_to_display result) ≡ false
display_calm (Ok shown) = refl
display_calm (Err why) = refl

pub display_counts : (result : Result (ℕ × List ℕ) StackFault) (old new : Faults) → CountsFault result old new → CountsReply (said_to_display result) old new
display_counts (Ok shown) old new h = h
display_counts (Err why) old new h = fault_counts why old new h

pub check_fits : (level n : ℕ) (result : Result ℕ StackFault) → IfErr result (λ why. why ≡ stack_fault.Layer fault.ReadFault) → FitsCall (call.Check level) n (said_to_check level result)
check_fits level n (Ok bad) why = refl
check_fits level n (Err fault) why = fault_fits IsReadFault fault (only_read fault why)

pub check_calm : (level : ℕ) (result : Result ℕ StackFault) → hardens (call.Check level) (said_to_check level result) ≡ false
check_calm level (Ok bad) = refl
check_calm level (Err why) = refl

pub check_counts : (level : ℕ) (result : Result ℕ StackFault) (old new : Faults) → CountsFault result old new → CountsReply (said_to_check level result) old new
check_counts level (Ok bad) old new h = h
check_counts level (Err why) old new h = fault_counts why old new h

-- a reply that answers no bytes
pub display_plain : (result : Result (ℕ × List ℕ) StackFault) (out : List ℕ) → answer_in (said_to_display result) out ≡ plain (said_to_display result)
display_plain (Ok shown) out = refl
display_plain (Err why) out = refl

pub check_plain : (level : ℕ) (result : Result ℕ StackFault) (out : List ℕ) → answer_in (said_to_check level result) out ≡ plain (said_to_check level result)
check_plain level (Ok bad) out = refl
check_plain level (Err why) out = refl

-- ---- a write

write_outside : (g : Geometry) (at : Addr) (t : ℕ) → track_at g at ≡ Some (record { 0 = t }) → (s : Stack) (given : List ℕ) → track_fault g t given ≡ None
    → (first_refusal g s (asks (call.Write at) given) ≡ None) × (refusal_to g s (asks (call.Write at) given) ≡ None)
write_outside g at t found s given none = (
  write_first g at t found s given ∙ ap (option_map refusal.Track) none,
  write_refused g at t found s given ∙ ap (option_map refusal.Track) none,
)

module _ (g : Geometry) (at : Addr) (t : ℕ) (found : track_at g at ≡ Some (record { 0 = t })) (s : Stack) (given : List ℕ)
    (layers next : List LayerState) (before after : Seen)
  where
    write_err : (why : StackFault) → InLayer (IsWriteRefused null_track (track_fault g t given) layers next before after t (track_value given)) why
        → MayAnswer g s (asks (call.Write at) given) (refused (refusal_by why))
    write_err (stack_fault.Layer (fault.Track why)) h = refused_by g s (asks (call.Write at) given) (track_fault g t given) why (write_refused g at t found s given) h.changes
    write_err (stack_fault.Layer (fault.Full full)) h = from_outside (refusal.Full full) (refl, (write_outside g at t found s given h.changes.0).1) refl
    write_err (stack_fault.Layer fault.ReadFault) h = from_outside refusal.ReadFault (write_outside g at t found s given h.changes.0).0 refl
    write_err (stack_fault.Layer fault.WriteFault) h = from_outside refusal.WriteFault (refl, (write_outside g at t found s given h.changes.0).1) refl
    write_err (stack_fault.Layer fault.SyncFault) h = from_outside refusal.SyncFault (refl, (write_outside g at t found s given h.changes.0).1) refl
    write_err (stack_fault.TooMany have) h = absurd h
    write_err stack_fault.OnlyBase h = absurd h
    write_err stack_fault.Memory h = absurd h

    write_answers : (result : Result (Unit {0}) StackFault) → OnOk result (track_fault g t given ≡ None)
        → IfErr result (InLayer (IsWriteRefused null_track (track_fault g t given) layers next before after t (track_value given)))
        → MayAnswer g s (asks (call.Write at) given) (plain (reply_by (reply.Written (length given)) result))
    write_answers (Ok done) none why = answers (write_outside g at t found s given none).1 refl
    write_answers (Err fault) none why = write_err fault why

write_calm : (at : Addr) (n : ℕ) (result : Result (Unit {0}) StackFault) → hardens (call.Write at) (reply_by (reply.Written n) result) ≡ false
write_calm at n (Ok done) = refl
write_calm at n (Err why) = refl

-- what is written, or kept where the write is refused
write_stack_by : (R : LayerState → World → Type 0) (g : Geometry) (s : Stack) (layers next : List LayerState) (before after : Seen) (at : Addr) (t : ℕ) → track_at g at ≡ Some (record { 0 = t })
    → (given : List ℕ) (result : Result (Unit {0}) StackFault) → s ≡ stack_now null_track layers before
    → OnOk result (StoresOnTopBy R null_track (t, track_value given) layers next before after) → IfErr result (λ why. KeepsStackBy R null_track layers next before after)
    → Tells before → AllByRecursion (λ (layer : LayerState). R layer before.world) layers
    → AreStackBy R null_track (stack_after_call g s (asks (call.Write at) given) (reply_by (reply.Written (length given)) result)) next after
write_stack_by R g s layers next before after at t found given (Ok done) is stores keeps told agree =
    subst (λ (x : Stack). AreStackBy R null_track x next after)
    (ap (λ (x : Stack). with_pair_on_top x (t, track_value given)) (sym is) ∙ sym (write_stack g s (asks (call.Write at) given) (t, track_value given) (reply.Written (length given)) (write_pair g at t found s given) refl))
    (stores told agree)
write_stack_by R g s layers next before after at t found given (Err why) is stores keeps told agree = subst (λ (x : Stack). AreStackBy R null_track x next after) (sym is) (keeps told agree)

-- by each of what the layers have to do with their files
stores_by : (P Q : Type 0) (result : Result (Unit {0}) StackFault) → OnOk result P → (P → Q) → OnOk result Q
stores_by P Q (Ok done) h f = f h
stores_by P Q (Err why) h f = tt

keeps_by : (P Q : Type 0) (result : Result (Unit {0}) StackFault) → IfErr result (λ why. P) → (P → Q) → IfErr result (λ why. Q)
keeps_by P Q (Ok done) h f = tt
keeps_by P Q (Err why) h f = f h

-- a layer lacks a place where the call is refused for want of room
lacks_full : (after : Seen) (t : ℕ) (given : List ℕ) (layers : List LayerState) (why : StackFault) (full : Full) → refusal_by why ≡ refusal.Full full → InLayer (λ f. EndsWith (λ layer. LacksPlace null_track layer after t (track_value given) f) layers) why
    → EndsWith (λ layer. LacksPlace null_track layer after t (track_value given) (fault.Full full)) layers
lacks_full after t given layers (stack_fault.Layer (fault.Full full)) other is h = subst (λ (k : Full). EndsWith (λ layer. LacksPlace null_track layer after t (track_value given) (fault.Full k)) layers) (let e : full ≡ other = cc is in e) h
lacks_full after t given layers (stack_fault.Layer (fault.Track found)) other is h = absurd (cc is)
lacks_full after t given layers (stack_fault.Layer fault.ReadFault) other is h = absurd (cc is)
lacks_full after t given layers (stack_fault.Layer fault.WriteFault) other is h = absurd (cc is)
lacks_full after t given layers (stack_fault.Layer fault.SyncFault) other is h = absurd (cc is)
lacks_full after t given layers (stack_fault.TooMany have) other is h = absurd h
lacks_full after t given layers stack_fault.OnlyBase other is h = absurd h
lacks_full after t given layers stack_fault.Memory other is h = absurd h

module _ (old new : StackState) (before after : Seen) (can : CanCall old before) (back : Tells after → Tells before)
    (result : Result (Unit {0}) StackFault) (geometry : new.geometry ≡ old.geometry) (broken : new.broken ≡ is_broken_by result)
    (lies : StopsLie null_track old.geometry old.layers before after) (run : Tells before → RunStays before.world after.world)
    (some : 1 ≤ length new.layers) (grown : Tells before → IsSure after.world → IsSure before.world) (spares : Spares (IsLower old) (IsLower new) before after)
  where
    pub write_does : (at : Addr) (t : ℕ) → track_at old.geometry at ≡ Some (record { 0 = t }) → (given : List ℕ)
        → OnOk result (StoresEach null_track (t, track_value given) old.layers new.layers before after)
        → OnOk result (track_fault old.geometry t given ≡ None)
        → (new.broken ≡ false → IfErr result (λ why. KeepsEach null_track old.layers new.layers before after))
        → IfErr result (InLayer (IsWriteRefused null_track (track_fault old.geometry t given) old.layers new.layers before after t (track_value given)))
        → CountsFault result before.faults after.faults
        → t < track_count old.geometry → AreLayersFrom old.geometry 0 old.layers → ChangesLast IsSameFile old.layers new.layers
        → OnOk result (ChangesLast (AddsInRoom (t / 256)) old.layers new.layers)
        → (new.broken ≡ false → IfErr result (λ why. ChangesLast StaysInRoom old.layers new.layers))
        → (Tells before → IsSure before.world → IfErr result (InLayer (λ why. EndsWith (λ layer. LacksPlace null_track layer after t (track_value given) why) new.layers)))
        → ((reply_breaks (call.Write at) (reply_by (reply.Written (length given)) result) ≡ false → new.broken ≡ false)
        → (reply_breaks (call.Write at) (reply_by (reply.Written (length given)) result) ≡ false → Tells before → AgreesAfter old before.world.events → AgreesAfter new after.world.events)
        → ClosesFiles (asks (call.Write at) given) (plain (reply_by (reply.Written (length given)) result)) old new before after)
        → Performs (asks (call.Write at) given) (plain (reply_by (reply.Written (length given)) result)) old new before after
    write_does at t found given stores checked map refusal counts low layers last grows stays lacks closes =
        let whole : reply_breaks (call.Write at) (reply_by (reply.Written (length given)) result) ≡ false → new.broken ≡ false =
        λ fine. broken ∙ sym (call_breaks (Unit {0}) (call.Write at) (reply.Written (length given)) result refl refl) ∙ fine in
        let said = reply_by (reply.Written (length given)) result in
        let then = stack_after_call old.geometry (stack_in old before.world.events) (asks (call.Write at) given) said in
        let stored = StoresEach null_track (t, track_value given) old.layers new.layers before after in
        let kept = KeepsEach null_track old.layers new.layers before after in
        let agreed : new.broken ≡ false → Tells before → AgreeAll old.layers before.world → AreStackBy Agrees null_track then new.layers after =
        λ sound told agree.
        write_stack_by Agrees old.geometry (stack_in old before.world.events) old.layers new.layers before after at t found given result refl
        (stores_by stored (StoresOnTopBy Agrees null_track (t, track_value given) old.layers new.layers before after) result stores (λ h. h.agreed))
        (keeps_by kept (KeepsStackBy Agrees null_track old.layers new.layers before after) result (map sound) (λ h. h.agreed)) told agree in
        let tied : new.broken ≡ false → Tells before → AreTied old.layers before.world → AreStackBy Tied null_track then new.layers after =
        λ sound told agree.
        write_stack_by Tied old.geometry (stack_in old before.world.events) old.layers new.layers before after at t found given result refl
        (stores_by stored (StoresOnTopBy Tied null_track (t, track_value given) old.layers new.layers before after) result stores (λ h. h.tied))
        (keeps_by kept (KeepsStackBy Tied null_track old.layers new.layers before after) result (map sound) (λ h. h.tied)) told agree in
        record {
          answers = λ told sure. write_answers old.geometry at t found (stack_in old before.world.events) given old.layers new.layers before after result checked refusal;
          fits = write_fits at given result _ refusal;
          stack = λ told sure fine. (tied (whole fine) told (can.tied told sure)).are;
          sure = λ told sure fine. tied_sure new.layers after.world some (tied (whole fine) told (can.tied told sure)).agree;
          ready = λ fine. record {
            whole = whole fine;
            tied = λ told sure. (tied (whole fine) (back told) (can.tied (back told) (grown (back told) sure))).agree;
          };
          geometry = geometry;
          agrees = λ fine told agree. agrees_then new after.world (agreed (whole fine) told (agrees_now old before.world agree)).agree;
          closes = closes whole (λ fine told agree. agrees_then new after.world (agreed (whole fine) told (agrees_now old before.world agree)).agree);
          stops = λ was told agree is hardened.
              let h = has old before was told agree is hardened in
              stops_unhardened old.geometry was (asks (call.Write at) given) (reply_by (reply.Written (length given)) result) before.world.events after.world.events
              (lies was h) (write_calm at (length given) result);
          quiet = λ unchanged silent. absurd (false≢true (sym silent));
          spares = spares;
          room = λ told sure. write_rooms result broken grows stays (lacks told sure) (λ sound. (tied sound told (can.tied told sure)).agree);
          counts = done_counts (Unit {0}) (reply.Written (length given)) result before.faults after.faults refl counts;
          run = run;
        }
      where
        write_rooms : (made : Result (Unit {0}) StackFault) → new.broken ≡ is_broken_by made → OnOk made (ChangesLast (AddsInRoom (t / 256)) old.layers new.layers)
            → (new.broken ≡ false → IfErr made (λ why. ChangesLast StaysInRoom old.layers new.layers))
            → IfErr made (InLayer (λ why. EndsWith (λ layer. LacksPlace null_track layer after t (track_value given) why) new.layers)) → (new.broken ≡ false → AreTied new.layers after.world)
            → KeepsRooms (asks (call.Write at) given) (reply_by (reply.Written (length given)) made) old new before after
        write_rooms (Ok done) broken grows stays lacks tied =
            room_written at t given old new before after found low layers last (reply.Written (length given)) refl refl (λ P. tt) grows (tied broken)
        write_rooms (Err why) broken grows stays lacks tied = by (is_broken_by {A = Unit {0}} (Err why)) refl
          where
            by : (b : Bool) → is_broken_by {A = Unit {0}} (Err why) ≡ b → KeepsRooms (asks (call.Write at) given) (reply.Refused (refusal_by why)) old new before after
            by false whole = room_refused at t given old new before after found low layers last (refusal_by why) (stays (broken ∙ whole)) (tied (broken ∙ whole)) (λ full is. lacks_full after t given new.layers why full is lacks)
            by true breaks = room_broke (asks (call.Write at) given) why old new before after breaks

        write_fits : (at : Addr) (given : List ℕ) (result : Result (Unit {0}) StackFault) (P : LayerFault → Type 0) → IfErr result (InLayer P)
            → FitsCall (call.Write at) (length given) (reply_by (reply.Written (length given)) result)
        write_fits at given result P why = done_fits (Unit {0}) P (call.Write at) (length given) (reply.Written (length given)) result (refl, refl) why

-- a reply that answers no bytes
pub done_plain : (A : Type 0) (done : Reply) (result : Result A StackFault) (out : List ℕ) → answer_in done out ≡ plain done → answer_in (reply_by done result) out ≡ plain (reply_by done result)
done_plain A done (Ok a) out e = e
done_plain A done (Err why) out e = refl

-- ---- an address that the device doesn't have

pub none_such : (g : Geometry) (at : Addr) → track_at g at ≡ None → no_such_track g (Some at) ≡ Some refusal.NoSuchTrack
none_such g at none = ap (λ (o : Option Track). elim o [ None ↦ Some refusal.NoSuchTrack | Some t ↦ None ]) none

-- it is looked up by the geometry of the stack
pub looked_up : (g shape : Geometry) (at : Addr) (o found : Option Track) → shape ≡ g → found ≡ track_at shape at → found ≡ o → track_at g at ≡ o
looked_up g shape at o found same value is = ap (λ (x : Geometry). track_at x at) (sym same) ∙ sym value ∙ is

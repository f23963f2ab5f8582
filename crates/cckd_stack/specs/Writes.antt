-- What a call that writes makes of a stack, and what a stop leaves of it.
use Rattle.std.specs.Prelude.{ℕ, suc, ◌≡◌, ◌≤◌, Bool, true, false, List, [], ◌∷◌, ◌++◌, Option, Some, Result, Ok, Err}
use Rattle.std.specs.List.{AllByRecursion}
use Rattle.cckd_base.specs.declared.geometry.Geometry.{Geometry}
use Rattle.cckd_base.specs.declared.call.Call.{Call}
use Rattle.cckd_base.specs.declared.call.Call.TheVariants as call
use Rattle.cckd_base.specs.declared.reply.Reply.{Reply}
use Rattle.cckd_base.specs.declared.reply.Reply.TheVariants as reply
use Rattle.cckd_base.specs.declared.reply.Refusal.{Refusal}
use Rattle.cckd_base.specs.declared.reply.Refusal.TheVariants as refusal
use Rattle.cckd_base.specs.declared.layer_fault.LayerFault.{LayerFault}
use Rattle.cckd_base.specs.declared.layer_fault.LayerFault.TheVariants as fault
use Rattle.cckd_base.specs.declared.layer_fault.StackFault.{StackFault}
use Rattle.cckd_base.specs.declared.layer_fault.StackFault.TheVariants as stack_fault
use Rattle.cckd_base.specs.Header.{is_present}
use Rattle.cckd_base.specs.Image.{IsSnug}
use Rattle.cckd_base.specs.Track.{null_track}
use Rattle.cckd_shelf.specs.Seen.{Seen, Tells}
use Rattle.cckd_shelf.specs.World.{World, file_of}
use Rattle.cckd_shelf.specs.Events.{name_of, output_of}
use Rattle.cckd_shelf.specs.Outcomes.{IsOutcome, EachOutcome, AtEach}
use Rattle.cckd_shelf.specs.Frame.{KeepNames}
use Rattle.cckd_base.specs.Geometry.{track_count}
use Rattle.cckd_layer.specs.Held.{NullBytes, AreSame}
use Rattle.cckd_layer.specs.Mounted.{LayerState}
use Rattle.cckd_layer.specs.Writes.{Agrees, KeepsMap, IsSameFile, StaysClosed, map_of}
use Rattle.cckd_layer.specs.Loose.{Tied}
use Rattle.cckd_layer.specs.Storing.{IsWriteRefusal}
use Rattle.cckd_base.specs.declared.fault.TrackFault.{TrackFault}
use Rattle.cckd_stack.specs.Layers.{Stack, top, with_top, with_track}
use Rattle.cckd_stack.specs.Answers.{Request, Pair}
use Rattle.cckd_stack.specs.Stops.{Lies}
use Rattle.cckd_stack.specs.Moments.{EachOpens, Hardening, IsHardened}
use Rattle.cckd_stack.specs.Stacked.{stack_of}

-- ---- the layers and their files

-- each layer agrees with the file of its slot
abbrev pub AgreeAll : List LayerState → World → Type 0
AgreeAll layers w = AllByRecursion (λ layer. Agrees layer w) layers

-- each layer is tied to the file of its slot: it agrees with it, or is as it was mounted from it
abbrev pub AreTied : List LayerState → World → Type 0
AreTied layers w = AllByRecursion (λ layer. Tied layer w) layers

-- the stack that the layers are now
abbrev pub stack_now : NullBytes → List LayerState → Seen → Stack
stack_now null layers s = stack_of null layers (file_of s.world)

-- the layers have this to do with their files, and are this stack
pub record AreStackBy (R : LayerState → World → Type 0) (null : NullBytes) (stack : Stack) (layers : List LayerState) (s : Seen) : Type 0 where
  pub agree : AllByRecursion (λ layer. R layer s.world) layers
  pub are : stack_now null layers s ≡ stack

-- where the layers had this to do with their files, they have it again, and are the same stack
abbrev pub KeepsStackBy : (LayerState → World → Type 0) → NullBytes → List LayerState → List LayerState → Seen → Seen → Type 0
KeepsStackBy R null layers next old new =
    Tells old → AllByRecursion (λ layer. R layer old.world) layers → AreStackBy R null (stack_now null layers old) next new

-- where the layers agreed with their files, they agree again, and are the same stack
abbrev pub KeepsStack : NullBytes → List LayerState → List LayerState → Seen → Seen → Type 0
KeepsStack = KeepsStackBy Agrees

-- so it is where they agreed, and where they were tied to them
pub record KeepsEach (null : NullBytes) (layers next : List LayerState) (old new : Seen) : Type 0 where
  pub agreed : KeepsStack null layers next old new
  pub tied : KeepsStackBy Tied null layers next old new

-- the stack with these bytes for a track in its last layer
abbrev pub with_pair_on_top : Stack → Pair → Stack
with_pair_on_top s p = with_top s (with_track (top s) p.0 p.1)

-- where the layers had this to do with their files, they have it again, and are the stack with these bytes for a track in its last layer
abbrev pub StoresOnTopBy : (LayerState → World → Type 0) → NullBytes → Pair → List LayerState → List LayerState → Seen → Seen → Type 0
StoresOnTopBy R null p layers next old new =
    Tells old → AllByRecursion (λ layer. R layer old.world) layers → AreStackBy R null (with_pair_on_top (stack_now null layers old) p) next new

-- where the layers agreed with their files, they agree again, and are the stack with these bytes for a track in its last layer
abbrev pub StoresOnTop : NullBytes → Pair → List LayerState → List LayerState → Seen → Seen → Type 0
StoresOnTop = StoresOnTopBy Agrees

-- so it is where they agreed, and where they were tied to them
pub record StoresEach (null : NullBytes) (p : Pair) (layers next : List LayerState) (old new : Seen) : Type 0 where
  pub agreed : StoresOnTop null p layers next old new
  pub tied : StoresOnTopBy Tied null p layers next old new

-- a layer is tied to its file, and has the bytes of each track that another one had
pub record IsTiedAgain (null : NullBytes) (s next : LayerState) (old new : Seen) : Type 0 where
  pub tied : Tied next new.world
  pub same : AreSame (track_count s.tables.layout.geo) (map_of null next new) (map_of null s old)

-- so it is where it was tied before
abbrev pub KeepsTied : NullBytes → LayerState → LayerState → Seen → Seen → Type 0
KeepsTied null s next old new = Tells old → Tied s old.world → IsTiedAgain null s next old new

-- where it agreed with its file it agrees again, where it was tied to it it is tied again, and it has the same bytes
pub record KeepsLayer (null : NullBytes) (s next : LayerState) (old new : Seen) : Type 0 where
  pub agreed : KeepsMap null s next old new
  pub tied : KeepsTied null s next old new

-- of the last of the layers this holds
pub record EndsWith (P : LayerState → Type 0) (layers : List LayerState) : Type 0 where
  pub lower : List LayerState
  pub last : LayerState
  pub layers_are : layers ≡ lower ++ last ∷ []
  pub holds : P last

-- the last of the layers has nothing that isn't on the disk for good
abbrev pub IsHardenedLast : List LayerState → Type 0
IsHardenedLast layers = EndsWith (λ last. last.hardened ≡ true) layers

-- only the last of the layers is another one, and of both of these this holds
pub record ChangesLast (P : LayerState → LayerState → Type 0) (old new : List LayerState) : Type 0 where
  pub lower : List LayerState
  pub was : LayerState
  pub next : LayerState
  pub old_is : old ≡ lower ++ was ∷ []
  pub new_is : new ≡ lower ++ next ∷ []
  pub changes : P was next

-- why a write to the last of the layers is refused, as that layer says
abbrev pub IsWriteRefused : NullBytes → Option TrackFault → List LayerState → List LayerState → Seen → Seen → ℕ → List ℕ → LayerFault → Type 0
IsWriteRefused null found layers next old new t bytes why =
    ChangesLast (λ s n. IsWriteRefusal null found s n old new t bytes why) layers next

-- ---- layers that were changed

-- a layer wasn't changed since it was mounted or closed, and has nothing that isn't on the disk for good
pub record IsUnchanged (s : LayerState) : Type 0 where
  pub unmarked : s.marked ≡ false
  pub hardened : s.hardened ≡ true

-- none of the layers was changed
abbrev pub AreUnchanged : List LayerState → Type 0
AreUnchanged layers = AllByRecursion IsUnchanged layers

-- a slot has no layer that was changed
abbrev pub HasNoChange : List LayerState → ℕ → Type 0
HasNoChange layers slot = AllByRecursion (λ s. s.slot ≡ slot → IsUnchanged s) layers

-- Nothing is done but to the files of layers that were changed: at each operation every outcome of another slot was one before, and
-- each slot has its name. Each other one keeps its file, and each other name what it holds; nothing is taken and nothing is put.
pub record SparesUnchanged (layers : List LayerState) (old new : World) : Type 0 where
  pub others : AtEach old.events new.events (λ es. (slot : ℕ) → HasNoChange layers slot → EachOutcome slot (IsOutcome old.events slot) es)
  pub named : AtEach old.events new.events (KeepNames old.events)
  pub names : KeepNames old.events new.events
  pub held : (name : List ℕ) → ((slot : ℕ) → name_of old.events slot ≡ Some name → HasNoChange layers slot) → new.files name ≡ old.files name
  pub files : (slot : ℕ) → HasNoChange layers slot → file_of new slot ≡ file_of old slot
  pub script : new.script ≡ old.script
  pub output : output_of new.events ≡ output_of old.events

-- the same of what is shown
abbrev pub OnlyInChanged : List LayerState → Seen → Seen → Type 0
OnlyInChanged layers old new = Tells old → SparesUnchanged layers old.world new.world

-- a layer's file, if it was changed, is that of a closed image, and a stop leaves it as it is
abbrev pub IsClosedIn : World → LayerState → Type 0
IsClosedIn w s = s.marked ≡ true → StaysClosed s.tables.layout s.slot w

-- so are the files of all layers, where they agreed with them before
abbrev pub ClosesChanged : List LayerState → Seen → Seen → Type 0
ClosesChanged layers old new = Tells old → AgreeAll layers old.world → AllByRecursion (IsClosedIn new.world) layers

-- the layers are of the same files, one by one
abbrev pub AreSameFiles : List LayerState → List LayerState → Type 0
AreSameFiles [] [] = Unit {0}
AreSameFiles (s ∷ ss) (n ∷ ns) = IsSameFile s n × AreSameFiles ss ns
AreSameFiles _ _ = ⊥

-- ---- stops

-- What was hardened and written since, of the stack that the layers are. A track without bytes is null as CKD tracks are.
pub record HasHardening (null : NullBytes) (g : Geometry) (layers : List LayerState) (was : Hardening) (s : Seen) : Type 0 where
  pub null_is : null ≡ null_track
  pub tells : Tells s
  pub agree : AgreeAll layers s.world
  pub stack_is : was.stack ≡ stack_now null layers s
  pub hardened : IsHardened g was s.world.events

-- At each operation whatever a stop leaves opens to a stack that lies within what was hardened and written since. Nothing
-- else comes up.
abbrev pub StopsLie : NullBytes → Geometry → List LayerState → Seen → Seen → Type 0
StopsLie null g layers old new =
    (was : Hardening) → HasHardening null g layers was old → AtEach old.world.events new.world.events (EachOpens g (Lies was.hard was.later))

-- whatever a stop leaves opens to exactly the stack
abbrev pub StopsSettle : NullBytes → Geometry → List LayerState → Seen → Seen → Type 0
StopsSettle null g layers old new =
    (was : Hardening) → HasHardening null g layers was old → EachOpens g (Lies was.stack []) new.world.events

-- what was hardened and written since, once all of it is hardened
abbrev pub all_hardened : Hardening → Hardening
all_hardened was = record { stack = was.stack; hard = was.stack; later = [] }

-- and once these bytes were written to a track as well
abbrev pub with_written : Pair → Hardening → Hardening
with_written p was = record { stack = with_pair_on_top was.stack p; hard = was.hard; later = p ∷ was.later }

-- ---- once it is mounted

-- the stack was mounted, and nothing was written since
abbrev pub all_mounted : NullBytes → List LayerState → Seen → Hardening
all_mounted null layers s = record { stack = stack_now null layers s; hard = stack_now null layers s; later = [] }

-- the files of the layers are snug
abbrev pub AreSnugFrom : (ℕ → List ℕ) → ℕ → List LayerState → Type 0
AreSnugFrom files slot [] = Unit {0}
AreSnugFrom files slot (s ∷ ss) = IsSnug s.tables.layout (files slot) × AreSnugFrom files (suc slot) ss

-- no stop leaves a file in a slot from this one on
abbrev pub AreAbsentAbove : ℕ → World → Type 0
AreAbsentAbove count w = (slot : ℕ) → count ≤ slot → slot ≤ 8 → EachOutcome slot (λ file. is_present file ≡ false) w.events

-- ---- replies

-- a fault of a stack, as calls are refused by it
abbrev pub refusal_by : StackFault → Refusal
refusal_by (stack_fault.Layer (fault.Track why)) = refusal.Track why
refusal_by (stack_fault.Layer (fault.Full full)) = refusal.Full full
refusal_by (stack_fault.Layer fault.ReadFault) = refusal.ReadFault
refusal_by (stack_fault.Layer fault.WriteFault) = refusal.WriteFault
refusal_by (stack_fault.Layer fault.SyncFault) = refusal.SyncFault
refusal_by (stack_fault.TooMany have) = refusal.TooMany have
refusal_by stack_fault.OnlyBase = refusal.OnlyBase
refusal_by stack_fault.Memory = refusal.Memory

-- what is said to a call that is answered so, or refused for a fault
abbrev pub reply_by : {A : Type 0} → Reply → Result A StackFault → Reply
reply_by said (Ok a) = said
reply_by said (Err why) = reply.Refused (refusal_by why)

-- a fault of writing or syncing breaks a stack
abbrev pub breaks_layer : LayerFault → Bool
breaks_layer fault.WriteFault = true
breaks_layer fault.SyncFault = true
breaks_layer _ = false

-- a call that writes or syncs and fails breaks the stack
abbrev pub is_broken_by : {A : Type 0} → Result A StackFault → Bool
is_broken_by (Err (stack_fault.Layer why)) = breaks_layer why
is_broken_by _ = false

-- a call, with bytes that it gives
abbrev pub asks : Call → List ℕ → Request
asks c given = record { asked = c; given = given }

-- the calls that harden and leave the stack as it is, with their answers
abbrev pub OnlyHardens : Call → Reply → Type 0
OnlyHardens call.Harden said = said ≡ reply.Hardened
OnlyHardens call.Close said = said ≡ reply.Closed
OnlyHardens _ said = ⊥

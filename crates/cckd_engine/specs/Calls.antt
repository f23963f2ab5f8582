-- What a call of a disk may ask, how it is answered, and what it counts.
use Rattle.std.specs.Prelude.{◌≡◌, ℕ, ◌≤◌, Bool, true, false, List, Option, None, Some}
use Rattle.cckd_base.specs.declared.call.Call.{Call}
use Rattle.cckd_base.specs.declared.call.Call.TheVariants as call
use Rattle.cckd_base.specs.declared.reply.Reply.{Reply}
use Rattle.cckd_base.specs.declared.reply.Reply.TheVariants.{Refused}
use Rattle.cckd_base.specs.declared.reply.Refusal.TheVariants as refusal
use Rattle.cckd_shelf.specs.declared.fault.Faults.{Faults}
use Rattle.cckd_shelf.specs.declared.fault.Kind.{Kind}
use Rattle.cckd_shelf.specs.declared.fault.Kind.TheVariants.{Reads, Writes, Syncs}
use Rattle.cckd_shelf.specs.Faults.{Raises}
use Rattle.cckd_shelf.specs.Events.{output_of}
use Rattle.cckd_shelf.specs.World.{World}
use Rattle.cckd_shelf.specs.Seen.{Seen, Tells}
use Rattle.cckd_script.specs.Text.{answered_bytes}
use Rattle.cckd_stack.specs.Answers.{Request, Answer}

-- a call, and the bytes that it gives
abbrev pub asks : Call → List ℕ → Request
asks call given = record { asked = call; given = given }

-- a reply, and the bytes that it answers at the front of a buffer
abbrev pub answer_in : Reply → List ℕ → Answer
answer_in said buffer = record { reply = said; bytes = answered_bytes said buffer }

-- whether a call may write to a layer, or change which layers there are
abbrev pub writes : Call → Bool
writes (call.Read at) = false
writes (call.GetRecord at num) = false
writes call.Display = false
writes (call.Check level) = false
writes call.Harden = false
writes call.Close = false
writes _ = true

-- the calls that are built; the others come later
abbrev pub is_served : Call → Bool
is_served (call.Read at) = true
is_served (call.Write at) = true
is_served call.Harden = true
is_served call.Display = true
is_served (call.Check level) = true
is_served call.Close = true
is_served _ = false

-- a level of a check is at most 3
abbrev pub HasLevel : Call → Type 0
HasLevel (call.Check level) = level ≤ 3
HasLevel _ = Unit {0}

-- which calls may be made, what one may give, and what room it wants for its answer
pub record CanAsk (call : Call) (given room : ℕ) : Type 0 where
  pub served : is_served call ≡ true
  pub level : HasLevel call
  pub few : given ≤ 65535
  pub room_is : 65536 ≤ room

-- nothing is put and nothing is taken
pub record RunStays (old new : World) : Type 0 where
  pub output : output_of new.events ≡ output_of old.events
  pub script : new.script ≡ old.script

abbrev pub KeepsRun : Seen → Seen → Type 0
KeepsRun old new = Tells old → RunStays old.world new.world

-- ---- faults

-- the kind of fault that a reply tells
abbrev pub fault_told : Reply → Option Kind
fault_told (Refused refusal.ReadFault) = Some Reads
fault_told (Refused refusal.WriteFault) = Some Writes
fault_told (Refused refusal.SyncFault) = Some Syncs
fault_told _ = None

-- one fault of this kind was counted, or none
abbrev pub CountsOne : Option Kind → Faults → Faults → Type 0
CountsOne None old new = new ≡ old
CountsOne (Some kind) old new = Raises kind old new

-- the fault that a reply tells was counted, and no other
abbrev pub CountsReply : Reply → Faults → Faults → Type 0
CountsReply said old new = CountsOne (fault_told said) old new

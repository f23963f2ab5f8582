-- What a call makes of a stack on the files of its slots.
use Rattle.cckd_stack.specs.Room.{Room, HasRoom, KeepsRoom, room_after_call}
use Rattle.cckd_shelf.specs.Events.{file_now}
use Rattle.std.specs.Prelude.{ℕ, ◌≡◌, false, List, length, Result, Ok, Err}
use Rattle.cckd_base.specs.declared.reply.Reply.{Reply}
use Rattle.cckd_base.specs.declared.reply.Reply.TheVariants as reply
use Rattle.cckd_base.specs.declared.layer_fault.StackFault.{StackFault}
use Rattle.cckd_shelf.specs.Seen.{Seen, Tells, Stays}
use Rattle.cckd_shelf.specs.World.{IsSure}
use Rattle.cckd_script.specs.Text.{FitsCall}
use Rattle.cckd_stack.specs.Answers.{Request, Answer, MayAnswer, stack_after_call}
use Rattle.cckd_stack.specs.History.{reply_breaks}
use Rattle.cckd_stack.specs.Moments.{Hardening, IsHardened, KeepsStops}
use Rattle.cckd_stack.specs.Stacked.{StackState}
use Rattle.cckd_stack.specs.Writes.{AreUnchanged, refusal_by}
use Rattle.cckd_stack.specs.Called.{CanCall, AgreesAfter, stack_in}
use Rattle.cckd_engine.specs.Frame.{Spares, IsLower}
use Rattle.cckd_engine.specs.Closing.{ClosesFiles}
use Rattle.cckd_engine.specs.Calls.{CountsReply, KeepsRun, writes}

-- What a call makes of the room in the last file: it is kept on, and the call keeps it.
pub record KeepsRooms (r : Request) (said : Reply) (s next : StackState) (old new : Seen) : Type 0 where
  pub again : (room : Room) → HasRoom s room → reply_breaks r.asked said ≡ false → HasRoom next (room_after_call s.geometry room r said)
  pub kept : (room : Room) → HasRoom s room → KeepsRoom s.geometry room (stack_in s old.world.events) r said (file_now new.world.events)

-- A call does what is asked of a disk, where no operation had failed half way: it is answered as the layered disk may answer, and
-- leaves the stack that the layered disk has after it. Unless it breaks, none failed so, and the stack can make calls again. At each
-- operation a stop leaves what it may leave. In any case nothing is done to the files of other slots than that of the last layer. Behind
-- the reply `closed` the files that were changed are closed images.
pub record Performs (r : Request) (said : Answer) (s next : StackState) (old new : Seen) : Type 0 where
  pub answers : Tells old → IsSure old.world → MayAnswer s.geometry (stack_in s old.world.events) r said
  pub fits : FitsCall r.asked (length r.given) said.reply
  pub stack : Tells old → IsSure old.world → reply_breaks r.asked said.reply ≡ false
      → stack_in next new.world.events ≡ stack_after_call s.geometry (stack_in s old.world.events) r said.reply
  pub sure : Tells old → IsSure old.world → reply_breaks r.asked said.reply ≡ false → IsSure new.world
  pub ready : reply_breaks r.asked said.reply ≡ false → CanCall next new
  pub geometry : next.geometry ≡ s.geometry
  pub agrees : reply_breaks r.asked said.reply ≡ false → Tells old → AgreesAfter s old.world.events → AgreesAfter next new.world.events
  pub stops : (was : Hardening) → Tells old → AgreesAfter s old.world.events → was.stack ≡ stack_in s old.world.events
      → IsHardened s.geometry was old.world.events → KeepsStops s.geometry was r said.reply old.world.events new.world.events
  pub quiet : AreUnchanged s.layers → writes r.asked ≡ false → AreUnchanged next.layers × Stays old new
  pub spares : Spares (IsLower s) (IsLower next) old new
  pub room : Tells old → IsSure old.world → KeepsRooms r said.reply s next old new
  pub closes : ClosesFiles r said s next old new
  pub counts : CountsReply said.reply old.faults new.faults
  pub run : KeepsRun old new

-- what is said to a read of a track, of which so many bytes were found
abbrev pub said_to_read : Result ℕ StackFault → Reply
said_to_read (Ok len) = reply.Track len
said_to_read (Err why) = reply.Refused (refusal_by why)

-- what is said where the layers are shown
abbrev pub said_to_display : Result (ℕ × List ℕ) StackFault → Reply
said_to_display (Ok shown) = reply.Shown shown.0 shown.1
said_to_display (Err why) = reply.Refused (refusal_by why)

-- what is said to a check at a level
abbrev pub said_to_check : ℕ → Result ℕ StackFault → Reply
said_to_check level (Ok bad) = reply.Checked level bad
said_to_check level (Err why) = reply.Refused (refusal_by why)

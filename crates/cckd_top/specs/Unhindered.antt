-- What a run comes to that nothing hinders: its files open, no call of the outside fails, and memory isn't wanted.
use Rattle.std.specs.Prelude.{◌≡◌, ◌<◌, ◌-◌, ◌^◌, ◌++◌, ℕ, Bool, true, IsTrue, if◌then◌else◌, List, None, Some, Ok}
use Rattle.std.specs.List.{list_any}
use Rattle.cckd_base.specs.declared.geometry.Geometry.{Geometry}
use Rattle.cckd_base.specs.declared.space.Full.{Full}
use Rattle.cckd_base.specs.declared.reply.Refusal.{Refusal}
use Rattle.cckd_base.specs.declared.reply.Refusal.TheVariants as refusal
use Rattle.cckd_shelf.specs.declared.fault.Faults.{Faults}
use Rattle.cckd_shelf.specs.Events.{output_of}
use Rattle.cckd_shelf.specs.Seen.{Seen}
use Rattle.cckd_stack.specs.Layers.{Stack}
use Rattle.cckd_stack.specs.Answers.{Request, Answer, IsAnswer, refusal_to, needs_room, refused, is_refused}
use Rattle.cckd_stack.specs.History.{History, EachEntry, stack_after}
use Rattle.cckd_console.specs.Served.{Served, called, misread, all_text}
use Rattle.cckd_console.specs.Script.{OfTheScript}
use Rattle.cckd_top.specs.Disk.{OpensAt}
use Rattle.cckd_top.specs.Words.{Named, named_disk}
use Rattle.cckd_top.specs.Run.{Ending, served, closed, script_limit, history_of}

-- each count of faults is below the last value of a `u64`, so that it tells of one fault more
pub record AreLow (f : Faults) : Type 0 where
  pub reads : f.reads < 2 ^ 64 - 1
  pub writes : f.writes < 2 ^ 64 - 1
  pub syncs : f.syncs < 2 ^ 64 - 1
  pub takes : f.takes < 2 ^ 64 - 1
  pub puts : f.puts < 2 ^ 64 - 1

-- The words of a run name a disk whose files open to this stack, as it is told at the start, and no count of faults rose.
pub record IsUnhindered (words : List (List ℕ)) (g : Geometry) (s0 : Stack) (old new : Seen) : Type 0 where
  pub disk : Named
  pub named : named_disk words ≡ Ok disk
  pub opens : OpensAt disk.file g s0 old
  pub still : new.faults ≡ old.faults

-- The layered disk's own answer to a call: its refusal, its answer, or that a call that places bytes found no room.
pub data IsOwnAnswer (g : Geometry) (s : Stack) (r : Request) (said : Answer) : Type 0 where
  refuses : (why : Refusal) → refusal_to g s r ≡ Some why → said ≡ refused why → IsOwnAnswer g s r said
  answers : refusal_to g s r ≡ None → IsAnswer g s r said → IsOwnAnswer g s r said
  finds_no_room : (full : Full) → IsTrue (needs_room r.asked) → refusal_to g s r ≡ None → said ≡ refused (refusal.Full full) → IsOwnAnswer g s r said

-- each answer of a history is the layered disk's own at its place
abbrev pub AreOwnAnswers : Geometry → Stack → History → Type 0
AreOwnAnswers g s0 h = EachEntry (λ earlier e. IsOwnAnswer g (stack_after g s0 earlier) e.request e.answer) h

-- whether it was refused: a call, or a line that was misread
abbrev pub refused_in : Served → Bool
refused_in (called e) = is_refused e.answer.reply
refused_in (misread why) = true

-- A run that served its whole script, to the call that closes, and put all its lines. Each answer is the layered disk's own, and
-- the status is 1 where something was refused, and else 0.
pub record ServesAll (g : Geometry) (s0 : Stack) (end : Ending) (old new : Seen) (status : ℕ) : Type 0 where
  pub all : List Served
  pub is : end ≡ served closed all
  pub script : OfTheScript script_limit old.world.script new.world.script all
  pub put : output_of new.world.events ≡ output_of old.world.events ++ all_text all
  pub answers : AreOwnAnswers g s0 (history_of all)
  pub status_is : status ≡ (if list_any refused_in all then 1 else 0)

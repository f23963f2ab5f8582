-- What an engine keeps, and the history of calls that it stands for.
use Rattle.cckd_stack.specs.Room.{Room, IsRoomLegal, room_after}
use Rattle.std.specs.Prelude.{◌≡◌, ℕ, ◌+◌, ◌-◌, ◌^◌, min, Bool, true, false, List, [], ◌∷◌, length, Option, None}
use Rattle.cckd_base.specs.declared.geometry.Geometry.{Geometry}
use Rattle.cckd_base.specs.declared.reply.Reply.{Reply}
use Rattle.cckd_base.specs.declared.reply.Reply.TheVariants.{Refused}
use Rattle.cckd_base.specs.declared.reply.Refusal.TheVariants as refusal
use Rattle.cckd_shelf.specs.declared.shows.Shows.{Ghosts as Showing}
use Rattle.cckd_shelf.specs.Events.{Event, file_now, is_sure}
use Rattle.cckd_shelf.specs.Seen.{Seen}
use Rattle.cckd_shelf.specs.Outcomes.{AtEach}
use Rattle.cckd_stack.specs.Layers.{Stack}
use Rattle.cckd_stack.specs.Answers.{Request, Answer}
use Rattle.cckd_stack.specs.History.{Entry, History, IsLegal, broken_at, stack_after}
use Rattle.cckd_stack.specs.Stops.{Survives, SurvivesWithin}
use Rattle.cckd_stack.specs.Moments.{EachOpens}
use Rattle.cckd_engine.specs.declared.tally.Tally.{Tally}
use Rattle.cckd_engine.specs.declared.engine.Engine.{Engine}
use Rattle.cckd_engine.specs.declared.disk.Disk.{Ghosts as Making}

-- one more, up to the last value
abbrev pub one_more : ℕ → ℕ
one_more n = min (n + 1) (2 ^ 64 - 1)

-- nothing was refused yet
abbrev pub no_tally : Tally
no_tally = record { fulls = 0; reads = 0; writes = 0; syncs = 0 }

-- the numbers of refusals once a reply is counted
abbrev pub tallied : Reply → Tally → Tally
tallied (Refused (refusal.Full full)) n = record n { fulls = one_more n.fulls }
tallied (Refused refusal.ReadFault) n = record n { reads = one_more n.reads }
tallied (Refused refusal.WriteFault) n = record n { writes = one_more n.writes }
tallied (Refused refusal.SyncFault) n = record n { syncs = one_more n.syncs }
tallied _ n = n

-- the numbers of refusals of a history
abbrev pub tally_of : History → Tally
tally_of [] = no_tally
tally_of (e ∷ earlier) = tallied e.answer.reply (tally_of earlier)

-- a call of no session, or of one, with its answer, where these events have happened by then
abbrev pub entry_of : Option ℕ → Request → Answer → List Event → Entry
entry_of session r said events = record { session = session; request = r; answer = said; files = file_now events }

-- what an engine shows: the geometry and the stack of its disk, whether no operation failed half way, and the numbers that it keeps
pub record Standing : Type 0 where
  pub geometry : Geometry
  pub stack : Stack
  pub sure : Bool
  pub calls : ℕ
  pub broken : Option ℕ
  pub tally : Tally

abbrev pub standing : {T D : Type 0} → Showing T → Making D → Engine T D → Standing
standing shows makes engine = record {
  geometry = makes.geometry engine.disk;
  stack = makes.stack engine.disk (shows.world engine.stage).events;
  sure = is_sure (shows.world engine.stage).events;
  calls = engine.calls;
  broken = engine.broken;
  tally = engine.tally;
}

-- it made no call yet
pub record IsNew {T D : Type 0} (engine : Engine T D) : Type 0 where
  pub calls : engine.calls ≡ 0
  pub broken : engine.broken ≡ None
  pub tally : engine.tally ≡ no_tally
  pub mute : engine.mute ≡ false

-- only the stage is another
pub record IsWithStage {T D : Type 0} (new old : Engine T D) : Type 0 where
  pub disk : new.disk ≡ old.disk
  pub calls : new.calls ≡ old.calls
  pub broken : new.broken ≡ old.broken
  pub tally : new.tally ≡ old.tally
  pub mute : new.mute ≡ old.mute

-- An engine stands for a history, which began with a stack: the history is legal, the numbers that are kept are its own, and
-- so is the stack while no call broke it. Until then no operation failed half way.
pub record Stands (s0 : Stack) (h : History) (s : Standing) : Type 0 where
  pub legal : IsLegal s.geometry s0 h
  pub last : s.broken ≡ None → s.stack ≡ stack_after s.geometry s0 h
  pub sure : s.broken ≡ None → s.sure ≡ true
  pub number : s.calls ≡ length h
  pub breaks : s.broken ≡ broken_at h
  pub tally : s.tally ≡ tally_of h

-- an engine that isn't broken can make calls
abbrev pub Runs : (Seen → Type 0) → Option ℕ → Seen → Type 0
Runs tied broken s = broken ≡ None → tied s

-- what stops leave is told, of an engine that isn't broken
abbrev pub TellsStops : (List Event → Type 0) → Option ℕ → List Event → Type 0
TellsStops agrees broken events = broken ≡ None → agrees events

-- At each operation of a call whatever a stop leaves is what the history and the call may leave, and after it what the
-- history with the call may leave.
pub record KeepsHistory (g : Geometry) (s0 : Stack) (h : History) (e : Entry) (old new : List Event) : Type 0 where
  pub each : AtEach old new (EachOpens g (SurvivesWithin g s0 h e.request))
  pub after : EachOpens g (Survives g s0 (e ∷ h)) new

-- An engine keeps to the room that it began with: what is promised of each entry of the history was kept, and while no call broke it,
-- its disk has the room that the history leaves.
pub record KeepsToRoom (has : Room → Type 0) (room : Room) (s0 : Stack) (h : History) (s : Standing) : Type 0 where
  pub kept : IsRoomLegal s.geometry room s0 h
  pub left : s.broken ≡ None → has (room_after s.geometry room h)

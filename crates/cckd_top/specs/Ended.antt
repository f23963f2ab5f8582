-- What becomes of an engine whose script is served to its end.
use Rattle.cckd_stack.specs.Room.{Room, IsRoomLegal}
use Rattle.std.specs.Prelude.{ℕ, List, [], map, ◌≡◌, None}
use Rattle.cckd_shelf.specs.declared.shows.Shows.{Ghosts as Showing}
use Rattle.cckd_shelf.specs.Events.{Event, output_of}
use Rattle.cckd_shelf.specs.Seen.{seen, Tells}
use Rattle.cckd_stack.specs.Layers.{Stack}
use Rattle.cckd_stack.specs.History.{History, IsLegal}
use Rattle.cckd_stack.specs.Stops.{Survives}
use Rattle.cckd_stack.specs.Moments.{EachOpens}
use Rattle.cckd_engine.specs.declared.engine.Engine.{Engine}
use Rattle.cckd_engine.specs.declared.disk.Disk.{Ghosts as Making}
use Rattle.cckd_engine.specs.Frame.{LeavesSlots}
use Rattle.cckd_engine.specs.Engine.{standing, Stands, TellsStops, KeepsToRoom}
use Rattle.cckd_console.specs.Served.{Served, AreAlone, OnlyRead, line_in}
use Rattle.cckd_engine.specs.Closing.{AreLeftOrClosed, EndsClosed, TellsSince}
use Rattle.cckd_console.specs.Serving.{KeepsLines, OnlyPuts}
use Rattle.cckd_shelf.specs.Frame.{PutsSome}
use Rattle.cckd_engine.specs.Lines.{KeepsLine, of_text, AreFilesThen}
use Rattle.cckd_console.specs.Saying.{IsSaid, plain_text}
use Rattle.cckd_top.specs.Run.{Way, source_line, IsTaken, HasPutLines, lines_of, history_of}

-- A script was served over an engine to its end, and this stage is left.
pub record EndsScript {S D : Type 0} (shows : Showing S) (makes : Making D) (limit : ℕ) (old : Engine S D) (new : S) (status : ℕ) : Type 0 where
  pub way : Way
  pub served : List Served
  pub taken : Tells (seen shows old.stage) → IsTaken way limit (shows.world old.stage).script (shows.world new).script served
  pub printed : HasPutLines way served (seen shows old.stage) (seen shows new) status
  pub alone : AreAlone served
  pub legal : (s0 : Stack) → Tells (seen shows old.stage) → Stands s0 [] (standing shows makes old) → IsLegal (makes.geometry old.disk) s0 (history_of served)
  pub room : (s0 : Stack) (room : Room) → Tells (seen shows old.stage) → Stands s0 [] (standing shows makes old)
      → KeepsToRoom (makes.has_room old.disk) room s0 [] (standing shows makes old) → IsRoomLegal (makes.geometry old.disk) room s0 (history_of served)
  pub files : Tells (seen shows old.stage)
      → AreFilesThen (output_of (shows.world old.stage).events) 0 (map line_in served) (shows.world old.stage).events (shows.world new).events
  pub stops : (s0 : Stack) → Tells (seen shows old.stage) → Stands s0 [] (standing shows makes old)
      → TellsStops (makes.agrees old.disk) old.broken (shows.world old.stage).events
      → EachOpens (makes.geometry old.disk) (Survives (makes.geometry old.disk) s0 []) (shows.world old.stage).events
      → KeepsLines (makes.geometry old.disk) s0 [] (lines_of way served) (output_of (shows.world old.stage).events)
      (shows.world old.stage).events (shows.world new).events
  pub closes : (base : List Event) → Tells (seen shows old.stage) → TellsStops (makes.agrees old.disk) old.broken (shows.world old.stage).events
      → (old.broken ≡ None → makes.marks old.disk base (shows.world old.stage).events) → EndsClosed (history_of served)
      → AreLeftOrClosed base (shows.world new).events
  pub spares : Tells (seen shows old.stage) → LeavesSlots (makes.spares old.disk) (shows.world old.stage) (shows.world new)
  pub quiet : makes.unchanged old.disk → OnlyRead served → Tells (seen shows old.stage) → OnlyPuts (shows.world old.stage) (shows.world new)

-- The line of a script that couldn't be taken was put, as far as the output took it, and nothing else was done.
pub record SaysSource {S D : Type 0} (shows : Showing S) (makes : Making D) (old new : Engine S D) : Type 0 where
  pub said : IsSaid (plain_text source_line 7) (seen shows old.stage) (seen shows new.stage) 7
  pub puts : PutsSome source_line (seen shows old.stage) (seen shows new.stage)
  pub closes : (base : List Event) (h : History) → Tells (seen shows old.stage)
      → TellsSince (makes.marks old.disk) old.broken base h (shows.world old.stage).events
      → TellsSince (makes.marks new.disk) new.broken base h (shows.world new.stage).events
  pub stops : (s0 : Stack) (h : History) → Tells (seen shows old.stage)
      → EachOpens (makes.geometry old.disk) (Survives (makes.geometry old.disk) s0 h) (shows.world old.stage).events
      → KeepsLine (makes.geometry old.disk) s0 h (of_text source_line) (output_of (shows.world old.stage).events)
      (shows.world old.stage).events (shows.world new.stage).events

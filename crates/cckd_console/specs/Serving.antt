-- A script that is served over an engine: what was served, what was told, and what it did.
use Rattle.cckd_stack.specs.Room.{Room}
use Rattle.std.specs.Prelude.{◌≡◌, ◌≤◌, ℕ, ◌+◌, false, List, ◌++◌, map, Result, Ok, Err, OnOk}
use Rattle.cckd_base.specs.declared.geometry.Geometry.{Geometry}
use Rattle.cckd_shelf.specs.declared.shows.Shows.{Ghosts as Showing}
use Rattle.cckd_shelf.specs.declared.fault.Failed.{Failed}
use Rattle.cckd_shelf.specs.Events.{Event, output_of}
use Rattle.cckd_shelf.specs.World.{World}
use Rattle.cckd_shelf.specs.Seen.{Seen, seen, Tells}
use Rattle.cckd_shelf.specs.Outcomes.{AtEach}
use Rattle.cckd_shelf.specs.Frame.{puts}
use Rattle.cckd_script.specs.Items.{Item}
use Rattle.cckd_stack.specs.Layers.{Stack}
use Rattle.cckd_stack.specs.History.{History}
use Rattle.cckd_stack.specs.Stops.{Survives}
use Rattle.cckd_stack.specs.Moments.{EachOpens}
use Rattle.cckd_engine.specs.declared.engine.Engine.{Engine}
use Rattle.cckd_engine.specs.declared.disk.Disk.{Ghosts as Making}
use Rattle.cckd_engine.specs.Frame.{Spares}
use Rattle.cckd_engine.specs.Engine.{standing, Stands, Runs, TellsStops, KeepsToRoom}
use Rattle.cckd_engine.specs.Lines.{Line, history_onto, LinesAt, AreFilesThen}
use Rattle.cckd_engine.specs.Closing.{TellsSince}
use Rattle.cckd_console.specs.declared.stop.Stop.{Stop}
use Rattle.cckd_console.specs.declared.stop.Stop.TheVariants as stop
use Rattle.cckd_console.specs.Script.{IsReadOut, OfTheTaken, OfACut, OfTheScript, closing}
use Rattle.cckd_script.specs.Items.{script_items}
use Rattle.cckd_console.specs.Served.{Served, item_in, line_in, AreLines, AreAlone, OnlyRead, worst}
use Rattle.cckd_console.specs.Saying.{account_of, untaken, SaysAll, AreCut}

-- What lines keep that are put, with the calls that they answer: so it is at each operation, and after them.
pub record KeepsLines (g : Geometry) (s0 : Stack) (h : History) (lines : List Line) (before : List ℕ) (old new : List Event) : Type 0 where
  pub each : AtEach old new (LinesAt g s0 h lines before)
  pub after : EachOpens g (Survives g s0 (history_onto lines h)) new

-- text was put, piece by piece, and nothing was done to the files
pub record OnlyPuts (old new : World) : Type 0 where
  pub pieces : List (List ℕ)
  pub events : new.events ≡ puts pieces ++ old.events
  pub files : new.files ≡ old.files

-- What serving these does to an engine.
pub record Serves {S D : Type 0} (shows : Showing S) (makes : Making D) (served : List Served) (old new : Engine S D) : Type 0 where
  -- each is one line, and of no session
  pub lines : AreLines served
  pub alone : AreAlone served
  -- it stands for the history with the new calls, and runs as before
  pub geometry : makes.geometry new.disk ≡ makes.geometry old.disk
  pub stands : (s0 : Stack) (h : History) → Tells (seen shows old.stage) → Stands s0 h (standing shows makes old)
      → Stands s0 (history_onto (map line_in served) h) (standing shows makes new)
  -- it keeps to the room that it began with, and the files of each entry are those of a moment before its line
  pub room : (s0 : Stack) (h : History) (room : Room) → Tells (seen shows old.stage) → Stands s0 h (standing shows makes old)
      → KeepsToRoom (makes.has_room old.disk) room s0 h (standing shows makes old)
      → KeepsToRoom (makes.has_room new.disk) room s0 (history_onto (map line_in served) h) (standing shows makes new)
  pub files : Tells (seen shows old.stage)
      → AreFilesThen (output_of (shows.world old.stage).events) 0 (map line_in served) (shows.world old.stage).events (shows.world new.stage).events
  pub runs : Runs (makes.tied old.disk) old.broken (seen shows old.stage) → Runs (makes.tied new.disk) new.broken (seen shows new.stage)
  -- at each operation whatever a stop leaves is what the calls of the whole lines may leave, and the call of the next one
  pub agrees : Tells (seen shows old.stage) → TellsStops (makes.agrees old.disk) old.broken (shows.world old.stage).events
      → TellsStops (makes.agrees new.disk) new.broken (shows.world new.stage).events
  pub stops : (s0 : Stack) (h : History) → Tells (seen shows old.stage) → Stands s0 h (standing shows makes old)
      → TellsStops (makes.agrees old.disk) old.broken (shows.world old.stage).events
      → EachOpens (makes.geometry old.disk) (Survives (makes.geometry old.disk) s0 h) (shows.world old.stage).events
      → KeepsLines (makes.geometry old.disk) s0 h (map line_in served) (output_of (shows.world old.stage).events)
      (shows.world old.stage).events (shows.world new.stage).events
  -- where it was told what was done to the files since earlier events, it is told again; and behind a last call that was answered
  -- `closed` each file was left or is closed
  pub closes : (base : List Event) (h : History) → Tells (seen shows old.stage)
      → TellsStops (makes.agrees old.disk) old.broken (shows.world old.stage).events
      → TellsSince (makes.marks old.disk) old.broken base h (shows.world old.stage).events
      → TellsSince (makes.marks new.disk) new.broken base (history_onto (map line_in served) h) (shows.world new.stage).events
  -- in any case nothing is done to the files that the disk leaves alone
  pub spares : Spares (makes.spares old.disk) (makes.spares new.disk) (seen shows old.stage) (seen shows new.stage)
  -- where no call writes, a disk that wasn't changed stays so, and nothing is done to its files
  pub quiet : makes.unchanged old.disk → OnlyRead served
      → makes.unchanged new.disk × (Tells (seen shows old.stage) → OnlyPuts (shows.world old.stage) (shows.world new.stage))

-- they were said, and the answer is their status; or the output failed in the last line
abbrev pub AreSaid : List Served → Seen → Seen → Result ℕ Failed → Type 0
AreSaid served old new (Ok status) = SaysAll (account_of served) old new status
AreSaid served old new (Err fault) = AreCut served old new

-- These items were served, by at most so many calls, and nothing of the script was taken.
pub record ServesItems {S D : Type 0} (shows : Showing S) (makes : Making D) (items : List Item) (calls : ℕ) (old new : Engine S D)
    (result : Result ℕ Failed) : Type 0 where
  pub served : List Served
  pub asked : map item_in served ≡ items
  pub does : Serves shows makes served old new
  pub said : AreSaid served (seen shows old.stage) (seen shows new.stage) result
  pub script : Tells (seen shows old.stage) → (shows.world new.stage).script ≡ (shows.world old.stage).script
  pub few : new.calls ≤ old.calls + calls
  pub heard : OnOk result (new.mute ≡ false)

-- A script was served until this: what was served of it, and how it was said. A script that is closed was said whole, and
-- one that couldn't be taken up to there; one that was cut has a last line in which the output failed.
abbrev pub StopsBy : ℕ → List Served → Seen → Seen → Stop → Type 0
StopsBy limit served old new (stop.Closed status) =
    (Tells old → OfTheScript limit old.world.script new.world.script served) × SaysAll (account_of served) old new status
StopsBy limit served old new stop.Unscripted =
    (Tells old → OfTheTaken limit old.world.script new.world.script served)
    × SaysAll (untaken (account_of served)) old new (worst served)
StopsBy limit served old new stop.Cut =
    (Tells old → OfACut limit old.world.script new.world.script served) × AreCut served old new

-- a script of at most so many bytes was served until this
pub record ServesScript {S D : Type 0} (shows : Showing S) (makes : Making D) (limit : ℕ) (old new : Engine S D) (end : Stop) : Type 0 where
  pub served : List Served
  pub stops : StopsBy limit served (seen shows old.stage) (seen shows new.stage) end
  pub does : Serves shows makes served old new

-- All lines of a script were served, and only its end is left to be; or it was served until this.
pub record ServesWhole {S D : Type 0} (shows : Showing S) (makes : Making D) (limit : ℕ) (old new : Engine S D) (status : ℕ) : Type 0 where
  pub served : List Served
  pub asked : Tells (seen shows old.stage) → map item_in served ++ closing ≡ script_items limit (shows.world old.stage).script
  pub read : Tells (seen shows old.stage) → IsReadOut limit (shows.world old.stage).script (shows.world new.stage).script
  pub said : SaysAll (account_of served) (seen shows old.stage) (seen shows new.stage) status
  pub does : Serves shows makes served old new
  pub few : new.calls ≤ old.calls + limit
  pub heard : new.mute ≡ false

abbrev pub ServesLines : {S D : Type 0} → Showing S → Making D → ℕ → Engine S D → Engine S D → Result ℕ Stop → Type 0
ServesLines shows makes limit old new (Ok status) = ServesWhole shows makes limit old new status
ServesLines shows makes limit old new (Err end) = ServesScript shows makes limit old new end

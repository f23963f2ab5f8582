-- What becomes of the files of a disk when they are opened.
use Rattle.cckd_stack.specs.Room.{first_room, last_file}
use Rattle.std.specs.Prelude.{◌≡◌, ◌<◌, ◌≤◌, ◌-◌, ℕ, false, List, [], Result, Ok, Err, length}
use Rattle.cckd_base.specs.declared.open_fault.OpenFault.{OpenFault}
use Rattle.cckd_base.specs.declared.open_fault.OpenFault.TheVariants as open_fault
use Rattle.cckd_shelf.specs.declared.shows.Shows.{Ghosts as Showing}
use Rattle.cckd_shelf.specs.declared.fault.Faults.{Faults}
use Rattle.cckd_shelf.specs.declared.fault.Kind.TheVariants.{Reads, Syncs}
use Rattle.cckd_shelf.specs.Faults.{Raises}
use Rattle.cckd_shelf.specs.Events.{output_of}
use Rattle.cckd_shelf.specs.Seen.{Seen, seen, Tells}
use Rattle.cckd_shelf.specs.World.{World, IsSure, file_of}
use Rattle.cckd_stack.specs.Layers.{Stack}
use Rattle.cckd_stack.specs.Opened.{Opens}
use Rattle.cckd_stack.specs.Mounting.{IsRow}
use Rattle.cckd_stack.specs.Called.{AreSnug}
use Rattle.cckd_engine.specs.declared.engine.Engine.{Engine}
use Rattle.cckd_engine.specs.declared.disk.Disk.{Ghosts as Making}
use Rattle.cckd_engine.specs.Engine.{standing, Stands, Runs, TellsStops}
use Rattle.cckd_console.specs.Serving.{KeepsLines}
use Rattle.cckd_top.specs.Names.{files_of, after_binds, AreNamed}
use Rattle.cckd_top.specs.World.{TellsFiles, NothingIsOpen, after_mounting}
use Rattle.cckd_top.specs.Disk.{OpensAt, IsFilesCause}

-- the nine slots got their files, and each that is there was synced, and nothing else was done
pub record IsMountedFrom (name : List ℕ) (old new : World) : Type 0 where
  pub count : ℕ
  pub few : (1 ≤ count) × (count ≤ 9)
  pub row : IsSure old → IsRow (files_of name old) count
  pub done : new ≡ after_mounting name 9 count old

-- each slot has the name and the file of its own
pub record HoldsFiles (name : List ℕ) (old new : World) : Type 0 where
  pub names : AreNamed new name 9
  pub files : (slot : ℕ) → slot ≤ 8 → file_of new slot ≡ files_of name old slot

-- what stops leave of a disk that was opened, up to then, is that stack, and it is told what they leave from then on
pub record StopsOpen {S D : Type 0} (shows : Showing S) (makes : Making D) (name : List ℕ) (s0 : Stack) (old : World) (new : Engine S D) : Type 0 where
  pub agrees : TellsStops (makes.agrees new.disk) new.broken (shows.world new.stage).events
  pub keeps : KeepsLines (makes.geometry new.disk) s0 [] [] (output_of old.events) (after_binds name 9 old).events (shows.world new.stage).events

-- it is told what stops leave of a disk that was opened, and its marks say what is done to the files from then on
pub record MarksOpen {S D : Type 0} (shows : Showing S) (makes : Making D) (new : Engine S D) : Type 0 where
  pub agrees : TellsStops (makes.agrees new.disk) new.broken (shows.world new.stage).events
  pub marks : makes.marks new.disk (shows.world new.stage).events (shows.world new.stage).events

-- The files of a name opened to an engine that has made no call.
pub record OpensDisk {S D : Type 0} (shows : Showing S) (makes : Making D) (name : List ℕ) (limit : ℕ) (old : S) (new : Engine S D) : Type 0 where
  pub calls : new.calls ≡ 0
  pub heard : new.mute ≡ false
  pub runs : Runs (makes.tied new.disk) new.broken (seen shows new.stage)
  pub faults : shows.faults new.stage ≡ shows.faults old
  pub unchanged : makes.unchanged new.disk
  pub done : Tells (seen shows old) → IsMountedFrom name (shows.world old) (shows.world new.stage)
  pub holds : Tells (seen shows old) → HoldsFiles name (shows.world old) (shows.world new.stage)
  pub spares : (told : Tells (seen shows old)) (slot : ℕ) → ((done told).count - 1 ≡ slot → ⊥) → makes.spares new.disk slot
  pub mounted : TellsFiles (seen shows old) → (s0 : Stack) × Opens (makes.geometry new.disk) (files_of name (shows.world old)) s0
  pub stands : (s0 : Stack) → OpensAt name (makes.geometry new.disk) s0 (seen shows old) → Stands s0 [] (standing shows makes new)
  pub room : (s0 : Stack) → OpensAt name (makes.geometry new.disk) s0 (seen shows old)
      → makes.has_room new.disk (first_room limit (length (last_file s0 (files_of name (shows.world old)))))
  pub stops : (s0 : Stack) → OpensAt name (makes.geometry new.disk) s0 (seen shows old) → AreSnug (files_of name (shows.world old))
      → NothingIsOpen (shows.world old) → StopsOpen shows makes name s0 (shows.world old) new
  pub closes : (s0 : Stack) → OpensAt name (makes.geometry new.disk) s0 (seen shows old) → AreSnug (files_of name (shows.world old))
      → MarksOpen shows makes new

-- some slots got their files, and behind nine some were synced
pub record IsTriedFrom (name : List ℕ) (why : OpenFault) (old new : World) : Type 0 where
  pub binds : ℕ
  pub syncs : ℕ
  pub few : (binds ≤ 9) × (syncs ≤ 9)
  pub short : binds < 9 → (syncs ≡ 0) × (why ≡ open_fault.ReadFault)
  pub done : new ≡ after_mounting name binds syncs old

-- a fault of reading or of syncing raised its count and no other, and all else left the counts
abbrev pub CountsOpening : OpenFault → Faults → Faults → Type 0
CountsOpening open_fault.ReadFault old new = Raises Reads old new
CountsOpening open_fault.SyncFault old new = Raises Syncs old new
CountsOpening _ old new = new ≡ old

-- The files of a name don't open.
pub record FailsToOpen (name : List ℕ) (why : OpenFault) (old new : Seen) : Type 0 where
  pub cause : IsFilesCause name old why
  pub counts : CountsOpening why old.faults new.faults
  pub done : Tells old → IsTriedFrom name why old.world new.world

-- what opening the files of a name comes to
abbrev pub IsOpening : {S D : Type 0} → Showing S → Making D → List ℕ → ℕ → S → Result (Engine S D) (S × OpenFault) → Type 0
IsOpening shows makes name limit old (Ok engine) = OpensDisk shows makes name limit old engine
IsOpening shows makes name limit old (Err tried) = FailsToOpen name tried.1 (seen shows old) (seen shows tried.0)

-- What a run promises of the disk that it serves.
use Rattle.cckd_stack.specs.Room.{first_room, last_file, IsRoomLegal}
use Rattle.std.specs.Prelude.{◌≡◌, ◌<◌, ◌≤◌, ◌-◌, ℕ, true, List, [], ◌∷◌, Some, None, length, map}
use Rattle.cckd_base.specs.declared.geometry.Geometry.{Geometry}
use Rattle.cckd_base.specs.declared.open_fault.OpenFault.{OpenFault}
use Rattle.cckd_base.specs.declared.open_fault.OpenFault.TheVariants as open_fault
use Rattle.cckd_shelf.specs.Events.{name_of, output_of}
use Rattle.cckd_shelf.specs.Seen.{Seen, Tells}
use Rattle.cckd_shelf.specs.World.{World, IsSure, file_of}
use Rattle.cckd_base.specs.Header.{headers_of, layout_of}
use Rattle.cckd_shelf.specs.Outcomes.{EachOutcome, OthersStill, AtEach}
use Rattle.cckd_stack.specs.Layers.{Stack}
use Rattle.cckd_stack.specs.History.{Entry, History, IsLegal, broken_at}
use Rattle.cckd_stack.specs.Stops.{Survives, hardens}
use Rattle.cckd_stack.specs.Moments.{EachOpens}
use Rattle.cckd_stack.specs.Opened.{Opens}
use Rattle.cckd_stack.specs.Mounting.{IsRow, IsGap, IsRefused}
use Rattle.cckd_stack.specs.Called.{AreSnug}
use Rattle.cckd_engine.specs.Lines.{Line, LinesAt, GrowsFrom, AreFilesThen, history_onto}
use Rattle.cckd_console.specs.Served.{Served, AreAlone, OnlyRead, line_in}
use Rattle.cckd_stack.specs.Marking.{IsLeftOrClosed}
use Rattle.cckd_engine.specs.Closing.{EndsClosed}
use Rattle.cckd_top.specs.Names.{slot_name, files_of, after_binds}
use Rattle.cckd_top.specs.World.{TellsFiles, NothingIsOpen, OnlyMounts, after_mounting}
use Rattle.cckd_top.specs.Run.{Way, lines_of, history_of}

-- a fact of the files of a disk's names, as far as it is told what they hold
abbrev pub OfNames : ((ℕ → List ℕ) → Type 0) → List ℕ → Seen → Type 0
OfNames P name s = TellsFiles s → P (files_of name s.world)

-- Why the files of a disk don't open: their first case, or a call that reads or syncs failed, or memory was wanted.
abbrev pub IsFilesCause : List ℕ → Seen → OpenFault → Type 0
IsFilesCause name s (open_fault.Gap slot) = OfNames (λ files. IsGap files slot) name s
IsFilesCause name s open_fault.ReadFault = Unit {0}
IsFilesCause name s open_fault.WriteFault = ⊥
IsFilesCause name s open_fault.SyncFault = Unit {0}
IsFilesCause name s open_fault.Memory = Unit {0}
IsFilesCause name s why = OfNames (λ files. IsRefused files why) name s

-- The nine slots got their files, one after another, and each that is there was synced, the base first. Nothing else was done
-- to the files.
pub record OnlyReadsFiles (name : List ℕ) (old new : World) : Type 0 where
  pub count : ℕ
  pub row : IsSure old → IsRow (files_of name old) count
  pub does : OnlyMounts name 9 count old new

-- a history that no call broke, and whose newest call hardened
pub record EndsHardened (h : History) : Type 0 where
  pub newest : Entry
  pub earlier : History
  pub is : h ≡ newest ∷ earlier
  pub hardened : hardens newest.request.asked newest.answer.reply ≡ true
  pub whole : broken_at earlier ≡ None

-- The nine slots got their files, one after another. Behind it each that is there was synced, the base first, and all else comes
-- behind that. At each operation since the slots have their files whatever a stop leaves opens to what the calls of the whole
-- lines may leave, and the call of the next one.
pub record KeepsDisk (name : List ℕ) (g : Geometry) (s0 : Stack) (lines : List Line) (old new : World) : Type 0 where
  pub count : ℕ
  pub row : IsRow (files_of name old) count
  pub behind : GrowsFrom (after_mounting name 9 count old).events new.events
  pub each : AtEach (after_binds name 9 old).events new.events (LinesAt g s0 [] lines (output_of old.events))
  -- at the end it opens to what all calls may leave
  pub after : EachOpens g (Survives g s0 (history_onto lines [])) new.events

-- The nine slots got their files, one after another, and each that is there was synced, the base first. All else comes behind that,
-- and from then on nothing is done but to the file of the last of these: at each operation whatever a stop leaves of another slot's
-- file it could leave before; of those below the last one it is what they held at the start; and each slot has its name. At the end
-- each other name holds what it held, if it held anything: no file is made.
pub record SparesLower (name : List ℕ) (old new : World) : Type 0 where
  pub count : ℕ
  pub few : (1 ≤ count) × (count ≤ 9)
  pub row : IsSure old → IsRow (files_of name old) count
  pub others : AtEach (after_mounting name 9 count old).events new.events (OthersStill (count - 1) (after_mounting name 9 count old).events)
  pub stay : IsSure old → (slot : ℕ) → slot < count - 1
      → AtEach (after_mounting name 9 count old).events new.events (EachOutcome slot (λ file. file ≡ files_of name old slot))
  pub names : AtEach (after_mounting name 9 count old).events new.events (λ es. (slot : ℕ) → slot ≤ 8 → name_of es slot ≡ Some (slot_name name slot))
  pub files : (other : List ℕ) → (slot_name name (count - 1) ≡ other → ⊥) → new.files other ≡ old.files other

-- Each file that is there stayed as it was once it was synced, whatever a stop left at an operation since; or it is that of a closed
-- image, and a stop leaves it as it is.
pub record LeavesClosed (name : List ℕ) (old new : World) : Type 0 where
  pub count : ℕ
  pub row : IsRow (files_of name old) count
  pub files : (slot : ℕ) → slot < count → file_of (after_mounting name 9 count old) slot ≡ files_of name old slot
  pub each : (slot : ℕ) → slot < count
      → IsLeftOrClosed (layout_of (headers_of (file_of new slot))) slot (after_mounting name 9 count old).events new.events

-- the files of a disk open to this stack, as they are told at the start
pub record OpensAt (name : List ℕ) (g : Geometry) (s0 : Stack) (s : Seen) : Type 0 where
  pub tells : TellsFiles s
  pub opens : Opens g (files_of name s.world) s0

-- What a run does with the disk of a name that opens, whose files may have so many bytes, where these calls were served.
pub record RunsDisk (name : List ℕ) (limit : ℕ) (way : Way) (xs : List Served) (old new : Seen) : Type 0 where
  pub geometry : Geometry
  -- the files at the start open to a stack
  pub mounted : TellsFiles old → (s0 : Stack) × Opens geometry (files_of name old.world) s0
  -- the calls are of no session, and with their answers they are a legal history of the layered disk from that stack
  pub alone : AreAlone xs
  pub legal : (s0 : Stack) → OpensAt name geometry s0 old → IsLegal geometry s0 (history_of xs)
  -- each refusal for want of room has its cause in the last file; and while no call breaks, that file is within the limit, or no
  -- longer than at the start. It is said of the files as they were before the call's line was put
  pub room : (s0 : Stack) → OpensAt name geometry s0 old
      → IsRoomLegal geometry (first_room limit (length (last_file s0 (files_of name old.world)))) s0 (history_of xs)
  pub files : Tells old → AreFilesThen (output_of old.world.events) 0 (map line_in xs) old.world.events new.world.events
  -- where each file was snug and nothing stood open, whatever a stop leaves is what the calls may leave
  pub stops : (s0 : Stack) → OpensAt name geometry s0 old → AreSnug (files_of name old.world) → NothingIsOpen old.world
      → KeepsDisk name geometry s0 (lines_of way xs) old.world new.world
  -- where each file was snug, behind a last call that was answered `closed` each file that was changed is that of a closed image
  pub closes : (s0 : Stack) → OpensAt name geometry s0 old → AreSnug (files_of name old.world) → EndsClosed (history_of xs)
      → LeavesClosed name old.world new.world
  -- in any case each file that is there is synced, and then none is changed but the last one
  pub spares : Tells old → SparesLower name old.world new.world
  -- where no call writes, each file that is there is synced, and none is changed
  pub quiet : Tells old → OnlyRead xs → OnlyReadsFiles name old.world new.world

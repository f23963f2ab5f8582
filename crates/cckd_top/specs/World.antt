-- What a run does to the outside before its script is served, and where it only reads.
use Rattle.std.specs.Prelude.{◌≡◌, ◌<◌, ◌≤◌, ℕ, true, List, ◌++◌}
use Rattle.cckd_base.specs.declared.open_fault.OpenFault.{OpenFault}
use Rattle.cckd_base.specs.declared.open_fault.OpenFault.TheVariants as open_fault
use Rattle.cckd_shelf.specs.Events.{Event, Named, was_bound}
use Rattle.cckd_shelf.specs.Frame.{puts}
use Rattle.cckd_shelf.specs.Seen.{Seen, Tells}
use Rattle.cckd_shelf.specs.World.{World, IsSure, held_by}
use Rattle.cckd_shelf.specs.Outcomes.{MayBeLeft, AtEach}
use Rattle.cckd_stack.specs.Mounting.{after_syncs}
use Rattle.cckd_top.specs.Names.{after_binds}

-- it is told what the files hold
abbrev pub TellsFiles : Seen → Type 0
TellsFiles s = Tells s × IsSure s.world

-- whatever a stop leaves, each name that a slot got once holds what it held in this world
abbrev pub AreIntact : World → List Event → Type 0
AreIntact w events = (name : List ℕ) → was_bound events name ≡ true → (file : List ℕ) → MayBeLeft events (Named name) file → file ≡ held_by w name

-- the same at each moment from the old world to the new one, where it is so at the old one
abbrev pub StayIntact : World → World → Type 0
StayIntact old new = (w : World) → w.files ≡ old.files → AreIntact w old.events → AtEach old.events new.events (AreIntact w)

-- nothing stands open: whatever a stop leaves, each name that a slot got once holds what it holds
abbrev pub NothingIsOpen : World → Type 0
NothingIsOpen w = AreIntact w w.events

-- what a disk is mounted by: the first slots got their files, one after another, and then some of them were synced
abbrev pub after_mounting : List ℕ → ℕ → ℕ → World → World
after_mounting name binds syncs w = after_syncs syncs (after_binds name binds w)

-- So many slots got the files of a disk, so many of them were synced, and then bytes were put. Nothing else happened: no file
-- was made or changed, whatever a stop leaves.
pub record OnlyMounts (name : List ℕ) (binds syncs : ℕ) (old new : World) : Type 0 where
  pub pieces : List (List ℕ)
  pub events : new.events ≡ puts pieces ++ (after_mounting name binds syncs old).events
  pub files : new.files ≡ old.files
  pub intact : StayIntact old new

-- A disk's files don't open. Some slots got theirs, and where a file couldn't be had, that was all; behind nine binds some of
-- the slots were synced, the base first. Then bytes were put, and nothing of the script was taken.
pub record GivesUp (name : List ℕ) (why : OpenFault) (old new : World) : Type 0 where
  pub binds : ℕ
  pub syncs : ℕ
  pub few : (binds ≤ 9) × (syncs ≤ 9)
  pub short : binds < 9 → (syncs ≡ 0) × (why ≡ open_fault.ReadFault)
  pub does : OnlyMounts name binds syncs old new
  pub script : new.script ≡ old.script

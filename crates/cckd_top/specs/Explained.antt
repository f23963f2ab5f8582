-- The promise of a run.
use Rattle.std.specs.Prelude.{◌≡◌, ℕ, List, [], Ok, Err}
use Rattle.cckd_base.specs.declared.open_fault.OpenFault.{OpenFault}
use Rattle.cckd_shelf.specs.Seen.{Seen, Tells}
use Rattle.cckd_console.specs.Served.{Served}
use Rattle.cckd_top.specs.declared.halt.Halt.TheVariants as halt
use Rattle.cckd_top.specs.Words.{Named, named_disk}
use Rattle.cckd_top.specs.World.{OnlyMounts, GivesUp}
use Rattle.cckd_top.specs.Run.{Ending, halted, served, Way, script_limit, IsTaken, HasPut}
use Rattle.cckd_top.specs.Disk.{IsFilesCause, RunsDisk}

-- A run with wrong words puts a line, and does nothing else.
pub record DoesNothing (old new : Seen) : Type 0 where
  pub does : Tells old → OnlyMounts [] 0 0 old.world new.world
  pub script : Tells old → new.world.script ≡ old.world.script

-- The files of a disk don't open: their first case, as they were at the start, or a call that failed, or want of memory.
pub record DoesNotOpen (name : List ℕ) (why : OpenFault) (old new : Seen) : Type 0 where
  pub cause : IsFilesCause name old why
  pub does : Tells old → GivesUp name why old.world new.world

-- The files of a disk open, and the script was served over them.
pub record ServesDisk (name : List ℕ) (limit : ℕ) (way : Way) (xs : List Served) (old new : Seen) : Type 0 where
  pub taken : Tells old → IsTaken way script_limit old.world.script new.world.script xs
  pub runs : RunsDisk name limit way xs old new

-- why a run on a disk ends so, and what it did: the files don't open, or the script is served
pub data DiskCause (name : List ℕ) (limit : ℕ) (old new : Seen) (end : Ending) : Type 0 where
  files_dont_open : (why : OpenFault) → end ≡ halted (halt.Files why) → DoesNotOpen name why old new → DiskCause name limit old new end
  disk_is_served : (way : Way) → (xs : List Served) → end ≡ served way xs → ServesDisk name limit way xs old new → DiskCause name limit old new end

-- why a run ends so, and what it did: the words are wrong, or they name a disk
pub data HasCause (words : List (List ℕ)) (old new : Seen) (end : Ending) : Type 0 where
  words_are_bad : (n : ℕ) → named_disk words ≡ Err n → end ≡ halted (halt.BadWords n) → DoesNothing old new → HasCause words old new end
  words_name_disk : (disk : Named) → named_disk words ≡ Ok disk → DiskCause disk.file disk.limit old new end → HasCause words old new end

-- One ending, with its cause in the words, the files and the script as they were at the start, explains what was done, the
-- output, the status and each count of faults. It is said of what a stage shows at the start and at the end of a run with these
-- words.
pub record IsExplained (words : List (List ℕ)) (old new : Seen) (status : ℕ) : Type 0 where
  pub end : Ending
  pub cause : HasCause words old new end
  pub printed : HasPut end old new status

-- the same of a run on a disk
pub record ExplainsDisk (name : List ℕ) (limit : ℕ) (old new : Seen) (status : ℕ) : Type 0 where
  pub end : Ending
  pub cause : DiskCause name limit old new end
  pub printed : HasPut end old new status

-- The promise of `dasdinit`.
use Rattle.std.specs.Prelude.{◌≡◌, ℕ, List, Result, Ok, Err, OnOk, IfOk}
use Rattle.cckd_shelf.specs.Seen.{Seen, Tells}
use Rattle.cckd_shelf.specs.World.{World, IsSure, held_by, after_bind}
use Rattle.cckd_shelf.specs.Frame.{PutsSome, OnlyPuts}
use Rattle.cckd_shelf.specs.Outcomes.{EachOutcome, AtEach, OthersStill}
use Rattle.cckd_make.specs.Making.{IsAbsent, IsAbsentOr, HasOnly}
use Rattle.cckd_tools.specs.declared.fault.InitFault.{InitFault}
use Rattle.cckd_tools.specs.declared.fault.InitFault.TheVariants.{NotEmpty, ReadFault, Memory}
use Rattle.cckd_tools.specs.Init.{base_layout, base_image, base_length, IsAnswerOn}
use Rattle.cckd_console.specs.Saying.{IsSaid}
use Rattle.cckd_dasdinit.specs.Words.{NewBase, named_base}
use Rattle.cckd_dasdinit.specs.Text.{Ending, wrong_word, unmade, made, account_of}

-- the whole file of a base that words name
abbrev pub file_of_base : NewBase → List ℕ
file_of_base base = base_image (base_layout base.geometry) base.label

-- how the making of a base ends
abbrev pub ending_of : NewBase → Result ℕ InitFault → Ending
ending_of base (Ok len) = made base.device base.geometry len
ending_of base (Err why) = unmade why

-- nothing was done but that slot 0 got the file, and that bytes were put
abbrev pub OnlyLooks : List ℕ → World → World → Type 0
OnlyLooks name old new = (text : List ℕ) × OnlyPuts text (after_bind 0 name old) new

-- a file that is there, a call that reads and failed, and want of memory come before anything is done to a file
abbrev pub LeavesFiles : List ℕ → Result ℕ InitFault → World → World → Type 0
LeavesFiles name (Err (NotEmpty len)) old new = OnlyLooks name old new
LeavesFiles name (Err ReadFault) old new = OnlyLooks name old new
LeavesFiles name (Err Memory) old new = OnlyLooks name old new
LeavesFiles name _ old new = Unit {0}

-- What is done for a base that words name. The file of that name decides: one that is there is refused with its length, and no other
-- is. At the end it is the new base, exactly, and so is whatever a stop leaves; stopped at any moment since it was bound, it isn't
-- there, or it is the whole new base, where no stop could leave it there before. No other slot's file is touched.
pub record MakesBase (base : NewBase) (result : Result ℕ InitFault) (old new : Seen) : Type 0 where
  pub answer : Tells old → IsSure old.world → IsAnswerOn result (held_by old.world base.file)
  pub length_is : IfOk result (λ len. len ≡ base_length (base_layout base.geometry) base.label)
  pub made : Tells old → IsSure old.world → OnOk result (HasOnly 0 (file_of_base base) new.world)
  pub stopped : Tells old → EachOutcome 0 IsAbsent (after_bind 0 base.file old.world).events
      → AtEach (after_bind 0 base.file old.world).events new.world.events (EachOutcome 0 (IsAbsentOr (file_of_base base)))
  pub others : Tells old → AtEach (after_bind 0 base.file old.world).events new.world.events (OthersStill 0 (after_bind 0 base.file old.world).events)
  pub files : Tells old → (other : List ℕ) → (base.file ≡ other → ⊥) → new.world.files other ≡ old.world.files other
  pub kept : Tells old → LeavesFiles base.file result old.world new.world
  pub script : Tells old → new.world.script ≡ old.world.script

-- How the making of a base that words name ends, and what it did: its file can't be had, and a line is put and nothing else done; or
-- slot 0 got it.
pub data BaseCause (base : NewBase) (old new : Seen) (end : Ending) : Type 0 where
  file_cant_be_had : end ≡ unmade ReadFault → PutsSome (account_of end).text old new → BaseCause base old new end
  base_is_tried : (result : Result ℕ InitFault) → end ≡ ending_of base result → MakesBase base result old new → BaseCause base old new end

-- why a run ends so, and what it did: the words are wrong, and a line is put and nothing else done; or they name a base
pub data HasCause (words : List (List ℕ)) (old new : Seen) (end : Ending) : Type 0 where
  words_are_bad : (n : ℕ) → named_base words ≡ Err n → end ≡ wrong_word n → PutsSome (account_of end).text old new → HasCause words old new end
  words_name_base : (base : NewBase) → named_base words ≡ Ok base → BaseCause base old new end → HasCause words old new end

-- the making of a base that words name, with the output, the status and the counts of faults
pub record EndsMaking (base : NewBase) (old new : Seen) (status : ℕ) : Type 0 where
  pub end : Ending
  pub cause : BaseCause base old new end
  pub printed : IsSaid (account_of end) old new status

-- One ending, with its cause in the words and in the file as it was at the start, explains what was done, the output, the status and
-- each count of faults.
pub record ExplainsInit (words : List (List ℕ)) (old new : Seen) (status : ℕ) : Type 0 where
  pub end : Ending
  pub cause : HasCause words old new end
  pub printed : IsSaid (account_of end) old new status

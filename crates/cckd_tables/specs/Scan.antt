-- What a survey answers, and what it does to the counts of faults.
use Rattle.std.specs.Prelude.{ℕ, ◌≡◌, List, [], ◌∷◌, Option, Some, None, Result, Ok, Err, Vec}
use Rattle.cckd_shelf.specs.declared.fault.Faults.{Faults}
use Rattle.cckd_shelf.specs.declared.fault.Kind.TheVariants.{Reads}
use Rattle.cckd_shelf.specs.Faults.{Raises}
use Rattle.cckd_shelf.specs.Seen.{Seen, Tells, Stays}
use Rattle.cckd_shelf.specs.World.{IsSure, file_of}
use Rattle.cckd_base.specs.declared.geometry.Layout.{Layout}
use Rattle.cckd_base.specs.declared.space.Extent.{Extent}
use Rattle.cckd_base.specs.declared.misfit.Misfit.{Misfit}
use Rattle.cckd_base.specs.declared.misfit.ScanFault.{ScanFault}
use Rattle.cckd_base.specs.declared.misfit.ScanFault.TheVariants as fault
use Rattle.cckd_base.specs.Survey.{header_space, misfits, used_spaces, HasNoMisfit, StandApart}
use Rattle.cckd_tables.specs.declared.surveyed.Surveyed.{Surveyed}
use Rattle.cckd_tables.specs.declared.surveyed.SurveyFault.{SurveyFault}
use Rattle.cckd_tables.specs.declared.surveyed.SurveyFault.TheVariants.{ReadFault, Memory}

-- the used spaces in order of position, and every misfit in the order of the survey
pub record IsSurveyOf (l : Layout) (file : List ℕ) (s : Surveyed) : Type 0 where
  pub kept : s.kept.items ≡ used_spaces l file
  pub misfits : s.misfits.items ≡ misfits l file

-- so it is of the file of a slot, as far as that is told
abbrev pub IsSurveyed : Layout → ℕ → Seen → Surveyed → Type 0
IsSurveyed l slot s found = Tells s → IsSure s.world → IsSurveyOf l (file_of s.world slot) found

-- the misfit that comes first, if there is one
abbrev pub first_misfit : List Misfit → Option Misfit
first_misfit [] = None
first_misfit (m ∷ ms) = Some m

-- a misfit is the first one; a fault of reading and want of memory say nothing of the file
abbrev pub IsRefusal : Layout → List ℕ → ScanFault → Type 0
IsRefusal l file (fault.Misfit m) = first_misfit (misfits l file) ≡ Some m
IsRefusal l file fault.ReadFault = Unit {0}
IsRefusal l file fault.Memory = Unit {0}

-- the used spaces where there is no misfit, and else the first misfit
abbrev pub IsSurvey : {Z : Type 0} → Layout → List ℕ → Result (Vec Extent Z) ScanFault → Type 0
IsSurvey l file (Ok spaces) = HasNoMisfit l file × (spaces.items ≡ used_spaces l file)
IsSurvey l file (Err found) = IsRefusal l file found

-- so it is of the file of a slot, as far as that is told
abbrev pub IsScanned : {Z : Type 0} → Layout → ℕ → Seen → Result (Vec Extent Z) ScanFault → Type 0
IsScanned l slot s result = Tells s → IsSure s.world → IsSurvey l (file_of s.world slot) result

-- the header area, and behind it spaces in order, apart from each other and inside the file
pub record AreSpaces (groups file_len : ℕ) (spaces : List Extent) : Type 0 where
  pub rest : List Extent
  pub headed : spaces ≡ header_space groups ∷ rest
  pub apart : StandApart 0 spaces file_len

-- a fault of reading raised its count, and all else left the counts
abbrev pub CountsReads : {A : Type 0} → Result A SurveyFault → Faults → Faults → Type 0
CountsReads (Ok found) old new = new ≡ old
CountsReads (Err ReadFault) old new = Raises Reads old new
CountsReads (Err Memory) old new = new ≡ old

-- nothing was changed, and only a fault of reading was counted
pub record OnlyReads {A : Type 0} (result : Result A SurveyFault) (old new : Seen) : Type 0 where
  pub kept : Stays old new
  pub counts : CountsReads result old.faults new.faults

-- the same of a scan: a misfit left the counts too
abbrev pub CountsScan : {A : Type 0} → Result A ScanFault → Faults → Faults → Type 0
CountsScan (Ok found) old new = new ≡ old
CountsScan (Err fault.ReadFault) old new = Raises Reads old new
CountsScan (Err fault.Memory) old new = new ≡ old
CountsScan (Err (fault.Misfit m)) old new = new ≡ old

pub record OnlyScans {A : Type 0} (result : Result A ScanFault) (old new : Seen) : Type 0 where
  pub kept : Stays old new
  pub counts : CountsScan result old.faults new.faults

-- The making of a base where none is.
use Rattle.std.specs.Prelude.{◌≡◌, ℕ, true, false, List, length, Option, Some, None, Result, Ok, Err}
use Rattle.cckd_base.specs.declared.geometry.Geometry.{Geometry}
use Rattle.cckd_base.specs.declared.geometry.Layout.{Layout}
use Rattle.cckd_base.specs.declared.order.Order.TheVariants.{Little}
use Rattle.cckd_base.specs.Geometry.{group_count, area_of}
use Rattle.cckd_base.specs.Header.{is_present}
use Rattle.cckd_shelf.specs.declared.fault.Faults.{Faults}
use Rattle.cckd_shelf.specs.declared.fault.Kind.TheVariants.{Reads, Writes, Syncs}
use Rattle.cckd_shelf.specs.Faults.{Raises}
use Rattle.cckd_shelf.specs.Seen.{Seen, Tells, Stays}
use Rattle.cckd_shelf.specs.World.{World, IsSure, file_of}
use Rattle.cckd_make.specs.Making.{HasOnly}
use Rattle.cckd_make.specs.NewImage.{new_image}
use Rattle.cckd_tools.specs.Label.{label_size, label_image}
use Rattle.cckd_tools.specs.declared.fault.InitFault.{InitFault}
use Rattle.cckd_tools.specs.declared.fault.InitFault.TheVariants.{NotEmpty, ReadFault, WriteFault, SyncFault, Memory}

-- a fact of the file in a slot, as far as it is told what the file holds
abbrev pub OfFile : ℕ → (List ℕ → Type 0) → Seen → Type 0
OfFile slot P s = Tells s → IsSure s.world → P (file_of s.world slot)

-- the layout of a new base of this geometry, whose null tracks have format 0
abbrev pub base_layout : Geometry → Layout
base_layout g = record { order = Little; geo = g; groups = group_count g; shadow = false; null_fmt = 0 }

-- The answer on the slot's file at the start: a file that is there is refused with its length, and no other is. A call that reads
-- may fail on each.
abbrev pub IsAnswerOn : {A : Type 0} → Result A InitFault → List ℕ → Type 0
IsAnswerOn (Ok done) file = is_present file ≡ false
IsAnswerOn (Err (NotEmpty len)) file = (is_present file ≡ true) × (len ≡ length file)
IsAnswerOn (Err ReadFault) file = Unit {0}
IsAnswerOn (Err WriteFault) file = is_present file ≡ false
IsAnswerOn (Err SyncFault) file = is_present file ≡ false
IsAnswerOn (Err Memory) file = is_present file ≡ false

-- a fault raised the count of its own kind and no other, and all else left the counts
abbrev pub CountsInit : {A : Type 0} → Result A InitFault → Faults → Faults → Type 0
CountsInit (Err ReadFault) old new = Raises Reads old new
CountsInit (Err WriteFault) old new = Raises Writes old new
CountsInit (Err SyncFault) old new = Raises Syncs old new
CountsInit _ old new = new ≡ old

-- an answer before anything was made: nothing is changed
abbrev pub KeptInit : {A : Type 0} → Result A InitFault → Seen → Seen → Type 0
KeptInit (Err (NotEmpty len)) old new = Stays old new
KeptInit (Err ReadFault) old new = Stays old new
KeptInit (Err Memory) old new = Stays old new
KeptInit _ old new = Unit {0}

-- a refusal, or a fault, of the question whether the slot is there
abbrev pub IsAskCause : InitFault → Type 0
IsAskCause (NotEmpty len) = Unit {0}
IsAskCause ReadFault = Unit {0}
IsAskCause WriteFault = ⊥
IsAskCause SyncFault = ⊥
IsAskCause Memory = ⊥

-- a whole new base, with the label of this serial or without one
abbrev pub base_image : Layout → Option (List ℕ) → List ℕ
base_image l None = new_image l
base_image l (Some serial) = label_image l serial

-- its length
abbrev pub base_length : Layout → Option (List ℕ) → ℕ
base_length l None = area_of l.groups
base_length l (Some serial) = label_size l

-- the slot has exactly this file, so has whatever a stop leaves, and no operation failed half way
pub record IsMade (slot : ℕ) (whole : List ℕ) (w : World) : Type 0 where
  pub only : HasOnly slot whole w
  pub sure : IsSure w

-- so it is where it is told and no operation failed half way before
abbrev pub OfSure : Type 0 → Seen → Type 0
OfSure P s = Tells s → IsSure s.world → P

-- what may stop the making itself
abbrev pub IsMakeCause : InitFault → Type 0
IsMakeCause (NotEmpty len) = ⊥
IsMakeCause ReadFault = ⊥
IsMakeCause WriteFault = Unit {0}
IsMakeCause SyncFault = Unit {0}
IsMakeCause Memory = Unit {0}

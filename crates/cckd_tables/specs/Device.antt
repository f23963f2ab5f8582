-- What a call of tables that fails does to the counts of faults.
use Rattle.std.specs.Prelude.{◌≡◌, Result, Ok, Err}
use Rattle.cckd_shelf.specs.declared.fault.Faults.{Faults}
use Rattle.cckd_shelf.specs.declared.fault.Kind.TheVariants.{Reads, Writes, Syncs}
use Rattle.cckd_shelf.specs.Faults.{Raises}
use Rattle.cckd_shelf.specs.Seen.{Seen, Stays}
use Rattle.cckd_tables.specs.declared.device.Device.{Device}
use Rattle.cckd_tables.specs.declared.device.Device.TheVariants.{Read, Write, Sync}

-- a fault raised the count of its own kind and no other, and a call that was Ok left all counts
abbrev pub CountsDevice : {A : Type 0} → Result A Device → Faults → Faults → Type 0
CountsDevice (Ok done) old new = new ≡ old
CountsDevice (Err Read) old new = Raises Reads old new
CountsDevice (Err Write) old new = Raises Writes old new
CountsDevice (Err Sync) old new = Raises Syncs old new

-- the same of a call that only reads, so that no other fault comes
abbrev pub CountsLook : {A : Type 0} → Result A Device → Faults → Faults → Type 0
CountsLook (Ok done) old new = new ≡ old
CountsLook (Err Read) old new = Raises Reads old new
CountsLook (Err Write) old new = ⊥
CountsLook (Err Sync) old new = ⊥

-- nothing was changed, and only a fault of reading was counted
pub record OnlyLooks {A : Type 0} (result : Result A Device) (old new : Seen) : Type 0 where
  pub kept : Stays old new
  pub counts : CountsLook result old.faults new.faults

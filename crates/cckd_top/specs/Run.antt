-- How a run of `cckdrun` ends, and what it prints.
use Rattle.std.specs.Prelude.{◌≡◌, ℕ, List, [], ◌∷◌, ◌++◌, codes, map}
use Rattle.cckd_base.specs.declared.open_fault.OpenFault.{OpenFault}
use Rattle.cckd_base.specs.declared.open_fault.OpenFault.TheVariants as open_fault
use Rattle.cckd_shelf.specs.declared.fault.Faults.{Faults}
use Rattle.cckd_shelf.specs.declared.fault.Kind.TheVariants.{Reads, Syncs}
use Rattle.cckd_shelf.specs.Faults.{no_faults}
use Rattle.cckd_shelf.specs.Seen.{Seen}
use Rattle.cckd_script.specs.Text.{line}
use Rattle.cckd_stack.specs.History.{History}
use Rattle.cckd_engine.specs.Lines.{Line, of_text, history_onto}
use Rattle.cckd_console.specs.Counts.{failures}
use Rattle.cckd_console.specs.Served.{Served, line_in, all_text}
use Rattle.cckd_console.specs.Saying.{Account, account_of, untaken, SaysAll, AreCut, IsSaidBehind, IsSaid}
use Rattle.cckd_console.specs.Script.{OfTheTaken, OfACut, OfTheScript}
use Rattle.cckd_top.specs.declared.halt.Halt.{Halt}
use Rattle.cckd_top.specs.declared.halt.Halt.TheVariants as halt
use Rattle.cckd_top.specs.Text.{halt_text, halt_status}

-- the most bytes of a script
abbrev pub script_limit : ℕ
script_limit = 1073741824

-- how a script that is served ends: with the reply to the call that closes, where the script couldn't be taken, or where the
-- output failed in the last line
pub data Way : Type 0 where
  closed : Way
  unscripted : Way
  cut : Way

-- how a run ends: before its script, or with what was served of it
pub data Ending : Type 0 where
  halted : Halt → Ending
  served : Way → List Served → Ending

-- ---- halts

-- which calls failed where the files don't open
abbrev pub open_fault_told : OpenFault → Faults
open_fault_told open_fault.ReadFault = failures Reads 1
open_fault_told open_fault.SyncFault = failures Syncs 1
open_fault_told _ = no_faults

-- the same of a halt
abbrev pub halt_told : Halt → Faults
halt_told (halt.BadWords n) = no_faults
halt_told (halt.Files why) = open_fault_told why

-- what a run tells that halts
abbrev pub halt_account : Halt → Account
halt_account why = record { text = line (halt_text why); status = halt_status why; failed = halt_told why }

-- ---- scripts

-- the line where the script couldn't be taken
abbrev pub source_line : List ℕ
source_line = line (codes "fault: source")

-- the lines that are put, those of calls with their answers
abbrev pub lines_of : Way → List Served → List Line
lines_of unscripted xs = map line_in xs ++ of_text source_line ∷ []
lines_of _ xs = map line_in xs

-- the calls with their answers, the newest first
abbrev pub history_of : List Served → History
history_of xs = history_onto (map line_in xs) []

-- What was served is that of the whole script, or of the lines that ended in what was taken of it, or of a front of it. How much
-- was taken is told of each.
abbrev pub IsTaken : Way → ℕ → List ℕ → List ℕ → List Served → Type 0
IsTaken closed limit script left xs = OfTheScript limit script left xs
IsTaken unscripted limit script left xs = OfTheTaken limit script left xs
IsTaken cut limit script left xs = OfACut limit script left xs

-- what a run tells behind its lines whose script couldn't be taken: one line more, and the call that takes among those that failed
abbrev pub source_account : List Served → Account
source_account xs = record { text = source_line; status = 7; failed = (untaken (account_of xs)).failed }

-- What is put of a script, with the status: all lines, or all but a last one, which was cut.
abbrev pub HasPutLines : Way → List Served → Seen → Seen → ℕ → Type 0
HasPutLines closed xs old new status = SaysAll (account_of xs) old new status
HasPutLines unscripted xs old new status = IsSaidBehind (all_text xs) (source_account xs) old new status
HasPutLines cut xs old new status = AreCut xs old new × (status ≡ 7)

-- What is put, with the status and each count of faults: the line of a halt or those of a script, whole or but for the end of the
-- last one, where the output failed.
abbrev pub HasPut : Ending → Seen → Seen → ℕ → Type 0
HasPut (halted why) old new status = IsSaid (halt_account why) old new status
HasPut (served way xs) old new status = HasPutLines way xs old new status

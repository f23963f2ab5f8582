-- What `dasdinit` prints, and its status.
use Rattle.std.specs.Prelude.{ℕ, List, [], ◌∷◌, ◌++◌, codes}
use Rattle.cckd_base.specs.declared.geometry.Geometry.{Geometry}
use Rattle.cckd_base.specs.Geometry.{group_count}
use Rattle.cckd_script.specs.Text.{line}
use Rattle.cckd_script.specs.Phrase.{words, number, phrase}
use Rattle.cckd_shelf.specs.declared.fault.Faults.{Faults}
use Rattle.cckd_shelf.specs.declared.fault.Kind.TheVariants.{Reads, Writes, Syncs}
use Rattle.cckd_shelf.specs.Faults.{no_faults}
use Rattle.cckd_console.specs.Counts.{failures}
use Rattle.cckd_console.specs.Saying.{Account, plain_text}
use Rattle.cckd_tools.specs.declared.fault.InitFault.{InitFault}
use Rattle.cckd_tools.specs.declared.fault.InitFault.TheVariants.{NotEmpty, ReadFault, WriteFault, SyncFault, Memory}

-- how a making ends: its words are wrong, it is refused or stopped, or a base of so many bytes is made
pub data Ending : Type 0 where
  wrong_word : ℕ → Ending
  unmade : InitFault → Ending
  made : List ℕ → Geometry → ℕ → Ending

-- what a device has, and how long its base is
abbrev pub counts_text : ℕ → ℕ → ℕ → ℕ → List ℕ
counts_text cylinders heads groups len =
    phrase (codes ":") (number cylinders ∷ words (codes "cylinders,") ∷ number heads ∷ words (codes "heads,") ∷ number groups ∷ words (codes "groups,")
    ∷ number len ∷ words (codes "bytes") ∷ [])

-- which base was made
abbrev pub made_text : List ℕ → Geometry → ℕ → List ℕ
made_text device g len = codes "made " ++ (device ++ counts_text g.cyls g.heads (group_count g) len)

-- why no base is made
abbrev pub unmade_text : InitFault → List ℕ
unmade_text (NotEmpty len) = phrase (codes "refused: not empty,") (number len ∷ [])
unmade_text ReadFault = phrase (codes "fault: read") []
unmade_text WriteFault = phrase (codes "fault: write") []
unmade_text SyncFault = phrase (codes "fault: sync") []
unmade_text Memory = phrase (codes "no memory") []

-- the status that goes with it
abbrev pub unmade_status : InitFault → ℕ
unmade_status (NotEmpty len) = 3
unmade_status ReadFault = 7
unmade_status WriteFault = 7
unmade_status SyncFault = 7
unmade_status Memory = 8

-- the calls that failed
abbrev pub unmade_told : InitFault → Faults
unmade_told ReadFault = failures Reads 1
unmade_told WriteFault = failures Writes 1
unmade_told SyncFault = failures Syncs 1
unmade_told _ = no_faults

-- the words are wrong
abbrev pub wrong_text : ℕ → List ℕ
wrong_text n = phrase (codes "bad words at") (number n ∷ [])

-- what is told of an ending: one line, a status, and the calls that failed
abbrev pub account_of : Ending → Account
account_of (wrong_word n) = plain_text (line (wrong_text n)) 2
account_of (unmade why) = record { text = line (unmade_text why); status = unmade_status why; failed = unmade_told why }
account_of (made device g len) = plain_text (line (made_text device g len)) 0

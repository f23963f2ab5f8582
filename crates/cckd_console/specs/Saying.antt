-- What is told of itself: what is put, the status, and the calls that failed.
use Rattle.std.specs.Prelude.{◌≡◌, ℕ, max, Bool, if◌then◌else◌, List, [], ◌∷◌, ◌++◌, Result, Ok, Err}
use Rattle.cckd_shelf.specs.declared.fault.Failed.{Failed}
use Rattle.cckd_shelf.specs.declared.fault.Faults.{Faults}
use Rattle.cckd_shelf.specs.declared.fault.Kind.TheVariants.{Takes, Puts}
use Rattle.cckd_shelf.specs.Faults.{no_faults}
use Rattle.cckd_shelf.specs.Events.{output_of}
use Rattle.cckd_shelf.specs.Seen.{Seen, Tells}
use Rattle.cckd_engine.specs.Lines.{HasFront}
use Rattle.cckd_console.specs.Counts.{RoseBy, one_more}
use Rattle.cckd_console.specs.Served.{Served, text_in, all_text, worst, faults_told}

-- an account: its text, the status that it asks for, and how many calls failed, by kind
pub record Account : Type 0 where
  pub text : List ℕ
  pub status : ℕ
  pub failed : Faults

-- a text with its status, where no call failed
abbrev pub plain_text : List ℕ → ℕ → Account
plain_text text status = record { text = text; status = status; failed = no_faults }

-- what was served tells: its lines, the worst of what it asks for, and the faults among its replies
abbrev pub account_of : List Served → Account
account_of served = record { text = all_text served; status = worst served; failed = faults_told served }

-- the same where the script couldn't be taken on
abbrev pub untaken : Account → Account
untaken told = record told { failed = one_more Takes told.failed }

-- it was put whole, and just the calls that it tells failed
pub record SaysAll (told : Account) (old new : Seen) (status : ℕ) : Type 0 where
  pub put : Tells old → output_of new.world.events ≡ output_of old.world.events ++ told.text
  pub asked : status ≡ told.status
  pub counted : RoseBy told.failed old.faults new.faults

-- An earlier text was put whole and a last line behind it up to some place, and just these calls failed, and one put.
pub record SaysCut (earlier last : List ℕ) (failed : Faults) (old new : Seen) : Type 0 where
  pub front : Tells old → HasFront (output_of old.world.events ++ earlier) last (output_of new.world.events)
  pub counted : RoseBy (one_more Puts failed) old.faults new.faults

-- A line was put behind an earlier text: all of both, or a fault of the output cut the line short, and then the status is the
-- greater of its own and the fault's.
pub data IsSaidBehind (earlier : List ℕ) (told : Account) (old new : Seen) (status : ℕ) : Type 0 where
  whole : SaysAll (record told { text = earlier ++ told.text }) old new status → IsSaidBehind earlier told old new status
  cut_short : SaysCut earlier told.text told.failed old new → status ≡ max told.status 7 → IsSaidBehind earlier told old new status

-- the same of a line that is all that is put
abbrev pub IsSaid : Account → Seen → Seen → ℕ → Type 0
IsSaid told old new status = IsSaidBehind [] told old new status

-- what was served was put up to a place in its last line
pub record AreCut (served : List Served) (old new : Seen) : Type 0 where
  pub earlier : List Served
  pub last : Served
  pub are : served ≡ earlier ++ last ∷ []
  pub said : SaysCut (all_text earlier) (text_in last) (faults_told served) old new

-- the status of a reply, where its line was printed
abbrev pub if_printed : Bool → ℕ → Result ℕ Failed
if_printed printed status = if printed then Ok status else Err (record {})

-- What was served of a script, one after the other, oldest first.
use Rattle.std.specs.Prelude.{◌≡◌, ℕ, ◌+◌, max, Bool, false, List, [], ◌∷◌, map, Option, Some, None}
use Rattle.std.specs.List.{AllByRecursion}
use Rattle.cckd_base.specs.declared.reply.Reply.{Reply}
use Rattle.cckd_base.specs.declared.reply.Reply.TheVariants as reply
use Rattle.cckd_base.specs.declared.reply.Refusal.{Refusal}
use Rattle.cckd_base.specs.declared.reply.Refusal.TheVariants as refusal
use Rattle.cckd_shelf.specs.declared.fault.Faults.{Faults}
use Rattle.cckd_shelf.specs.declared.fault.Kind.{Kind}
use Rattle.cckd_shelf.specs.declared.fault.Kind.TheVariants.{Reads, Writes, Syncs, Takes, Puts}
use Rattle.cckd_script.specs.declared.misread.Misreading.{Misreading}
use Rattle.cckd_script.specs.Items.{Item, item_of}
use Rattle.cckd_script.specs.Text.{answered, script_text, entry_text, misreading_line, IsLine}
use Rattle.cckd_script.specs.Text as text
use Rattle.cckd_stack.specs.History.{Entry}
use Rattle.cckd_engine.specs.Calls.{fault_told, writes}
use Rattle.cckd_engine.specs.Lines.{Line, of_call, of_text}

-- what was served: a call with its answer, or a line that was misread
pub data Served : Type 0 where
  called : Entry → Served
  misread : Misreading → Served

-- as an entry of a script
abbrev pub shown : Served → text.Entry
shown (called e) = answered e.request.asked e.request.given e.answer.reply e.answer.bytes
shown (misread why) = text.misread why

-- what it is the answer to
abbrev pub item_in : Served → Item
item_in x = item_of (shown x)

-- its line, as one of an engine
abbrev pub line_in : Served → Line
line_in (called e) = of_call e
line_in (misread why) = of_text (misreading_line why)

-- the text of its line
abbrev pub text_in : Served → List ℕ
text_in x = entry_text (shown x)

-- all that is printed for these
abbrev pub all_text : List Served → List ℕ
all_text served = script_text (map shown served)

-- each prints one line
abbrev pub AreLines : List Served → Type 0
AreLines served = AllByRecursion (λ x. IsLine (text_in x)) served

-- a call of no session
abbrev pub IsAlone : Served → Type 0
IsAlone (called e) = e.session ≡ None
IsAlone (misread why) = Unit {0}

-- so is each
abbrev pub AreAlone : List Served → Type 0
AreAlone served = AllByRecursion IsAlone served

-- whether it is a call that may write
abbrev pub writes_in : Served → Bool
writes_in (called e) = writes e.request.asked
writes_in (misread why) = false

-- no call of these may write
abbrev pub OnlyRead : List Served → Type 0
OnlyRead served = AllByRecursion (λ x. writes_in x ≡ false) served

-- ---- faults

-- the kind of fault that it tells
abbrev pub told_in : Served → Option Kind
told_in (called e) = fault_told e.answer.reply
told_in (misread why) = None

-- 1 where this kind is told, and else 0
abbrev pub is_told : Kind → Option Kind → ℕ
is_told Reads (Some Reads) = 1
is_told Writes (Some Writes) = 1
is_told Syncs (Some Syncs) = 1
is_told Takes (Some Takes) = 1
is_told Puts (Some Puts) = 1
is_told _ _ = 0

-- how many faults of a kind these tell
abbrev pub told_of : Kind → List Served → ℕ
told_of kind [] = 0
told_of kind (x ∷ xs) = is_told kind (told_in x) + told_of kind xs

-- the faults that these tell, by kind
abbrev pub faults_told : List Served → Faults
faults_told served = record {
  reads = told_of Reads served;
  writes = told_of Writes served;
  syncs = told_of Syncs served;
  takes = told_of Takes served;
  puts = told_of Puts served;
}

-- ---- status

-- the status that a refusal asks for
abbrev pub refusal_status : Refusal → ℕ
refusal_status refusal.ReadFault = 7
refusal_status refusal.WriteFault = 7
refusal_status refusal.SyncFault = 7
refusal_status (refusal.Broken at) = 7
refusal_status refusal.Memory = 8
refusal_status _ = 1

-- the status that a reply asks for
abbrev pub reply_status : Reply → ℕ
reply_status (reply.Refused why) = refusal_status why
reply_status _ = 0

-- the status that it asks for
abbrev pub status_in : Served → ℕ
status_in (called e) = reply_status e.answer.reply
status_in (misread why) = 1

-- the greatest of them
abbrev pub worst : List Served → ℕ
worst [] = 0
worst (x ∷ xs) = max (status_in x) (worst xs)

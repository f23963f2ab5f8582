-- Calls with their answers, one after the other, and what makes such a history the layered disk's.
use Rattle.std.specs.Prelude.{◌≡◌, ℕ, ◌+◌, Bool, true, false, if◌then◌else◌, List, [], ◌∷◌, length, Option, Some, None}
use Rattle.cckd_base.specs.declared.geometry.Geometry.{Geometry}
use Rattle.cckd_base.specs.declared.call.Call.{Call}
use Rattle.cckd_base.specs.declared.call.Call.TheVariants as call
use Rattle.cckd_base.specs.declared.reply.Reply.{Reply}
use Rattle.cckd_base.specs.declared.reply.Reply.TheVariants as reply
use Rattle.cckd_base.specs.declared.reply.Refusal.{Refusal}
use Rattle.cckd_base.specs.declared.reply.Refusal.TheVariants as refusal
use Rattle.cckd_stack.specs.Layers.{Stack}
use Rattle.cckd_stack.specs.Answers.{Request, Answer, MayAnswer, refused, stack_after_call}

-- a call of a session, or of none, with its answer, and the files by slot as they were when it was answered
pub record Entry : Type 0 where
  pub session : Option ℕ
  pub request : Request
  pub answer : Answer
  pub files : ℕ → List ℕ

-- a history, the newest entry first
abbrev pub History : Type 0
History = List Entry

-- whether a call that is refused so leaves the disk unfit for any other: a write or a sync failed, or a read within a merge
abbrev pub refusal_breaks : Call → Refusal → Bool
refusal_breaks c refusal.WriteFault = true
refusal_breaks c refusal.SyncFault = true
refusal_breaks call.Merge refusal.ReadFault = true
refusal_breaks c _ = false

-- the same of a reply
abbrev pub reply_breaks : Call → Reply → Bool
reply_breaks c (reply.Refused why) = refusal_breaks c why
reply_breaks c _ = false

-- an entry breaks the history
abbrev pub breaks : Entry → Bool
breaks e = reply_breaks e.request.asked e.answer.reply

-- the number of the first entry that broke a history, once an entry of a number is added
abbrev pub broken_with : Option ℕ → ℕ → Entry → Option ℕ
broken_with (Some at) number e = Some at
broken_with None number e = if breaks e then Some number else None

-- the number of the first entry that broke the history, counted from 1
abbrev pub broken_at : History → Option ℕ
broken_at [] = None
broken_at (e ∷ earlier) = broken_with (broken_at earlier) (length earlier + 1) e

-- the stack that a history leaves of a first one
abbrev pub stack_after : Geometry → Stack → History → Stack
stack_after g s0 [] = s0
stack_after g s0 (e ∷ earlier) = stack_after_call g (stack_after g s0 earlier) e.request e.answer.reply

-- what may be answered where an entry broke the history, or none did
abbrev pub MaySay : Option ℕ → Geometry → Stack → Request → Answer → Type 0
MaySay None g s r said = MayAnswer g s r said
MaySay (Some at) g s r said = said ≡ refused (refusal.Broken at)

-- this holds of each entry behind those before it
abbrev pub EachEntry : (History → Entry → Type 0) → History → Type 0
EachEntry P [] = Unit {0}
EachEntry P (e ∷ earlier) = EachEntry P earlier × P earlier e

-- what is promised of an entry: its answer is the layered disk's at its place, or comes from outside
pub record IsKept (g : Geometry) (s0 : Stack) (earlier : History) (e : Entry) : Type 0 where
  pub says : MaySay (broken_at earlier) g (stack_after g s0 earlier) e.request e.answer

-- a legal history of the layered disk
abbrev pub IsLegal : Geometry → Stack → History → Type 0
IsLegal g s0 h = EachEntry (IsKept g s0) h

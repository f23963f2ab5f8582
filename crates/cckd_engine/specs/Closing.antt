-- What the reply `closed` says of the files of a disk.
use Rattle.std.specs.Prelude.{ℕ, ◌≡◌, ◌≤◌, Bool, true, false, List, [], ◌∷◌, Option, None}
use Rattle.cckd_base.specs.declared.reply.Reply.{Reply}
use Rattle.cckd_base.specs.declared.reply.Reply.TheVariants as reply
use Rattle.cckd_base.specs.Header.{headers_of, layout_of, is_present}
use Rattle.cckd_shelf.specs.Events.{Event, file_now}
use Rattle.cckd_shelf.specs.Seen.{Seen, Tells}
use Rattle.cckd_stack.specs.Answers.{Request, Answer}
use Rattle.cckd_stack.specs.History.{History, reply_breaks}
use Rattle.cckd_stack.specs.Stacked.{StackState}
use Rattle.cckd_stack.specs.Called.{AgreesAfter}
use Rattle.cckd_stack.specs.Marking.{IsLeftOrClosed, MarksSince}

-- Each file that was there at these earlier events stayed as it was then, or it is that of a closed image, and a stop leaves it
-- as it is.
abbrev pub AreLeftOrClosed : List Event → List Event → Type 0
AreLeftOrClosed base now =
    (slot : ℕ) → slot ≤ 8 → is_present (file_now base slot) ≡ true → IsLeftOrClosed (layout_of (headers_of (file_now now slot))) slot base now

-- the newest call was answered `closed`
abbrev pub EndsClosed : History → Type 0
EndsClosed [] = ⊥
EndsClosed (e ∷ earlier) = e.answer.reply ≡ reply.Closed

-- unless a call breaks the disk, its marks say again what was done; and behind the reply `closed` each file was left or is closed
pub record TellsChanges (marks : List Event → List Event → Type 0) (breaks : Bool) (said : Reply) (base now : List Event) : Type 0 where
  pub again : breaks ≡ false → marks base now
  pub closed : said ≡ reply.Closed → AreLeftOrClosed base now

-- so it is of a call of a stack that agreed with its files
abbrev pub ClosesFiles : Request → Answer → StackState → StackState → Seen → Seen → Type 0
ClosesFiles r said s next old new =
    (base : List Event) → Tells old → AgreesAfter s old.world.events → MarksSince s base old.world.events
    → TellsChanges (MarksSince next) (reply_breaks r.asked said.reply) said.reply base new.world.events

-- Until a call breaks it, a disk's marks say what was done to the files since these earlier events; and behind a last call that
-- was answered `closed`, each was left or is closed.
pub record TellsSince (marks : List Event → List Event → Type 0) (broken : Option ℕ) (base : List Event) (h : History) (now : List Event) : Type 0 where
  pub since : broken ≡ None → marks base now
  pub closed : EndsClosed h → AreLeftOrClosed base now

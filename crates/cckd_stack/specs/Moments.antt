-- What a call of a stack leaves at each of its operations.
use Rattle.std.specs.Prelude.{◌≡◌, false, if◌then◌else◌, List, [], ◌++◌}
use Rattle.cckd_base.specs.declared.geometry.Geometry.{Geometry}
use Rattle.cckd_base.specs.declared.reply.Reply.{Reply}
use Rattle.cckd_shelf.specs.Events.{Event}
use Rattle.cckd_shelf.specs.Outcomes.{AtEach, EachStop}
use Rattle.cckd_stack.specs.Layers.{Stack}
use Rattle.cckd_stack.specs.Answers.{Request, Pair, pairs_written, stack_after_call}
use Rattle.cckd_stack.specs.History.{reply_breaks}
use Rattle.cckd_stack.specs.Stops.{Lies, LiesWithin, hardens}
use Rattle.cckd_stack.specs.Opened.{OpensTo}

-- whatever a stop leaves of the files opens to a stack of which this holds
abbrev pub EachOpens : Geometry → (Stack → Type 0) → List Event → Type 0
EachOpens g P events = EachStop (OpensTo g P) events

-- what was hardened and what was written since, of a stack that stands so
pub record Hardening : Type 0 where
  pub stack : Stack
  pub hard : Stack
  pub later : List Pair

-- the same after a call with its reply
abbrev pub hardening_after : Geometry → Hardening → Request → Reply → Hardening
hardening_after g was r said =
    let now = stack_after_call g was.stack r said in
    record {
      stack = now;
      hard = if hardens r.asked said then now else was.hard;
      later = if hardens r.asked said then [] else pairs_written g was.stack r said ++ was.later;
    }

-- the stack lies within what was hardened and written since, and so does whatever a stop leaves
pub record IsHardened (g : Geometry) (was : Hardening) (events : List Event) : Type 0 where
  pub now : Lies was.hard was.later was.stack
  pub stops : EachOpens g (Lies was.hard was.later) events

-- At each operation of a call whatever a stop leaves lies within what the call may leave, and after a call that doesn't break
-- within what is hardened and written then.
pub record KeepsStops (g : Geometry) (was : Hardening) (r : Request) (said : Reply) (old new : List Event) : Type 0 where
  pub each : AtEach old new (EachOpens g (LiesWithin g was.hard was.later was.stack r))
  pub after : reply_breaks r.asked said ≡ false
      → EachOpens g (Lies (hardening_after g was r said).hard (hardening_after g was r said).later) new

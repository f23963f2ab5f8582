-- What stops leave while calls are served and their lines are put: by how many lines are whole.
use Rattle.std.specs.Prelude.{◌≡◌, ℕ, zero, suc, ◌+◌, ◌==◌, ◌≤◌, Bool, true, false, if◌then◌else◌, List, [], ◌∷◌, ◌++◌, length, take, drop}
use Rattle.cckd_base.specs.declared.geometry.Geometry.{Geometry}
use Rattle.cckd_base.specs.declared.reply.Reply.{Reply}
use Rattle.cckd_shelf.specs.declared.fault.Faults.{Faults}
use Rattle.cckd_shelf.specs.declared.fault.Kind.TheVariants.{Puts}
use Rattle.cckd_shelf.specs.Faults.{Raises}
use Rattle.cckd_shelf.specs.Events.{Event, output_of, file_now}
use Rattle.cckd_shelf.specs.Outcomes.{AtEach}
use Rattle.cckd_stack.specs.Layers.{Stack}
use Rattle.cckd_stack.specs.History.{Entry, History}
use Rattle.cckd_stack.specs.Stops.{Survives, SurvivesWithin}
use Rattle.cckd_stack.specs.Moments.{EachOpens}
use Rattle.cckd_engine.specs.Calls.{CountsReply}

-- a line of a run: that of a call with its answer, or one that answers no call
pub data Line : Type 0 where
  of_call : Entry → Line
  of_text : List ℕ → Line

-- What a stop may leave when so many of these lines are whole, behind a history: what the calls of the whole lines leave, and
-- the call of the line behind them.
abbrev pub StopAfter : Geometry → Stack → History → List Line → ℕ → Stack → Type 0
StopAfter g s0 h [] n s = Survives g s0 h s
StopAfter g s0 h (of_call e ∷ rest) zero s = SurvivesWithin g s0 h e.request s
StopAfter g s0 h (of_call e ∷ rest) (suc n) s = StopAfter g s0 (e ∷ h) rest n s
StopAfter g s0 h (of_text text ∷ rest) zero s = Survives g s0 h s
StopAfter g s0 h (of_text text ∷ rest) (suc n) s = StopAfter g s0 h rest n s

-- a history with the calls of more lines, which are given oldest first
abbrev pub history_onto : List Line → History → History
history_onto [] h = h
history_onto (of_call e ∷ rest) h = history_onto rest (e ∷ h)
history_onto (of_text text ∷ rest) h = history_onto rest h

-- a front of a text stands behind what was put before
pub record HasFront (before text output : List ℕ) : Type 0 where
  pub count : ℕ
  pub within : count ≤ length text
  pub is : output ≡ before ++ take count text

-- how many line feeds a text has
abbrev pub feeds : List ℕ → ℕ
feeds [] = 0
feeds (b ∷ bytes) = if b == 10 then feeds bytes + 1 else feeds bytes

-- how many lines are whole of what was put since this was the output
abbrev pub lines_since : List ℕ → List Event → ℕ
lines_since before events = feeds (drop (length before) (output_of events))

-- no more lines are whole than there are, and whatever a stop leaves is what their calls may leave
pub record LinesAt (g : Geometry) (s0 : Stack) (h : History) (lines : List Line) (before : List ℕ) (events : List Event) : Type 0 where
  pub few : lines_since before events ≤ length lines
  pub stops : EachOpens g (StopAfter g s0 h lines (lines_since before events)) events

-- what a line keeps that is put, with the call that it answers: so it is at each operation, and after it
pub record KeepsLine (g : Geometry) (s0 : Stack) (h : History) (x : Line) (before : List ℕ) (old new : List Event) : Type 0 where
  pub each : AtEach old new (LinesAt g s0 h (x ∷ []) before)
  pub after : EachOpens g (Survives g s0 (history_onto (x ∷ []) h)) new

-- the count of puts rose where a line was cut now, and else nothing was counted
abbrev pub CountsCut : Bool → Bool → Faults → Faults → Type 0
CountsCut true now old new = new ≡ old
CountsCut false true old new = Raises Puts old new
CountsCut false false old new = new ≡ old

-- What serving a call counts: the fault that its reply tells, and one of putting where its line was cut.
pub record CountsServed (said : Reply) (was_mute mute : Bool) (old new : Faults) : Type 0 where
  pub between : Faults
  pub told : CountsReply said old between
  pub cut : CountsCut was_mute mute between new

-- these events begin with others
pub record GrowsFrom (old new : List Event) : Type 0 where
  pub newer : List Event
  pub grown : new ≡ newer ++ old

-- The files of an entry are those of a moment between two, at which so many lines were whole.
pub record WasThen (before : List ℕ) (n : ℕ) (e : Entry) (old mid new : List Event) : Type 0 where
  pub since : GrowsFrom old mid
  pub until : GrowsFrom mid new
  pub lines : lines_since before mid ≡ n
  pub files : e.files ≡ file_now mid

-- So it is of the entry of each of these lines, one moment behind the other: at each as many lines are whole as stand before its own.
abbrev pub AreFilesThen : List ℕ → ℕ → List Line → List Event → List Event → Type 0
AreFilesThen before n [] old new = Unit {0}
AreFilesThen before n (of_text text ∷ rest) old new = AreFilesThen before (n + 1) rest old new
AreFilesThen before n (of_call e ∷ rest) old new = (mid : List Event) × WasThen before n e old mid new × AreFilesThen before (n + 1) rest mid new

-- What a stack does when it is called, as the layered disk promises it of the call.
use Rattle.std.proofs.Common.{◌≡◌, ℕ, Bool, true, false, List, [], ◌++◌, Option, Some, None, Result, Ok, Err, OnOk, IfErr, refl, sym, ◌∙◌, ap, subst}
use Rattle.std.specs.Prelude.{if◌then◌else◌, IsTrue}
use Rattle.std.specs.Option.{option_map}
use Rattle.std.proofs.lemmas.Bool.{false≢true}
use Rattle.cckd_base.specs.declared.geometry.Geometry.{Geometry}
use Rattle.cckd_base.specs.declared.geometry.Track.{Track}
use Rattle.cckd_base.specs.declared.call.Call.{Call}
use Rattle.cckd_base.specs.declared.call.Call.TheVariants as call
use Rattle.cckd_base.specs.declared.reply.Reply.{Reply}
use Rattle.cckd_base.specs.declared.reply.Reply.TheVariants as reply
use Rattle.cckd_base.specs.declared.reply.Refusal.TheVariants as refusal
use Rattle.cckd_base.specs.declared.layer_fault.LayerFault.TheVariants as fault
use Rattle.cckd_base.specs.declared.layer_fault.StackFault.{StackFault}
use Rattle.cckd_base.specs.declared.layer_fault.StackFault.TheVariants as stack_fault
use Rattle.cckd_base.specs.Geometry.{track_at}
use Rattle.cckd_shelf.specs.Events.{Event}
use Rattle.cckd_shelf.specs.Outcomes.{AtEach}
use Rattle.cckd_shelf.proofs.MomentLemmas.{at_end, weaker}
use Rattle.cckd_layer.specs.Writes.{IsOutside}
use Rattle.cckd_stack.specs.Layers.{Stack, with_top, top}
use Rattle.cckd_stack.specs.Answers.{Request, Pair, MayAnswer, IsAnswer, first_refusal, refusal_to, changes_files, answers, from_outside, plain, pair_by, pairs_written, with_pair, stacked, answered_stack, stack_after_call, is_refused, at_track}
use Rattle.cckd_stack.specs.History.{refusal_breaks, reply_breaks}
use Rattle.cckd_stack.specs.Stops.{Lies, LiesWithin, hardens}
use Rattle.cckd_stack.specs.Moments.{EachOpens, Hardening, KeepsStops}
use Rattle.cckd_stack.specs.Opened.{OpensTo}
use Rattle.cckd_stack.specs.Stacked.{InLayer}
use Rattle.cckd_stack.specs.Writes.{with_pair_on_top, reply_by, refusal_by, is_broken_by, OnlyHardens, asks}
use Rattle.cckd_stack.proofs.HistoryLemmas.{lies_more, lies_within}
use Rattle.cckd_stack.proofs.TopLemmas.{with_own}

-- ---- at each operation, and behind the call

pub opens_weaker : (g : Geometry) (P Q : Stack → Type 0) (es : List Event) → ((s : Stack) → P s → Q s) → EachOpens g P es → EachOpens g Q es
opens_weaker g P Q es step each files image =
    let o : OpensTo g P files = each files image in record { stack = o.stack; opens = o.opens; holds = step o.stack o.holds }

module _ (g : Geometry) (was : Hardening) (r : Request) (said : Reply) (old new : List Event) (lie : AtEach old new (EachOpens g (Lies was.hard was.later))) where
  within : AtEach old new (EachOpens g (LiesWithin g was.hard was.later was.stack r))
  within =
      weaker (EachOpens g (Lies was.hard was.later)) (EachOpens g (LiesWithin g was.hard was.later was.stack r)) old new
      (λ es each. opens_weaker g (Lies was.hard was.later) (LiesWithin g was.hard was.later was.stack r) es (λ s h. lies_within g was.hard was.later was.stack r s h) each) lie

  -- what is hardened and was written then, by whether the call hardened
  AfterLies : Bool → Type 0
  AfterLies b =
      EachOpens g (Lies (if b then stack_after_call g was.stack r said else was.hard) (if b then [] else pairs_written g was.stack r said ++ was.later)) new

  by_hardening : (b : Bool) → hardens r.asked said ≡ b → AfterLies b → KeepsStops g was r said old new
  unfolding AfterLies
  by_hardening b is h = record { each = within; after = λ whole. subst AfterLies (sym is) h }

  -- a call that hardens nothing, or is refused
  pub stops_unhardened : hardens r.asked said ≡ false → KeepsStops g was r said old new
  unfolding AfterLies
  stops_unhardened calm =
      let pairs = pairs_written g was.stack r said in
      by_hardening false calm
      (opens_weaker g (Lies was.hard was.later) (Lies was.hard (pairs ++ was.later)) new (λ s h. lies_more was.hard was.later pairs s h)
      (at_end (EachOpens g (Lies was.hard was.later)) old new lie))

  -- a call that hardened the stack that it left
  pub stops_hardened : hardens r.asked said ≡ true → EachOpens g (Lies (stack_after_call g was.stack r said) []) new → KeepsStops g was r said old new
  unfolding AfterLies
  stops_hardened done settled = by_hardening true done settled

-- ---- the calls that only harden

only_hardens : (P : Call → Reply → Type 0) → P call.Harden reply.Hardened → P call.Close reply.Closed → (c : Call) (done : Reply) → OnlyHardens c done → P c done
only_hardens P harden close call.Harden done is = subst (P call.Harden) (sym is) harden
only_hardens P harden close call.Close done is = subst (P call.Close) (sym is) close
only_hardens P harden close (call.Read at) done is = absurd is
only_hardens P harden close (call.Write at) done is = absurd is
only_hardens P harden close (call.GetRecord at num) done is = absurd is
only_hardens P harden close (call.PutRecord at num) done is = absurd is
only_hardens P harden close call.Turn done is = absurd is
only_hardens P harden close call.Add done is = absurd is
only_hardens P harden close call.Merge done is = absurd is
only_hardens P harden close call.Drop done is = absurd is
only_hardens P harden close call.Compress done is = absurd is
only_hardens P harden close call.Display done is = absurd is
only_hardens P harden close (call.Check level) done is = absurd is

-- the stack stays
done_stack : (g : Geometry) (s : Stack) (given : List ℕ) (c : Call) (done : Reply) → OnlyHardens c done → stack_after_call g s (asks c given) done ≡ s
done_stack g s given = only_hardens (λ c done. stack_after_call g s (asks c given) done ≡ s) (with_own s) (with_own s)

pub harden_stack : (A : Type 0) (g : Geometry) (s : Stack) (given : List ℕ) (c : Call) (done : Reply) (result : Result A StackFault) → OnlyHardens c done
    → stack_after_call g s (asks c given) (reply_by done result) ≡ s
harden_stack A g s given c done (Ok a) is = done_stack g s given c done is
harden_stack A g s given c done (Err why) is = refl

pub harden_stops : (A : Type 0) (g : Geometry) (was : Hardening) (given : List ℕ) (c : Call) (done : Reply) (result : Result A StackFault) (old new : List Event) → OnlyHardens c done
    → AtEach old new (EachOpens g (Lies was.hard was.later)) → OnOk result (EachOpens g (Lies was.stack []) new) → KeepsStops g was (asks c given) (reply_by done result) old new
harden_stops A g was given c done (Ok a) old new is lie settled =
    stops_hardened g was (asks c given) done old new lie (only_hardens (λ c done. hardens c done ≡ true) refl refl c done is)
    (subst (λ (s : Stack). EachOpens g (Lies s []) new) (sym (done_stack g was.stack given c done is)) settled)
harden_stops A g was given c done (Err why) old new is lie settled =
    stops_unhardened g was (asks c given) (reply.Refused (refusal_by why)) old new lie refl

-- ---- answers

-- a call that nothing refuses answers, or is refused for a fault from outside
outside_answers : (A : Type 0) (g : Geometry) (s : Stack) (r : Request) (done : Reply) (result : Result A StackFault) → first_refusal g s r ≡ None → refusal_to g s r ≡ None
    → IsTrue (changes_files r.asked) → IsAnswer g s r (plain done) → IfErr result (InLayer IsOutside) → MayAnswer g s r (plain (reply_by done result))
outside_answers A g s r done (Ok a) first none changes is outside = answers none is
outside_answers A g s r done (Err (stack_fault.Layer (fault.Track why))) first none changes is outside = absurd outside
outside_answers A g s r done (Err (stack_fault.Layer (fault.Full full))) first none changes is outside = absurd outside
outside_answers A g s r done (Err (stack_fault.Layer fault.ReadFault)) first none changes is outside = from_outside refusal.ReadFault first refl
outside_answers A g s r done (Err (stack_fault.Layer fault.WriteFault)) first none changes is outside = from_outside refusal.WriteFault (changes, none) refl
outside_answers A g s r done (Err (stack_fault.Layer fault.SyncFault)) first none changes is outside = from_outside refusal.SyncFault (changes, none) refl
outside_answers A g s r done (Err (stack_fault.TooMany have)) first none changes is outside = absurd outside
outside_answers A g s r done (Err stack_fault.OnlyBase) first none changes is outside = absurd outside
outside_answers A g s r done (Err stack_fault.Memory) first none changes is outside = absurd outside

pub harden_answers : (A : Type 0) (g : Geometry) (s : Stack) (given : List ℕ) (c : Call) (done : Reply) (result : Result A StackFault) → OnlyHardens c done → IfErr result (InLayer IsOutside)
    → MayAnswer g s (asks c given) (plain (reply_by done result))
harden_answers A g s given c done result is outside =
    only_hardens (λ c done. MayAnswer g s (asks c given) (plain (reply_by done result)))
    (outside_answers A g s (asks call.Harden given) reply.Hardened result refl refl refl refl outside)
    (outside_answers A g s (asks call.Close given) reply.Closed result refl refl refl refl outside) c done is

-- ---- whether a reply breaks

fault_breaks : (c : Call) (why : StackFault) → refusal_breaks c refusal.ReadFault ≡ false → refusal_breaks c (refusal_by why) ≡ is_broken_by {A = ℕ} (Err why)
fault_breaks c (stack_fault.Layer (fault.Track why)) calm = refl
fault_breaks c (stack_fault.Layer (fault.Full full)) calm = refl
fault_breaks c (stack_fault.Layer fault.ReadFault) calm = calm
fault_breaks c (stack_fault.Layer fault.WriteFault) calm = refl
fault_breaks c (stack_fault.Layer fault.SyncFault) calm = refl
fault_breaks c (stack_fault.TooMany have) calm = refl
fault_breaks c stack_fault.OnlyBase calm = refl
fault_breaks c stack_fault.Memory calm = refl

answer_breaks : (c : Call) (said : Reply) → is_refused said ≡ false → reply_breaks c said ≡ false
answer_breaks c (reply.Refused why) answered = absurd (false≢true (sym answered))
answer_breaks c (reply.Track len) answered = refl
answer_breaks c (reply.Written len) answered = refl
answer_breaks c (reply.Record key body) answered = refl
answer_breaks c (reply.Replaced len) answered = refl
answer_breaks c reply.Hardened answered = refl
answer_breaks c (reply.Turned turn) answered = refl
answer_breaks c (reply.Added slot) answered = refl
answer_breaks c (reply.Merged slot) answered = refl
answer_breaks c (reply.Dropped slot) answered = refl
answer_breaks c reply.Compressed answered = refl
answer_breaks c (reply.Shown layers counts) answered = refl
answer_breaks c (reply.Checked level bad) answered = refl
answer_breaks c reply.Closed answered = refl

-- a call, other than one that a fault of reading breaks, breaks where the stack is broken
pub call_breaks : (A : Type 0) (c : Call) (said : Reply) (result : Result A StackFault) → refusal_breaks c refusal.ReadFault ≡ false → is_refused said ≡ false
    → reply_breaks c (reply_by said result) ≡ is_broken_by result
call_breaks A c said (Ok a) calm answered = answer_breaks c said answered
call_breaks A c said (Err why) calm answered = fault_breaks c why calm

-- ---- a call that writes a pair

no_pair : (g : Geometry) (s : Stack) (at : Option Track) (p : Pair) → at_track at (λ t. option_map (λ (bytes : List ℕ). (t, bytes)) None) ≡ Some p → {P : Type 0} → P
no_pair g s None p e = absurd (cc e)
no_pair g s (Some t) p e = absurd (cc e)

pair_stacked : (g : Geometry) (s : Stack) (c : Call) (given : List ℕ) (p : Pair) → pair_by g s (record { asked = c; given = given }) ≡ Some p
    → stacked s c (pair_by g s (record { asked = c; given = given })) ≡ with_pair_on_top s p
pair_stacked g s (call.Read at) given p e = no_pair g s (track_at g at) p e
pair_stacked g s (call.Write at) given p e = ap (λ (o : Option Pair). with_top s (with_pair (top s) o)) e
pair_stacked g s (call.GetRecord at num) given p e = no_pair g s (track_at g at) p e
pair_stacked g s (call.PutRecord at num) given p e = ap (λ (o : Option Pair). with_top s (with_pair (top s) o)) e
pair_stacked g s call.Harden given p e = absurd (cc e)
pair_stacked g s call.Turn given p e = absurd (cc e)
pair_stacked g s call.Add given p e = absurd (cc e)
pair_stacked g s call.Merge given p e = absurd (cc e)
pair_stacked g s call.Drop given p e = absurd (cc e)
pair_stacked g s call.Compress given p e = absurd (cc e)
pair_stacked g s call.Display given p e = absurd (cc e)
pair_stacked g s (call.Check level) given p e = absurd (cc e)
pair_stacked g s call.Close given p e = absurd (cc e)

-- the stack that it leaves has the pair on top, where it isn't refused
pub write_stack : (g : Geometry) (s : Stack) (r : Request) (p : Pair) (said : Reply) → pair_by g s r ≡ Some p → is_refused said ≡ false
    → stack_after_call g s r said ≡ with_pair_on_top s p
write_stack g s r p said e answered =
    ap (λ (b : Bool). if b then s else answered_stack g s r) answered ∙ pair_stacked g s r.asked r.given p e

-- One line that is served.
use Rattle.std.proofs.Common.{◌≡◌, ℕ, Bool, true, false, not, List, [], ◌∷◌, ◌++◌, Result, Ok, Err, OnOk, refl, sym, ◌∙◌, ap, subst, arith, append-nil}
use Rattle.cckd_shelf.specs.declared.shows.Shows.{Ghosts as Showing}
use Rattle.cckd_shelf.specs.declared.fault.Failed.{Failed}
use Rattle.cckd_shelf.specs.declared.fault.Kind.TheVariants.{Puts}
use Rattle.cckd_shelf.specs.Faults.{Raises}
use Rattle.cckd_shelf.specs.Events.{Event, output_of}
use Rattle.cckd_shelf.specs.World.{World}
use Rattle.cckd_shelf.specs.Seen.{Seen, seen, Tells}
use Rattle.cckd_shelf.specs.Frame.{PutsAll, PutsSome, PutsFront}
use Rattle.cckd_shelf.proofs.PutLemmas.{puts_output}
use Rattle.cckd_script.specs.declared.misread.Misreading.{Misreading}
use Rattle.cckd_script.specs.Items.{Item, unread}
use Rattle.cckd_script.specs.Text.{IsLine, misreading_line}
use Rattle.cckd_stack.specs.Layers.{Stack}
use Rattle.cckd_stack.specs.History.{Entry, History}
use Rattle.cckd_stack.specs.Stops.{Survives}
use Rattle.cckd_stack.specs.Moments.{EachOpens}
use Rattle.cckd_engine.specs.Closing.{TellsSince}
use Rattle.cckd_engine.specs.declared.engine.Engine.{Engine}
use Rattle.cckd_engine.specs.declared.disk.Disk.{Ghosts as Making}
use Rattle.cckd_engine.specs.Frame.{Spares}
use Rattle.cckd_engine.specs.Engine.{standing, Stands, Runs, TellsStops, IsWithStage}
use Rattle.cckd_engine.specs.Lines.{of_text, KeepsLine, HasFront, CountsServed}
use Rattle.cckd_engine.proofs.FrameLemmas.{spares_puts}
use Rattle.cckd_engine.proofs.ServeLemmas.{front_put}
use Rattle.cckd_console.specs.Counts.{RoseBy, one_more}
use Rattle.cckd_console.specs.Served.{Served, called, misread, text_in, status_in, reply_status, faults_told}
use Rattle.cckd_console.specs.Saying.{account_of, SaysAll, AreCut, if_printed}
use Rattle.cckd_console.specs.Serving.{OnlyPuts, Serves, AreSaid, ServesItems}
use Rattle.cckd_console.proofs.CountLemmas.{rose_none, rose_reply, rose_so_far, rose_and_one}
use Rattle.cckd_console.proofs.SayingLemmas.{text_one, says_none}
use Rattle.cckd_console.proofs.JoinLemmas.{keeps_one, serves_none, room_with_stage}

front_only : (text : List ℕ) (old new : World) → PutsFront text old new → OnlyPuts old new
front_only text old new front = record { pieces = front.put.pieces; events = front.put.events; files = front.put.files }

heard_on : {P : Type 0} (result : Result ℕ Failed) → P → OnOk result P
heard_on (Ok status) h = h
heard_on (Err fault) h = tt

-- nothing is asked
pub none_served : {S D : Type 0} (shows : Showing S) (makes : Making D) (a : Engine S D) (items : List Item) (calls : ℕ) → items ≡ [] → a.mute ≡ false
    → ServesItems shows makes items calls a a (Ok 0)
none_served shows makes a items calls none heard = record {
  served = [];
  asked = sym none;
  does = serves_none shows makes a;
  said = says_none (seen shows a.stage);
  script = λ told. refl;
  few = omega arith;
  heard = heard;
}

-- ---- what is said of one

-- its line was put whole
pub one_said : (x : Served) (a c : Seen) → (Tells a → output_of c.world.events ≡ output_of a.world.events ++ text_in x)
    → RoseBy (faults_told (x ∷ [])) a.faults c.faults → SaysAll (account_of (x ∷ [])) a c (status_in x)
one_said x a c put rose = record {
  put = λ t. put t ∙ ap (λ (s : List ℕ). output_of a.world.events ++ s) (sym (text_one x));
  asked = omega arith;
  counted = rose;
}

-- it was cut
pub one_cut : (x : Served) (a c : Seen) → (Tells a → HasFront (output_of a.world.events) (text_in x) (output_of c.world.events))
    → RoseBy (one_more Puts (faults_told (x ∷ []))) a.faults c.faults → AreCut (x ∷ []) a c
one_cut x a c front rose = record {
  earlier = [];
  last = x;
  are = refl;
  said = record {
    front = λ t. subst (λ (before : List ℕ). HasFront before (text_in x) (output_of c.world.events)) (sym (append-nil (output_of a.world.events))) (front t);
    counted = rose;
  };
}

-- a reply with its line
pub reply_said : (e : Entry) (printed mute : Bool) (a c : Seen) → printed ≡ not mute
    → (Tells a → printed ≡ true → output_of c.world.events ≡ output_of a.world.events ++ text_in (called e))
    → (Tells a → HasFront (output_of a.world.events) (text_in (called e)) (output_of c.world.events))
    → CountsServed e.answer.reply false mute a.faults c.faults
    → AreSaid (called e ∷ []) a c (if_printed printed (reply_status e.answer.reply))
reply_said e true true a c spoken put front counts = absurd (cc spoken)
reply_said e true false a c spoken put front counts =
    one_said (called e) a c (λ t. put t refl)
    (rose_so_far (faults_told (called e ∷ [])) a.faults counts.between c.faults
    (rose_reply (called e) e.answer.reply a.faults counts.between refl counts.told) counts.cut)
reply_said e false true a c spoken put front counts =
    one_cut (called e) a c front
    (rose_and_one Puts (faults_told (called e ∷ [])) a.faults counts.between c.faults
    (rose_reply (called e) e.answer.reply a.faults counts.between refl counts.told) counts.cut)
reply_said e false false a c spoken put front counts = absurd (cc spoken)

pub still_heard : (printed mute : Bool) (status : ℕ) → printed ≡ not mute → OnOk (if_printed printed status) (mute ≡ false)
still_heard true true status spoken = spoken
still_heard true false status spoken = refl
still_heard false mute status spoken = tt

-- where a call only reads nothing is done but its line put
pub only_line : {S : Type 0} (shows : Showing S) (text : List ℕ) (a c : S) → PutsSome text (seen shows a) (seen shows c)
    → Tells (seen shows a) → OnlyPuts (shows.world a) (shows.world c)
only_line shows text a c put told = front_only text (shows.world a) (shows.world c) (put told)

-- ---- a line that was misread

module _ {S D : Type 0} (shows : Showing S) (makes : Making D) (a c : Engine S D) (why : Misreading) (text : List ℕ)
    (is : text ≡ misreading_line why) (one : IsLine (misreading_line why)) (heard : a.mute ≡ false)
    (rest : IsWithStage c a)
    (front : PutsSome text (seen shows a.stage) (seen shows c.stage))
    (stands : (s0 : Stack) (h : History) → Tells (seen shows a.stage) → Stands s0 h (standing shows makes a) → Stands s0 h (standing shows makes c))
    (stops : (s0 : Stack) (h : History) → Tells (seen shows a.stage) → IsLine text
    → EachOpens (makes.geometry a.disk) (Survives (makes.geometry a.disk) s0 h) (shows.world a.stage).events
    → KeepsLine (makes.geometry a.disk) s0 h (of_text text) (output_of (shows.world a.stage).events) (shows.world a.stage).events (shows.world c.stage).events)
    (runs : Runs (makes.tied a.disk) a.broken (seen shows a.stage) → Runs (makes.tied c.disk) c.broken (seen shows c.stage))
    (agrees : Tells (seen shows a.stage) → TellsStops (makes.agrees a.disk) a.broken (shows.world a.stage).events
    → TellsStops (makes.agrees c.disk) c.broken (shows.world c.stage).events)
    (closes : (base : List Event) (h : History) → Tells (seen shows a.stage) → TellsSince (makes.marks a.disk) a.broken base h (shows.world a.stage).events
    → TellsSince (makes.marks c.disk) c.broken base h (shows.world c.stage).events)
  where
    does_refuse : Serves shows makes (misread why ∷ []) a c
    does_refuse = record {
      lines = (one, tt);
      alone = (tt, tt);
      geometry = ap makes.geometry rest.disk;
      stands = stands;
      room = λ s0 h room told before keeps. room_with_stage shows makes a c rest s0 h room keeps;
      files = λ told. tt;
      runs = runs;
      agrees = agrees;
      closes = λ base h told tells was. closes base h told was;
      stops = λ s0 h told stands tells left.
          keeps_one (makes.geometry a.disk) s0 h (of_text (misreading_line why)) (output_of (shows.world a.stage).events)
          (shows.world a.stage).events (shows.world c.stage).events
          (subst (λ (t : List ℕ). KeepsLine (makes.geometry a.disk) s0 h (of_text t) (output_of (shows.world a.stage).events)
          (shows.world a.stage).events (shows.world c.stage).events) is (stops s0 h told (subst IsLine (sym is) one) left));
      quiet = λ same reads. (subst makes.unchanged (sym rest.disk) same, λ told. front_only text (shows.world a.stage) (shows.world c.stage) (front told));
      spares = subst (λ (d : D). Spares (makes.spares a.disk) (makes.spares d) (seen shows a.stage) (seen shows c.stage)) (sym rest.disk)
          (spares_puts (makes.spares a.disk) text (seen shows a.stage) (seen shows c.stage) front);
    }

    module _ (result : Result ℕ Failed) (said : AreSaid (misread why ∷ []) (seen shows a.stage) (seen shows c.stage) result) where
      refuses_by : ServesItems shows makes (unread why ∷ []) 0 a c result
      refuses_by = record {
        served = misread why ∷ [];
        asked = refl;
        does = does_refuse;
        said = said;
        script = λ told. (front told).put.script;
        few = omega (arith, rest.calls);
        heard = heard_on result (rest.mute ∙ heard);
      }

    pub refused_line : PutsAll text (seen shows a.stage) (seen shows c.stage) → shows.faults c.stage ≡ shows.faults a.stage
        → ServesItems shows makes (unread why ∷ []) 0 a c (Ok 1)
    refused_line whole still =
        refuses_by (Ok 1) (one_said (misread why) (seen shows a.stage) (seen shows c.stage)
        (λ t. puts_output text (shows.world a.stage) (shows.world c.stage) (whole t) ∙ ap (λ (s : List ℕ). output_of (shows.world a.stage).events ++ s) is)
        (rose_so_far (faults_told (misread why ∷ [])) (shows.faults a.stage) (shows.faults a.stage) (shows.faults c.stage)
        (rose_none (shows.faults a.stage)) still))

    pub refused_cut : (fault : Failed) → Raises Puts (shows.faults a.stage) (shows.faults c.stage)
        → ServesItems shows makes (unread why ∷ []) 0 a c (Err fault)
    refused_cut fault rose =
        refuses_by (Err fault) (one_cut (misread why) (seen shows a.stage) (seen shows c.stage)
        (λ t. subst (λ (s : List ℕ). HasFront (output_of (shows.world a.stage).events) s (output_of (shows.world c.stage).events)) is
        (front_put text (output_of (shows.world a.stage).events) (shows.world a.stage) (shows.world c.stage) refl (front t)))
        (rose_and_one Puts (faults_told (misread why ∷ [])) (shows.faults a.stage) (shows.faults a.stage) (shows.faults c.stage)
        (rose_none (shows.faults a.stage)) rose))

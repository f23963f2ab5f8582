-- How a making is explained.
use Rattle.std.proofs.Common.{◌≡◌, ℕ, List, [], ◌++◌, take, Option, Result, Ok, Err, OnOk, IfOk, Some, IsTrue, unwrap_or, refl, sym, ◌∙◌, ap, subst, append-nil}
use Rattle.cckd_shelf.specs.declared.fault.Faults.{Faults}
use Rattle.cckd_shelf.specs.declared.fault.Kind.TheVariants.{Reads, Writes, Syncs}
use Rattle.cckd_shelf.specs.Faults.{Raises}
use Rattle.cckd_shelf.specs.Events.{Event, output_of, name_of}
use Rattle.cckd_shelf.specs.Seen.{Seen, Tells, Stays, Makes}
use Rattle.cckd_shelf.specs.World.{World, IsSure, IsTied, file_of, held_by, after_bind}
use Rattle.cckd_shelf.specs.Frame.{OnlyIn, PutsSome, PutsFront, OnlyPuts, puts}
use Rattle.cckd_shelf.specs.Outcomes.{IsOutcome, EachOutcome, AtEach, OthersStill}
use Rattle.cckd_shelf.proofs.MomentLemmas.{joins, at_end}
use Rattle.cckd_shelf.proofs.PutLemmas.{at_puts, file_at_puts, outcome_at_puts}
use Rattle.cckd_shelf.proofs.WorldLemmas.{BindKeeps, bind_keeps, bind_holds, bind_names}
use Rattle.cckd_console.specs.Counts.{RoseBy}
use Rattle.cckd_console.specs.Saying.{plain_text, IsSaid}
use Rattle.cckd_console.proofs.CountLemmas.{rose_still, rose_one}
use Rattle.cckd_command.proofs.SayingLemmas.{said_behind}
use Rattle.cckd_make.specs.Making.{IsAbsent, IsAbsentOr, HasOnly, StopsWithout}
use Rattle.cckd_tools.specs.declared.fault.InitFault.{InitFault}
use Rattle.cckd_tools.specs.declared.fault.InitFault.TheVariants.{NotEmpty, ReadFault, WriteFault, SyncFault, Memory}
use Rattle.cckd_tools.specs.Init.{OfFile, OfSure, base_layout, base_length, IsAnswerOn, CountsInit, KeptInit, IsMade}
use Rattle.cckd_script.specs.Text.{line}
use Rattle.cckd_dasdinit.specs.Words.{NewBase, named_base}
use Rattle.cckd_dasdinit.specs.Text.{Ending, wrong_word, unmade, wrong_text, account_of}
use Rattle.cckd_dasdinit.specs.Explained.{file_of_base, ending_of, OnlyLooks, LeavesFiles, MakesBase, file_cant_be_had, base_is_tried, words_are_bad, words_name_base, EndsMaking, ExplainsInit}

-- the calls that failed are those that the ending tells
rose_ending : (base : NewBase) (result : Result ℕ InitFault) (old new : Faults) → CountsInit result old new → RoseBy (account_of (ending_of base result)).failed old new
rose_ending base (Ok len) old new same = rose_still old new same
rose_ending base (Err (NotEmpty len)) old new same = rose_still old new same
rose_ending base (Err ReadFault) old new rose = rose_one Reads old new rose
rose_ending base (Err WriteFault) old new rose = rose_one Writes old new rose
rose_ending base (Err SyncFault) old new rose = rose_one Syncs old new rose
rose_ending base (Err Memory) old new same = rose_still old new same

-- an ending as it is told behind calls that say and put nothing
said_ending : (a m n : Seen) (end : Ending) (status : ℕ) → (Tells a → Tells m) → (Tells a → output_of m.world.events ≡ output_of a.world.events)
    → RoseBy (account_of end).failed a.faults m.faults → IsSaid (plain_text (account_of end).text (account_of end).status) m n status → IsSaid (account_of end) a n status
said_ending a m n end status tells same rose said =
    said_behind a m n tells [] (account_of end).text (account_of end).failed (account_of end).status status
    (λ t. same t ∙ sym (append-nil (output_of a.world.events))) rose said

-- the file can't be had
pub unbound_ends : (a b n : Seen) (base : NewBase) (status : ℕ) → (Tells a → Tells b) → Stays a b → Raises Reads a.faults b.faults
    → IsSaid (plain_text (account_of (unmade ReadFault)).text 7) b n status → PutsSome (account_of (unmade ReadFault)).text b n → EndsMaking base a n status
unbound_ends a b n base status tells stays rose said put = record {
  end = unmade ReadFault;
  cause = file_cant_be_had refl (λ t. subst (λ (w : World). PutsFront (account_of (unmade ReadFault)).text w n.world) (stays t) (put (tells t)));
  printed = said_ending a b n (unmade ReadFault) status tells (λ t. ap (λ (w : World). output_of w.events) (stays t)) (rose_one Reads a.faults b.faults rose) said;
}

-- what was made stays through what is put
only_puts : (whole text : List ℕ) (m n : World) → OnlyPuts text m n → HasOnly 0 whole m → HasOnly 0 whole n
only_puts whole text m n h only = record {
  now = ap (λ (es : List Event). file_of (record n { events = es }) 0) h.events ∙ file_at_puts h.pieces m.events 0 ∙ only.now;
  left = λ file outcome. only.left file (outcome_at_puts h.pieces m.events 0 file (subst (λ (es : List Event). IsOutcome es 0 file) h.events outcome));
}

module _ (a b m n : Seen) (base : NewBase) (result : Result ℕ InitFault) (text : List ℕ)
    (tells_b : Tells a → Tells b) (tells_m : Tells a → Tells m) (bound : Makes (after_bind 0 base.file) a b) (tied : Tells a → IsTied a.world)
    (put : PutsSome text m n) where
  keeps : BindKeeps a.world (after_bind 0 base.file a.world)
  keeps = bind_keeps a.world 0 base.file

  sure_b : Tells a → IsSure a.world → IsSure b.world
  sure_b t sure = subst (λ (w : World). IsSure w) (sym (bound t)) (subst IsTrue (sym keeps.sure) sure)

  holds : Tells a → file_of b.world 0 ≡ held_by a.world base.file
  holds t = ap (λ (w : World). file_of w 0) (bound t) ∙ bind_holds a.world 0 base.file (tied t)

  put_front : Tells a → PutsFront text m.world n.world
  put_front t = put (tells_m t)

  made_stays : (r : Result ℕ InitFault) → Tells a → IsSure a.world → OfSure (OnOk r (IsMade 0 (file_of_base base) m.world)) b → OnOk r (HasOnly 0 (file_of_base base) n.world)
  made_stays (Ok len) t sure made =
      let p = put_front t in
      only_puts (file_of_base base) (take p.count text) m.world n.world p.put (made (tells_b t) (sure_b t sure)).only
  made_stays (Err why) t sure made = made (tells_b t) (sure_b t sure)

  looks : Tells a → Stays b m → OnlyLooks base.file a.world n.world
  looks t stays =
      let p = put_front t in
      (take p.count text, subst (λ (w : World). OnlyPuts (take p.count text) w n.world) (stays (tells_b t) ∙ bound t) p.put)

  leaves : (r : Result ℕ InitFault) → Tells a → KeptInit r b m → LeavesFiles base.file r a.world n.world
  leaves (Ok len) t kept = kept
  leaves (Err (NotEmpty len)) t kept = looks t kept
  leaves (Err ReadFault) t kept = looks t kept
  leaves (Err WriteFault) t kept = kept
  leaves (Err SyncFault) t kept = kept
  leaves (Err Memory) t kept = looks t kept

  -- at each moment since the file was bound
  each_put : (Q : List Event → Type 0) → Tells a → AtEach b.world.events m.world.events Q → ((ps : List (List ℕ)) → Q m.world.events → Q (puts ps ++ m.world.events))
      → AtEach (after_bind 0 base.file a.world).events n.world.events Q
  each_put Q t at step =
      let p = put_front t in
      subst (λ (w : World). AtEach w.events n.world.events Q) (bound t)
      (joins Q b.world.events m.world.events n.world.events at
      (at_puts Q (take p.count text) m.world n.world p.put (λ ps more is. step ps (at_end Q b.world.events m.world.events at))))

  pub makes : OfFile 0 (IsAnswerOn result) b → OfSure (OnOk result (IsMade 0 (file_of_base base) m.world)) b
      → IfOk result (λ len. len ≡ base_length (base_layout base.geometry) base.label) → StopsWithout 0 (file_of_base base) b m → OnlyIn 0 b m → KeptInit result b m
      → MakesBase base result a n
  makes answer made length_is stopped others kept = record {
    answer = λ t sure. subst (IsAnswerOn result) (holds t) (answer (tells_b t) (sure_b t sure));
    length_is = length_is;
    made = λ t sure. made_stays result t sure made;
    stopped = λ t absent.
        let from = subst (λ (w : World). EachOutcome 0 IsAbsent w.events) (sym (bound t)) absent in
        each_put (EachOutcome 0 (IsAbsentOr (file_of_base base))) t (stopped (tells_b t) from)
        (λ ps at file outcome. at file (outcome_at_puts ps m.world.events 0 file outcome));
    others = λ t.
        let at = (others (tells_b t)).others in
        subst (λ (w : World). AtEach (after_bind 0 base.file a.world).events n.world.events (OthersStill 0 w.events)) (bound t)
        (each_put (OthersStill 0 b.world.events) t at (λ ps at other apart file outcome. at other apart file (outcome_at_puts ps m.world.events other file outcome)));
    files = λ t other apart.
        let p = put_front t in
        let named : name_of b.world.events 0 ≡ Some base.file = ap (λ (w : World). name_of w.events 0) (bound t) ∙ bind_names a.world 0 base.file in
        ap (λ (files : List ℕ → Option (List ℕ)). files other) p.put.files
        ∙ (others (tells_b t)).held other (λ is. apart (ap (λ (o : Option (List ℕ)). unwrap_or o []) (sym named ∙ is)))
        ∙ ap (λ (w : World). w.files other) (bound t) ∙ ap (λ (files : List ℕ → Option (List ℕ)). files other) keeps.files;
    kept = λ t. leaves result t kept;
    script = λ t. (put_front t).put.script ∙ (others (tells_b t)).script ∙ ap (λ (w : World). w.script) (bound t) ∙ keeps.script;
  }

-- slot 0 got the file, and a base was tried
pub bound_ends : (a b m n : Seen) (base : NewBase) (result : Result ℕ InitFault) (status : ℕ) → (Tells a → Tells b) → (Tells a → Tells m) → Makes (after_bind 0 base.file) a b
    → (Tells a → IsTied a.world) → b.faults ≡ a.faults → CountsInit result b.faults m.faults → OfFile 0 (IsAnswerOn result) b
    → OfSure (OnOk result (IsMade 0 (file_of_base base) m.world)) b → IfOk result (λ len. len ≡ base_length (base_layout base.geometry) base.label)
    → StopsWithout 0 (file_of_base base) b m → OnlyIn 0 b m → KeptInit result b m
    → IsSaid (plain_text (account_of (ending_of base result)).text (account_of (ending_of base result)).status) m n status
    → PutsSome (account_of (ending_of base result)).text m n → EndsMaking base a n status
bound_ends a b m n base result status tells_b tells_m bound tied still counts answer made length_is stopped others kept said put = record {
  end = ending_of base result;
  cause = base_is_tried result refl
      (makes a b m n base result (account_of (ending_of base result)).text tells_b tells_m bound tied put answer made length_is stopped others kept);
  printed = said_ending a m n (ending_of base result) status tells_m
      (λ t. (others (tells_b t)).output ∙ ap (λ (w : World). output_of w.events) (bound t) ∙ (bind_keeps a.world 0 base.file).output)
      (subst (λ (f : Faults). RoseBy (account_of (ending_of base result)).failed f m.faults) still (rose_ending base result b.faults m.faults counts)) said;
}

-- the words name a base
pub named_ends : (words : List (List ℕ)) (base : NewBase) (a n : Seen) (status : ℕ) → named_base words ≡ Ok base → EndsMaking base a n status → ExplainsInit words a n status
named_ends words base a n status is ends = record { end = ends.end; cause = words_name_base base is ends.cause; printed = ends.printed }

-- or they are wrong
pub wrong_ends : (words : List (List ℕ)) (number : ℕ) (a n : Seen) (status : ℕ) → named_base words ≡ Err number → IsSaid (plain_text (line (wrong_text number)) 2) a n status
    → PutsSome (line (wrong_text number)) a n → ExplainsInit words a n status
wrong_ends words number a n status is said put = record { end = wrong_word number; cause = words_are_bad number is refl put; printed = said }

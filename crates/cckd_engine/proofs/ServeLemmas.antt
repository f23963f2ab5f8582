-- A call that is served: its step, and then its line.
use Rattle.cckd_stack.specs.Room.{Room, IsRoomLegal, room_after}
use Rattle.std.proofs.Common.{◌≡◌, ◌≢◌, ℕ, zero, suc, ◌+◌, ◌≤◌, ◌==◌, Bool, true, false, cond, List, [], ◌∷◌, ◌++◌, length, take, drop, Option, refl, sym, ◌∙◌, ap, subst, arith, inl, inr, append-nil}
use Rattle.std.specs.List.{AllByRecursion}
use Rattle.std.proofs.lemmas.Bool.{cases_Bool, ne_eqb, cond-false}
use Rattle.std.proofs.lemmas.List.{take-append-drop}
use Rattle.cckd_base.specs.declared.geometry.Geometry.{Geometry}
use Rattle.cckd_shelf.specs.Events.{Event, Put, file_now, output_of, is_sure}
use Rattle.cckd_shelf.specs.World.{World}
use Rattle.cckd_shelf.specs.Outcomes.{AtEach}
use Rattle.cckd_shelf.specs.Frame.{puts, joined, OnlyPuts, PutsFront}
use Rattle.cckd_shelf.proofs.MomentLemmas.{at_end, joins, weaker}
use Rattle.cckd_shelf.proofs.PutLemmas.{silently, output_puts, image_at_puts, at_puts, puts_output}
use Rattle.cckd_script.specs.Text.{IsLine}
use Rattle.cckd_stack.specs.Layers.{Stack}
use Rattle.cckd_stack.specs.Answers.{Request, Answer}
use Rattle.cckd_stack.specs.History.{Entry, History}
use Rattle.cckd_stack.specs.Stops.{Survives, SurvivesWithin}
use Rattle.cckd_stack.specs.Moments.{EachOpens}
use Rattle.cckd_engine.specs.declared.tally.Tally.{Tally}
use Rattle.cckd_engine.specs.Engine.{Stands, TellsStops, KeepsHistory, entry_of, KeepsToRoom}
use Rattle.cckd_engine.specs.Lines.{of_call, of_text, StopAfter, HasFront, feeds, lines_since, LinesAt, KeepsLine, GrowsFrom, AreFilesThen}

-- ---- line feeds

feed_by : (here : Bool) (a b : ℕ) → cond here ((a + b) + 1) (a + b) ≡ cond here (a + 1) a + b
feed_by true a b = omega arith
feed_by false a b = refl

pub feeds_twice : (xs ys : List ℕ) → feeds (xs ++ ys) ≡ feeds xs + feeds ys
feeds_twice [] ys = omega arith
feeds_twice (b ∷ xs) ys = ap (λ (n : ℕ). cond (b == 10) (n + 1) n) (feeds_twice xs ys) ∙ feed_by (b == 10) (feeds xs) (feeds ys)

feeds_bare : (xs : List ℕ) → AllByRecursion (λ b. b ≢ 10) xs → feeds xs ≡ 0
feeds_bare [] h = refl
feeds_bare (b ∷ xs) h = cond-false (b == 10) (feeds xs + 1) (feeds xs) (ne_eqb b 10 h.0) ∙ feeds_bare xs h.1

pub feeds_line : (text : List ℕ) → IsLine text → feeds text ≡ 1
feeds_line text one = ap feeds one.ends ∙ (feeds_twice one.front (10 ∷ []) ∙ ap (λ (n : ℕ). n + 1) (feeds_bare one.front one.bare))

-- a front of a text has no more line feeds than the text
front_feeds : (ps more text : List ℕ) (count : ℕ) → ps ++ more ≡ take count text → feeds ps ≤ feeds text
front_feeds ps more text count e =
    omega (arith, feeds_twice ps more, ap feeds e, feeds_twice (take count text) (drop count text), ap feeds (take-append-drop count text))

drop_front : (xs ys : List ℕ) → drop (length xs) (xs ++ ys) ≡ ys
drop_front [] ys = refl
drop_front (x ∷ xs) ys = drop_front xs ys

-- how many lines are whole, by what was put behind an earlier output
pub lines_behind : (before put : List ℕ) (es : List Event) → output_of es ≡ before ++ put → lines_since before es ≡ feeds put
lines_behind before put es e = ap (λ (s : List ℕ). feeds (drop (length before) s)) e ∙ ap feeds (drop_front before put)

-- ---- what stays where text is put

files_at_puts : (pieces : List (List ℕ)) (es : List Event) → file_now (puts pieces ++ es) ≡ file_now es
files_at_puts [] es = refl
files_at_puts (piece ∷ earlier) es = files_at_puts earlier es

each_at_puts : (g : Geometry) (P : Stack → Type 0) (pieces : List (List ℕ)) (es : List Event) → EachOpens g P es → EachOpens g P (puts pieces ++ es)
each_at_puts g P pieces es each files image = each files (image_at_puts pieces es files image)

sure_at_puts : (pieces : List (List ℕ)) (es : List Event) → is_sure (puts pieces ++ es) ≡ is_sure es
sure_at_puts [] es = refl
sure_at_puts (piece ∷ earlier) es = sure_at_puts earlier es

stack_at_puts : (stack : List Event → Stack) → ((bytes : List ℕ) (es : List Event) → stack (Put bytes ∷ es) ≡ stack es)
    → (pieces : List (List ℕ)) (es : List Event) → stack (puts pieces ++ es) ≡ stack es
stack_at_puts stack step [] es = refl
stack_at_puts stack step (piece ∷ earlier) es = step piece (puts earlier ++ es) ∙ stack_at_puts stack step earlier es

agrees_at_puts : (agrees : List Event → Type 0) → ((bytes : List ℕ) (es : List Event) → agrees es → agrees (Put bytes ∷ es))
    → (pieces : List (List ℕ)) (es : List Event) → agrees es → agrees (puts pieces ++ es)
agrees_at_puts agrees step [] es h = h
agrees_at_puts agrees step (piece ∷ earlier) es h = step piece (puts earlier ++ es) (agrees_at_puts agrees step earlier es h)

-- what stops leave is told of an engine as before
pub tells_at_puts : (agrees : List Event → Type 0) (broken : Option ℕ) (text : List ℕ) (old new : World)
    → ((bytes : List ℕ) (es : List Event) → agrees es → agrees (Put bytes ∷ es))
    → PutsFront text old new → TellsStops agrees broken old.events → TellsStops agrees broken new.events
tells_at_puts agrees broken text old new step put tells none =
    subst agrees (sym put.put.events) (agrees_at_puts agrees step put.put.pieces old.events (tells none))

-- the output ends with a front of the text
pub front_put : (text before : List ℕ) (mid new : World) → output_of mid.events ≡ before → PutsFront text mid new → HasFront before text (output_of new.events)
front_put text before mid new silent put = record {
  count = put.count;
  within = put.within;
  is = puts_output (take put.count text) mid new put.put ∙ ap (λ (s : List ℕ). s ++ take put.count text) silent;
}

pub whole_put : (text before : List ℕ) (mid new : World) → output_of mid.events ≡ before → OnlyPuts text mid new → output_of new.events ≡ before ++ text
whole_put text before mid new silent put = puts_output text mid new put ∙ ap (λ (s : List ℕ). s ++ text) silent

-- the same history, with the files as they are once its line was put
module _ (session : Option ℕ) (r : Request) (said : Answer) (s0 : Stack) (h : History) (text : List ℕ) (mid new : World) (put : PutsFront text mid new) where
  same_entry : entry_of session r said mid.events ≡ entry_of session r said new.events
  same_entry =
      ap (λ (files : ℕ → List ℕ). record { session = session; request = r; answer = said; files = files })
      (sym (ap file_now put.put.events ∙ files_at_puts put.put.pieces mid.events))

  -- the room is kept to, whatever is put
  pub room_at_puts : (has : Room → Type 0) (room : Room) (g : Geometry) (stack : List Event → Stack) (calls : ℕ) (broken : Option ℕ) (tally : Tally)
      → KeepsToRoom has room s0 (entry_of session r said mid.events ∷ h) (record { geometry = g; stack = stack mid.events; sure = is_sure mid.events; calls = calls; broken = broken; tally = tally })
      → KeepsToRoom has room s0 (entry_of session r said new.events ∷ h) (record { geometry = g; stack = stack new.events; sure = is_sure new.events; calls = calls; broken = broken; tally = tally })
  room_at_puts has room g stack calls broken tally keeps = record {
    kept = subst (λ (e : Entry). IsRoomLegal g room s0 (e ∷ h)) same_entry keeps.kept;
    left = λ none. subst (λ (e : Entry). has (room_after g room (e ∷ h))) same_entry (keeps.left none);
  }

  -- its files are those that the step left, before its line was put
  pub files_at_puts_of : (old : World) → GrowsFrom old.events mid.events → output_of mid.events ≡ output_of old.events
      → AreFilesThen (output_of old.events) 0 (of_call (entry_of session r said new.events) ∷ []) old.events new.events
  files_at_puts_of old since silent = (
    mid.events,
    record {
      since = since;
      until = record { newer = puts put.put.pieces; grown = put.put.events };
      lines = lines_behind (output_of old.events) [] mid.events (silent ∙ sym (append-nil (output_of old.events)));
      files = ap (λ (e : Entry). e.files) (sym same_entry);
    },
    tt,
  )

  pub stands_at_puts : (g : Geometry) (stack : List Event → Stack) (calls : ℕ) (broken : Option ℕ) (tally : Tally)
      → ((bytes : List ℕ) (es : List Event) → stack (Put bytes ∷ es) ≡ stack es)
      → Stands s0 (entry_of session r said mid.events ∷ h) (record { geometry = g; stack = stack mid.events; sure = is_sure mid.events; calls = calls; broken = broken; tally = tally })
      → Stands s0 (entry_of session r said new.events ∷ h) (record { geometry = g; stack = stack new.events; sure = is_sure new.events; calls = calls; broken = broken; tally = tally })
  stands_at_puts g stack calls broken tally law stands =
      subst (λ (x : Stack). Stands s0 (entry_of session r said new.events ∷ h) (record { geometry = g; stack = x; sure = is_sure new.events; calls = calls; broken = broken; tally = tally }))
      (sym (ap stack put.put.events ∙ stack_at_puts stack law put.put.pieces mid.events))
      (subst (λ (b : Bool). Stands s0 (entry_of session r said new.events ∷ h) (record { geometry = g; stack = stack mid.events; sure = b; calls = calls; broken = broken; tally = tally }))
      (sym (ap is_sure put.put.events ∙ sure_at_puts put.put.pieces mid.events))
      (subst (λ (e : Entry). Stands s0 (e ∷ h) (record { geometry = g; stack = stack mid.events; sure = is_sure mid.events; calls = calls; broken = broken; tally = tally })) same_entry stands))

-- so it does where no call is answered
pub stands_at_text : (s0 : Stack) (h : History) (text : List ℕ) (old new : World) (g : Geometry) (stack : List Event → Stack) (calls : ℕ) (broken : Option ℕ)
    (tally : Tally) → ((bytes : List ℕ) (es : List Event) → stack (Put bytes ∷ es) ≡ stack es) → PutsFront text old new
    → Stands s0 h (record { geometry = g; stack = stack old.events; sure = is_sure old.events; calls = calls; broken = broken; tally = tally })
    → Stands s0 h (record { geometry = g; stack = stack new.events; sure = is_sure new.events; calls = calls; broken = broken; tally = tally })
stands_at_text s0 h text old new g stack calls broken tally law put stands =
    subst (λ (x : Stack). Stands s0 h (record { geometry = g; stack = x; sure = is_sure new.events; calls = calls; broken = broken; tally = tally }))
    (sym (ap stack put.put.events ∙ stack_at_puts stack law put.put.pieces old.events))
    (subst (λ (b : Bool). Stands s0 h (record { geometry = g; stack = stack old.events; sure = b; calls = calls; broken = broken; tally = tally }))
    (sym (ap is_sure put.put.events ∙ sure_at_puts put.put.pieces old.events)) stands)

-- ---- at each moment

module _ (g : Geometry) (s0 : Stack) (h : History) (e : Entry) (old mid : List Event) where
  none_whole : (es : List Event) → EachOpens g (SurvivesWithin g s0 h e.request) es → output_of es ≡ output_of old → LinesAt g s0 h (of_call e ∷ []) (output_of old) es
  none_whole es within silent =
      let none : lines_since (output_of old) es ≡ 0 = lines_behind (output_of old) [] es (silent ∙ sym (append-nil (output_of old))) in
      record {
        few = omega (arith, none);
        stops = subst (λ (n : ℕ). EachOpens g (StopAfter g s0 h (of_call e ∷ []) n) es) (sym none) within;
      }

  -- while the call runs no line is whole
  pub calling : KeepsHistory g s0 h e old mid → output_of mid ≡ output_of old → AtEach old mid (LinesAt g s0 h (of_call e ∷ []) (output_of old))
  calling step silent =
      weaker (λ es. EachOpens g (SurvivesWithin g s0 h e.request) es × (output_of es ≡ output_of old)) (LinesAt g s0 h (of_call e ∷ []) (output_of old)) old mid
      (λ es now. none_whole es now.0 now.1) (silently (EachOpens g (SurvivesWithin g s0 h e.request)) old mid silent step.each)

by_lines : (g : Geometry) (s0 : Stack) (h : History) (e : Entry) (n : ℕ) (es : List Event) → EachOpens g (SurvivesWithin g s0 h e.request) es
    → EachOpens g (Survives g s0 (e ∷ h)) es → EachOpens g (StopAfter g s0 h (of_call e ∷ []) n) es
by_lines g s0 h e zero es within after = within
by_lines g s0 h e (suc n) es within after = after

module _ (g : Geometry) (s0 : Stack) (h : History) (e : Entry) (text : List ℕ) (one : IsLine text) (old mid new : World)
    (step : KeepsHistory g s0 h e old.events mid.events) (silent : output_of mid.events ≡ output_of old.events) (put : PutsFront text mid new)
  where
    saying : AtEach mid.events new.events (LinesAt g s0 h (of_call e ∷ []) (output_of old.events))
    saying =
        at_puts (LinesAt g s0 h (of_call e ∷ []) (output_of old.events)) (take put.count text) mid new put.put
        (λ ps more is.
        let lines : lines_since (output_of old.events) (puts ps ++ mid.events) ≡ feeds (joined ps) =
        lines_behind (output_of old.events) (joined ps) (puts ps ++ mid.events)
        (output_puts ps mid.events ∙ ap (λ (s : List ℕ). s ++ joined ps) silent) in
        record {
          few = omega (arith, lines, front_feeds (joined ps) more text put.count is, feeds_line text one);
          stops = by_lines g s0 h e (lines_since (output_of old.events) (puts ps ++ mid.events)) (puts ps ++ mid.events)
              (each_at_puts g (SurvivesWithin g s0 h e.request) ps mid.events (at_end (EachOpens g (SurvivesWithin g s0 h e.request)) old.events mid.events step.each))
              (each_at_puts g (Survives g s0 (e ∷ h)) ps mid.events step.after);
        })

    pub serves : KeepsLine g s0 h (of_call e) (output_of old.events) old.events new.events
    serves = record {
      each = joins (LinesAt g s0 h (of_call e ∷ []) (output_of old.events)) old.events mid.events new.events
          (calling g s0 h e old.events mid.events step silent) saying;
      after = subst (λ (es : List Event). EachOpens g (Survives g s0 (e ∷ h)) es) (sym put.put.events)
          (each_at_puts g (Survives g s0 (e ∷ h)) put.put.pieces mid.events step.after);
    }

-- nothing is put where a line was cut before
pub serves_mute : (g : Geometry) (s0 : Stack) (h : History) (e : Entry) (old new : List Event) → KeepsHistory g s0 h e old new → output_of new ≡ output_of old
    → KeepsLine g s0 h (of_call e) (output_of old) old new
serves_mute g s0 h e old new step silent = record { each = calling g s0 h e old new step silent; after = step.after }

module _ (session : Option ℕ) (r : Request) (said : Answer) (s0 : Stack) (h : History) (text : List ℕ) (old mid new : World) (put : PutsFront text mid new) where
  -- a step and its line, or nothing behind the step
  pub serves_line : (g : Geometry) (mute : Bool) → KeepsHistory g s0 h (entry_of session r said mid.events) old.events mid.events
      → output_of mid.events ≡ output_of old.events → (mute ≡ false → IsLine text) → (mute ≡ true → new ≡ mid)
      → KeepsLine g s0 h (of_call (entry_of session r said new.events)) (output_of old.events) old.events new.events
  serves_line g mute step silent one still = elim (cases_Bool mute) [
    | inl cut ↦
        subst (λ (w : World). KeepsLine g s0 h (of_call (entry_of session r said w.events)) (output_of old.events) old.events w.events) (sym (still cut))
        (serves_mute g s0 h (entry_of session r said mid.events) old.events mid.events step silent)
    | inr fine ↦
        serves g s0 h (entry_of session r said new.events) text (one fine) old mid new
        (subst (λ (e : Entry). KeepsHistory g s0 h e old.events mid.events) (same_entry session r said s0 h text mid new put) step) silent put
  ]

-- ---- a text that answers no call

by_note : (g : Geometry) (s0 : Stack) (h : History) (text : List ℕ) (n : ℕ) (es : List Event) → EachOpens g (Survives g s0 h) es
    → EachOpens g (StopAfter g s0 h (of_text text ∷ []) n) es
by_note g s0 h text zero es left = left
by_note g s0 h text (suc n) es left = left

pub notes : (g : Geometry) (s0 : Stack) (h : History) (text : List ℕ) → IsLine text → (old new : World) → EachOpens g (Survives g s0 h) old.events
    → PutsFront text old new → KeepsLine g s0 h (of_text text) (output_of old.events) old.events new.events
notes g s0 h text one old new left put = record {
  each = at_puts (LinesAt g s0 h (of_text text ∷ []) (output_of old.events)) (take put.count text) old new put.put
      (λ ps more is.
      let lines : lines_since (output_of old.events) (puts ps ++ old.events) ≡ feeds (joined ps) =
      lines_behind (output_of old.events) (joined ps) (puts ps ++ old.events) (output_puts ps old.events) in
      record {
        few = omega (arith, lines, front_feeds (joined ps) more text put.count is, feeds_line text one);
        stops = by_note g s0 h text (lines_since (output_of old.events) (puts ps ++ old.events)) (puts ps ++ old.events) (each_at_puts g (Survives g s0 h) ps old.events left);
      });
  after = subst (λ (es : List Event). EachOpens g (Survives g s0 h) es) (sym put.put.events) (each_at_puts g (Survives g s0 h) put.put.pieces old.events left);
}

-- ---- one line behind others

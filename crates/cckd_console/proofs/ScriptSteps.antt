-- What the loop that serves a script keeps.
use Rattle.std.proofs.Common.{◌≡◌, ℕ, ◌+◌, ◌-◌, ◌<◌, ◌≤◌, max, nat_lt, true, false, List, [], ◌∷◌, ◌++◌, length, map, take, drop, Result, Ok, Err, refl, sym, ◌∙◌, ap, subst, arith, append-nil, length-append}
use Rattle.std.proofs.lemmas.Bool.{false≢true, cond-true, lt-ltb}
use Rattle.std.proofs.lemmas.List.{map-append, length-map}
use Rattle.cckd_shelf.specs.declared.fault.Failed.{Failed}
use Rattle.cckd_shelf.specs.declared.shows.Shows.{Ghosts as Showing}
use Rattle.cckd_shelf.specs.declared.fault.Kind.TheVariants.{Takes}
use Rattle.cckd_shelf.specs.Faults.{Raises}
use Rattle.cckd_shelf.specs.Seen.{Seen, seen, Tells}
use Rattle.cckd_script.specs.declared.misread.Misreading.TheVariants as misreading
use Rattle.cckd_script.specs.Parse.{parsed}
use Rattle.cckd_script.specs.Items.{Item, unread, line_items, items_of, script_items}
use Rattle.cckd_script.specs.Lines.{line_limit}
use Rattle.cckd_lines.specs.declared.lines.Place.{Place}
use Rattle.cckd_lines.specs.declared.lines.Next.{Next}
use Rattle.cckd_lines.specs.declared.lines.Next.TheVariants as next
use Rattle.cckd_lines.specs.Lines.{OnlyTakes, IsPlace, IsAtEnd, IsNext, Advances, BreaksOff, Held, held, text_of, allowance, pending}
use Rattle.cckd_lines.proofs.FillLemmas.{none_pending}
use Rattle.cckd_engine.specs.declared.engine.Engine.{Engine}
use Rattle.cckd_engine.specs.declared.disk.Disk.{Ghosts as Making}
use Rattle.cckd_engine.specs.Engine.{Runs, IsWithStage}
use Rattle.cckd_console.specs.declared.stop.Stop.TheVariants as stop
use Rattle.cckd_console.specs.Served.{Served, item_in}
use Rattle.cckd_console.specs.Saying.{SaysAll, AreCut, account_of}
use Rattle.cckd_console.specs.Script.{items_of_next, calls_of_next, closing, is_last, IsReadOut, most_ahead, EndsIn, in_a_line, past_the_limit, in_the_close, OfACut, OfTheScript}
use Rattle.cckd_console.specs.Serving.{Serves, ServesItems, ServesWhole, ServesScript}
use Rattle.cckd_console.proofs.SayingLemmas.{says_none, says_all_twice, cut_twice, says_still, says_untaken}
use Rattle.cckd_console.proofs.JoinLemmas.{serves_none, serves_twice, serves_taken}
use Rattle.cckd_console.proofs.ScriptLemmas.{IsReadUpTo, reads_none, reads_on, reads_all, none_left, reads_limit, of_a_line, reads_taken, reads_front}

-- the script was served up to a place of the room
pub record KeepsServed {S D : Type 0} (shows : Showing S) (makes : Making D) (limit : ℕ) (start now : Engine S D) (room : List ℕ) (place : Place)
    (status : ℕ) : Type 0 where
  pub served : List Served
  pub said : SaysAll (account_of served) (seen shows start.stage) (seen shows now.stage) status
  pub does : Serves shows makes served start now
  pub within : IsPlace room place
  pub ended : Tells (seen shows start.stage) → IsAtEnd place (shows.world now.stage).script
  pub read : Tells (seen shows start.stage)
      → IsReadUpTo limit (shows.world start.stage).script (held room place (shows.world now.stage).script) (map item_in served)
  pub few : now.calls + allowance place ≤ start.calls + limit
  pub heard : now.mute ≡ false

pub keeps_first : {S D : Type 0} (shows : Showing S) (makes : Making D) (limit : ℕ) (a : Engine S D) (room : List ℕ) (place : Place)
    → place ≡ record { start = 0; end = 0; left = limit; ended = false } → a.mute ≡ false → KeepsServed shows makes limit a a room place 0
keeps_first shows makes limit a room place is heard =
    subst (λ (p : Place). KeepsServed shows makes limit a a room p 0) (sym is) (record {
      served = [];
      said = says_none (seen shows a.stage);
      does = serves_none shows makes a;
      within = record { order = omega arith; within = omega arith };
      ended = λ t e. absurd (false≢true e);
      read = λ t. reads_none limit (shows.world a.stage).script room;
      few = omega arith;
      heard = heard;
    })

-- what is served of what comes next
items_too_long : (line : List ℕ) → line_limit < length line → line_items line ≡ unread misreading.LineTooLong ∷ []
items_too_long line long = cond-true (nat_lt line_limit (length line)) _ (items_of (parsed line)) (lt-ltb line_limit (length line) long)

-- after a line that isn't the last fewer bytes are left
pub less_left : (before after : ℕ) (found : Next) → is_last found ≡ false → Advances before after found → after < before
less_left before after (next.Line start end) going h = h
less_left before after next.LineTooLong going h = h
less_left before after next.ScriptTooLong going h = absurd (false≢true (sym going))
less_left before after next.End going h = absurd (false≢true (sym going))

-- a call is asked by a line alone, which takes a byte at least
few_left : (n m t p b total : ℕ) (found : Next) → is_last found ≡ false → Advances p b found → m ≡ n → t ≤ m + calls_of_next found → n + p ≤ total → t + b ≤ total
few_left n m t p b total (next.Line start end) going h same few so_far = omega (arith, h, same, few, so_far)
few_left n m t p b total next.LineTooLong going h same few so_far = omega (arith, h, same, few, so_far)
few_left n m t p b total next.ScriptTooLong going h same few so_far = absurd (false≢true (sym going))
few_left n m t p b total next.End going h same few so_far = absurd (false≢true (sym going))

few_last : (n m t p total : ℕ) (found : Next) → is_last found ≡ true → m ≡ n → t ≤ m + calls_of_next found → n + p ≤ total → t ≤ total
few_last n m t p total (next.Line start end) over same few so_far = absurd (false≢true over)
few_last n m t p total next.LineTooLong over same few so_far = absurd (false≢true over)
few_last n m t p total next.ScriptTooLong over same few so_far = omega (arith, same, few, so_far)
few_last n m t p total next.End over same few so_far = omega (arith, same, few, so_far)

none_behind : (a b : List ℕ) → a ++ b ≡ [] → b ≡ []
none_behind [] b e = e
none_behind (x ∷ a) b e = absurd (cc e)

module _ (limit : ℕ) (script : List ℕ) (now then : Held) (items : List Item) (so_far : IsReadUpTo limit script now items) where
  pub reads_next : (found : Next) → IsNext now then found → is_last found ≡ false
      → IsReadUpTo limit script then (items ++ items_of_next then.room found)
  reads_next (next.Line start end) is going = reads_on limit script now items so_far (take (end - start) (drop start then.room)) then is.0
  reads_next next.LineTooLong is going =
      subst (λ (more : List Item). IsReadUpTo limit script then (items ++ more)) (items_too_long is.0 is.2)
      (reads_on limit script now items so_far is.0 then is.1)
  reads_next next.ScriptTooLong is going = absurd (false≢true (sym going))
  reads_next next.End is going = absurd (false≢true (sym going))

  pub reads_last : (left_of_it : List ℕ) (found : Next) → (text_of then ≡ [] → left_of_it ≡ [])
      → (then.place.end ≤ then.place.start → left_of_it ≡ text_of then) → IsNext now then found → is_last found ≡ true
      → ((items ++ items_of_next then.room found) ++ closing ≡ script_items limit script) × IsReadOut limit script left_of_it
  reads_last left_of_it (next.Line start end) none same is over = absurd (false≢true over)
  reads_last left_of_it next.LineTooLong none same is over = absurd (false≢true over)
  reads_last left_of_it next.ScriptTooLong none same is over =
      let all = reads_limit limit script now items so_far then is.0 is.1 is.2 in (all.0, same is.3 ∙ all.1)
  reads_last left_of_it next.End none same is over = (
    ap (λ (s : List Item). s ++ closing) (append-nil items) ∙ reads_all limit script now items so_far is.0,
    none is.1 ∙ sym (none_left limit script now items so_far is.0),
  )

  pub reads_some : (found : Next) → IsNext now then found
      → (more : List Item) × ((items ++ items_of_next then.room found) ++ more ≡ script_items limit script)
  reads_some (next.Line start end) is =
      reads_front limit script then (items ++ items_of_next then.room (next.Line start end)) (reads_next (next.Line start end) is refl)
  reads_some next.LineTooLong is =
      reads_front limit script then (items ++ items_of_next then.room next.LineTooLong) (reads_next next.LineTooLong is refl)
  reads_some next.ScriptTooLong is =
      (closing, (reads_last (text_of then) next.ScriptTooLong (λ e. e) (λ _. refl) is refl).0)
  reads_some next.End is =
      (closing, (reads_last (text_of then) next.End (λ e. e) (λ _. refl) is refl).0)

-- what was served last stands in a line, or is the refusal of a script that is too long
module _ (limit : ℕ) (script : List ℕ) (now then : Held) (items : List Item) (so_far : IsReadUpTo limit script now items) (served : List Served)
    (is : IsPlace then.room then.place) (short : length then.room ≤ most_ahead)
  where
    ends_in : (found : Next) → IsNext now then found → map item_in served ≡ items ++ items_of_next then.room found
        → 0 < length (items_of_next then.room found) → EndsIn limit script then.script served
    ends_in (next.Line start end) next asked some =
        in_a_line (of_a_line limit script now items so_far served (take (end - start) (drop start then.room)) then next.0 is short asked some)
    ends_in next.LineTooLong next asked some =
        let long = items_too_long next.0 next.2 in
        in_a_line (of_a_line limit script now items so_far served next.0 then next.1 is short
        (asked ∙ ap (λ (more : List Item). items ++ more) (sym long)) (omega (arith, ap length long)))
    ends_in next.ScriptTooLong next asked some =
        let all = reads_limit limit script now items so_far then next.0 next.1 next.2 in
        past_the_limit all.2 (ap (λ (s : List Item). s ++ closing) asked ∙ all.0)
        (sym (ap (λ (s : List ℕ). s ++ then.script) (none_pending then.room then.place next.3)) ∙ all.1)
    ends_in next.End next asked some = absurd (omega (arith, some))

    pub of_a_cut : (found : Next) → IsNext now then found → map item_in served ≡ items ++ items_of_next then.room found
        → 0 < length (items_of_next then.room found) → OfACut limit script then.script served
    of_a_cut found next asked some =
        let front = reads_some limit script now then items so_far found next in
        record {
          front = (front.0, ap (λ (s : List Item). s ++ front.0) asked ∙ front.1);
          taken = ends_in found next asked some;
        }

-- something was cut
some_cut : (xs : List Served) (items : List Item) (a b : Seen) → map item_in xs ≡ items → AreCut xs a b → 0 < length items
some_cut xs items a b is cut =
    omega (
      arith,
      ap length is,
      ap (λ (s : List Served). length (map item_in s)) cut.are,
      length-map (cut.earlier ++ cut.last ∷ []) item_in,
      length-append cut.earlier (cut.last ∷ []),
    )

-- the items of some, and of others behind them
items_twice : (xs ys : List Served) (items more : List Item) → map item_in xs ≡ items → map item_in ys ≡ more → map item_in (xs ++ ys) ≡ items ++ more
items_twice xs ys items more e f = map-append item_in xs ys ∙ ap (λ (s : List Item). s ++ map item_in ys) e ∙ ap (λ (s : List Item). items ++ s) f

module _ {S D : Type 0} (shows : Showing S) (makes : Making D) (limit : ℕ) (start now between : Engine S D) (room room' : List ℕ) (place behind : Place)
    (status : ℕ) (found : Next) (so_far : KeepsServed shows makes limit start now room place status)
    (is_next : Tells (seen shows start.stage) → IsNext (held room place (shows.world now.stage).script)
    (held room' behind (shows.world between.stage).script) found)
    (advances : Advances (allowance place) (allowance behind) found)
    (rest : IsWithStage between now)
    (only : Tells (seen shows start.stage) → OnlyTakes (shows.world now.stage) (shows.world between.stage))
    (still : shows.faults between.stage ≡ shows.faults now.stage)
    (runs : Runs (makes.tied now.disk) now.broken (seen shows now.stage) → Runs (makes.tied between.disk) between.broken (seen shows between.stage))
  where
    said_between : SaysAll (account_of so_far.served) (seen shows start.stage) (seen shows between.stage) status
    said_between =
        says_still (seen shows start.stage) (seen shows now.stage) (seen shows between.stage) (λ t. t) so_far.served [] status so_far.said (λ t. (only t).events) still

    does_between : Serves shows makes so_far.served start between
    does_between =
        subst (λ (xs : List Served). Serves shows makes xs start between) (append-nil so_far.served)
        (serves_twice shows makes so_far.served [] start now between so_far.does (serves_taken shows makes now between rest only runs) so_far.said.put)

    pub runs_between : Runs (makes.tied start.disk) start.broken (seen shows start.stage) → Runs (makes.tied between.disk) between.broken (seen shows between.stage)
    runs_between first = does_between.runs first

    module _ (then : Engine S D) (result : Result ℕ Failed)
        (serves : ServesItems shows makes (items_of_next room' found) (calls_of_next found) between then result)
      where
        does_then : Serves shows makes (so_far.served ++ serves.served) start then
        does_then = serves_twice shows makes so_far.served serves.served start between then does_between serves.does said_between.put

        asked_then : map item_in (so_far.served ++ serves.served) ≡ map item_in so_far.served ++ items_of_next room' found
        asked_then = items_twice so_far.served serves.served (map item_in so_far.served) (items_of_next room' found) refl serves.asked

    module _ (then : Engine S D) (answer : ℕ)
        (serves : ServesItems shows makes (items_of_next room' found) (calls_of_next found) between then (Ok answer))
      where
        said_then : SaysAll (account_of (so_far.served ++ serves.served)) (seen shows start.stage) (seen shows then.stage) (max status answer)
        said_then = says_all_twice (seen shows start.stage) (seen shows between.stage) (seen shows then.stage) (λ t. t) so_far.served serves.served status
            said_between answer serves.said

        -- a line that isn't the last was served
        pub goes_on : is_last found ≡ false → IsPlace room' behind → (Tells (seen shows start.stage) → IsAtEnd behind (shows.world between.stage).script)
            → KeepsServed shows makes limit start then room' behind (max status answer)
        goes_on going is at_end = record {
          served = so_far.served ++ serves.served;
          said = said_then;
          does = does_then then (Ok answer) serves;
          within = is;
          ended = λ told. subst (IsAtEnd behind) (sym (serves.script told)) (at_end told);
          read = λ told.
              subst (IsReadUpTo limit (shows.world start.stage).script (held room' behind (shows.world then.stage).script))
              (sym (asked_then then (Ok answer) serves))
              (subst (λ (s : List ℕ). IsReadUpTo limit (shows.world start.stage).script (held room' behind s)
              (map item_in so_far.served ++ items_of_next room' found)) (sym (serves.script told))
              (reads_next limit (shows.world start.stage).script (held room place (shows.world now.stage).script)
              (held room' behind (shows.world between.stage).script) (map item_in so_far.served) (so_far.read told) found (is_next told) going));
          few = few_left now.calls between.calls then.calls (allowance place) (allowance behind) (start.calls + limit) found going advances rest.calls serves.few so_far.few;
          heard = serves.heard;
        }

        reads_then : is_last found ≡ true → Tells (seen shows start.stage)
            → ((map item_in so_far.served ++ items_of_next room' found) ++ closing ≡ script_items limit (shows.world start.stage).script)
            × IsReadOut limit (shows.world start.stage).script (shows.world then.stage).script
        reads_then over told =
            reads_last limit (shows.world start.stage).script (held room place (shows.world now.stage).script)
            (held room' behind (shows.world between.stage).script) (map item_in so_far.served) (so_far.read told) (shows.world then.stage).script found
            (λ none. serves.script told ∙ none_behind (pending room' behind) (shows.world between.stage).script none)
            (λ empty. serves.script told ∙ sym (ap (λ (s : List ℕ). s ++ (shows.world between.stage).script) (none_pending room' behind empty)))
            (is_next told) over

        -- the last one was
        pub is_whole : is_last found ≡ true → ServesWhole shows makes limit start then (max status answer)
        is_whole over = record {
          served = so_far.served ++ serves.served;
          asked = λ told. ap (λ (s : List Item). s ++ closing) (asked_then then (Ok answer) serves) ∙ (reads_then over told).0;
          read = λ told. (reads_then over told).1;
          said = said_then;
          does = does_then then (Ok answer) serves;
          few = few_last now.calls between.calls then.calls (allowance place) (start.calls + limit) found over rest.calls serves.few so_far.few;
          heard = serves.heard;
        }

    -- the output failed in the line
    pub is_cut : IsPlace room' behind → length room' ≤ most_ahead → (then : Engine S D) (fault : Failed)
        → (serves : ServesItems shows makes (items_of_next room' found) (calls_of_next found) between then (Err fault))
        → ServesScript shows makes limit start then stop.Cut
    is_cut is short then fault serves = record {
      served = so_far.served ++ serves.served;
      stops = (
        λ told.
            subst (λ (left : List ℕ). OfACut limit (shows.world start.stage).script left (so_far.served ++ serves.served)) (sym (serves.script told))
            (of_a_cut limit (shows.world start.stage).script (held room place (shows.world now.stage).script)
            (held room' behind (shows.world between.stage).script) (map item_in so_far.served) (so_far.read told) (so_far.served ++ serves.served)
            is short found (is_next told) (asked_then then (Err fault) serves)
            (some_cut serves.served (items_of_next room' found) (seen shows between.stage) (seen shows then.stage) serves.asked serves.said)),
        cut_twice (seen shows start.stage) (seen shows between.stage) (seen shows then.stage) (λ t. t) so_far.served serves.served status
            said_between serves.said,
      );
      does = does_then then (Err fault) serves;
    }

-- the source failed
pub is_unscripted : {S D : Type 0} (shows : Showing S) (makes : Making D) (limit : ℕ) (start now between : Engine S D) (room : List ℕ) (place : Place)
    (status : ℕ) → KeepsServed shows makes limit start now room place status
    → (Tells (seen shows start.stage)
    → BreaksOff (allowance place) (text_of (held room place (shows.world now.stage).script)) (shows.world between.stage).script)
    → place.ended ≡ false → IsWithStage between now → (Tells (seen shows start.stage) → OnlyTakes (shows.world now.stage) (shows.world between.stage))
    → Raises Takes (shows.faults now.stage) (shows.faults between.stage)
    → (Runs (makes.tied now.disk) now.broken (seen shows now.stage) → Runs (makes.tied between.disk) between.broken (seen shows between.stage))
    → ServesScript shows makes limit start between stop.Unscripted
is_unscripted shows makes limit start now between room place status so_far broken going rest only rose runs = record {
  served = so_far.served;
  stops = (
    λ told.
        let taken = reads_taken limit (shows.world start.stage).script (held room place (shows.world now.stage).script) (map item_in so_far.served) (so_far.read told)
        (shows.world between.stage).script (broken told) going in
        record { taken = taken.0; split = taken.1; within = taken.2; asked = taken.3 },
    subst (SaysAll _ (seen shows start.stage) (seen shows between.stage)) so_far.said.asked
        (says_untaken (seen shows start.stage) (seen shows now.stage) (seen shows between.stage) (λ t. t) so_far.served [] status so_far.said
        (λ t. (only t).events) rose),
  );
  does =
      subst (λ (xs : List Served). Serves shows makes xs start between) (append-nil so_far.served)
      (serves_twice shows makes so_far.served [] start now between so_far.does (serves_taken shows makes now between rest only runs) so_far.said.put);
}

-- all of the script was served, and it was closed
module _ {S D : Type 0} (shows : Showing S) (makes : Making D) (limit : ℕ) (start now end : Engine S D) (status : ℕ)
    (whole : ServesWhole shows makes limit start now status)
  where
    module _ (result : Result ℕ Failed) (closes : ServesItems shows makes closing 1 now end result) where
      of_all : Tells (seen shows start.stage) → map item_in (whole.served ++ closes.served) ≡ script_items limit (shows.world start.stage).script
      of_all told =
          items_twice whole.served closes.served (map item_in whole.served) closing refl closes.asked ∙ whole.asked told

      of_the_script : Tells (seen shows start.stage)
          → OfTheScript limit (shows.world start.stage).script (shows.world end.stage).script (whole.served ++ closes.served)
      of_the_script told = record {
        asked = of_all told;
        read = subst (IsReadOut limit (shows.world start.stage).script) (sym (closes.script told)) (whole.read told);
      }

      does_all : Serves shows makes (whole.served ++ closes.served) start end
      does_all = serves_twice shows makes whole.served closes.served start now end whole.does closes.does whole.said.put

    pub is_closed : (answer : ℕ) (closes : ServesItems shows makes closing 1 now end (Ok answer)) → ServesScript shows makes limit start end (stop.Closed (max status answer))
    is_closed answer closes = record {
      served = whole.served ++ closes.served;
      stops = (
        λ told. of_the_script (Ok answer) closes told,
        says_all_twice (seen shows start.stage) (seen shows now.stage) (seen shows end.stage) (λ t. t) whole.served closes.served status
            whole.said answer closes.said,
      );
      does = does_all (Ok answer) closes;
    }

    pub is_cut_at_the_end : (fault : Failed) (closes : ServesItems shows makes closing 1 now end (Err fault)) → ServesScript shows makes limit start end stop.Cut
    is_cut_at_the_end fault closes = record {
      served = whole.served ++ closes.served;
      stops = (
        λ told. record {
          front = ([], append-nil (map item_in (whole.served ++ closes.served)) ∙ of_all (Err fault) closes told);
          taken = in_the_close (of_the_script (Err fault) closes told);
        },
        cut_twice (seen shows start.stage) (seen shows now.stage) (seen shows end.stage) (λ t. t) whole.served closes.served status
            whole.said closes.said,
      );
      does = does_all (Err fault) closes;
    }

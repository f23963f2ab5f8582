-- A script that is served to its end.
use Rattle.cckd_stack.specs.Room.{Room, IsRoomLegal}
use Rattle.std.proofs.Common.{◌≡◌, ℕ, ◌==◌, true, List, [], ◌∷◌, ◌++◌, map, codes, Result, Ok, Err, OnOk, refl, sym, ◌∙◌, ap, subst, arith, None}
use Rattle.std.specs.Prelude.{not}
use Rattle.std.specs.List.{list_all}
use Rattle.std.proofs.lemmas.Bool.{and_parts}
use Rattle.std.proofs.lemmas.Bool.Decides.{nat_tests}
use Rattle.cckd_shelf.specs.declared.fault.Failed.{Failed}
use Rattle.cckd_shelf.specs.declared.fault.Kind.TheVariants.{Puts}
use Rattle.cckd_base.specs.declared.geometry.Geometry.{Geometry}
use Rattle.cckd_shelf.specs.declared.shows.Shows.{Ghosts as Showing}
use Rattle.cckd_shelf.specs.Events.{Event, Put, output_of}
use Rattle.cckd_shelf.specs.Frame.{puts, PutsAll, PutsSome}
use Rattle.cckd_shelf.specs.Seen.{seen, Tells, Fails}
use Rattle.cckd_shelf.specs.World.{World}
use Rattle.cckd_shelf.proofs.PutLemmas.{puts_output}
use Rattle.cckd_script.specs.Lines.{HasNoFeed}
use Rattle.cckd_script.specs.Text.{IsLine}
use Rattle.cckd_stack.specs.Layers.{Stack}
use Rattle.cckd_stack.specs.History.{History, IsLegal}
use Rattle.cckd_stack.specs.Stops.{Survives}
use Rattle.cckd_stack.specs.Moments.{EachOpens}
use Rattle.cckd_engine.specs.declared.engine.Engine.{Engine}
use Rattle.cckd_engine.specs.declared.disk.Disk.{Ghosts as Making}
use Rattle.cckd_engine.specs.Engine.{standing, Stands, KeepsToRoom, TellsStops}
use Rattle.cckd_engine.specs.Closing.{AreLeftOrClosed, EndsClosed, TellsSince}
use Rattle.cckd_engine.specs.Lines.{KeepsLine, of_text}
use Rattle.cckd_engine.proofs.FrameLemmas.{leaves_twice, leaves_puts}
use Rattle.cckd_console.specs.declared.stop.Stop.TheVariants as stop
use Rattle.cckd_console.specs.Served.{Served, line_in, all_text}
use Rattle.cckd_console.specs.Saying.{account_of, untaken}
use Rattle.cckd_console.specs.Saying as said
use Rattle.cckd_console.proofs.CountLemmas.{rose_still, rose_one}
use Rattle.cckd_console.specs.Script.{OfTheTaken}
use Rattle.cckd_console.specs.Serving.{OnlyPuts, Serves, ServesScript}
use Rattle.cckd_console.proofs.JoinLemmas.{keeps_twice, keeps_one, feeds_of, then_until}
use Rattle.cckd_top.specs.Ended.{EndsScript, SaysSource}
use Rattle.cckd_top.specs.Run.{closed, unscripted, cut, source_line, history_of}
use Rattle.cckd_top.proofs.SayingLemmas.{said_behind, front_said}

-- ---- a stage that is what is left of an engine

module _ {S D : Type 0} (shows : Showing S) (makes : Making D) (limit : ℕ) (a b : Engine S D) (xs : List Served) (does : Serves shows makes xs a b) where
  legal_of : (s0 : Stack) → Tells (seen shows a.stage) → Stands s0 [] (standing shows makes a) → IsLegal (makes.geometry a.disk) s0 (history_of xs)
  legal_of s0 told stands = subst (λ (g : Geometry). IsLegal g s0 (history_of xs)) does.geometry (does.stands s0 [] told stands).legal

  room_of : (s0 : Stack) (room : Room) → Tells (seen shows a.stage) → Stands s0 [] (standing shows makes a) → KeepsToRoom (makes.has_room a.disk) room s0 [] (standing shows makes a)
      → IsRoomLegal (makes.geometry a.disk) room s0 (history_of xs)
  room_of s0 room told stands keeps = subst (λ (g : Geometry). IsRoomLegal g room s0 (history_of xs)) does.geometry (does.room s0 [] room told stands keeps).kept

  closed_behind : (base : List Event) → Tells (seen shows a.stage) → TellsStops (makes.agrees a.disk) a.broken (shows.world a.stage).events
      → (a.broken ≡ None → makes.marks a.disk base (shows.world a.stage).events) → TellsSince (makes.marks b.disk) b.broken base (history_of xs) (shows.world b.stage).events
  closed_behind base told tells marks = does.closes base [] told tells (record { since = marks; closed = λ ends. absurd ends })

  closes_of : (base : List Event) → Tells (seen shows a.stage) → TellsStops (makes.agrees a.disk) a.broken (shows.world a.stage).events
      → (a.broken ≡ None → makes.marks a.disk base (shows.world a.stage).events) → EndsClosed (history_of xs) → AreLeftOrClosed base (shows.world b.stage).events
  closes_of base told tells marks = (closed_behind base told tells marks).closed

pub closed_ends : {S D : Type 0} (shows : Showing S) (makes : Making D) (limit : ℕ) (a b : Engine S D) (left : S) (status : ℕ) → left ≡ b.stage
    → ServesScript shows makes limit a b (stop.Closed status) → EndsScript shows makes limit a left status
closed_ends shows makes limit a b left status is serves =
    subst (λ (stage : _). EndsScript shows makes limit a stage status) (sym is) (record {
      way = closed;
      served = serves.served;
      taken = serves.stops.0;
      printed = serves.stops.1;
      alone = serves.does.alone;
      legal = legal_of shows makes limit a b serves.served serves.does;
      room = room_of shows makes limit a b serves.served serves.does;
      files = serves.does.files;
      stops = λ s0 told stands agrees opens. serves.does.stops s0 [] told stands agrees opens;
      closes = closes_of shows makes limit a b serves.served serves.does;
      spares = serves.does.spares.leaves;
      quiet = λ unchanged reads. (serves.does.quiet unchanged reads).1;
    })

pub cut_ends : {S D : Type 0} (shows : Showing S) (makes : Making D) (limit : ℕ) (a b : Engine S D) (left : S) → left ≡ b.stage
    → ServesScript shows makes limit a b stop.Cut → EndsScript shows makes limit a left 7
cut_ends shows makes limit a b left is serves =
    subst (λ (stage : _). EndsScript shows makes limit a stage 7) (sym is) (record {
      way = cut;
      served = serves.served;
      taken = serves.stops.0;
      printed = (serves.stops.1, refl);
      alone = serves.does.alone;
      legal = legal_of shows makes limit a b serves.served serves.does;
      room = room_of shows makes limit a b serves.served serves.does;
      files = serves.does.files;
      stops = λ s0 told stands agrees opens. serves.does.stops s0 [] told stands agrees opens;
      closes = closes_of shows makes limit a b serves.served serves.does;
      spares = serves.does.spares.leaves;
      quiet = λ unchanged reads. (serves.does.quiet unchanged reads).1;
    })

-- ---- a script that couldn't be taken

puts_joined : (later earlier : List (List ℕ)) (es : List Event) → puts (later ++ earlier) ++ es ≡ puts later ++ (puts earlier ++ es)
puts_joined [] earlier es = refl
puts_joined (piece ∷ later) earlier es = ap (λ (rest : List Event). Put piece ∷ rest) (puts_joined later earlier es)

only_puts_twice : (a b c : World) → OnlyPuts a b → OnlyPuts b c → OnlyPuts a c
only_puts_twice a b c f g = record {
  pieces = g.pieces ++ f.pieces;
  events = g.events ∙ ap (λ (es : List Event). puts g.pieces ++ es) f.events ∙ sym (puts_joined g.pieces f.pieces a.events);
  files = g.files ∙ f.files;
}

pub unscripted_ends : {S D : Type 0} (shows : Showing S) (makes : Making D) (limit : ℕ) (a b c : Engine S D) (left : S) → left ≡ c.stage
    → ServesScript shows makes limit a b stop.Unscripted → SaysSource shows makes b c → EndsScript shows makes limit a left 7
unscripted_ends shows makes limit a b c left is serves says =
    let xs = serves.served in
    let said = serves.stops.1 in
    subst (λ (stage : _). EndsScript shows makes limit a stage 7) (sym is) (record {
      way = unscripted;
      served = xs;
      taken = λ told. subst (λ (rest : List ℕ). OfTheTaken limit (shows.world a.stage).script rest xs) (sym (says.puts told).put.script) (serves.stops.0 told);
      printed = said_behind (seen shows a.stage) (seen shows b.stage) (seen shows c.stage) (λ t. t) (all_text xs) source_line
          (untaken (account_of xs)).failed 7 7 said.put said.counted says.said;
      alone = serves.does.alone;
      legal = legal_of shows makes limit a b xs serves.does;
      room = room_of shows makes limit a b xs serves.does;
      files = λ told.
          let more = (says.puts told).put in
          then_until (output_of (shows.world a.stage).events) 0 (map line_in xs) (shows.world a.stage).events (shows.world b.stage).events (shows.world c.stage).events
          (record { newer = puts more.pieces; grown = more.events }) (serves.does.files told);
      stops = λ s0 told stands agrees opens.
          let first = serves.does.stops s0 [] told stands agrees opens in
          let g : makes.geometry b.disk ≡ makes.geometry a.disk = serves.does.geometry in
          let second = says.stops s0 (history_of xs) told
          (subst (λ (x : Geometry). EachOpens x (Survives x s0 (history_of xs)) (shows.world b.stage).events) (sym g) first.after) in
          keeps_twice (makes.geometry a.disk) s0 [] (map line_in xs) (of_text source_line ∷ []) (all_text xs) (shows.world a.stage).events
          (shows.world b.stage).events (shows.world c.stage).events (said.put told) (feeds_of xs serves.does.lines) first
          (keeps_one (makes.geometry a.disk) s0 (history_of xs) (of_text source_line) (output_of (shows.world b.stage).events) (shows.world b.stage).events
          (shows.world c.stage).events
          (subst (λ (x : Geometry). KeepsLine x s0 (history_of xs) (of_text source_line) (output_of (shows.world b.stage).events)
          (shows.world b.stage).events (shows.world c.stage).events) g second));
      closes = λ base told tells marks.
          (says.closes base (history_of xs) told (closed_behind shows makes limit a b xs serves.does base told tells marks)).closed;
      spares = λ told.
          leaves_twice (makes.spares a.disk) (shows.world a.stage) (shows.world b.stage) (shows.world c.stage) (serves.does.spares.leaves told)
          (leaves_puts (makes.spares a.disk) source_line (shows.world b.stage) (shows.world c.stage) (says.puts told));
      quiet = λ unchanged reads told.
          let front = says.puts told in
          only_puts_twice (shows.world a.stage) (shows.world b.stage) (shows.world c.stage) ((serves.does.quiet unchanged reads).1 told)
          (record { pieces = front.put.pieces; events = front.put.events; files = front.put.files });
    })

no_feed_by : (text : List ℕ) → list_all (λ b. not (b == 10)) text ≡ true → HasNoFeed text
no_feed_by [] e = tt
no_feed_by (b ∷ text) e =
    let parts = and_parts (not (b == 10)) (list_all (λ b. not (b == 10)) text) e in (grind (arith, nat_tests), no_feed_by text parts.1)

source_bare : HasNoFeed (codes "fault: source")
source_bare = no_feed_by (codes "fault: source") refl

-- the line of a script that couldn't be taken, as far as it was put
pub source_said : {S D X : Type 0} (shows : Showing S) (makes : Making D) (a b : Engine S D) (result : Result X Failed)
    → OnOk result (PutsAll source_line (seen shows a.stage) (seen shows b.stage)) → PutsSome source_line (seen shows a.stage) (seen shows b.stage)
    → Fails Puts result (seen shows a.stage) (seen shows b.stage)
    → ((s0 : Stack) (h : History) → Tells (seen shows a.stage) → IsLine source_line
    → EachOpens (makes.geometry a.disk) (Survives (makes.geometry a.disk) s0 h) (shows.world a.stage).events
    → KeepsLine (makes.geometry a.disk) s0 h (of_text source_line) (output_of (shows.world a.stage).events) (shows.world a.stage).events (shows.world b.stage).events)
    → ((base : List Event) (h : History) → Tells (seen shows a.stage) → TellsSince (makes.marks a.disk) a.broken base h (shows.world a.stage).events
    → TellsSince (makes.marks b.disk) b.broken base h (shows.world b.stage).events)
    → SaysSource shows makes a b
source_said shows makes a b (Ok x) whole front fails stops closes = record {
  said = said.whole (record { put = λ t. puts_output _ _ _ (whole t); asked = refl; counted = rose_still _ _ fails.still });
  puts = front;
  closes = closes;
  stops = λ s0 h told left. stops s0 h told (record { front = codes "fault: source"; ends = refl; bare = source_bare }) left;
}
source_said shows makes a b (Err x) whole front fails stops closes = record {
  said = said.cut_short (record { front = λ t. front_said _ _ _ (front t); counted = rose_one Puts _ _ fails.rose }) refl;
  puts = front;
  closes = closes;
  stops = λ s0 h told left. stops s0 h told (record { front = codes "fault: source"; ends = refl; bare = source_bare }) left;
}

-- What is served in several stretches.
use Rattle.cckd_stack.specs.Room.{Room, IsRoomLegal, room_after}
use Rattle.std.proofs.Common.{◌≡◌, ℕ, zero, suc, ◌+◌, ◌≤◌, List, [], ◌∷◌, ◌++◌, length, map, Option, refl, sym, ◌∙◌, ap, subst, arith, append_assoc, append-nil, length-append}
use Rattle.std.specs.List.{AllByRecursion}
use Rattle.std.proofs.lemmas.List.{map-append}
use Rattle.cckd_base.specs.declared.geometry.Geometry.{Geometry}
use Rattle.cckd_shelf.specs.declared.shows.Shows.{Ghosts as Showing}
use Rattle.cckd_shelf.specs.Events.{Event, Put, output_of, is_sure}
use Rattle.cckd_shelf.specs.World.{World}
use Rattle.cckd_shelf.specs.Seen.{seen, Tells}
use Rattle.cckd_shelf.specs.Frame.{puts}
use Rattle.cckd_shelf.proofs.MomentLemmas.{at_once, joins, weaker, weaker_behind}
use Rattle.cckd_shelf.proofs.WorldLemmas.{output_grows}
use Rattle.cckd_lines.specs.Lines.{OnlyTakes}
use Rattle.cckd_stack.specs.Layers.{Stack}
use Rattle.cckd_stack.specs.History.{History}
use Rattle.cckd_stack.specs.Stops.{Survives}
use Rattle.cckd_stack.specs.Moments.{EachOpens}
use Rattle.cckd_stack.proofs.HistoryLemmas.{survives_within}
use Rattle.cckd_engine.specs.Closing.{AreLeftOrClosed, TellsSince}
use Rattle.cckd_engine.specs.declared.engine.Engine.{Engine}
use Rattle.cckd_engine.specs.declared.disk.Disk.{Ghosts as Making}
use Rattle.cckd_engine.specs.declared.tally.Tally.{Tally}
use Rattle.cckd_engine.specs.Frame.{Spares}
use Rattle.cckd_engine.specs.Engine.{Standing, standing, Stands, Runs, IsWithStage, KeepsToRoom}
use Rattle.cckd_engine.specs.Lines.{Line, of_call, of_text, StopAfter, history_onto, lines_since, feeds, LinesAt, KeepsLine, GrowsFrom, AreFilesThen}
use Rattle.cckd_engine.proofs.FrameLemmas.{spares_still, spares_twice, spares_takes}
use Rattle.cckd_engine.proofs.StepLemmas.{each_opens}
use Rattle.cckd_engine.proofs.ServeLemmas.{feeds_twice, feeds_line, lines_behind}
use Rattle.cckd_console.specs.Served.{Served, line_in, text_in, all_text, AreLines}
use Rattle.cckd_console.specs.Serving.{KeepsLines, OnlyPuts, Serves}

pub all_twice : {X : Type 0} (P : X → Type 0) (xs ys : List X) → AllByRecursion P xs → AllByRecursion P ys → AllByRecursion P (xs ++ ys)
all_twice P [] ys f g = g
all_twice P (x ∷ xs) ys f g = (f.0, all_twice P xs ys f.1 g)

all_before : {X : Type 0} (P : X → Type 0) (xs ys : List X) → AllByRecursion P (xs ++ ys) → AllByRecursion P xs
all_before P [] ys h = tt
all_before P (x ∷ xs) ys h = (h.0, all_before P xs ys h.1)

all_behind : {X : Type 0} (P : X → Type 0) (xs ys : List X) → AllByRecursion P (xs ++ ys) → AllByRecursion P ys
all_behind P [] ys h = h
all_behind P (x ∷ xs) ys h = all_behind P xs ys h.1

-- ---- lines behind others

pub history_twice : (xs ys : List Line) (h : History) → history_onto (xs ++ ys) h ≡ history_onto ys (history_onto xs h)
history_twice [] ys h = refl
history_twice (of_call e ∷ xs) ys h = history_twice xs ys (e ∷ h)
history_twice (of_text text ∷ xs) ys h = history_twice xs ys h

stop_before : (g : Geometry) (s0 : Stack) (h : History) (xs ys : List Line) (n : ℕ) (s : Stack) → n ≤ length xs
    → StopAfter g s0 h xs n s → StopAfter g s0 h (xs ++ ys) n s
stop_before g s0 h [] [] n s few left = left
stop_before g s0 h [] (of_call e ∷ ys) zero s few left = survives_within g s0 h e.request s left
stop_before g s0 h [] (of_text text ∷ ys) zero s few left = left
stop_before g s0 h [] (y ∷ ys) (suc n) s few left = absurd (omega (arith, few))
stop_before g s0 h (of_call e ∷ xs) ys zero s few left = left
stop_before g s0 h (of_call e ∷ xs) ys (suc n) s few left = stop_before g s0 (e ∷ h) xs ys n s (omega (arith, few)) left
stop_before g s0 h (of_text text ∷ xs) ys zero s few left = left
stop_before g s0 h (of_text text ∷ xs) ys (suc n) s few left = stop_before g s0 h xs ys n s (omega (arith, few)) left

stop_later : (g : Geometry) (s0 : Stack) (h : History) (xs ys : List Line) (m n : ℕ) (s : Stack) → n ≡ length xs + m
    → StopAfter g s0 (history_onto xs h) ys m s → StopAfter g s0 h (xs ++ ys) n s
stop_later g s0 h [] ys m n s is left = subst (λ (k : ℕ). StopAfter g s0 h ys k s) (omega (arith, is)) left
stop_later g s0 h (of_call e ∷ xs) ys m zero s is left = absurd (omega (arith, is))
stop_later g s0 h (of_call e ∷ xs) ys m (suc n) s is left = stop_later g s0 (e ∷ h) xs ys m n s (omega (arith, is)) left
stop_later g s0 h (of_text text ∷ xs) ys m zero s is left = absurd (omega (arith, is))
stop_later g s0 h (of_text text ∷ xs) ys m (suc n) s is left = stop_later g s0 h xs ys m n s (omega (arith, is)) left

-- some lines, and others behind them
module _ (g : Geometry) (s0 : Stack) (h : History) (xs ys : List Line) (text : List ℕ) (a b c : List Event)
    (put : output_of b ≡ output_of a ++ text) (count : feeds text ≡ length xs)
    (first : KeepsLines g s0 h xs (output_of a) a b) (second : KeepsLines g s0 (history_onto xs h) ys (output_of b) b c)
  where
    before_at : (es : List Event) → LinesAt g s0 h xs (output_of a) es → LinesAt g s0 h (xs ++ ys) (output_of a) es
    before_at es at = record {
      few = omega (arith, at.few, length-append xs ys);
      stops = each_opens g (StopAfter g s0 h xs (lines_since (output_of a) es)) (StopAfter g s0 h (xs ++ ys) (lines_since (output_of a) es)) es
          (λ s left. stop_before g s0 h xs ys (lines_since (output_of a) es) s at.few left) at.stops;
    }

    later_at : (more : List Event) → LinesAt g s0 (history_onto xs h) ys (output_of b) (more ++ b) → LinesAt g s0 h (xs ++ ys) (output_of a) (more ++ b)
    later_at more at =
        let grown = output_grows more b in
        let here : lines_since (output_of b) (more ++ b) ≡ feeds grown.0 = lines_behind (output_of b) grown.0 (more ++ b) grown.1 in
        let there : lines_since (output_of a) (more ++ b) ≡ feeds (text ++ grown.0) =
        lines_behind (output_of a) (text ++ grown.0) (more ++ b)
        (grown.1 ∙ ap (λ (s : List ℕ). s ++ grown.0) put ∙ append_assoc (output_of a) text grown.0) in
        let is : lines_since (output_of a) (more ++ b) ≡ length xs + lines_since (output_of b) (more ++ b) =
        omega (arith, here, there, feeds_twice text grown.0, count) in
        record {
          few = omega (arith, is, at.few, length-append xs ys);
          stops = each_opens g (StopAfter g s0 (history_onto xs h) ys (lines_since (output_of b) (more ++ b)))
              (StopAfter g s0 h (xs ++ ys) (lines_since (output_of a) (more ++ b))) (more ++ b)
              (λ s left. stop_later g s0 h xs ys (lines_since (output_of b) (more ++ b)) (lines_since (output_of a) (more ++ b)) s is left) at.stops;
        }

    pub keeps_twice : KeepsLines g s0 h (xs ++ ys) (output_of a) a c
    keeps_twice = record {
      each = joins (LinesAt g s0 h (xs ++ ys) (output_of a)) a b c
          (weaker (LinesAt g s0 h xs (output_of a)) (LinesAt g s0 h (xs ++ ys) (output_of a)) a b before_at first.each)
          (weaker_behind (LinesAt g s0 (history_onto xs h) ys (output_of b)) (LinesAt g s0 h (xs ++ ys) (output_of a)) b c later_at second.each);
      after = subst (λ (later : History). EachOpens g (Survives g s0 later) c) (sym (history_twice xs ys h)) second.after;
    }

-- no line
pub keeps_none : (g : Geometry) (s0 : Stack) (h : History) (es : List Event) → EachOpens g (Survives g s0 h) es
    → KeepsLines g s0 h [] (output_of es) es es
keeps_none g s0 h es left = record {
  each = at_once (LinesAt g s0 h [] (output_of es)) es (
      let none : lines_since (output_of es) es ≡ 0 = lines_behind (output_of es) [] es (sym (append-nil (output_of es))) in
      record { few = omega (arith, none); stops = left }
      );
  after = left;
}

-- one line
pub keeps_one : (g : Geometry) (s0 : Stack) (h : History) (x : Line) (before : List ℕ) (old new : List Event) → KeepsLine g s0 h x before old new
    → KeepsLines g s0 h (x ∷ []) before old new
keeps_one g s0 h x before old new keeps = record { each = keeps.each; after = keeps.after }

-- each line has one line feed
pub feeds_of : (xs : List Served) → AreLines xs → feeds (all_text xs) ≡ length (map line_in xs)
feeds_of [] one = refl
feeds_of (x ∷ xs) one =
    let rest = feeds_of xs one.1 in
    omega (arith, rest, feeds_twice (text_in x) (all_text xs), feeds_line (text_in x) one.0)

-- ---- puts

puts_joined : (later earlier : List (List ℕ)) (es : List Event) → puts (later ++ earlier) ++ es ≡ puts later ++ (puts earlier ++ es)
puts_joined [] earlier es = refl
puts_joined (piece ∷ later) earlier es = ap (λ (rest : List Event). Put piece ∷ rest) (puts_joined later earlier es)

only_puts_twice : (a b c : World) → OnlyPuts a b → OnlyPuts b c → OnlyPuts a c
only_puts_twice a b c f g = record {
  pieces = g.pieces ++ f.pieces;
  events = g.events ∙ ap (λ (es : List Event). puts g.pieces ++ es) f.events ∙ sym (puts_joined g.pieces f.pieces a.events);
  files = g.files ∙ f.files;
}

pub only_puts_still : (a b : World) → b.files ≡ a.files → b.events ≡ a.events → OnlyPuts a b
only_puts_still a b files events = record { pieces = []; events = events; files = files }

-- ---- the files of entries

pub grows_twice : (a b c : List Event) → GrowsFrom a b → GrowsFrom b c → GrowsFrom a c
grows_twice a b c f g = record { newer = g.newer ++ f.newer; grown = g.grown ∙ ap (λ (es : List Event). g.newer ++ es) f.grown ∙ sym (append_assoc g.newer f.newer a) }

-- they are looked for from an earlier moment on
pub then_earlier : (before : List ℕ) (n : ℕ) (xs : List Line) (a b c : List Event) → GrowsFrom a b → AreFilesThen before n xs b c → AreFilesThen before n xs a c
then_earlier before n [] a b c grows h = tt
then_earlier before n (of_text text ∷ xs) a b c grows h = then_earlier before (n + 1) xs a b c grows h
then_earlier before n (of_call e ∷ xs) a b c grows h =
    (h.0, record { since = grows_twice a b h.0 grows h.1.since; until = h.1.until; lines = h.1.lines; files = h.1.files }, h.2)

-- and up to a later one
pub then_until : (before : List ℕ) (n : ℕ) (xs : List Line) (a b c : List Event) → GrowsFrom b c → AreFilesThen before n xs a b → AreFilesThen before n xs a c
then_until before n [] a b c grows h = tt
then_until before n (of_text text ∷ xs) a b c grows h = then_until before (n + 1) xs a b c grows h
then_until before n (of_call e ∷ xs) a b c grows h =
    (h.0, record { since = h.1.since; until = grows_twice h.0 b c h.1.until grows; lines = h.1.lines; files = h.1.files }, then_until before (n + 1) xs h.0 b c grows h.2)

-- with other lines behind them
then_both : (before : List ℕ) (n : ℕ) (xs ys : List Line) (a b c : List Event) → GrowsFrom a b → GrowsFrom b c → AreFilesThen before n xs a b → AreFilesThen before (length xs + n) ys b c
    → AreFilesThen before n (xs ++ ys) a c
then_both before n [] ys a b c first second f g = let e : length {A = Line} [] + n ≡ n = omega arith in then_earlier before n ys a b c first (subst (λ (k : ℕ). AreFilesThen before k ys b c) e g)
then_both before n (of_text text ∷ xs) ys a b c first second f g =
    then_both before (n + 1) xs ys a b c first second f (let e : suc (length xs) + n ≡ length xs + (n + 1) = omega arith in subst (λ (k : ℕ). AreFilesThen before k ys b c) e g)
then_both before n (of_call e ∷ xs) ys a b c first second f g = (
  f.0,
  record { since = f.1.since; until = grows_twice f.0 b c f.1.until second; lines = f.1.lines; files = f.1.files },
  then_both before (n + 1) xs ys f.0 b c f.1.until second f.2 (let e : suc (length xs) + n ≡ length xs + (n + 1) = omega arith in subst (λ (k : ℕ). AreFilesThen before k ys b c) e g),
)

-- lines that were put before are counted too
module _ (k : ℕ) (text : List ℕ) (a b : List Event) (put : output_of b ≡ output_of a ++ text) (count : feeds text ≡ k) where
  since_both : (es : List Event) → GrowsFrom b es → lines_since (output_of a) es ≡ k + lines_since (output_of b) es
  since_both es grows = subst (λ (x : List Event). lines_since (output_of a) x ≡ k + lines_since (output_of b) x) (sym grows.grown) (
      let more = grows.newer in
      let grown = output_grows more b in
      let here : lines_since (output_of b) (more ++ b) ≡ feeds grown.0 = lines_behind (output_of b) grown.0 (more ++ b) grown.1 in
      let there : lines_since (output_of a) (more ++ b) ≡ feeds (text ++ grown.0) =
      lines_behind (output_of a) (text ++ grown.0) (more ++ b)
      (grown.1 ∙ ap (λ (s : List ℕ). s ++ grown.0) put ∙ append_assoc (output_of a) text grown.0) in
      omega (arith, here, there, feeds_twice text grown.0, count))

  then_counted : (n : ℕ) (ys : List Line) (o c : List Event) → GrowsFrom b o → AreFilesThen (output_of b) n ys o c → AreFilesThen (output_of a) (k + n) ys o c
  then_counted n [] o c grows h = tt
  then_counted n (of_text text ∷ ys) o c grows h =
      let e : k + (n + 1) ≡ (k + n) + 1 = omega arith in subst (λ (m : ℕ). AreFilesThen (output_of a) m ys o c) e (then_counted (n + 1) ys o c grows h)
  then_counted n (of_call e ∷ ys) o c grows h = (
    h.0,
    record {
      since = h.1.since;
      until = h.1.until;
      lines = (let s = since_both h.0 (grows_twice b o h.0 grows h.1.since) in let l = h.1.lines in omega (arith, s, l));
      files = h.1.files;
    },
    let same : k + (n + 1) ≡ (k + n) + 1 = omega arith in
        subst (λ (m : ℕ). AreFilesThen (output_of a) m ys h.0 c) same (then_counted (n + 1) ys h.0 c (grows_twice b o h.0 grows h.1.since) h.2),
  )

pub then_twice : (xs ys : List Line) (text : List ℕ) (a b c : List Event) → output_of b ≡ output_of a ++ text → feeds text ≡ length xs → GrowsFrom a b → GrowsFrom b c
    → AreFilesThen (output_of a) 0 xs a b → AreFilesThen (output_of b) 0 ys b c → AreFilesThen (output_of a) 0 (xs ++ ys) a c
then_twice xs ys text a b c put count first second f g =
    then_both (output_of a) 0 xs ys a b c first second f (then_counted (length xs) text a b put count 0 ys b c (record { newer = []; grown = refl }) g)

-- ---- an engine

-- the room is kept to with another stage
pub room_with_stage : {S D : Type 0} (shows : Showing S) (makes : Making D) (a b : Engine S D) → IsWithStage b a → (s0 : Stack) (h : History) (room : Room)
    → KeepsToRoom (makes.has_room a.disk) room s0 h (standing shows makes a) → KeepsToRoom (makes.has_room b.disk) room s0 h (standing shows makes b)
room_with_stage shows makes a b rest s0 h room keeps = record {
  kept = subst (λ (d : _). IsRoomLegal (makes.geometry d) room s0 h) (sym rest.disk) keeps.kept;
  left = λ none. subst (λ (d : _). makes.has_room d (room_after (makes.geometry d) room h)) (sym rest.disk) (keeps.left (sym rest.broken ∙ none));
}

module _ {S D : Type 0} (shows : Showing S) (makes : Making D) (xs ys : List Served) (a b c : Engine S D)
    (f : Serves shows makes xs a b) (k : Serves shows makes ys b c)
    (put : Tells (seen shows a.stage) → output_of (shows.world b.stage).events ≡ output_of (shows.world a.stage).events ++ all_text xs)
  where
    lines_are : map line_in (xs ++ ys) ≡ map line_in xs ++ map line_in ys
    lines_are = map-append line_in xs ys

    pub serves_twice : Serves shows makes (xs ++ ys) a c
    serves_twice = record {
      lines = all_twice _ xs ys f.lines k.lines;
      alone = all_twice _ xs ys f.alone k.alone;
      geometry = k.geometry ∙ f.geometry;
      stands = λ s0 h told stands.
          subst (λ (later : History). Stands s0 later (standing shows makes c))
          (sym (history_twice (map line_in xs) (map line_in ys) h) ∙ ap (λ (lines : List Line). history_onto lines h) (sym lines_are))
          (k.stands s0 (history_onto (map line_in xs) h) told (f.stands s0 h told stands));
      room = λ s0 h room told stands keeps.
          subst (λ (later : History). KeepsToRoom (makes.has_room c.disk) room s0 later (standing shows makes c))
          (sym (history_twice (map line_in xs) (map line_in ys) h) ∙ ap (λ (lines : List Line). history_onto lines h) (sym lines_are))
          (k.room s0 (history_onto (map line_in xs) h) room told (f.stands s0 h told stands) (f.room s0 h room told stands keeps));
      files = λ told.
          let one = (f.spares.leaves told).others in
          let two = (k.spares.leaves told).others in
          subst (λ (lines : List Line). AreFilesThen (output_of (shows.world a.stage).events) 0 lines (shows.world a.stage).events (shows.world c.stage).events) (sym lines_are)
          (then_twice (map line_in xs) (map line_in ys) (all_text xs) (shows.world a.stage).events (shows.world b.stage).events (shows.world c.stage).events (put told) (feeds_of xs f.lines)
          (record { newer = one.newer; grown = one.grown }) (record { newer = two.newer; grown = two.grown }) (f.files told) (k.files told));
      runs = λ runs. k.runs (f.runs runs);
      agrees = λ told agrees. k.agrees told (f.agrees told agrees);
      closes = λ base h told tells was.
          subst (λ (later : History). TellsSince (makes.marks c.disk) c.broken base later (shows.world c.stage).events)
          (sym (history_twice (map line_in xs) (map line_in ys) h) ∙ ap (λ (lines : List Line). history_onto lines h) (sym lines_are))
          (k.closes base (history_onto (map line_in xs) h) told (f.agrees told tells) (f.closes base h told tells was));
      stops = λ s0 h told stands tells left.
          let first = f.stops s0 h told stands tells left in
          let second = k.stops s0 (history_onto (map line_in xs) h) told (f.stands s0 h told stands) (f.agrees told tells)
          (subst (λ (g : Geometry). EachOpens g (Survives g s0 (history_onto (map line_in xs) h)) (shows.world b.stage).events) (sym f.geometry) first.after) in
          subst (λ (lines : List Line). KeepsLines (makes.geometry a.disk) s0 h lines (output_of (shows.world a.stage).events)
          (shows.world a.stage).events (shows.world c.stage).events) (sym lines_are)
          (keeps_twice (makes.geometry a.disk) s0 h (map line_in xs) (map line_in ys) (all_text xs)
          (shows.world a.stage).events (shows.world b.stage).events (shows.world c.stage).events (put told) (feeds_of xs f.lines) first
          (subst (λ (g : Geometry). KeepsLines g s0 (history_onto (map line_in xs) h) (map line_in ys) (output_of (shows.world b.stage).events)
          (shows.world b.stage).events (shows.world c.stage).events) f.geometry second));
      quiet = λ same reads.
          let first = f.quiet same (all_before _ xs ys reads) in
          let second = k.quiet first.0 (all_behind _ xs ys reads) in
          (second.0, λ told. only_puts_twice (shows.world a.stage) (shows.world b.stage) (shows.world c.stage) (first.1 told) (second.1 told));
      spares = spares_twice (makes.spares a.disk) (makes.spares b.disk) (makes.spares c.disk) (seen shows a.stage) (seen shows b.stage) (seen shows c.stage)
          (λ told. told) f.spares k.spares;
    }

-- nothing was served
pub serves_none : {S D : Type 0} (shows : Showing S) (makes : Making D) (a : Engine S D) → Serves shows makes [] a a
serves_none shows makes a = record {
  lines = tt;
  alone = tt;
  geometry = refl;
  stands = λ s0 h told stands. stands;
  room = λ s0 h room told stands keeps. keeps;
  files = λ told. tt;
  runs = λ runs. runs;
  agrees = λ told agrees. agrees;
  closes = λ base h told tells was. was;
  stops = λ s0 h told stands tells left. keeps_none (makes.geometry a.disk) s0 h (shows.world a.stage).events left;
  quiet = λ same reads. (same, λ told. only_puts_still (shows.world a.stage) (shows.world a.stage) refl refl);
  spares = spares_still (makes.spares a.disk) (seen shows a.stage);
}

-- a part of the script was taken
module _ {S D : Type 0} (shows : Showing S) (makes : Making D) (a b : Engine S D) (rest : IsWithStage b a)
    (only : Tells (seen shows a.stage) → OnlyTakes (shows.world a.stage) (shows.world b.stage))
    (runs : Runs (makes.tied a.disk) a.broken (seen shows a.stage) → Runs (makes.tied b.disk) b.broken (seen shows b.stage))
  where
    stands_as : D → List Event → ℕ → Option ℕ → Tally → Standing
    stands_as disk es calls broken tally =
        record { geometry = makes.geometry disk; stack = makes.stack disk es; sure = is_sure es; calls = calls; broken = broken; tally = tally }

    standing_taken : Tells (seen shows a.stage) → standing shows makes a ≡ standing shows makes b
    unfolding stands_as
    standing_taken told =
        let es = (shows.world a.stage).events in
        ap (λ (d : D). stands_as d es a.calls a.broken a.tally) (sym rest.disk)
        ∙ ap (λ (e : List Event). stands_as b.disk e a.calls a.broken a.tally) (sym (only told).events)
        ∙ ap (λ (n : ℕ). stands_as b.disk (shows.world b.stage).events n a.broken a.tally) (sym rest.calls)
        ∙ ap (λ (at : Option ℕ). stands_as b.disk (shows.world b.stage).events b.calls at a.tally) (sym rest.broken)
        ∙ ap (λ (t : Tally). stands_as b.disk (shows.world b.stage).events b.calls b.broken t) (sym rest.tally)

    -- what is known of a disk and the events
    same_here : (P : D → List Event → Type 0) → Tells (seen shows a.stage) → P a.disk (shows.world a.stage).events → P b.disk (shows.world b.stage).events
    same_here P told h =
        subst (λ (es : List Event). P b.disk es) (sym (only told).events) (subst (λ (d : D). P d (shows.world a.stage).events) (sym rest.disk) h)

    pub serves_taken : Serves shows makes [] a b
    serves_taken = record {
      lines = tt;
      alone = tt;
      geometry = ap makes.geometry rest.disk;
      stands = λ s0 h told stands. subst (Stands s0 h) (standing_taken told) stands;
      room = λ s0 h room told stands keeps. room_with_stage shows makes a b rest s0 h room keeps;
      files = λ told. tt;
      runs = runs;
      agrees = λ told agrees none. same_here makes.agrees told (agrees (sym rest.broken ∙ none));
      closes = λ base h told tells was. record {
        since = λ none. same_here (λ (d : D) (es : List Event). makes.marks d base es) told (was.since (sym rest.broken ∙ none));
        closed = λ ends. subst (AreLeftOrClosed base) (sym (only told).events) (was.closed ends);
      };
      stops = λ s0 h told stands tells left.
          subst (λ (es : List Event). KeepsLines (makes.geometry a.disk) s0 h [] (output_of (shows.world a.stage).events) (shows.world a.stage).events es)
          (sym (only told).events) (keeps_none (makes.geometry a.disk) s0 h (shows.world a.stage).events left);
      quiet = λ same reads. (
        subst makes.unchanged (sym rest.disk) same,
        λ told. only_puts_still (shows.world a.stage) (shows.world b.stage) (only told).files (only told).events,
      );
      spares = subst (λ (d : D). Spares (makes.spares a.disk) (makes.spares d) (seen shows a.stage) (seen shows b.stage)) (sym rest.disk)
          (spares_takes (makes.spares a.disk) (seen shows a.stage) (seen shows b.stage) only);
    }

-- What the search for the next line keeps, and what it finds.
use Rattle.std.proofs.Common.{◌≡◌, ⊎_elim, ℕ, ◌+◌, ◌-◌, ◌<◌, ◌≤◌, Bool, true, false, cond, List, [], ◌∷◌, ◌++◌, length, take, drop, Result, Ok, Err, IfOk, OnErr, refl, sym, ◌∙◌, ap, subst, arith, append_assoc, append-nil, length-append}
use Rattle.std.proofs.lemmas.Bool.{cases_lt, lt-ltb, le-ltb, false≢true}
use Rattle.std.proofs.lemmas.List.{length-take-le}
use Rattle.std.proofs.Math.Seq.{take-append_seam, take-append-add, drop-append-add}
use Rattle.cckd_shelf.specs.declared.fault.Faults.{Faults}
use Rattle.cckd_shelf.specs.World.{World}
use Rattle.cckd_lines.specs.declared.lines.Place.{Place}
use Rattle.cckd_lines.specs.declared.lines.Next.{Next}
use Rattle.cckd_lines.specs.declared.lines.Next.TheVariants as next
use Rattle.cckd_lines.specs.Lines.{IsFirstFeed, fed, last, IsLine, IsNext, Passes, line_next, IsPlace, IsAtEnd, Grows, TakesMore, BreaksOff, OnlyTakes, held, text_of, pending, allowance}
use Rattle.cckd_script.specs.Lines.{HasNoFeed, line_limit}
use Rattle.cckd_script.proofs.LineLemmas.{no_feed-append}
use Rattle.cckd_lines.proofs.FillLemmas.{only_takes_twice, length_pending, pending_front, line_ends, none_pending}

-- the room has the same of the script before it as at first, with more of it taken
pub record IsFilling (tells : Type 0) (old now : World) (before after : Faults) (first place : Place) (begun room : List ℕ) : Type 0 where
  pub within : IsPlace room place
  pub same : tells → pending room place ++ now.script ≡ pending begun first ++ old.script
  pub shared : allowance place ≡ allowance first
  pub ended : tells → IsAtEnd place now.script
  pub going_on : first.ended ≡ true → place.ended ≡ true
  pub only : tells → OnlyTakes old now
  pub quiet : after ≡ before
  pub long : length room ≡ length begun

module _ (tells : Type 0) (old now : World) (before after : Faults) (first place : Place) (begun room : List ℕ)
    (so_far : IsFilling tells old now before after first place begun room)
  where
    pub fills_on : (then : World) (later : Faults) (moved taken : Place) (front room' : List ℕ)
        → pending front moved ≡ pending room place → moved ≡ record place { start = 0; end = place.end - place.start }
        → IsPlace room' taken → Grows moved taken → (tells → TakesMore (held front moved now.script) (held room' taken then.script))
        → place.ended ≡ false → (tells → OnlyTakes now then) → later ≡ after → length room' ≡ length room
        → IsFilling tells old then before later first taken begun room'
    fills_on then later moved taken front room' kept is within grows more going only_takes fine long = record {
      within = within;
      same = λ told. (more told).rest ∙ ap (λ (s : List ℕ). s ++ now.script) kept ∙ so_far.same told;
      shared =
          omega (
            arith,
            so_far.shared,
            so_far.within.order,
            grows.shared,
            grows.start,
            within.order,
            ap (λ (p : Place). p.start) is,
            ap (λ (p : Place). p.end) is,
            ap (λ (p : Place). p.left) is,
          );
      ended = λ told. (more told).ended;
      going_on = λ e. absurd (false≢true (sym going ∙ so_far.going_on e));
      only = λ told. only_takes_twice old now then (so_far.only told) (only_takes told);
      quiet = fine ∙ so_far.quiet;
      long = long ∙ so_far.long;
    }

    -- a line with its feed
    pub finds_line : (at : ℕ) → IsFirstFeed (pending room place) at → tells
        → IsNext (held begun first old.script) (held room (record place { start = place.start + (at + 1) }) now.script) (line_next place.start at)
    finds_line at feed told =
        let behind : Place = record place { start = place.start + (at + 1) } in
        let text = pending begun first ++ old.script in
        let rest = pending room behind ++ now.script in
        let line = take at (pending room place) in
        let long = length_pending room place so_far.within in
        let fits : place.start + (at + 1) ≤ place.end = omega (arith, feed.within, long, so_far.within.order) in
        let behind_is : IsPlace room behind = record { order = fits; within = so_far.within.within } in
        let left = length_pending room behind behind_is in
        let spelled : text ≡ line ++ 10 ∷ rest =
        sym (so_far.same told) ∙ line_ends room place behind at now.script so_far.within feed refl refl in
        let sized : length line ≡ at = length-take-le at (pending room place) (omega (arith, feed.within)) in
        let found : IsLine line (held begun first old.script) (held room behind now.script) = record {
          begins = fed feed.before spelled;
          some = omega (arith, ap length spelled, length-append line (10 ∷ rest));
          shared = omega (arith, ap length spelled, length-append line (10 ∷ rest), sized, so_far.shared, fits, left);
        } in
        ⊎_elim
        (λ (over : line_limit < at).
        subst (IsNext (held begun first old.script) (held room behind now.script)) (sym (ap (λ (b : Bool). cond b next.LineTooLong (next.Line place.start (place.start + at))) (lt-ltb line_limit at over)))
        (line, found, omega (arith, sized, over)))
        (λ (under : at ≤ line_limit).
        subst (IsNext (held begun first old.script) (held room behind now.script)) (sym (ap (λ (b : Bool). cond b next.LineTooLong (next.Line place.start (place.start + at))) (le-ltb line_limit at under))) (
          subst (λ (s : List ℕ). IsLine s (held begun first old.script) (held room behind now.script)) (sym (pending_front room place at (omega (arith, fits)))) found,
          omega (arith, under),
        ))
        (cases_lt line_limit at)

    -- the last line, without a feed
    pub finds_last : HasNoFeed (pending room place) → place.ended ≡ true → 0 < place.end - place.start → tells
        → IsNext (held begun first old.script) (held room (record place { start = place.start + (place.end - place.start) }) now.script)
        (line_next place.start (place.end - place.start))
    finds_last none ended some_there told =
        let len = place.end - place.start in
        let behind : Place = record place { start = place.start + len } in
        let text = pending begun first ++ old.script in
        let rest = pending room behind ++ now.script in
        let line = pending room place in
        let sized = length_pending room place so_far.within in
        let no_script : now.script ≡ [] = so_far.ended told ended in
        let nothing : pending room behind ≡ [] = none_pending room behind (omega (arith, so_far.within.order)) in
        let empty : rest ≡ [] = ap (λ (s : List ℕ). s ++ now.script) nothing ∙ no_script in
        let spelled : text ≡ line =
        sym (so_far.same told) ∙ ap (λ (s : List ℕ). line ++ s) no_script ∙ append-nil line in
        let found : IsLine line (held begun first old.script) (held room behind now.script) = record {
          begins = last none spelled empty ended;
          some = omega (arith, ap length spelled, sized, some_there);
          shared = omega (arith, ap length spelled, ap length empty, sized, so_far.shared, so_far.within.order);
        } in
        ⊎_elim
        (λ (over : line_limit < len).
        subst (IsNext (held begun first old.script) (held room behind now.script)) (sym (ap (λ (b : Bool). cond b next.LineTooLong (next.Line place.start (place.start + len))) (lt-ltb line_limit len over)))
        (line, found, omega (arith, sized, over)))
        (λ (under : len ≤ line_limit).
        subst (IsNext (held begun first old.script) (held room behind now.script)) (sym (ap (λ (b : Bool). cond b next.LineTooLong (next.Line place.start (place.start + len))) (le-ltb line_limit len under))) (
          subst (λ (s : List ℕ). IsLine s (held begun first old.script) (held room behind now.script))
              (ap (λ (n : ℕ). take n (drop place.start room)) (omega arith)) found,
          omega (arith, under),
        ))
        (cases_lt line_limit len)

    -- nothing more
    pub finds_end : place.ended ≡ true → place.end - place.start ≡ 0 → tells
        → IsNext (held begun first old.script) (held room place now.script) next.End
    finds_end ended none told =
        let no_script : now.script ≡ [] = so_far.ended told ended in
        let nothing : pending room place ≡ [] = none_pending room place (omega (arith, none)) in
        let empty : pending room place ++ now.script ≡ [] = ap (λ (s : List ℕ). s ++ now.script) nothing ∙ no_script in
        (sym (so_far.same told) ∙ empty, empty, so_far.shared)

    -- the limit, with more of the script behind it
    pub finds_limit : (room' : List ℕ) (then : World) (behind : Place) → HasNoFeed (pending room place) → place.left ≡ 0 → (tells → 0 < length now.script)
        → (tells → then.script ≡ drop 1 now.script) → behind.end ≤ behind.start
        → tells → IsNext (held begun first old.script) (held room' behind then.script) next.ScriptTooLong
    finds_limit room' then behind none full more one empty told =
        let text = pending begun first ++ old.script in
        let line = pending room place in
        let sized = length_pending room place so_far.within in
        let all : allowance first ≡ length line = omega (arith, so_far.shared, full, sized) in
        let spelled : text ≡ line ++ now.script = sym (so_far.same told) in (
          subst HasNoFeed (sym (ap (λ (n : ℕ). take n text) all ∙ ap (take (length line)) spelled ∙ take-append_seam line now.script)) none,
          omega (arith, all, ap length spelled, length-append line now.script, more told),
          ap (λ (s : List ℕ). s ++ then.script) (none_pending room' behind empty) ∙ one told
              ∙ sym (ap (λ (n : ℕ). drop (n + 1) text) all ∙ ap (drop (length line + 1)) spelled ∙ drop-append-add line now.script 1),
          empty,
        )

    -- the rest of a line that is too long
    pub finds_passed : (room' : List ℕ) (then : World) (behind : Place) (found : Next) → HasNoFeed (pending room place)
        → line_limit < place.end - place.start
        → Passes place.left now.script (held room' behind then.script) found → tells
        → IsNext (held begun first old.script) (held room' behind then.script) found
    finds_passed room' then behind (next.Line start end) none long passes told = absurd passes
    finds_passed room' then behind next.End none long passes told = absurd passes
    finds_passed room' then behind next.LineTooLong none long passes told =
        let text = pending begun first ++ old.script in
        let line = pending room place in
        let rest = pending room' behind ++ then.script in
        let sized = length_pending room place so_far.within in
        let spelled : text ≡ line ++ now.script = sym (so_far.same told) in (
          line ++ passes.0,
          record {
            begins = elim passes.1 [
              | fed free is ↦ fed (no_feed-append line passes.0 none free)
                  (spelled ∙ ap (λ (s : List ℕ). line ++ s) is ∙ sym (append_assoc line passes.0 (10 ∷ rest)))
              | last free is empty ended ↦ last (no_feed-append line passes.0 none free)
                  (spelled ∙ ap (λ (s : List ℕ). line ++ s) is) empty ended
            ];
            some = omega (arith, ap length spelled, length-append line now.script, sized, long);
            shared = omega (arith, ap length spelled, length-append line now.script, sized, passes.2, so_far.shared);
          },
          omega (arith, length-append line passes.0, sized, long),
        )
    finds_passed room' then behind next.ScriptTooLong none long passes told =
        let text = pending begun first ++ old.script in
        let line = pending room place in
        let sized = length_pending room place so_far.within in
        let spelled : text ≡ line ++ now.script = sym (so_far.same told) in
        let all : allowance first ≡ length line + place.left = omega (arith, so_far.shared, sized) in (
          subst HasNoFeed (sym (ap (λ (n : ℕ). take n text) all ∙ ap (take (length line + place.left)) spelled ∙ take-append-add line now.script place.left))
              (no_feed-append line (take place.left now.script) none passes.0),
          omega (arith, all, ap length spelled, length-append line now.script, passes.1),
          passes.2
              ∙ sym (ap (λ (n : ℕ). drop n text) (omega (arith, all)) ∙ ap (drop (length line + (place.left + 1))) spelled
              ∙ drop-append-add line now.script (place.left + 1)),
          passes.3,
        )

    -- the source fails, with nothing more taken
    pub breaks_off : (then : World) → HasNoFeed (pending room place) → (tells → then ≡ now) → tells
        → BreaksOff (allowance first) (text_of (held begun first old.script)) then.script
    breaks_off then none kept told = (
      pending room place,
      none,
      sym (so_far.same told) ∙ ap (λ (w : World). pending room place ++ w.script) (sym (kept told)),
      omega (arith, so_far.shared, length_pending room place so_far.within),
    )

    -- the source fails in the rest of a line that is too long
    pub breaks_off_later : (then : World) → HasNoFeed (pending room place) → (tells → BreaksOff place.left now.script then.script) → tells
        → BreaksOff (allowance first) (text_of (held begun first old.script)) then.script
    breaks_off_later then none broken told =
        let more = broken told in (
          pending room place ++ more.0,
          no_feed-append (pending room place) more.0 none more.1,
          sym (so_far.same told) ∙ ap (λ (s : List ℕ). pending room place ++ s) more.2
              ∙ sym (append_assoc (pending room place) more.0 then.script),
          omega (arith, so_far.shared, length_pending room place so_far.within, length-append (pending room place) more.0, more.3),
        )

-- a fact about the value of an answer, from another one
pub if_ok_map : {T E : Type 0} (P Q : T → Type 0) (r : Result T E) → IfOk r P → ((x : T) → P x → Q x) → IfOk r Q
if_ok_map P Q (Ok x) f h = h x f
if_ok_map P Q (Err e) f h = tt

pub on_err_map : {T E : Type 0} (P Q : Type 0) (r : Result T E) → OnErr r P → (P → Q) → OnErr r Q
on_err_map P Q (Ok x) f h = tt
on_err_map P Q (Err e) f h = h f

pub on_err : {T E : Type 0} (P : Type 0) (r : Result T E) → P → OnErr r P
on_err P (Ok x) h = tt
on_err P (Err e) h = h

-- A script that is served line by line: what was asked of it so far, and what is left.
use Rattle.std.proofs.Common.{◌≡◌, ◌⊎◌, inl, inr, ⊎_elim, ℕ, ◌+◌, ◌<◌, ◌≤◌, nat_lt, true, false, List, [], ◌∷◌, ◌++◌, length, map, take, drop, refl, sym, ◌∙◌, ap, arith, append-nil, append_assoc, length-append}
use Rattle.std.proofs.lemmas.Bool.{cases_lt, lt-ltb, le-ltb, cond-true, cond-false, false≢true}
use Rattle.std.proofs.lemmas.Grind.{flat_map-append}
use Rattle.std.proofs.lemmas.List.{drop_all}
use Rattle.std.proofs.Math.Seq.{take-append-add, drop-append-add}
use Rattle.cckd_base.specs.declared.call.Call.TheVariants.{Close}
use Rattle.cckd_script.specs.declared.misread.Misreading.TheVariants as misreading
use Rattle.cckd_script.specs.Lines.{lines_of, ended_lines, StopsAtLine, HasNoFeed}
use Rattle.cckd_script.specs.Items.{Item, asked, unread, line_items, items_of_lines, cut_items, script_items}
use Rattle.cckd_script.proofs.LineLemmas.{lines-append, ended-append, ended_all, stops_more, lines_more, lines_unfed, ended_unfed}
use Rattle.cckd_lines.specs.Lines.{fed, last, Held, held, text_of, pending, allowance, IsPlace, IsLine, BreaksOff}
use Rattle.cckd_lines.proofs.FillLemmas.{length_pending}
use Rattle.cckd_console.specs.Served.{Served, item_in}
use Rattle.cckd_console.specs.Script.{most_ahead, OfALine}

-- A script was served up to here: these items are those of the lines before, and this is left of it. A line without a feed was
-- the last.
pub record IsReadUpTo (limit : ℕ) (script : List ℕ) (now : Held) (items : List Item) : Type 0 where
  pub consumed : List ℕ
  pub split : script ≡ consumed ++ text_of now
  pub allowed : length consumed + allowance now.place ≡ limit
  pub asked : items ≡ items_of_lines (lines_of consumed)
  pub stops : StopsAtLine consumed ⊎ ((text_of now ≡ []) × (now.place.ended ≡ true))

-- nothing was served
pub reads_none : (limit : ℕ) (script room : List ℕ)
    → IsReadUpTo limit script (held room (record { start = 0; end = 0; left = limit; ended = false }) script) []
reads_none limit script room = record { consumed = []; split = refl; allowed = omega arith; asked = refl; stops = inl (inl refl) }

items_push : (lines : List (List ℕ)) (line : List ℕ) → items_of_lines (lines ++ line ∷ []) ≡ items_of_lines lines ++ line_items line
items_push lines line = flat_map-append line_items lines (line ∷ []) ∙ ap (λ (s : List Item). items_of_lines lines ++ s) (append-nil (line_items line))

module _ (limit : ℕ) (script : List ℕ) (now : Held) (items : List Item) (so_far : IsReadUpTo limit script now items) where
  stops_here : 0 < length (text_of now) → StopsAtLine so_far.consumed
  stops_here some = ⊎_elim (λ (h : StopsAtLine so_far.consumed). h)
      (λ (h : ((text_of now) ≡ []) × (now.place.ended ≡ true)). absurd (omega (arith, some, ap length h.0))) so_far.stops

  -- a line more, which is the last one
  line_more : (line : List ℕ) (then : Held) → IsLine line now then
      → (more : IsReadUpTo limit script then (items ++ line_items line)) × (lines_of more.consumed ≡ lines_of so_far.consumed ++ line ∷ [])
  line_more line then found =
      let stops = stops_here found.some in
      elim found.begins [
        | fed free is ↦ (
          record {
            consumed = so_far.consumed ++ (line ++ 10 ∷ []);
            split =
                so_far.split ∙ ap (λ (s : List ℕ). so_far.consumed ++ s) (is ∙ sym (append_assoc line (10 ∷ []) (text_of then)))
                ∙ sym (append_assoc so_far.consumed (line ++ 10 ∷ []) (text_of then));
            allowed =
                omega (
                  arith,
                  so_far.allowed,
                  found.shared,
                  length-append so_far.consumed (line ++ 10 ∷ []),
                  length-append line (10 ∷ []),
                  length-append line (10 ∷ (text_of then)),
                  ap length is,
                );
            asked =
                ap (λ (s : List Item). s ++ line_items line) so_far.asked ∙ sym (items_push (lines_of so_far.consumed) line)
                ∙ sym (ap items_of_lines (lines_more so_far.consumed line stops free));
            stops = inl (stops_more so_far.consumed line);
          },
          lines_more so_far.consumed line stops free,
        )
        | last free is empty at_end ↦ (
          record {
            consumed = so_far.consumed ++ line;
            split =
                so_far.split ∙ ap (λ (s : List ℕ). so_far.consumed ++ s) is
                ∙ sym (append-nil (so_far.consumed ++ line)) ∙ ap (λ (s : List ℕ). (so_far.consumed ++ line) ++ s) (sym empty);
            allowed =
                omega (arith, so_far.allowed, found.shared, length-append so_far.consumed line, ap length is, ap length empty);
            asked =
                ap (λ (s : List Item). s ++ line_items line) so_far.asked ∙ sym (items_push (lines_of so_far.consumed) line)
                ∙ sym (ap items_of_lines (lines_unfed so_far.consumed line stops free (omega (arith, found.some, ap length is))));
            stops = inr (empty, at_end);
          },
          lines_unfed so_far.consumed line stops free (omega (arith, found.some, ap length is)),
        )
      ]

  -- a line more
  pub reads_on : (line : List ℕ) (then : Held) → IsLine line now then → IsReadUpTo limit script then (items ++ line_items line)
  reads_on line then found = (line_more line then found).0

  -- the line that was served last, and what was taken ahead of it
  pub of_a_line : (served : List Served) (line : List ℕ) (then : Held) → IsLine line now then → IsPlace then.room then.place
      → length then.room ≤ most_ahead → map item_in served ≡ items ++ line_items line → 0 < length (line_items line)
      → OfALine limit script then.script served
  of_a_line served line then found is short same some =
      let more = line_more line then found in
      let ahead = length_pending then.room then.place is in
      record {
        read = more.0.consumed;
        taken = record {
          ahead = pending then.room then.place;
          split = more.0.split;
          ends = ⊎_elim (λ (h : StopsAtLine more.0.consumed). inl h) (λ (h : (text_of then ≡ []) × (then.place.ended ≡ true)). inr h.0) more.0.stops;
          few = omega (arith, ahead, is.within, short);
          within = omega (arith, ahead, more.0.allowed);
        };
        last = record { earlier = lines_of so_far.consumed; last = line; lines = more.1; asks = some };
        asked = same ∙ more.0.asked;
      }

  -- the whole script
  pub reads_all : (text_of now) ≡ [] → items ++ asked Close [] ∷ [] ≡ script_items limit script
  reads_all none =
      let whole : script ≡ so_far.consumed = so_far.split ∙ ap (λ (s : List ℕ). so_far.consumed ++ s) none ∙ append-nil so_far.consumed in
      let short : length script ≤ limit = omega (arith, ap length whole, so_far.allowed) in
      ap (λ (s : List Item). s ++ asked Close [] ∷ []) (
      so_far.asked ∙ ap (λ (s : List ℕ). items_of_lines (lines_of s)) (sym whole)
      ∙ sym (cond-false (nat_lt limit (length script)) (cut_items limit script) _ (le-ltb limit (length script) short))
      )

  -- behind it nothing is left
  pub none_left : (text_of now) ≡ [] → drop (limit + 1) script ≡ []
  none_left none =
      drop_all (limit + 1) script (omega (arith, ap length so_far.split, length-append so_far.consumed (text_of now), ap length none, so_far.allowed))

  -- the script up to its limit
  pub reads_limit : (then : Held) → HasNoFeed (take (allowance now.place) (text_of now)) → (allowance now.place) < length (text_of now) → (text_of then) ≡ drop ((allowance now.place) + 1) (text_of now)
      → ((items ++ unread misreading.ScriptTooLong ∷ []) ++ asked Close [] ∷ [] ≡ script_items limit script)
      × ((text_of then) ≡ drop (limit + 1) script) × (limit < length script)
  reads_limit then free more one =
      let stops = stops_here (omega (arith, more)) in
      let long : limit < length script = omega (arith, so_far.allowed, ap length so_far.split, length-append so_far.consumed (text_of now), more) in
      let front : take limit script ≡ so_far.consumed ++ take (allowance now.place) (text_of now) =
      ap (λ (n : ℕ). take n script) (sym so_far.allowed) ∙ ap (take (length so_far.consumed + (allowance now.place))) so_far.split
      ∙ take-append-add so_far.consumed (text_of now) (allowance now.place) in
      let lines : ended_lines (take limit script) ≡ lines_of so_far.consumed =
      ap ended_lines front ∙ ended_unfed so_far.consumed (take (allowance now.place) (text_of now)) stops free in
      let items_are : items ≡ items_of_lines (ended_lines (take limit script)) = so_far.asked ∙ ap items_of_lines (sym lines) in (
        ap (λ (s : List Item). s ++ asked Close [] ∷ []) (
            ap (λ (s : List Item). s ++ unread misreading.ScriptTooLong ∷ []) items_are
            ∙ sym (cond-true (nat_lt limit (length script)) (cut_items limit script) _ (lt-ltb limit (length script) long))
            ),
        one ∙ sym (
            ap (λ (n : ℕ). drop n script) (omega (arith, so_far.allowed)) ∙ ap (drop (length so_far.consumed + ((allowance now.place) + 1))) so_far.split
            ∙ drop-append-add so_far.consumed (text_of now) ((allowance now.place) + 1)
            ),
        long,
      )

  -- the lines that now.place.ended in what was taken
  pub reads_taken : (script' : List ℕ) → BreaksOff (allowance now.place) (text_of now) script' → now.place.ended ≡ false
      → (taken : List ℕ) × (script ≡ taken ++ script') × (length taken ≤ limit) × (items ≡ items_of_lines (ended_lines taken))
  reads_taken script' broken going =
      let stops : StopsAtLine so_far.consumed = ⊎_elim (λ (h : StopsAtLine so_far.consumed). h)
      (λ (h : ((text_of now) ≡ []) × (now.place.ended ≡ true)). absurd (false≢true (sym going ∙ h.1))) so_far.stops in (
        so_far.consumed ++ broken.0,
        so_far.split ∙ ap (λ (s : List ℕ). so_far.consumed ++ s) broken.2 ∙ sym (append_assoc so_far.consumed broken.0 script'),
        omega (arith, so_far.allowed, length-append so_far.consumed broken.0, broken.3),
        so_far.asked ∙ ap items_of_lines (sym (ended_unfed so_far.consumed broken.0 stops broken.1)),
      )

  front_short : length script ≤ limit → (more : List Item) × (items ++ more ≡ script_items limit script)
  front_short short =
      let whole : script_items limit script ≡ items_of_lines (lines_of script) ++ asked Close [] ∷ [] =
      ap (λ (s : List Item). s ++ asked Close [] ∷ []) (cond-false (nat_lt limit (length script)) (cut_items limit script) _ (le-ltb limit (length script) short)) in
      ⊎_elim
      (λ (stops : StopsAtLine so_far.consumed). (
        items_of_lines (lines_of (text_of now)) ++ asked Close [] ∷ [],
        sym (append_assoc items (items_of_lines (lines_of (text_of now))) (asked Close [] ∷ []))
            ∙ ap (λ (s : List Item). s ++ asked Close [] ∷ []) (
            ap (λ (s : List Item). s ++ items_of_lines (lines_of (text_of now))) so_far.asked
            ∙ sym (flat_map-append line_items (lines_of so_far.consumed) (lines_of (text_of now)))
            ∙ ap items_of_lines (sym (ap lines_of so_far.split ∙ lines-append so_far.consumed (text_of now) stops))
            ) ∙ sym whole,
      ))
      (λ (h : ((text_of now) ≡ []) × (now.place.ended ≡ true)). (asked Close [] ∷ [], reads_all h.0))
      so_far.stops

  front_long : limit < length script → (more : List Item) × (items ++ more ≡ script_items limit script)
  front_long long =
      let stops = stops_here (omega (arith, so_far.allowed, ap length so_far.split, length-append so_far.consumed (text_of now), long)) in
      let front : take limit script ≡ so_far.consumed ++ take (allowance now.place) (text_of now) =
      ap (λ (n : ℕ). take n script) (sym so_far.allowed) ∙ ap (take (length so_far.consumed + (allowance now.place))) so_far.split
      ∙ take-append-add so_far.consumed (text_of now) (allowance now.place) in
      let tail = items_of_lines (ended_lines (take (allowance now.place) (text_of now))) in
      let lines : items_of_lines (ended_lines (take limit script)) ≡ items ++ tail =
      ap items_of_lines (ap ended_lines front ∙ ended-append so_far.consumed (take (allowance now.place) (text_of now)) stops)
      ∙ flat_map-append line_items (ended_lines so_far.consumed) (ended_lines (take (allowance now.place) (text_of now)))
      ∙ ap (λ (s : List Item). s ++ tail) (ap items_of_lines (ended_all so_far.consumed stops) ∙ sym so_far.asked) in (
        tail ++ (unread misreading.ScriptTooLong ∷ asked Close [] ∷ []),
        sym (append_assoc items tail (unread misreading.ScriptTooLong ∷ asked Close [] ∷ []))
            ∙ ap (λ (s : List Item). s ++ (unread misreading.ScriptTooLong ∷ asked Close [] ∷ [])) (sym lines)
            ∙ sym (append_assoc (items_of_lines (ended_lines (take limit script))) (unread misreading.ScriptTooLong ∷ []) (asked Close [] ∷ []))
            ∙ ap (λ (s : List Item). s ++ asked Close [] ∷ []) (sym (cond-true (nat_lt limit (length script)) (cut_items limit script) _ (lt-ltb limit (length script) long))),
      )

  -- what was served is a front of the script's items
  pub reads_front : (more : List Item) × (items ++ more ≡ script_items limit script)
  reads_front = ⊎_elim (λ (long : limit < length script). front_long long) (λ (short : length script ≤ limit). front_short short)
      (cases_lt limit (length script))

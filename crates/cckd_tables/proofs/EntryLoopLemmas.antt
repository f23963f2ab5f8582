-- Writing staged entries one after another, those of groups without a new table.
use Rattle.std.proofs.Common.{◌≡◌, ◌≢◌, ℕ, zero, suc, ◌+◌, ◌*◌, ◌/◌, ◌%◌, ◌<◌, ◌==◌, cond, List, [], ◌∷◌, ◌++◌, length, take, get_or, Option, Some, None, refl, sym, ◌∙◌, ap, subst, inl, inr, arith}
use Rattle.std.specs.Prelude.{is_some}
use Rattle.std.specs.List.{AllByRecursion}
use Rattle.std.specs.List.Sorted.{IsStrictlyIncreasing}
use Rattle.std.proofs.lemmas.Bool.{cases_eq, cond-true, cond-false, eq-eqb, ne_eqb}
use Rattle.std.proofs.lemmas.List.{take_all}
use Rattle.cckd_shelf.specs.Files.{overlaid}
use Rattle.cckd_shelf.specs.World.{file_of}
use Rattle.cckd_shelf.specs.Seen.{Seen, Tells}
use Rattle.cckd_shelf.specs.Outcomes.{EachOutcome}
use Rattle.cckd_shelf.specs.Stops.{StopLeaves, StopsLeave}
use Rattle.cckd_shelf.specs.Events.{Event}
use Rattle.cckd_shelf.proofs.MomentLemmas.{at_end, joins}
use Rattle.cckd_base.specs.declared.geometry.Layout.{Layout}
use Rattle.cckd_base.specs.declared.entry.L2Entry.{L2Entry}
use Rattle.cckd_base.specs.Geometry.{track_count}
use Rattle.cckd_base.specs.Numbers.{bytes_at}
use Rattle.cckd_base.specs.Entry.{word_at, entry_at, entry_by_word, entry_bytes}
use Rattle.cckd_base.specs.Image.{IsPlace}
use Rattle.cckd_base.proofs.PlaceLemmas.{part_same, inside_second, table_inside, by_table}
use Rattle.cckd_tables.specs.declared.staged.StagedEntry.{StagedEntry}
use Rattle.cckd_tables.specs.Staging.{Stages, entry_for, IsMoved, new_word, new_entry}
use Rattle.cckd_tables.specs.Tables.{HasWords}
use Rattle.cckd_tables.specs.Blend.{with_put, put_over, Blend, IsCommitted}
use Rattle.cckd_tables.specs.Commit.{staged_tracks}
use Rattle.cckd_tables.specs.Cells.{IsReady, AreWordsWritten, AreEntriesWritten, IsEncoded}
use Rattle.cckd_tables.proofs.StagedLemmas.{some_or_none, one_value, new_entry_at, new_entry_plain, entry_own, all_at}
use Rattle.cckd_tables.proofs.WrittenLemmas.{group_low, part_stays}
use Rattle.cckd_tables.proofs.BlendLemmas.{blend_entry, entry_written, new_table_stays}
use Rattle.cckd_tables.proofs.TableLoopLemmas.{Went, went_then}
use Rattle.cckd_tables.proofs.WordLoopLemmas.{one_more, all_words}
use Rattle.cckd_tables.proofs.PutOverLemmas.{with_put_own, with_put_other, put_over_next, part_overlaid}

pub entry_in_front : (ss : List StagedEntry) (n t : ℕ) (e : L2Entry) → entry_for t (take n ss) ≡ Some e → entry_for t ss ≡ Some e
entry_in_front [] zero t e h = h
entry_in_front [] (suc n) t e h = h
entry_in_front (s ∷ ss) zero t e h = absurd (cc h)
entry_in_front (s ∷ ss) (suc n) t e h = elim (cases_eq s.track t) [
  | inl same ↦ let k = eq-eqb s.track t same in
      cond-true (s.track == t) (Some s.entry) (entry_for t ss) k ∙ (sym (cond-true (s.track == t) (Some s.entry) (entry_for t (take n ss)) k) ∙ h)
  | inr other ↦ let k = ne_eqb s.track t other in
      cond-false (s.track == t) (Some s.entry) (entry_for t ss) k
      ∙ entry_in_front ss n t e (sym (cond-false (s.track == t) (Some s.entry) (entry_for t (take n ss)) k) ∙ h)
]

pub entry_before : (front : List StagedEntry) (s : StagedEntry) (t : ℕ) → s.track ≢ t → entry_for t (front ++ s ∷ []) ≡ entry_for t front
entry_before [] s t other = cond-false (s.track == t) (Some s.entry) None (ne_eqb s.track t other)
entry_before (x ∷ front) s t other = ap (λ (o : Option L2Entry). cond (x.track == t) (Some x.entry) o) (entry_before front s t other)

-- the first n and one more, where that one stands in the file, and the others stay
entries_by : (l : Layout) (was : List ℕ) (stages : Stages) (i : ℕ) (d : StagedEntry) (file next : List ℕ) → IsStrictlyIncreasing (staged_tracks stages.entries) → i < length stages.entries
    → AreEntriesWritten l was stages i file → Blend l was stages next → ((g : ℕ) → g < l.groups → word_at l next g ≡ word_at l file g)
    → entry_at l next (get_or stages.entries i d).track ≡ (get_or stages.entries i d).entry
    → ((u : ℕ) → u < track_count l.geo → (get_or stages.entries i d).track ≢ u → entry_at l next u ≡ entry_at l file u)
    → ((g : ℕ) → g < l.groups → (IsMoved g stages → ⊥) → IsPlace (word_at l was g)
    → bytes_at next (word_at l was g) 2048 ≡ with_put l.order g (get_or stages.entries i d) (bytes_at file (word_at l was g) 2048))
    → AreEntriesWritten l was stages (i + 1) next
entries_by l was stages i d file next order low h b words here others tables =
    let s = get_or stages.entries i d in
    let own = entry_own stages.entries i d order low in
    record {
      blend = b;
      words = λ g below. words g below ∙ h.words g below;
      entries = λ t e below staged. elim (cases_eq s.track t) [
        | inl same ↦
            let e_is : s.entry ≡ e = one_value (entry_for s.track stages.entries) s.entry e own (ap (λ (x : ℕ). entry_for x stages.entries) same ∙ entry_in_front stages.entries (i + 1) t e staged) in
            subst (λ (x : ℕ). entry_at l next x ≡ e) same (here ∙ e_is)
        | inr other ↦
            others t below other ∙ h.entries t e below
            (sym (entry_before (take i stages.entries) s t other) ∙ (sym (ap (entry_for t) (one_more stages.entries i d low)) ∙ staged))
      ];
      tables = λ g below not named.
          tables g below not named ∙ (ap (with_put l.order g s) (h.tables g below not named) ∙ sym (put_over_next l.order g stages.entries i d (bytes_at was (word_at l was g) 2048) low));
    }

-- an entry of a moved group stands in the new table
pub moved_entry : (l : Layout) (was : List ℕ) (stages : Stages) (file : List ℕ) (t : ℕ) → IsReady l stages was → Blend l was stages file → t < track_count l.geo → IsMoved (t / 256) stages
    → word_at l file (t / 256) ≡ new_word l stages was (t / 256) → entry_at l file t ≡ new_entry l stages was t
moved_entry l was stages file t ready b low moved word =
    ap (λ (w : ℕ). entry_by_word l file w t) word
    ∙ (by_table l file (new_word l stages was (t / 256)) t (ready.can_blend.places (t / 256) (group_low l t ready.layout low) moved)
    ∙ new_table_stays l stages was file t ready b low moved)

pub entries_skip : (l : Layout) (was : List ℕ) (stages : Stages) (i : ℕ) (d : StagedEntry) (file : List ℕ) → IsReady l stages was → IsStrictlyIncreasing (staged_tracks stages.entries)
    → AllByRecursion (λ s. s.track < track_count l.geo) stages.entries → i < length stages.entries → IsMoved ((get_or stages.entries i d).track / 256) stages
    → AreEntriesWritten l was stages i file → AreEntriesWritten l was stages (i + 1) file
entries_skip l was stages i d file ready order there low moved h =
    let s = get_or stages.entries i d in
    let inside : s.track < track_count l.geo = all_at (λ (x : StagedEntry). x.track < track_count l.geo) stages.entries i d there low in
    entries_by l was stages i d file file order low h h.blend (λ g below. refl)
    (moved_entry l was stages file s.track ready h.blend inside moved (h.words (s.track / 256) (group_low l s.track ready.layout inside))
    ∙ new_entry_at l stages was s.track s.entry (entry_own stages.entries i d order low))
    (λ u below other. refl)
    (λ g below not named. sym (with_put_other l.order g s (bytes_at file (word_at l was g) 2048) (λ same. not (subst (λ (n : ℕ). IsMoved n stages) same moved))))

-- the entry that is written goes into its table, and into no other
table_written : (l : Layout) (was : List ℕ) (stages : Stages) (s : StagedEntry) (file : List ℕ) → IsReady l stages was → s.track < track_count l.geo → IsPlace (word_at l was (s.track / 256))
    → length (entry_bytes l.order s.entry) ≡ 8 → Blend l was stages file → (g : ℕ) → g < l.groups → IsPlace (word_at l was g)
    → bytes_at (overlaid file (word_at l was (s.track / 256) + 8 * (s.track % 256)) (entry_bytes l.order s.entry)) (word_at l was g) 2048 ≡ with_put l.order g s (bytes_at file (word_at l was g) 2048)
table_written l was stages s file ready low place eight b g below named =
    let bytes = entry_bytes l.order s.entry in
    let w = word_at l was g in
    let v = word_at l was (s.track / 256) in
    let k = table_inside l (length was) g w (ready.image.words g below) named in
    elim (cases_eq (s.track / 256) g) [
      | inl same ↦
          ap (λ (n : ℕ). bytes_at (overlaid file (word_at l was n + 8 * (s.track % 256)) bytes) w 2048) same
          ∙ (part_overlaid file w 2048 (8 * (s.track % 256)) bytes (omega (arith, k.1, b.size)) (omega (arith, eight))
          ∙ sym (with_put_own l.order g s (bytes_at file w 2048) same))
      | inr other ↦
          part_stays file bytes (v + 8 * (s.track % 256)) 8 w 2048 eight (omega (arith, k.1, b.size))
          (inside_second w 2048 v 2048 (ready.image.tables_apart g (s.track / 256) below (group_low l s.track ready.layout low) (λ e. other (sym e)) named place) (v + 8 * (s.track % 256)) 8 (omega arith) (omega arith))
          ∙ sym (with_put_other l.order g s (bytes_at file w 2048) other)
    ]

pub entries_more : (l : Layout) (was : List ℕ) (stages : Stages) (i : ℕ) (d : StagedEntry) (file : List ℕ) → IsReady l stages was → IsStrictlyIncreasing (staged_tracks stages.entries)
    → AllByRecursion (λ s. s.track < track_count l.geo) stages.entries → i < length stages.entries → (IsMoved ((get_or stages.entries i d).track / 256) stages → ⊥)
    → IsEncoded l.order (get_or stages.entries i d).entry → AreEntriesWritten l was stages i file
    → AreEntriesWritten l was stages (i + 1)
    (overlaid file (word_at l was ((get_or stages.entries i d).track / 256) + 8 * ((get_or stages.entries i d).track % 256)) (entry_bytes l.order (get_or stages.entries i d).entry))
entries_more l was stages i d file ready order there low not encoded h =
    let s = get_or stages.entries i d in
    let bytes = entry_bytes l.order s.entry in
    let inside : s.track < track_count l.geo = all_at (λ (x : StagedEntry). x.track < track_count l.geo) stages.entries i d there low in
    let own = entry_own stages.entries i d order low in
    let k = ready.can_blend.tabled s.track inside (ap is_some own) not in
    let r = entry_written l was bytes stages file s.track s.entry ready inside own not encoded.size encoded.decoded h.blend in
    entries_by l was stages i d file (overlaid file (word_at l was (s.track / 256) + 8 * (s.track % 256)) bytes) order low h
    (blend_entry l was bytes stages file s.track s.entry ready inside own not encoded.size encoded.decoded h.blend) r.words r.here r.others
    (λ g below none named. table_written l was stages s file ready inside k.0 encoded.size h.blend g below named)

-- the first n entries are written, or stand in new tables
pub record EntriesSoFar (l : Layout) (slot : ℕ) (words : List ℕ) (stages : Stages) (n : ℕ) (old new : Seen) : Type 0 where
  pub stopped : (was : List ℕ) → IsReady l stages was → HasWords l words was → StopLeaves slot (Blend l was stages) old → StopsLeave slot (Blend l was stages) old new
  pub now : (was : List ℕ) → IsReady l stages was → HasWords l words was → Tells old
      → AreEntriesWritten l was stages 0 (file_of old.world slot) → AreEntriesWritten l was stages n (file_of new.world slot)
  pub went : Went slot old new

-- a stretch more
pub entries_stopped : (l : Layout) (slot : ℕ) (words : List ℕ) (stages : Stages) (n : ℕ) (old mid new : Seen) → (Tells old → Tells mid) → EntriesSoFar l slot words stages n old mid
    → ((was : List ℕ) → IsReady l stages was → HasWords l words was → StopLeaves slot (Blend l was stages) mid → StopsLeave slot (Blend l was stages) mid new)
    → (was : List ℕ) → IsReady l stages was → HasWords l words was → StopLeaves slot (Blend l was stages) old → StopsLeave slot (Blend l was stages) old new
entries_stopped l slot words stages n old mid new tells so step = λ was ready has each told.
    let Q : List Event → Type 0 = EachOutcome slot (Blend l was stages) in
    let first = so.stopped was ready has each told in
    joins Q old.world.events mid.world.events new.world.events first
    (step was ready has (λ here. at_end Q old.world.events mid.world.events first) (tells told))

pub entries_then : (l : Layout) (slot : ℕ) (words : List ℕ) (stages : Stages) (n m : ℕ) (old mid new : Seen) → (Tells old → Tells mid) → EntriesSoFar l slot words stages n old mid
    → ((was : List ℕ) → IsReady l stages was → HasWords l words was → StopLeaves slot (Blend l was stages) mid → StopsLeave slot (Blend l was stages) mid new)
    → ((was : List ℕ) → IsReady l stages was → HasWords l words was → Tells mid → AreEntriesWritten l was stages n (file_of mid.world slot) → AreEntriesWritten l was stages m (file_of new.world slot))
    → Went slot mid new → EntriesSoFar l slot words stages m old new
entries_then l slot words stages n m old mid new tells so stopped now went = record {
  stopped = entries_stopped l slot words stages n old mid new tells so stopped;
  now = λ was ready has told h. now was ready has (tells told) (so.now was ready has told h);
  went = went_then slot old mid new tells so.went went;
}

-- after the words no entry is written yet
pub words_entered : (l : Layout) (was : List ℕ) (stages : Stages) (file : List ℕ) → IsReady l stages was → AreWordsWritten l was stages (length stages.words) file → AreEntriesWritten l was stages 0 file
words_entered l was stages file ready h = record {
  blend = h.blend;
  words = all_words l was stages file h;
  entries = λ t e low staged. absurd (cc staged);
  tables = λ g low not named.
      let k = table_inside l (length was) g (word_at l was g) (ready.image.words g low) named in
      part_same was file (word_at l was g) 2048 k.1 (omega (arith, h.blend.size)) (λ i from to. h.behind i (omega (arith, k.0, from)) (omega (arith, to, k.1)));
}

-- and with all entries all is done
pub all_entered : (l : Layout) (was : List ℕ) (stages : Stages) (file : List ℕ) → AreEntriesWritten l was stages (length stages.entries) file → IsCommitted l was stages file
all_entered l was stages file h = record {
  blend = h.blend;
  words = h.words;
  entries = λ t low. elim (some_or_none (entry_for t stages.entries)) [
    | inl k ↦ h.entries t k.0 low (ap (entry_for t) (take_all (length stages.entries) stages.entries (omega arith)) ∙ k.1) ∙ sym (new_entry_at l stages was t k.0 k.1)
    | inr none ↦ elim (h.blend.entries t low) [
      | inl e ↦ e ∙ sym (new_entry_plain l stages was t none)
      | inr e ↦ e
    ]
  ];
  tables = λ g low not named.
      h.tables g low not named
      ∙ ap (λ (ss : List StagedEntry). put_over l.order g ss (bytes_at was (word_at l was g) 2048)) (take_all (length stages.entries) stages.entries (omega arith));
}

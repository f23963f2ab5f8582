-- Several entries in one write: what it makes of a file is what one write after another would.
use Rattle.std.proofs.Common.{◌≡◌, ℕ, zero, suc, ◌+◌, ◌-◌, ◌*◌, ◌/◌, ◌%◌, ◌<◌, ◌≤◌, List, [], ◌∷◌, ◌++◌, length, take, drop, replicate, get_or, Result, Ok, refl, sym, ◌∙◌, ap, subst, inl, inr, arith}
use Rattle.std.specs.Prelude.{is_some, slice_index}
use Rattle.std.specs.List.{AllByRecursion}
use Rattle.std.specs.List.Sorted.{IsStrictlyIncreasing}
use Rattle.std.proofs.lemmas.List.{append_assoc, append-nil, take-append-drop, length-append, length-take, length-drop, length-map, get_or-map, take_at, drop_at, drop-drop}
use Rattle.std.proofs.Math.Seq.{drop-cons}
use Rattle.cckd_shelf.specs.declared.fault.Failed.{Failed}
use Rattle.cckd_shelf.specs.Files.{overlaid}
use Rattle.cckd_shelf.specs.World.{file_of}
use Rattle.cckd_shelf.specs.Seen.{Seen, Tells}
use Rattle.cckd_shelf.specs.Outcomes.{WriteLeaves, EachOutcome}
use Rattle.cckd_shelf.specs.Stops.{StopLeaves, StopsLeave}
use Rattle.cckd_shelf.proofs.MomentLemmas.{at_once}
use Rattle.cckd_base.specs.declared.order.Order.{Order}
use Rattle.cckd_base.specs.declared.geometry.Layout.{Layout}
use Rattle.cckd_base.specs.Geometry.{track_count}
use Rattle.cckd_base.specs.Entry.{word_at, entry_bytes}
use Rattle.cckd_base.specs.Image.{IsPlace}
use Rattle.cckd_base.proofs.PlaceLemmas.{table_inside}
use Rattle.cckd_tables.specs.declared.staged.StagedEntry.{StagedEntry}
use Rattle.cckd_tables.specs.Staging.{Stages, IsMoved}
use Rattle.cckd_tables.specs.Tables.{HasWords}
use Rattle.cckd_tables.specs.Blend.{Blend}
use Rattle.cckd_tables.specs.Commit.{staged_tracks}
use Rattle.cckd_tables.specs.Cells.{OneWrite, IsReady, IsEncoded, IsRun, cell, run_bytes, AreEntriesWritten}
use Rattle.cckd_tables.proofs.StagedLemmas.{entry_own, all_at}
use Rattle.cckd_tables.proofs.WrittenLemmas.{group_low}
use Rattle.cckd_tables.proofs.BlendLemmas.{blend_entry}
use Rattle.cckd_tables.proofs.TableLoopLemmas.{stop_then, file_then}
use Rattle.cckd_tables.proofs.EntryLoopLemmas.{entries_more}

-- ---- two writes side by side

-- a write inside a file
pub overlaid_inside : (file : List ℕ) (at : ℕ) (bytes : List ℕ) → at ≤ length file → overlaid file at bytes ≡ take at file ++ (bytes ++ drop (at + length bytes) file)
unfolding overlaid
overlaid_inside file at bytes within =
    let none : at - length file ≡ 0 = omega arith in
    ap (λ (s : List ℕ). take at s ++ (bytes ++ drop (at + length bytes) file))
    (ap (λ (n : ℕ). file ++ replicate n 0) none ∙ append-nil file)

overlaid_nothing : (file : List ℕ) (at : ℕ) → at ≤ length file → overlaid file at [] ≡ file
overlaid_nothing file at within =
    overlaid_inside file at [] within ∙ (let e : at + 0 ≡ at = omega arith in ap (λ (n : ℕ). take at file ++ drop n file) e ∙ take-append-drop at file)

pub overlaid_twice : (file : List ℕ) (at mid : ℕ) (a b : List ℕ) → mid ≡ at + length a → mid ≤ length file → overlaid (overlaid file at a) mid b ≡ overlaid file at (a ++ b)
overlaid_twice file at mid a b behind within =
    let one = overlaid_inside file at a (omega (arith, behind, within)) in
    let front = take at file ++ a in
    let first : overlaid file at a ≡ front ++ drop (at + length a) file = one ∙ sym (append_assoc (take at file) a (drop (at + length a) file)) in
    let size : length front ≡ mid = omega (arith, length-append (take at file) a, length-take at file, behind, within) in
    let whole : mid ≤ length (overlaid file at a) = omega (arith, ap length first, length-append front (drop (at + length a) file), size) in
    let same : at + length a + length b ≡ at + length (a ++ b) = omega (arith, length-append a b) in
    let rest : drop (mid + length b) (overlaid file at a) ≡ drop (at + length (a ++ b)) file =
    sym (drop-drop (length b) mid (overlaid file at a))
    ∙ (ap (λ (s : List ℕ). drop (length b) (drop mid s)) first
    ∙ (ap (drop (length b)) (drop_at front (drop (at + length a) file) mid size)
    ∙ (drop-drop (length b) (at + length a) file ∙ ap (λ (n : ℕ). drop n file) same))) in
    overlaid_inside (overlaid file at a) mid b whole
    ∙ (ap (λ (s : List ℕ). s ++ (b ++ drop (mid + length b) (overlaid file at a))) (ap (take mid) first ∙ take_at front (drop (at + length a) file) mid size)
    ∙ (ap (λ (s : List ℕ). front ++ (b ++ s)) rest
    ∙ (append_assoc (take at file) a (b ++ drop (at + length (a ++ b)) file)
    ∙ (ap (λ (s : List ℕ). take at file ++ s) (sym (append_assoc a b (drop (at + length (a ++ b)) file)))
    ∙ sym (overlaid_inside file at (a ++ b) (omega (arith, behind, within)))))))

-- ---- a run of entries

-- the run without its first entry
run_split : (entries : List StagedEntry) (i k : ℕ) (d : StagedEntry) → i < length entries → take (suc k) (drop i entries) ≡ get_or entries i d ∷ take k (drop (i + 1) entries)
run_split entries i k d low =
    let one : suc i ≡ i + 1 = omega arith in
    ap (take (suc k)) (drop-cons entries i d low) ∙ ap (λ (n : ℕ). get_or entries i d ∷ take k (drop n entries)) one

module _ (l : Layout) (was : List ℕ) (stages : Stages) (d : StagedEntry) (g : ℕ) (ready : IsReady l stages was) (order : IsStrictlyIncreasing (staged_tracks stages.entries))
    (there : AllByRecursion (λ s. s.track < track_count l.geo) stages.entries) (not : IsMoved g stages → ⊥) (within : word_at l was g + 2048 ≤ length was) where
  abbrev bytes_of_run : ℕ → ℕ → List ℕ
  bytes_of_run i k = run_bytes l.order (take k (drop i stages.entries))

  -- where the entry of the first track of a run, the c-th of its group, goes
  abbrev place_of_run : ℕ → ℕ
  place_of_run c = word_at l was g + 8 * c

  -- what one entry and the rest of the run make of a file
  run_joins : (P : List ℕ → Type 0) (i k c : ℕ) (file : List ℕ) → length file ≡ length was → i < length stages.entries → c + suc k ≤ 256
      → length (entry_bytes l.order (get_or stages.entries i d).entry) ≡ 8
      → P (overlaid (overlaid file (place_of_run c) (entry_bytes l.order (get_or stages.entries i d).entry)) (place_of_run (c + 1)) (bytes_of_run (i + 1) k))
      → P (overlaid file (place_of_run c) (bytes_of_run i (suc k)))
  run_joins P i k c file size low few eight h =
      let e = entry_bytes l.order (get_or stages.entries i d).entry in
      subst (λ (bytes : List ℕ). P (overlaid file (place_of_run c) bytes)) (sym (ap (run_bytes l.order) (run_split stages.entries i k d low)))
      (subst P (overlaid_twice file (place_of_run c) (place_of_run (c + 1)) e (bytes_of_run (i + 1) k) (omega (arith, eight)) (omega (arith, few, within, size))) h)

  run_nothing : (P : List ℕ → Type 0) (c : ℕ) (file : List ℕ) → length file ≡ length was → c ≤ 256 → P file → P (overlaid file (place_of_run c) [])
  run_nothing P c file size few h = subst P (sym (overlaid_nothing file (place_of_run c) (omega (arith, few, within, size)))) h

  -- the tracks of a run, the first one the c-th of the group
  abbrev AreCounted : ℕ → ℕ → ℕ → Type 0
  AreCounted i k c = (j : ℕ) → j < k → (get_or stages.entries (i + j) d).track ≡ 256 * g + c + j

  next_counted : (i k c : ℕ) → AreCounted i (suc k) c → AreCounted (i + 1) k (c + 1)
  next_counted i k c h = λ j low.
      let e : i + suc j ≡ i + 1 + j = omega arith in
      subst (λ (n : ℕ). (get_or stages.entries n d).track ≡ 256 * g + (c + 1) + j) e (omega (arith, h (suc j) (omega (arith, low))))

  first_counted : (i k c : ℕ) → AreCounted i (suc k) c → (get_or stages.entries i d).track ≡ 256 * g + c
  first_counted i k c h =
      let e : i + 0 ≡ i = omega arith in
      subst (λ (n : ℕ). (get_or stages.entries n d).track ≡ 256 * g + c) e (omega (arith, h 0 (omega arith)))

  -- a write of a run keeps the blend
  pub run_blend : (k i c : ℕ) (file : List ℕ) → i + k ≤ length stages.entries → c + k ≤ 256 → AreCounted i k c
      → AllByRecursion (λ s. IsEncoded l.order s.entry) (take k (drop i stages.entries))
      → Blend l was stages file → Blend l was stages (overlaid file (place_of_run c) (bytes_of_run i k))
  run_blend zero i c file low few counted encoded b = run_nothing (Blend l was stages) c file b.size (omega (arith, few)) b
  run_blend (suc k) i c file low few counted encoded b =
      let s = get_or stages.entries i d in
      let inside : i < length stages.entries = omega (arith, low) in
      let each = subst (AllByRecursion (λ (x : StagedEntry). IsEncoded l.order x.entry)) (run_split stages.entries i k d inside) encoded in
      let first = first_counted i k c counted in
      let group : s.track / 256 ≡ g = omega (arith, first, few) in
      let cell : s.track % 256 ≡ c = omega (arith, first, few) in
      let place : word_at l was (s.track / 256) + 8 * (s.track % 256) ≡ place_of_run c = ap (λ (n : ℕ). word_at l was n + 8 * (s.track % 256)) group ∙ ap (λ (n : ℕ). word_at l was g + 8 * n) cell in
      let one : Blend l was stages (overlaid file (place_of_run c) (entry_bytes l.order s.entry)) =
      subst (λ (n : ℕ). Blend l was stages (overlaid file n (entry_bytes l.order s.entry))) place
      (blend_entry l was (entry_bytes l.order s.entry) stages file s.track s.entry ready (all_at (λ (x : StagedEntry). x.track < track_count l.geo) stages.entries i d there inside)
      (entry_own stages.entries i d order inside) (λ moved. not (subst (λ (n : ℕ). IsMoved n stages) group moved)) each.0.size each.0.decoded b) in
      run_joins (Blend l was stages) i k c file b.size inside few each.0.size
      (run_blend k (i + 1) (c + 1) (overlaid file (place_of_run c) (entry_bytes l.order s.entry)) (omega (arith, low)) (omega (arith, few)) (next_counted i k c counted) each.1 one)

  -- and writes its entries
  pub run_entries : (k i c : ℕ) (file : List ℕ) → i + k ≤ length stages.entries → c + k ≤ 256 → AreCounted i k c
      → AllByRecursion (λ s. IsEncoded l.order s.entry) (take k (drop i stages.entries))
      → AreEntriesWritten l was stages i file → AreEntriesWritten l was stages (i + k) (overlaid file (place_of_run c) (bytes_of_run i k))
  run_entries zero i c file low few counted encoded h =
      let same : i ≡ i + 0 = omega arith in
      subst (λ (n : ℕ). AreEntriesWritten l was stages n (overlaid file (place_of_run c) [])) same (run_nothing (AreEntriesWritten l was stages i) c file h.blend.size (omega (arith, few)) h)
  run_entries (suc k) i c file low few counted encoded h =
      let s = get_or stages.entries i d in
      let inside : i < length stages.entries = omega (arith, low) in
      let each = subst (AllByRecursion (λ (x : StagedEntry). IsEncoded l.order x.entry)) (run_split stages.entries i k d inside) encoded in
      let first = first_counted i k c counted in
      let group : s.track / 256 ≡ g = omega (arith, first, few) in
      let cell : s.track % 256 ≡ c = omega (arith, first, few) in
      let place : word_at l was (s.track / 256) + 8 * (s.track % 256) ≡ place_of_run c = ap (λ (n : ℕ). word_at l was n + 8 * (s.track % 256)) group ∙ ap (λ (n : ℕ). word_at l was g + 8 * n) cell in
      let one : AreEntriesWritten l was stages (i + 1) (overlaid file (place_of_run c) (entry_bytes l.order s.entry)) =
      subst (λ (n : ℕ). AreEntriesWritten l was stages (i + 1) (overlaid file n (entry_bytes l.order s.entry))) place
      (entries_more l was stages i d file ready order there inside (λ moved. not (subst (λ (n : ℕ). IsMoved n stages) group moved)) each.0 h) in
      let rest = run_entries k (i + 1) (c + 1) (overlaid file (place_of_run c) (entry_bytes l.order s.entry)) (omega (arith, low)) (omega (arith, few)) (next_counted i k c counted) each.1 one in
      let count : i + 1 + k ≡ i + suc k = omega arith in
      subst (λ (n : ℕ). AreEntriesWritten l was stages n (overlaid file (place_of_run c) (bytes_of_run i (suc k)))) count
      (run_joins (AreEntriesWritten l was stages (i + 1 + k)) i k c file h.blend.size inside few each.0.size rest)

-- ---- the call that writes a run

pub run_length : (order : Order) (run : List StagedEntry) → AllByRecursion (λ s. IsEncoded order s.entry) run → length (run_bytes order run) ≡ 8 * length run
run_length order [] h = refl
run_length order (s ∷ ss) h = omega (arith, length-append (entry_bytes order s.entry) (run_bytes order ss), h.0.size, run_length order ss h.1)

module _ (l : Layout) (slot : ℕ) (words : List ℕ) (stages : Stages) (d : StagedEntry) (first k at : ℕ) (run : List StagedEntry) (old new : Seen)
    (order : IsStrictlyIncreasing (staged_tracks stages.entries)) (there : AllByRecursion (λ s. s.track < track_count l.geo) stages.entries)
    (counted : IsRun (staged_tracks stages.entries) first k at) (place : at ≡ cell words (get_or stages.entries first d).track) (not : IsMoved ((get_or stages.entries first d).track / 256) stages → ⊥)
    (part : run ≡ take k (drop first stages.entries)) (encoded : AllByRecursion (λ s. IsEncoded l.order s.entry) run) where
  abbrev first_track : ℕ
  first_track = (get_or stages.entries first d).track

  low : first + k ≤ length stages.entries
  low = omega (arith, counted.within, length-map stages.entries (λ (s : StagedEntry). s.track))

  track_at : (i : ℕ) → first + i < length stages.entries → slice_index (staged_tracks stages.entries) (first + i) ≡ (get_or stages.entries (first + i) d).track
  track_at i below = get_or-map (λ (s : StagedEntry). s.track) stages.entries (first + i) d 0 below

  track_first : slice_index (staged_tracks stages.entries) first ≡ first_track
  track_first = get_or-map (λ (s : StagedEntry). s.track) stages.entries first d 0 (omega (arith, low, counted.some))

  inside : first_track < track_count l.geo
  inside = all_at (λ (s : StagedEntry). s.track < track_count l.geo) stages.entries first d there (omega (arith, low, counted.some))

  neighbours : (j : ℕ) → j < k → (get_or stages.entries (first + j) d).track ≡ 256 * (first_track / 256) + first_track % 256 + j
  neighbours j below =
      omega (arith, track_at j (omega (arith, low, below)), counted.neighbours j below, track_first)

  few : first_track % 256 + k ≤ 256
  few = omega (arith, counted.group, track_first)

  size : length (run_bytes l.order run) ≡ 8 * k
  size = run_length l.order run encoded
      ∙ ap (λ (n : ℕ). 8 * n) (ap length part ∙ (length-take k (drop first stages.entries) ∙ (let e = length-drop first stages.entries in omega (arith, e, low))))

  module _ (was : List ℕ) (ready : IsReady l stages was) (has : HasWords l words was) where
    group : first_track / 256 < l.groups
    group = group_low l first_track ready.layout inside

    table : IsPlace (word_at l was (first_track / 256)) × (word_at l was (first_track / 256) % 8 ≡ 0)
    table = ready.can_blend.tabled first_track inside (ap is_some (entry_own stages.entries first d order (omega (arith, low, counted.some)))) not

    within : word_at l was (first_track / 256) + 2048 ≤ length was
    within = (table_inside l (length was) (first_track / 256) (word_at l was (first_track / 256)) (ready.image.words (first_track / 256) group) table.0).1

    goes : at ≡ word_at l was (first_track / 256) + 8 * (first_track % 256)
    goes = place ∙ sym (ap (λ (w : ℕ). w + 8 * (first_track % 256)) (has (first_track / 256) group))

    pub run_keeps : (file : List ℕ) → Blend l was stages file → Blend l was stages (overlaid file at (run_bytes l.order run))
    run_keeps file b =
        subst (λ (n : ℕ). Blend l was stages (overlaid file n (run_bytes l.order run))) (sym goes)
        (subst (λ (r : List StagedEntry). Blend l was stages (overlaid file (word_at l was (first_track / 256) + 8 * (first_track % 256)) (run_bytes l.order r))) (sym part)
        (run_blend l was stages d (first_track / 256) ready order there not within k first (first_track % 256) file low few neighbours
        (subst (AllByRecursion (λ (s : StagedEntry). IsEncoded l.order s.entry)) part encoded) b))

    pub run_writes : (file : List ℕ) → AreEntriesWritten l was stages first file → AreEntriesWritten l was stages (first + k) (overlaid file at (run_bytes l.order run))
    run_writes file h =
        subst (λ (n : ℕ). AreEntriesWritten l was stages (first + k) (overlaid file n (run_bytes l.order run))) (sym goes)
        (subst (λ (r : List StagedEntry). AreEntriesWritten l was stages (first + k) (overlaid file (word_at l was (first_track / 256) + 8 * (first_track % 256)) (run_bytes l.order r))) (sym part)
        (run_entries l was stages d (first_track / 256) ready order there not within k first (first_track % 256) file low few neighbours
        (subst (AllByRecursion (λ (s : StagedEntry). IsEncoded l.order s.entry)) part encoded) h))

    -- inside a sector, so that the write is made or not
    pub run_left : (before file : List ℕ) → Blend l was stages before → WriteLeaves at (run_bytes l.order run) before file → Blend l was stages file
    run_left before file b leaves =
        let aligned : at % 8 ≡ 0 = omega (arith, goes, table.1) in
        elim (leaves.whole (omega (arith, size, counted.sector aligned))) [
          | inl same ↦ subst (Blend l was stages) (sym same) b
          | inr made ↦ subst (Blend l was stages) (sym made) (run_keeps before b)
        ]

  pub run_stopped : (result : Result (Unit {0}) Failed) → OneWrite slot at (run_bytes l.order run) result old new
      → (was : List ℕ) → IsReady l stages was → HasWords l words was → StopLeaves slot (Blend l was stages) old → StopsLeave slot (Blend l was stages) old new
  run_stopped result one = λ was ready has each.
      stop_then (Blend l was stages) slot at (run_bytes l.order run) old old new result (λ told. told) one (run_left was ready has)
      (λ told. at_once (EachOutcome slot (Blend l was stages)) old.world.events (each told))

  pub run_now : OneWrite slot at (run_bytes l.order run) (Ok tt) old new
      → (was : List ℕ) → IsReady l stages was → HasWords l words was → Tells old → AreEntriesWritten l was stages first (file_of old.world slot)
      → AreEntriesWritten l was stages (first + k) (file_of new.world slot)
  run_now one = λ was ready has told h.
      subst (AreEntriesWritten l was stages (first + k)) (sym (file_then slot at (run_bytes l.order run) old new one told)) (run_writes was ready has (file_of old.world slot) h)

-- the run, as it is taken of the staged entries
pub run_taken : (entries : List StagedEntry) (first k : ℕ) → take (first + k - first) (drop first entries) ≡ take k (drop first entries)
run_taken entries first k = let e : first + k - first ≡ k = omega arith in ap (λ (n : ℕ). take n (drop first entries)) e

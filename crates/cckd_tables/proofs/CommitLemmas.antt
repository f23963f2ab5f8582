-- A commit put together: its new tables and their sync, and then its words and entries.
use Rattle.std.proofs.Common.{◌≡◌, ℕ, ◌+◌, ◌*◌, ◌/◌, ◌%◌, ◌<◌, ◌≤◌, List, length, get_or, Some, Ok, sym, ◌∙◌, ap, subst, inl, inr, arith}
use Rattle.std.specs.Prelude.{is_some, slice_index}
use Rattle.std.specs.List.Sorted.{IsStrictlyIncreasing}
use Rattle.std.proofs.lemmas.List.{get_or-map, length-map}
use Rattle.cckd_shelf.specs.Events.{Event}
use Rattle.cckd_shelf.specs.World.{World, IsSure, file_of, after_sync}
use Rattle.cckd_shelf.specs.Seen.{Seen, Tells, Makes}
use Rattle.cckd_shelf.specs.Outcomes.{EachOutcome}
use Rattle.cckd_shelf.specs.Stops.{StopLeaves, StopsLeave}
use Rattle.cckd_shelf.proofs.MomentLemmas.{joins, at_end, weaker, sync_alone}
use Rattle.cckd_base.specs.declared.geometry.Layout.{Layout}
use Rattle.cckd_base.specs.Geometry.{IsLayout}
use Rattle.cckd_base.specs.Numbers.{bytes_at}
use Rattle.cckd_base.specs.Entry.{entry_of, entry_in_table}
use Rattle.cckd_base.specs.Image.{ShareNoByte}
use Rattle.cckd_tables.specs.declared.commit.Commit.{Commit}
use Rattle.cckd_tables.specs.declared.staged.StagedWord.{StagedWord}
use Rattle.cckd_tables.specs.Staging.{Stages, place_for, IsMoved, new_word}
use Rattle.cckd_tables.specs.Tables.{HasWords}
use Rattle.cckd_tables.specs.Blend.{Near, HasNewTables, Blend}
use Rattle.cckd_tables.specs.Commit.{staged_groups, staged_places, stages_of, AreInOrder, AreSpelled, IsSynced, CanCommit, IsCommit, MayCommit, IsNearOutcome, IsBlended, MayLeave, IsSyncedNow}
use Rattle.cckd_tables.specs.Cells.{IsReady, AreDisjoint, AreTablesWritten}
use Rattle.cckd_tables.proofs.FileLemmas.{part_of_part}
use Rattle.cckd_tables.proofs.StagedLemmas.{some_of, new_word_at, place_own, place_index, increasing_lt}
use Rattle.cckd_tables.proofs.BlendLemmas.{blend_self, new_table_bytes}
use Rattle.cckd_tables.proofs.FreshLemmas.{moved_low}

abbrev blank : StagedWord
blank = record { group = 0; pos = 0 }

-- ---- the new tables

-- the place of a new table is its group's new word
place_is : (l : Layout) (stages : Stages) (was : List ℕ) (i : ℕ) → IsStrictlyIncreasing (staged_groups stages.words) → i < length stages.words
    → IsMoved (slice_index (staged_groups stages.words) i) stages × (new_word l stages was (slice_index (staged_groups stages.words) i) ≡ slice_index (staged_places stages.words) i)
place_is l stages was i order low =
    let s = get_or stages.words i blank in
    let group : slice_index (staged_groups stages.words) i ≡ s.group = get_or-map (λ (x : StagedWord). x.group) stages.words i blank 0 low in
    let place : slice_index (staged_places stages.words) i ≡ s.pos = get_or-map (λ (x : StagedWord). x.pos) stages.words i blank 0 low in
    let own : place_for (slice_index (staged_groups stages.words) i) stages.words ≡ Some (slice_index (staged_places stages.words) i) =
    ap (λ (g : ℕ). place_for g stages.words) group ∙ (place_own stages.words i blank order low ∙ ap (λ (p : ℕ). Some p) (sym place)) in
    (ap is_some own, new_word_at l stages was (slice_index (staged_groups stages.words) i) (slice_index (staged_places stages.words) i) own)

pub disjoint_of : (l : Layout) (stages : Stages) (was : List ℕ) → IsStrictlyIncreasing (staged_groups stages.words) → CanCommit l stages was → AreDisjoint stages.words
disjoint_of l stages was order can = λ i j before low.
    let a = place_is l stages was i order (omega (arith, before, low)) in
    let b = place_is l stages was j order low in
    let less = increasing_lt (staged_groups stages.words) i j order before (omega (arith, low, length-map stages.words (λ (x : StagedWord). x.group))) in
    subst (λ (p : ℕ). ShareNoByte p 2048 (slice_index (staged_places stages.words) j) 2048) a.1
    (subst (λ (q : ℕ). ShareNoByte (new_word l stages was (slice_index (staged_groups stages.words) i)) 2048 q 2048) b.1
    (can.apart (slice_index (staged_groups stages.words) i) (slice_index (staged_groups stages.words) j) a.0 b.0 (λ same. omega (arith, less, same))))

-- where a moved group stands among the staged words
word_index : (l : Layout) (stages : Stages) (was : List ℕ) (g : ℕ) → IsMoved g stages
    → (i : ℕ) × (i < length stages.words) × (slice_index (staged_groups stages.words) i ≡ g) × (slice_index (staged_places stages.words) i ≡ new_word l stages was g)
word_index l stages was g moved =
    let p = some_of (place_for g stages.words) moved in
    let r = place_index stages.words g p.0 blank p.1 in (
      r.0,
      r.1,
      get_or-map (λ (x : StagedWord). x.group) stages.words r.0 blank 0 r.1 ∙ r.2,
      get_or-map (λ (x : StagedWord). x.pos) stages.words r.0 blank 0 r.1 ∙ (r.3 ∙ sym (new_word_at l stages was g p.0 p.1)),
    )

-- tables that are written as they were given, and that spell the new entries
pub has_new : (l : Layout) (stages : Stages) (was mid tables : List ℕ) → AreSpelled l stages was tables → AreTablesWritten stages.words tables (length stages.words) mid → HasNewTables l stages was mid
has_new l stages was mid tables spelled h = record {
  within = λ g moved.
      let r = word_index l stages was g moved in
      subst (λ (p : ℕ). p + 2048 ≤ length mid) r.3 (h.within r.0 r.1);
  spelled = λ t moved.
      let r = word_index l stages was (t / 256) moved in
      let p = slice_index (staged_places stages.words) r.0 in
      let c = 8 * (t % 256) in
      ap (λ (n : ℕ). entry_in_table l mid n t) (sym r.3)
      ∙ (ap (entry_of l.order) (sym (part_of_part mid p 2048 c 8 (omega arith)) ∙ (ap (λ (bytes : List ℕ). bytes_at bytes c 8) (h.bytes r.0 r.1) ∙ part_of_part tables (2048 * r.0) 2048 c 8 (omega arith)))
      ∙ spelled r.0 r.1 t (sym r.2));
}

-- behind the sync
pub synced_now : (c : Commit) (slot : ℕ) (old mid new : Seen) → IsCommit c → MayCommit c slot old → Tells mid → IsSure mid.world → Near (stages_of c) (file_of old.world slot) (file_of mid.world slot)
    → AreTablesWritten c.moved.now c.tables.now (length c.moved.now) (file_of mid.world slot) → Makes (after_sync slot) mid new
    → IsSyncedNow c.layout.now (stages_of c) slot (file_of old.world slot) new
synced_now c slot old mid new fits may told sure near written e =
    let l = c.layout.now in
    let stages = stages_of c in
    let was = file_of old.world slot in
    let same : file_of new.world slot ≡ file_of mid.world slot = ap (λ (w : World). file_of w slot) (e told) in
    record {
      sure = subst IsSure (sym (e told)) sure;
      synced = subst (IsSynced l stages was) (sym same) (may.can.synced (file_of mid.world slot) near (has_new l stages was (file_of mid.world slot) c.tables.now may.spelled written));
      alone = sync_alone slot mid new (Ok tt) e (λ here. sure) told;
    }

-- ---- and words and entries

pub ready_of : (l : Layout) (stages : Stages) (was mid : List ℕ) → IsLayout l → IsSynced l stages was mid → IsReady l stages mid
ready_of l stages was mid layout s = record { layout = layout; image = s.image; can_move = s.can_move; can_blend = s.can_blend }

pub words_of : (l : Layout) (words : List ℕ) (stages : Stages) (was mid : List ℕ) → IsSynced l stages was mid → HasWords l words was → HasWords l words mid
words_of l words stages was mid s has = λ g low. s.words g low ∙ has g low

pub begun : (l : Layout) (stages : Stages) (slot : ℕ) (was : List ℕ) (s : Seen) → IsSyncedNow l stages slot was s → StopLeaves slot (Blend l (file_of s.world slot) stages) s
begun l stages slot was s now = λ told file outcome.
    subst (Blend l (file_of s.world slot) stages) (sym (now.alone file outcome)) (blend_self l (file_of s.world slot) stages)

-- what a stop leaves before the sync
pub near_left : (l : Layout) (stages : Stages) (slot : ℕ) (was : List ℕ) (old new : Seen) → StopsLeave slot (IsNearOutcome stages slot old.world.events) old new
    → StopsLeave slot (MayLeave l stages slot old.world.events was) old new
near_left l stages slot was old new h = λ told.
    weaker (EachOutcome slot (IsNearOutcome stages slot old.world.events)) (EachOutcome slot (MayLeave l stages slot old.world.events was)) old.world.events new.world.events (λ es each file outcome. inl (each file outcome)) (h told)

-- and in all
pub all_left : (l : Layout) (stages : Stages) (slot : ℕ) (was : List ℕ) (old mid new : Seen) → (Tells old → Tells mid) → StopsLeave slot (IsNearOutcome stages slot old.world.events) old mid
    → IsSyncedNow l stages slot was mid → StopsLeave slot (Blend l (file_of mid.world slot) stages) mid new → StopsLeave slot (MayLeave l stages slot old.world.events was) old new
all_left l stages slot was old mid new tells first synced second = λ told.
    let Q : List Event → Type 0 = EachOutcome slot (MayLeave l stages slot old.world.events was) in
    joins Q old.world.events mid.world.events new.world.events (near_left l stages slot was old mid first told)
    (weaker (EachOutcome slot (Blend l (file_of mid.world slot) stages)) Q mid.world.events new.world.events (λ es each file outcome. inr (file_of mid.world slot, synced.synced, each file outcome)) (second (tells told)))

pub blended_at_end : (l : Layout) (stages : Stages) (slot : ℕ) (was : List ℕ) (mid new : Seen) → (Tells new → Tells mid) → IsSyncedNow l stages slot was mid
    → StopsLeave slot (Blend l (file_of mid.world slot) stages) mid new → StopLeaves slot (IsBlended l stages was) new
blended_at_end l stages slot was mid new tells synced h = λ told file outcome.
    (file_of mid.world slot, synced.synced, at_end (EachOutcome slot (Blend l (file_of mid.world slot) stages)) mid.world.events new.world.events (h (tells told)) file outcome)

-- the new tables stay as they were written
pub tables_stay : (l : Layout) (stages : Stages) (mid file tables : List ℕ) → IsReady l stages mid → AreInOrder l stages → Blend l mid stages file
    → AreTablesWritten stages.words tables (length stages.words) mid → AreTablesWritten stages.words tables (length stages.words) file
tables_stay l stages mid file tables ready order b h = record {
  within = λ i low. let k = h.within i low in omega (arith, k, b.size);
  bytes = λ i low.
      let k = place_is l stages mid i order.groups low in
      let there = moved_low l stages (slice_index (staged_groups stages.words) i) order k.0 in
      let stay = new_table_bytes l stages mid file (slice_index (staged_groups stages.words) i) ready b there k.0 in
      subst (λ (p : ℕ). bytes_at file p 2048 ≡ bytes_at mid p 2048) k.1 stay ∙ h.bytes i low;
}

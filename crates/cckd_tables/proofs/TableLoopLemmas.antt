-- Writing new tables one after another.
use Rattle.std.proofs.Common.{◌≡◌, ℕ, ◌+◌, ◌*◌, ◌<◌, ◌≤◌, List, length, take, drop, get_or, Result, Ok, refl, sym, ◌∙◌, ap, subst, inl, inr, arith}
use Rattle.std.specs.Prelude.{slice_index}
use Rattle.std.proofs.lemmas.Bool.{cases_lt}
use Rattle.std.proofs.lemmas.List.{get_or-map, length-take, length-drop}
use Rattle.cckd_shelf.specs.declared.fault.Failed.{Failed}
use Rattle.cckd_shelf.specs.Files.{overlaid}
use Rattle.cckd_shelf.specs.Events.{Event}
use Rattle.cckd_shelf.specs.World.{IsSure, file_of}
use Rattle.cckd_shelf.specs.Seen.{Seen, Tells, Called}
use Rattle.cckd_shelf.specs.Outcomes.{WriteLeaves, EachOutcome}
use Rattle.cckd_shelf.specs.Stops.{StopsLeave}
use Rattle.cckd_shelf.specs.Frame.{OnlyIn}
use Rattle.cckd_shelf.proofs.MomentLemmas.{wrote, joins, at_end}
use Rattle.cckd_shelf.proofs.OutcomeLemmas.{write_made, length_overlaid}
use Rattle.cckd_shelf.proofs.WorldLemmas.{now_wrote}
use Rattle.cckd_shelf.proofs.FrameLemmas.{spares_nothing, only_wrote, only_twice}
use Rattle.cckd_base.specs.Numbers.{bytes_at}
use Rattle.cckd_base.specs.Image.{ShareNoByte}
use Rattle.cckd_tables.specs.declared.staged.StagedEntry.{StagedEntry}
use Rattle.cckd_tables.specs.declared.staged.StagedWord.{StagedWord}
use Rattle.cckd_tables.specs.Staging.{Stages}
use Rattle.cckd_tables.specs.Blend.{Near}
use Rattle.cckd_tables.specs.Commit.{staged_places, IsNearOutcome}
use Rattle.cckd_tables.specs.Cells.{OneWrite, AreDisjoint, AreTablesWritten}
use Rattle.cckd_tables.proofs.StagedLemmas.{all_at}
use Rattle.cckd_tables.proofs.WrittenLemmas.{part_stays, part_written}

-- ---- a stretch of writes of a slot

-- what any number of writes that were Ok keep
pub record Went (slot : ℕ) (old new : Seen) : Type 0 where
  pub sure : Tells old → IsSure old.world → IsSure new.world
  pub others : OnlyIn slot old new
  pub counts : new.faults ≡ old.faults

pub went_nowhere : (slot : ℕ) (s : Seen) → Went slot s s
went_nowhere slot s = record { sure = λ told sure. sure; others = λ told. spares_nothing slot s.world; counts = refl }

-- one write more
pub write_others : (slot position : ℕ) (bytes : List ℕ) (old mid new : Seen) (result : Result (Unit {0}) Failed) → (Tells old → Tells mid)
    → OneWrite slot position bytes result mid new → Went slot old mid → OnlyIn slot old new
write_others slot position bytes old mid new result tells one went =
    only_twice slot old mid new tells went.others (only_wrote slot position bytes mid new result one.written one.torn)

pub went_more : (slot position : ℕ) (bytes : List ℕ) (old mid new : Seen) → (Tells old → Tells mid)
    → OneWrite slot position bytes (Ok tt) mid new → Went slot old mid → Went slot old new
went_more slot position bytes old mid new tells one went = record {
  sure = λ told sure. subst IsSure (sym (one.written (tells told))) (went.sure told sure);
  others = write_others slot position bytes old mid new (Ok tt) tells one went;
  counts = one.fails.still ∙ went.counts;
}

-- a stretch more
pub went_then : (slot : ℕ) (old mid new : Seen) → (Tells old → Tells mid) → Went slot old mid → Went slot mid new → Went slot old new
went_then slot old mid new tells first second = record {
  sure = λ told sure. second.sure (tells told) (first.sure told sure);
  others = only_twice slot old mid new tells first.others second.others;
  counts = second.counts ∙ first.counts;
}

-- what a stop leaves in a write, where writes before it left the same
pub stop_then : (P : List ℕ → Type 0) (slot position : ℕ) (bytes : List ℕ) (old mid new : Seen) (result : Result (Unit {0}) Failed) → (Tells old → Tells mid)
    → OneWrite slot position bytes result mid new → ((was file : List ℕ) → P was → WriteLeaves position bytes was file → P file)
    → StopsLeave slot P old mid → StopsLeave slot P old new
stop_then P slot position bytes old mid new result tells one step before = λ told.
    let Q : List Event → Type 0 = EachOutcome slot P in
    joins Q old.world.events mid.world.events new.world.events (before told)
    (wrote P P slot position bytes mid new result one.written one.torn (tells told) (at_end Q old.world.events mid.world.events (before told)) (λ was h. h) step)

-- the file after a write that was Ok
pub file_then : (slot position : ℕ) (bytes : List ℕ) (mid new : Seen) → OneWrite slot position bytes (Ok tt) mid new → Tells mid
    → file_of new.world slot ≡ overlaid (file_of mid.world slot) position bytes
file_then slot position bytes mid new one told = now_wrote slot position bytes mid.world new.world (one.written told)

-- ---- new tables

-- a new table that is written in whole, in part or not
pub near_left : (stages : Stages) (i : ℕ) (d : StagedWord) (table was old file : List ℕ) → i < length stages.words → length table ≡ 2048 → Near stages was old
    → WriteLeaves (get_or stages.words i d).pos table old file → Near stages was file
near_left stages i d table was old file low long near leaves = record {
  outside = λ k inside beside.
      elim (all_at (λ (s : StagedWord). ShareNoByte k 1 s.pos 2048) stages.words i d beside low) [
        | inl h ↦ leaves.before k (omega (arith, inside, near.no_shorter)) (omega (arith, h))
        | inr h ↦ leaves.behind k (omega (arith, inside, near.no_shorter)) (omega (arith, h, long))
      ] ∙ near.outside k inside beside;
  no_shorter = omega (arith, near.no_shorter, leaves.no_shorter);
  no_longer = λ n least all.
      let k = near.no_longer n least all in
      let e = all_at (λ (s : StagedWord). s.pos + 2048 ≤ n) stages.words i d all low in
      omega (arith, k, e, long, leaves.no_longer);
}

place_at : (words : List StagedWord) (i : ℕ) (d : StagedWord) → i < length words → slice_index (staged_places words) i ≡ (get_or words i d).pos
place_at words i d low = get_or-map (λ (s : StagedWord). s.pos) words i d 0 low

tables_more : (words : List StagedWord) (tables table file : List ℕ) (i : ℕ) (d : StagedWord) → AreDisjoint words → i < length words → table ≡ bytes_at tables (2048 * i) 2048 → length table ≡ 2048
    → AreTablesWritten words tables i file → AreTablesWritten words tables (i + 1) (overlaid file (get_or words i d).pos table)
tables_more words tables table file i d disjoint low same long h =
    let p = (get_or words i d).pos in
    let new = overlaid file p table in
    let here : slice_index (staged_places words) i ≡ p = place_at words i d low in
    let size = length_overlaid file p table in
    record {
      within = λ k below. elim (cases_lt k i) [
        | inl lt ↦ let b = h.within k lt in omega (arith, b, size)
        | inr ge ↦ let e : k ≡ i = omega (arith, below, ge) in
            subst (λ (n : ℕ). slice_index (staged_places words) n + 2048 ≤ length new) (sym e) (omega (arith, here, size, long))
      ];
      bytes = λ k below. elim (cases_lt k i) [
        | inl lt ↦
            part_stays file table p 2048 (slice_index (staged_places words) k) 2048 long (h.within k lt)
            (subst (λ (n : ℕ). ShareNoByte (slice_index (staged_places words) k) 2048 n 2048) here (disjoint k i lt low)) ∙ h.bytes k lt
        | inr ge ↦ let e : k ≡ i = omega (arith, below, ge) in
            subst (λ (n : ℕ). bytes_at new (slice_index (staged_places words) n) 2048 ≡ bytes_at tables (2048 * n) 2048) (sym e)
            (ap (λ (n : ℕ). bytes_at new n 2048) here ∙ (part_written file table p 2048 long ∙ same))
      ];
    }

-- the first n tables are written
pub record TablesSoFar (slot : ℕ) (words : List StagedWord) (tables : List ℕ) (n : ℕ) (old new : Seen) : Type 0 where
  pub stopped : (entries : List StagedEntry) → StopsLeave slot (IsNearOutcome (record { entries = entries; words = words }) slot old.world.events) old new
  pub near : (entries : List StagedEntry) → Tells old → Near (record { entries = entries; words = words }) (file_of old.world slot) (file_of new.world slot)
  pub now : Tells old → AreDisjoint words → AreTablesWritten words tables n (file_of new.world slot)
  pub went : Went slot old new
  pub calls : new.calls ≤ old.calls + n

pub tables_stopped : (slot : ℕ) (words : List StagedWord) (tables table : List ℕ) (i : ℕ) (d : StagedWord) (old mid new : Seen) (result : Result (Unit {0}) Failed) → (Tells old → Tells mid)
    → i < length words → length table ≡ 2048 → TablesSoFar slot words tables i old mid → OneWrite slot (get_or words i d).pos table result mid new
    → (entries : List StagedEntry) → StopsLeave slot (IsNearOutcome (record { entries = entries; words = words }) slot old.world.events) old new
tables_stopped slot words tables table i d old mid new result tells low long so one = λ entries.
    let stages : Stages = record { entries = entries; words = words } in
    stop_then (IsNearOutcome stages slot old.world.events) slot (get_or words i d).pos table old mid new result tells one
    (λ was file p leaves. (p.0, p.1, near_left stages i d table p.0 was file low long p.2 leaves)) (so.stopped entries)

pub tables_next : (slot : ℕ) (words : List StagedWord) (tables table : List ℕ) (i : ℕ) (d : StagedWord) (old mid new : Seen) → (Tells old → Tells mid)
    → i < length words → length table ≡ 2048 → table ≡ bytes_at tables (2048 * i) 2048 → TablesSoFar slot words tables i old mid → OneWrite slot (get_or words i d).pos table (Ok tt) mid new → Called mid new
    → TablesSoFar slot words tables (i + 1) old new
tables_next slot words tables table i d old mid new tells low long same so one called =
    let p = (get_or words i d).pos in
    record {
      stopped = tables_stopped slot words tables table i d old mid new (Ok tt) tells low long so one;
      near = λ entries told.
          let stages : Stages = record { entries = entries; words = words } in
          subst (Near stages (file_of old.world slot)) (sym (file_then slot p table mid new one (tells told)))
          (near_left stages i d table (file_of old.world slot) (file_of mid.world slot) (overlaid (file_of mid.world slot) p table) low long (so.near entries told) (write_made p table (file_of mid.world slot)));
      now = λ told disjoint.
          subst (AreTablesWritten words tables (i + 1)) (sym (file_then slot p table mid new one (tells told)))
          (tables_more words tables table (file_of mid.world slot) i d disjoint low same long (so.now told disjoint));
      went = went_more slot p table old mid new tells one so.went;
      calls = (let c = so.calls in let d = called.once in omega arith);
    }

-- one of the tables, as the loop takes it
pub table_part : (tables : List ℕ) (i at n : ℕ) → at ≡ 2048 * i → n ≡ 2048 → take n (drop at tables) ≡ bytes_at tables (2048 * i) 2048
table_part tables i at n place size = ap (λ (k : ℕ). take n (drop k tables)) place ∙ ap (λ (k : ℕ). take k (drop (2048 * i) tables)) size

pub table_long : (tables : List ℕ) (i count : ℕ) → length tables ≡ 2048 * count → i < count → length (bytes_at tables (2048 * i) 2048) ≡ 2048
table_long tables i count size low = omega (arith, length-take 2048 (drop (2048 * i) tables), length-drop (2048 * i) tables, size, low)

-- What each step of laying a file leaves.
use Rattle.std.proofs.Common.{◌≡◌, ◌==◌, true, ℕ, zero, suc, List, [], ◌++◌, length, replicate, Result, OnOk, OnErr, refl, sym, ◌∙◌, ap, subst, inl}
use Rattle.std.specs.List.{list_all}
use Rattle.std.proofs.lemmas.List.{length-replicate}
use Rattle.cckd_shelf.specs.declared.fault.Failed.{Failed}
use Rattle.cckd_shelf.specs.Files.{overlaid}
use Rattle.cckd_shelf.specs.World.{World, file_of, after_write, after_torn, after_cut, after_half_cut, after_sync}
use Rattle.cckd_shelf.specs.Seen.{Seen, Tells, Stays, Makes, MayMake}
use Rattle.cckd_shelf.specs.Stops.{StopsLeave}
use Rattle.cckd_shelf.specs.Outcomes.{WriteLeaves, IsOutcome, MayHold, EachOutcome, EachHeld}
use Rattle.cckd_shelf.proofs.OutcomeLemmas.{write_not_made, sync_settles, held_cut, held_is_outcome, now_is_outcome}
use Rattle.cckd_shelf.proofs.MomentLemmas.{wrote, then_synced, held_wrote, cut_off, joins, weaker, at_end}
use Rattle.cckd_make.specs.Making.{IsAbsent, IsAbsentOr, StopsAbsent, StopsWithout, HasOnly, IsWritten, IsPutOver}
use Rattle.cckd_make.proofs.AbsentLemmas.{IsBlank, empty_absent, blanked, rest_absent, put_first, put_behind, put_front, fronted}

pub put_stopped : (slot position : ℕ) (bytes : List ℕ) (old new : Seen) (result : Result (Unit {0}) Failed)
    → OnOk result (Makes (after_write slot position bytes) old new) → OnErr result (MayMake (after_torn slot position bytes) old new)
    → StopsLeave slot (IsWritten old.world.events slot position bytes) old new
put_stopped slot position bytes old new result ok err = λ told.
    wrote (IsOutcome old.world.events slot) (IsWritten old.world.events slot position bytes) slot position bytes old new result ok err told
    (λ file h. h) (λ was h. (was, h, write_not_made position bytes was)) (λ was file h leaves. (was, h, leaves))

pub put_synced : (slot position : ℕ) (bytes : List ℕ) (old mid new : Seen) (wrote-it synced-it : Result (Unit {0}) Failed)
    → (Tells old → Tells mid)
    → OnOk wrote-it (Makes (after_write slot position bytes) old mid) → OnErr wrote-it (MayMake (after_torn slot position bytes) old mid)
    → OnOk synced-it (Makes (after_sync slot) mid new) → OnErr synced-it (Stays mid new)
    → StopsLeave slot (IsWritten old.world.events slot position bytes) old new
put_synced slot position bytes old mid new wrote-it synced-it tells ok err done kept = λ told.
    then_synced (IsWritten old.world.events slot position bytes) slot slot old mid new synced-it done kept (tells told)
    (put_stopped slot position bytes old mid wrote-it ok err told)

-- what may be held after a write that was Ok is what its sync leaves
pub put_left : (slot position : ℕ) (bytes : List ℕ) (old mid new : Seen) → (Tells old → Tells mid)
    → Makes (after_write slot position bytes) old mid → Makes (after_sync slot) mid new
    → Tells old → EachOutcome slot (IsPutOver old.world.events slot position bytes) new.world.events
put_left slot position bytes old mid new tells made done = λ told.
    subst (λ (x : World). EachOutcome slot (IsPutOver old.world.events slot position bytes) x.events) (sym (done (tells told)))
    (sync_settles (IsPutOver old.world.events slot position bytes) slot mid.world.events
    (held_wrote (MayHold old.world.events slot) (IsPutOver old.world.events slot position bytes) slot position bytes old mid made told (λ file h. h) (λ was h. (was, h, refl))))

-- ---- an empty file with a first sector of zeros

all_zero : (n : ℕ) → list_all (λ b. b == 0) (replicate n 0) ≡ true
all_zero zero = refl
all_zero (suc n) = all_zero n

pub zeros_blank : IsBlank (replicate 512 0)
zeros_blank = record { long = length-replicate {A = ℕ} 512 0; all = all_zero 512 }

pub cut_stopped : (slot : ℕ) (old new : Seen) (result : Result (Unit {0}) Failed)
    → OnOk result (Makes (after_cut slot 0) old new) → OnErr result (MayMake (after_half_cut slot 0) old new) → StopsAbsent slot old new
cut_stopped slot old new result ok err = λ told each. cut_off IsAbsent IsAbsent slot 0 old new result ok err told each (λ was h. h) (λ was h. empty_absent was)

pub clear_stopped : (slot : ℕ) (zeros : List ℕ) (old mid new : Seen) → IsBlank zeros → (Tells old → Tells mid) → StopsAbsent slot old mid
    → StopsLeave slot (IsWritten mid.world.events slot 0 zeros) mid new → StopsAbsent slot old new
clear_stopped slot zeros old mid new b tells cut stopped = λ told each.
    let first = cut told each in
    let here = at_end (EachOutcome slot IsAbsent) old.world.events mid.world.events first in
    joins (EachOutcome slot IsAbsent) old.world.events mid.world.events new.world.events first
    (weaker (EachOutcome slot (IsWritten mid.world.events slot 0 zeros)) (EachOutcome slot IsAbsent) mid.world.events new.world.events
    (λ es h file outcome. let (was, before, leaves) = h file outcome in blanked zeros was file b (here was before) leaves)
    (stopped (tells told)))

pub clear_left : (slot : ℕ) (zeros : List ℕ) (old mid new : Seen) → (Tells old → Tells mid) → Makes (after_cut slot 0) old mid
    → (Tells mid → EachOutcome slot (IsPutOver mid.world.events slot 0 zeros) new.world.events)
    → Tells old → EachOutcome slot (λ f. f ≡ zeros) new.world.events
clear_left slot zeros old mid new tells made left = λ told file outcome.
    let (was, before, e) = left (tells told) file outcome in
    let empty : EachHeld slot (λ f. f ≡ []) mid.world.events =
    subst (λ (x : World). EachHeld slot (λ f. f ≡ []) x.events) (sym (made told))
    (held_cut (λ f. Unit {0}) (λ f. f ≡ []) slot 0 old.world.events (λ f h. tt) (λ f h. refl)) in
    e ∙ ap (λ (f : List ℕ). overlaid f 0 zeros) (empty was before) ∙ put_first zeros []

-- ---- all that stands behind it, and the first sector

pub rest_left : (slot : ℕ) (zeros rest : List ℕ) (old new : Seen) → IsBlank zeros → (Tells old → EachOutcome slot (λ f. f ≡ zeros) old.world.events)
    → (Tells old → EachOutcome slot (IsPutOver old.world.events slot 512 rest) new.world.events)
    → Tells old → EachOutcome slot (λ f. f ≡ zeros ++ rest) new.world.events
rest_left slot zeros rest old new b before left = λ told file outcome.
    let (was, held, e) = left told file outcome in
    e ∙ ap (λ (f : List ℕ). overlaid f 512 rest) (before told was (held_is_outcome old.world.events slot was held)) ∙ put_behind zeros rest 512 b.long

pub front_left : (slot : ℕ) (zeros front rest : List ℕ) (old new : Seen) → IsBlank zeros → length front ≡ 512
    → (Tells old → EachOutcome slot (λ f. f ≡ zeros ++ rest) old.world.events)
    → (Tells old → EachOutcome slot (IsPutOver old.world.events slot 0 front) new.world.events)
    → Tells old → HasOnly slot (front ++ rest) new.world
front_left slot zeros front rest old new b long before left = λ told.
    let all : EachOutcome slot (λ f. f ≡ front ++ rest) new.world.events = λ file outcome.
    let (was, held, e) = left told file outcome in
    e ∙ ap (λ (f : List ℕ). overlaid f 0 front) (before told was (held_is_outcome old.world.events slot was held)) ∙ put_front zeros front rest b.long long in
    record { now = all (file_of new.world slot) (now_is_outcome new.world.events slot); left = all }

-- ---- at each operation

absent_or : (whole file : List ℕ) → IsAbsent file → IsAbsentOr whole file
absent_or whole file h = inl h

pub without_clear : (slot : ℕ) (whole : List ℕ) (old new : Seen) → StopsAbsent slot old new → StopsWithout slot whole old new
without_clear slot whole old new stopped = λ told each.
    weaker (EachOutcome slot IsAbsent) (EachOutcome slot (IsAbsentOr whole)) old.world.events new.world.events
    (λ es h file outcome. absent_or whole file (h file outcome)) (stopped told each)

pub without_rest : (slot : ℕ) (zeros rest whole : List ℕ) (old mid new : Seen) → IsBlank zeros → (Tells old → Tells mid) → StopsWithout slot whole old mid
    → (Tells mid → EachOutcome slot (λ f. f ≡ zeros) mid.world.events) → StopsLeave slot (IsWritten mid.world.events slot 512 rest) mid new
    → StopsWithout slot whole old new
without_rest slot zeros rest whole old mid new b tells first before stopped = λ told each.
    joins (EachOutcome slot (IsAbsentOr whole)) old.world.events mid.world.events new.world.events (first told each)
    (weaker (EachOutcome slot (IsWritten mid.world.events slot 512 rest)) (EachOutcome slot (IsAbsentOr whole)) mid.world.events new.world.events
    (λ es h file outcome. let (was, held, leaves) = h file outcome in
    absent_or whole file (rest_absent zeros rest file b (subst (λ (f : List ℕ). WriteLeaves 512 rest f file) (before (tells told) was held) leaves)))
    (stopped (tells told)))

pub without_front : (slot : ℕ) (zeros front rest : List ℕ) (old mid new : Seen) → IsBlank zeros → length front ≡ 512 → (Tells old → Tells mid)
    → StopsWithout slot (front ++ rest) old mid
    → (Tells mid → EachOutcome slot (λ f. f ≡ zeros ++ rest) mid.world.events) → StopsLeave slot (IsWritten mid.world.events slot 0 front) mid new
    → StopsWithout slot (front ++ rest) old new
without_front slot zeros front rest old mid new b long tells first before stopped = λ told each.
    joins (EachOutcome slot (IsAbsentOr (front ++ rest))) old.world.events mid.world.events new.world.events (first told each)
    (weaker (EachOutcome slot (IsWritten mid.world.events slot 0 front)) (EachOutcome slot (IsAbsentOr (front ++ rest))) mid.world.events new.world.events
    (λ es h file outcome. let (was, held, leaves) = h file outcome in
    fronted zeros front rest file b long (subst (λ (f : List ℕ). WriteLeaves 0 front f file) (before (tells told) was held) leaves))
    (stopped (tells told)))

-- Versions in a row, one more at a time.
use Rattle.std.proofs.Common.{◌≡◌, ◌⊎◌, ℕ, zero, suc, ◌+◌, ◌<◌, ◌≤◌, List, [], ◌∷◌, length, take, get_or, refl, sym, ◌∙◌, ap, subst, inl, inr, arith}
use Rattle.std.proofs.lemmas.List.{take_all}
use Rattle.cckd_shelf.specs.Seen.{Seen, Tells}
use Rattle.cckd_shelf.specs.Frame.{OnlyIn}
use Rattle.cckd_shelf.specs.Stops.{StopLeaves, StopsLeave}
use Rattle.cckd_shelf.specs.Outcomes.{EachOutcome}
use Rattle.cckd_shelf.proofs.MomentLemmas.{at_once, joins, weaker}
use Rattle.cckd_shelf.proofs.FrameLemmas.{spares_nothing, only_twice}
use Rattle.cckd_record_example.specs.declared.updating.Version.{Version}
use Rattle.cckd_record_example.specs.Records.{Shows, ShowsEither, LieApart}
use Rattle.cckd_record_example.specs.Versions.{AreInTurn, ShowsOne, last_place, last_value}

-- the next one is apart from the value that is there
pub next_apart : (place : ℕ) (us : List Version) (i : ℕ) (d : Version) → AreInTurn place us → i < length us
    → LieApart (last_place place (take i us)) (get_or us i d).place
next_apart place [] i d h low = absurd (omega arith)
next_apart place (u ∷ us) zero d h low = h.0
next_apart place (u ∷ us) (suc i) d h low = next_apart u.place us i d h.1 (omega arith)

-- what was reached is one of the values
pub shows_reached : (place : ℕ) (old : List ℕ) (us : List Version) (i : ℕ) (file : List ℕ)
    → Shows (last_place place (take i us)) (last_value old (take i us)) file → ShowsOne place old us file
shows_reached place old [] zero file h = h
shows_reached place old [] (suc i) file h = h
shows_reached place old (u ∷ us) zero file h = inl h
shows_reached place old (u ∷ us) (suc i) file h = inr (shows_reached u.place u.value.items us i file h)

pub place_more : (place : ℕ) (us : List Version) (i : ℕ) (d : Version) → i < length us → last_place place (take (suc i) us) ≡ (get_or us i d).place
place_more place [] i d low = absurd (omega arith)
place_more place (u ∷ us) zero d low = refl
place_more place (u ∷ us) (suc i) d low = place_more u.place us i d (omega arith)

pub value_more : (old : List ℕ) (us : List Version) (i : ℕ) (d : Version) → i < length us → last_value old (take (suc i) us) ≡ (get_or us i d).value.items
value_more old [] i d low = absurd (omega arith)
value_more old (u ∷ us) zero d low = refl
value_more old (u ∷ us) (suc i) d low = value_more u.value.items us i d (omega arith)

-- the first i of them were written, and no call failed
pub record DoneSoFar (slot : ℕ) (vs : List Version) (i : ℕ) (start now : Seen) : Type 0 where
  pub stopped : (place : ℕ) (old : List ℕ) → AreInTurn place vs → StopLeaves slot (Shows place old) start → StopsLeave slot (ShowsOne place old vs) start now
  pub reached : (place : ℕ) (old : List ℕ) → AreInTurn place vs → StopLeaves slot (Shows place old) start
      → StopLeaves slot (Shows (last_place place (take i vs)) (last_value old (take i vs))) now
  pub others : OnlyIn slot start now
  pub still : now.faults ≡ start.faults

pub done_first : (slot : ℕ) (vs : List Version) (s : Seen) → DoneSoFar slot vs 0 s s
done_first slot vs s = record {
  stopped = λ place old turn each told. at_once (EachOutcome slot (ShowsOne place old vs)) s.world.events (λ file outcome. shows_reached place old vs 0 file (each told file outcome));
  reached = λ place old turn each. each;
  others = λ told. spares_nothing slot s.world;
  still = refl;
}

-- the stops of one update more
pub stopped_more : (slot : ℕ) (vs : List Version) (i : ℕ) (u : Version) (value : List ℕ) (start now next : Seen) → DoneSoFar slot vs i start now → i < length vs → u ≡ get_or vs i u
    → value ≡ u.value.items → (Tells start → Tells now)
    → ((place : ℕ) (old : List ℕ) → LieApart place u.place → StopLeaves slot (Shows place old) now → StopsLeave slot (ShowsEither place old u.place value) now next)
    → (place : ℕ) (old : List ℕ) → AreInTurn place vs → StopLeaves slot (Shows place old) start → StopsLeave slot (ShowsOne place old vs) start next
stopped_more slot vs i u value start now next h low at is tells step place old turn each told =
    let apart : LieApart (last_place place (take i vs)) u.place =
    subst (λ (v : Version). LieApart (last_place place (take i vs)) v.place) (sym at) (next_apart place vs i u turn low) in
    joins (EachOutcome slot (ShowsOne place old vs)) start.world.events now.world.events next.world.events (h.stopped place old turn each told)
    (weaker (EachOutcome slot (ShowsEither (last_place place (take i vs)) (last_value old (take i vs)) u.place value)) (EachOutcome slot (ShowsOne place old vs))
    now.world.events next.world.events
    (λ es left file outcome. elim (left file outcome) [
      | inl was ↦ shows_reached place old vs i file was
      | inr new ↦ shows_reached place old vs (suc i) file
          (subst (λ (p : ℕ). Shows p (last_value old (take (suc i) vs)) file) (sym (place_more place vs i u low ∙ ap (λ (v : Version). v.place) (sym at)))
          (subst (λ (v : List ℕ). Shows u.place v file) (is ∙ sym (value_more old vs i u low ∙ ap (λ (v : Version). v.value.items) (sym at))) new))
    ])
    (step (last_place place (take i vs)) (last_value old (take i vs)) apart (h.reached place old turn each) (tells told)))

pub done_more : (slot : ℕ) (vs : List Version) (i : ℕ) (u : Version) (value : List ℕ) (start now next : Seen) → DoneSoFar slot vs i start now → i < length vs → u ≡ get_or vs i u
    → value ≡ u.value.items → (Tells start → Tells now)
    → ((place : ℕ) (old : List ℕ) → LieApart place u.place → StopLeaves slot (Shows place old) now → StopsLeave slot (ShowsEither place old u.place value) now next)
    → ((place : ℕ) (old : List ℕ) → LieApart place u.place → StopLeaves slot (Shows place old) now → StopLeaves slot (Shows u.place value) next)
    → OnlyIn slot now next → next.faults ≡ now.faults → DoneSoFar slot vs (i + 1) start next
done_more slot vs i u value start now next h low at is tells step done others still = record {
  stopped = stopped_more slot vs i u value start now next h low at is tells step;
  reached = λ place old turn each told file outcome.
      let one : i + 1 ≡ suc i = omega arith in
      let apart : LieApart (last_place place (take i vs)) u.place =
      subst (λ (v : Version). LieApart (last_place place (take i vs)) v.place) (sym at) (next_apart place vs i u turn low) in
      let shows : Shows u.place value file = done (last_place place (take i vs)) (last_value old (take i vs)) apart (h.reached place old turn each) told file outcome in
      subst (λ (n : ℕ). Shows (last_place place (take n vs)) (last_value old (take n vs)) file) (sym one)
      (subst (λ (p : ℕ). Shows p (last_value old (take (suc i) vs)) file) (sym (place_more place vs i u low ∙ ap (λ (v : Version). v.place) (sym at)))
      (subst (λ (v : List ℕ). Shows u.place v file) (is ∙ sym (value_more old vs i u low ∙ ap (λ (v : Version). v.value.items) (sym at))) shows));
  others = only_twice slot start now next tells h.others others;
  still = still ∙ h.still;
}

-- all of them were written
pub done_all : (slot : ℕ) (vs : List Version) (i : ℕ) (start now : Seen) → DoneSoFar slot vs i start now → length vs ≤ i
    → (place : ℕ) (old : List ℕ) → AreInTurn place vs → StopLeaves slot (Shows place old) start → StopLeaves slot (Shows (last_place place vs) (last_value old vs)) now
done_all slot vs i start now h end place old turn each =
    subst (λ (us : List Version). StopLeaves slot (Shows (last_place place us) (last_value old us)) now) (take_all i vs end) (h.reached place old turn each)

-- What other slots keep: one event more of each kind, calls at Ok and at a failure at once, and several in a row.
use Rattle.std.proofs.Common.{◌≡◌, ℕ, cond, List, ◌∷◌, take, Option, Some, None, Result, Ok, Err, OnOk, OnErr, refl, sym, ◌∙◌, ap, subst, inl, inr}
use Rattle.std.specs.Option.{option_map}
use Rattle.std.specs.Str.{bytes_eq}
use Rattle.std.proofs.lemmas.Bool.{cond-false}
use Rattle.cckd_shelf.specs.declared.fault.Failed.{Failed}
use Rattle.cckd_shelf.specs.Files.{overlaid}
use Rattle.cckd_shelf.specs.Events.{Event, Written, Torn, Cut, HalfCut, Synced, name_of, goes_by, is_about, file_now}
use Rattle.cckd_shelf.specs.World.{World, file_of, with_file, with_present, after_write, after_torn, after_cut, after_half_cut, after_sync}
use Rattle.cckd_shelf.specs.Seen.{Seen, Tells, Stays, Makes, MayMake}
use Rattle.cckd_shelf.specs.Outcomes.{IsOutcome, EachOutcome, OthersStill, AtEach}
use Rattle.cckd_shelf.specs.Frame.{KeepNames, SparesOthers, OnlyIn}
use Rattle.cckd_shelf.proofs.NameLemmas.{about_other, texts_differ}
use Rattle.cckd_shelf.proofs.OutcomeLemmas.{sync_step, other_write_step, other_torn_step, other_cut_step, other_half_cut_step}
use Rattle.cckd_shelf.proofs.MomentLemmas.{at_once, at_end, joins, weaker, next_at}

-- each outcome of another slot was one before: at once, and by one event more

pub still_same : (slot : ℕ) (es : List Event) → OthersStill slot es es
still_same slot es other apart file h = h

pub still_written : (slot position : ℕ) (bytes : List ℕ) (es : List Event) → OthersStill slot es (Written slot position bytes ∷ es)
still_written slot position bytes es other apart = other_write_step (IsOutcome es other) other slot position bytes es apart (λ file h. h)

pub still_torn : (slot position : ℕ) (bytes : List ℕ) (es : List Event) → OthersStill slot es (Torn slot position bytes ∷ es)
still_torn slot position bytes es other apart = other_torn_step (IsOutcome es other) other slot position bytes es apart (λ file h. h)

pub still_cut : (slot len : ℕ) (es : List Event) → OthersStill slot es (Cut slot len ∷ es)
still_cut slot len es other apart = other_cut_step (IsOutcome es other) other slot len es apart (λ file h. h)

pub still_half_cut : (slot len : ℕ) (es : List Event) → OthersStill slot es (HalfCut slot len ∷ es)
still_half_cut slot len es other apart = other_half_cut_step (IsOutcome es other) other slot len es apart (λ file h. h)

-- a sync adds no outcome of any slot
pub still_synced : (slot s : ℕ) (es : List Event) → OthersStill slot es (Synced s ∷ es)
still_synced slot s es other apart = sync_step (IsOutcome es other) other s es (λ file h. h)

-- twice in a row
pub still_twice : (slot : ℕ) (a b c : List Event) → OthersStill slot a b → OthersStill slot b c → OthersStill slot a c
still_twice slot a b c f g other apart file h = f other apart file (g other apart file h)

-- along two stretches
pub still_joins : (slot : ℕ) (a b c : List Event) → AtEach a b (OthersStill slot a) → AtEach b c (OthersStill slot b) → AtEach a c (OthersStill slot a)
still_joins slot a b c f g =
    joins (OthersStill slot a) a b c f
    (weaker (OthersStill slot b) (OthersStill slot a) b c (λ es h. still_twice slot a b es (at_end (OthersStill slot a) a b f) h) g)

-- what holds of each outcome of another slot, holds of it on
pub other_keeps : (P : List ℕ → Type 0) (slot other : ℕ) (old new : List Event) → (slot ≡ other → ⊥) → OthersStill slot old new
    → EachOutcome other P old → EachOutcome other P new
other_keeps P slot other old new apart still each file h = each file (still other apart file h)

pub others_keep : (P : List ℕ → Type 0) (slot other : ℕ) (old new : List Event) → (slot ≡ other → ⊥) → AtEach old new (OthersStill slot old)
    → EachOutcome other P old → AtEach old new (EachOutcome other P)
others_keep P slot other old new apart still each =
    weaker (OthersStill slot old) (EachOutcome other P) old new (λ es h. other_keeps P slot other old es apart h each) still

-- the whole frame

pub spares_nothing : (slot : ℕ) (w : World) → SparesOthers slot w w
spares_nothing slot w = record {
  others = at_once (OthersStill slot w.events) w.events (still_same slot w.events);
  named = at_once (KeepNames w.events) w.events (λ other. refl);
  names = λ other. refl;
  held = λ name apart. refl;
  files = λ other apart. refl;
  script = refl;
  output = refl;
}

-- one event more that is no bind
named_still : (w new : World) (e : Event) → new.events ≡ e ∷ w.events → KeepNames w.events (e ∷ w.events) → AtEach w.events new.events (KeepNames w.events)
named_still w new e grown still = next_at (KeepNames w.events) w new e grown (λ other. refl) still

-- the file of another name, where one is written or cut
written_other : (files : List ℕ → Option (List ℕ)) (own : Option (List ℕ)) (bytes name : List ℕ) → (own ≡ Some name → ⊥) → with_file files own bytes name ≡ files name
written_other files None bytes name apart = refl
written_other files (Some own) bytes name apart = cond-false (bytes_eq own name) (Some bytes) (files name) (texts_differ own name (λ e. apart (ap Some e)))

cut_other : (files : List ℕ → Option (List ℕ)) (own : Option (List ℕ)) (bytes name : List ℕ) → (own ≡ Some name → ⊥) → with_present files own bytes name ≡ files name
cut_other files None bytes name apart = refl
cut_other files (Some own) bytes name apart =
    cond-false (bytes_eq own name) (option_map (λ _. bytes) (files name)) (files name) (texts_differ own name (λ e. apart (ap Some e)))

spares_by : (slot : ℕ) (w new : World) (e : Event) → new.events ≡ e ∷ w.events → OthersStill slot w.events (e ∷ w.events)
    → AtEach w.events new.events (OthersStill slot w.events)
spares_by slot w new e grown still = next_at (OthersStill slot w.events) w new e grown (still_same slot w.events) still

file_beside : (f : List ℕ → List ℕ) (es : List Event) (slot other : ℕ) → (slot ≡ other → ⊥)
    → cond (is_about es slot (goes_by es other)) (f (file_now es other)) (file_now es other) ≡ file_now es other
file_beside f es slot other apart = cond-false (is_about es slot (goes_by es other)) (f (file_now es other)) (file_now es other) (about_other es slot other apart)

pub spares_write : (slot position : ℕ) (bytes : List ℕ) (w : World) → SparesOthers slot w (after_write slot position bytes w)
spares_write slot position bytes w = record {
  others = spares_by slot w (after_write slot position bytes w) (Written slot position bytes) refl (still_written slot position bytes w.events);
  named = named_still w (after_write slot position bytes w) (Written slot position bytes) refl (λ other. refl);
  names = λ other. refl;
  held = λ name apart. written_other w.files (name_of w.events slot) (overlaid (file_of w slot) position bytes) name apart;
  files = λ other apart. file_beside (λ f. overlaid f position bytes) w.events slot other apart;
  script = refl;
  output = refl;
}

pub spares_torn : (slot position : ℕ) (bytes : List ℕ) (w : World) → SparesOthers slot w (after_torn slot position bytes w)
spares_torn slot position bytes w = record {
  others = spares_by slot w (after_torn slot position bytes w) (Torn slot position bytes) refl (still_torn slot position bytes w.events);
  named = named_still w (after_torn slot position bytes w) (Torn slot position bytes) refl (λ other. refl);
  names = λ other. refl;
  held = λ name apart. written_other w.files (name_of w.events slot) (overlaid (file_of w slot) position bytes) name apart;
  files = λ other apart. file_beside (λ f. overlaid f position bytes) w.events slot other apart;
  script = refl;
  output = refl;
}

pub spares_cut : (slot len : ℕ) (w : World) → SparesOthers slot w (after_cut slot len w)
spares_cut slot len w = record {
  others = spares_by slot w (after_cut slot len w) (Cut slot len) refl (still_cut slot len w.events);
  named = named_still w (after_cut slot len w) (Cut slot len) refl (λ other. refl);
  names = λ other. refl;
  held = λ name apart. cut_other w.files (name_of w.events slot) (take len (file_of w slot)) name apart;
  files = λ other apart. file_beside (take len) w.events slot other apart;
  script = refl;
  output = refl;
}

pub spares_half_cut : (slot len : ℕ) (w : World) → SparesOthers slot w (after_half_cut slot len w)
spares_half_cut slot len w = record {
  others = spares_by slot w (after_half_cut slot len w) (HalfCut slot len) refl (still_half_cut slot len w.events);
  named = named_still w (after_half_cut slot len w) (HalfCut slot len) refl (λ other. refl);
  names = λ other. refl;
  held = λ name apart. cut_other w.files (name_of w.events slot) (take len (file_of w slot)) name apart;
  files = λ other apart. file_beside (take len) w.events slot other apart;
  script = refl;
  output = refl;
}

pub spares_sync : (slot s : ℕ) (w : World) → SparesOthers slot w (after_sync s w)
spares_sync slot s w = record {
  others = spares_by slot w (after_sync s w) (Synced s) refl (still_synced slot s w.events);
  named = named_still w (after_sync s w) (Synced s) refl (λ other. refl);
  names = λ other. refl;
  held = λ name apart. refl;
  files = λ other apart. refl;
  script = refl;
  output = refl;
}

-- two in a row
pub spares_twice : (slot : ℕ) (a b c : World) → SparesOthers slot a b → SparesOthers slot b c → SparesOthers slot a c
spares_twice slot a b c f g = record {
  others = still_joins slot a.events b.events c.events f.others g.others;
  named = joins (KeepNames a.events) a.events b.events c.events f.named
      (weaker (KeepNames b.events) (KeepNames a.events) b.events c.events (λ es same other. same other ∙ f.names other) g.named);
  names = λ other. g.names other ∙ f.names other;
  held = λ name apart. g.held name (λ e. apart (sym (f.names slot) ∙ e)) ∙ f.held name apart;
  files = λ other apart. g.files other apart ∙ f.files other apart;
  script = g.script ∙ f.script;
  output = g.output ∙ f.output;
}

pub only_twice : (slot : ℕ) (a b c : Seen) → (Tells a → Tells b) → OnlyIn slot a b → OnlyIn slot b c → OnlyIn slot a c
only_twice slot a b c tells f g = λ told. spares_twice slot a.world b.world c.world (f told) (g (tells told))

-- calls of a shelf

pub only_wrote : (slot position : ℕ) (bytes : List ℕ) (old new : Seen) (result : Result (Unit {0}) Failed)
    → OnOk result (Makes (after_write slot position bytes) old new) → OnErr result (MayMake (after_torn slot position bytes) old new) → OnlyIn slot old new
only_wrote slot position bytes old new (Ok u) ok err = λ told. subst (SparesOthers slot old.world) (sym (ok told)) (spares_write slot position bytes old.world)
only_wrote slot position bytes old new (Err e) ok err = λ told. elim (err told) [
  | inl torn ↦ subst (SparesOthers slot old.world) (sym torn) (spares_torn slot position bytes old.world)
  | inr kept ↦ subst (SparesOthers slot old.world) (sym kept) (spares_nothing slot old.world)
]

pub only_cut : (slot len : ℕ) (old new : Seen) (result : Result (Unit {0}) Failed)
    → OnOk result (Makes (after_cut slot len) old new) → OnErr result (MayMake (after_half_cut slot len) old new) → OnlyIn slot old new
only_cut slot len old new (Ok u) ok err = λ told. subst (SparesOthers slot old.world) (sym (ok told)) (spares_cut slot len old.world)
only_cut slot len old new (Err e) ok err = λ told. elim (err told) [
  | inl half ↦ subst (SparesOthers slot old.world) (sym half) (spares_half_cut slot len old.world)
  | inr kept ↦ subst (SparesOthers slot old.world) (sym kept) (spares_nothing slot old.world)
]

pub only_synced : (slot s : ℕ) (old new : Seen) (result : Result (Unit {0}) Failed)
    → OnOk result (Makes (after_sync s) old new) → OnErr result (Stays old new) → OnlyIn slot old new
only_synced slot s old new (Ok u) ok err = λ told. subst (SparesOthers slot old.world) (sym (ok told)) (spares_sync slot s old.world)
only_synced slot s old new (Err e) ok err = λ told. subst (SparesOthers slot old.world) (sym (err told)) (spares_nothing slot old.world)

pub only_stays : (slot : ℕ) (old new : Seen) → Stays old new → OnlyIn slot old new
only_stays slot old new stays = λ told. subst (SparesOthers slot old.world) (sym (stays told)) (spares_nothing slot old.world)

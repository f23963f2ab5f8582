-- The number of tracks that a layer has, one track more at a time.
use Rattle.std.proofs.Common.{◌≡◌, ◌≢◌, ◌⊎◌, ℕ, suc, ◌+◌, ◌/◌, ◌*◌, ◌≤◌, min, ◌==◌, Bool, true, false, cond, List, Option, Some, None, refl, sym, ◌∙◌, ap, subst, inl, inr, arith}
use Rattle.std.specs.Option.{is_some}
use Rattle.cckd_base.specs.Numbers.{bytes_at}
use Rattle.std.specs.Prelude.{slice_index}
use Rattle.std.proofs.lemmas.Bool.{eq-eqb, eqb-true, ne_eqb, both_ways}
use Rattle.cckd_base.specs.declared.geometry.Layout.{Layout}
use Rattle.cckd_base.specs.declared.entry.L2Entry.{L2Entry}
use Rattle.cckd_base.specs.Entry.{see_parent, bytes_by_entry}
use Rattle.cckd_base.specs.Image.{IsPlace}
use Rattle.cckd_base.proofs.PlaceLemmas.{place_or_not}
use Rattle.cckd_tables.specs.Staging.{Stages, entry_for, new_entry}
use Rattle.cckd_tables.specs.Tables.{TableView}
use Rattle.cckd_tables.specs.Cached.{IsCached}
use Rattle.cckd_tables.specs.Looking.{NeedsTable, NeedsNoTable, with_cached}
use Rattle.cckd_layer.specs.Held.{Tracks, NullBytes, held}
use Rattle.cckd_shelf.specs.Seen.{Seen, Tells, Stays}
use Rattle.cckd_shelf.specs.World.{file_of}
use Rattle.cckd_layer.specs.Mounted.{ReadsFrom}
use Rattle.cckd_layer.specs.Reads.{OfFile, IsAtHand, LooksUp, tracks_in}

abbrev pub one_if : Bool → ℕ
one_if b = cond b 1 0

abbrev pub one_unless : Bool → ℕ
one_unless b = cond b 0 1

-- one track more
pub one_more : (m : Tracks) (n : ℕ) → tracks_in m (n + 1) ≡ tracks_in m n + one_if (is_some (m n))
one_more m n = let e : n + 1 ≡ suc n = omega arith in ap (tracks_in m) e

some_of : (p q : Bool) (a b : List ℕ) → (p ≡ true) ⊎ (q ≡ false) → is_some (cond p (Some a) (cond q None (Some b))) ≡ true
some_of true q a b h = refl
some_of false true a b (inl e) = absurd (cc e)
some_of false true a b (inr e) = absurd (cc e)
some_of false false a b h = refl

none_of : (p q : Bool) (a b : List ℕ) → p ≡ false → q ≡ true → is_some (cond p (Some a) (cond q None (Some b))) ≡ false
none_of true q a b e f = absurd (cc e)
none_of false false a b e f = absurd (cc f)
none_of false true a b e f = refl

-- a track that is looked up below has no bytes, and every other one has
pub held_below : (null : NullBytes) (l : Layout) (s : Stages) (file : List ℕ) (t : ℕ) (e : L2Entry) → e ≡ new_entry l s file t → e.pos ≡ see_parent → is_some (held null l s file t) ≡ false
held_below null l s file t e is parent =
    ap (λ (x : L2Entry). is_some (bytes_by_entry null l file t x)) (sym is)
    ∙ none_of (e.pos == 0) (e.pos == see_parent) (null l.geo t e.len) (bytes_at file e.pos e.len) (ne_eqb e.pos 0 (λ z. absurd (omega (arith, z, parent)))) (eq-eqb e.pos see_parent parent)

pub held_here : (null : NullBytes) (l : Layout) (s : Stages) (file : List ℕ) (t : ℕ) (e : L2Entry) → e ≡ new_entry l s file t → e.pos ≢ see_parent → is_some (held null l s file t) ≡ true
held_here null l s file t e is other =
    ap (λ (x : L2Entry). is_some (bytes_by_entry null l file t x)) (sym is)
    ∙ some_of (e.pos == 0) (e.pos == see_parent) (null l.geo t e.len) (bytes_at file e.pos e.len) (inr (ne_eqb e.pos see_parent other))

held_by : (null : NullBytes) (l : Layout) (s : Stages) (file : List ℕ) (t : ℕ) (e : L2Entry) (parent : Bool) → (e.pos == see_parent) ≡ parent → e ≡ new_entry l s file t
    → one_if (is_some (held null l s file t)) ≡ one_unless parent
held_by null l s file t e true p is = ap one_if (held_below null l s file t e is (eqb-true e.pos see_parent p))
held_by null l s file t e false p is = ap one_if (held_here null l s file t e is (λ same. both_ways (e.pos == see_parent) p (eq-eqb e.pos see_parent same)))

-- so it counts by its entry
pub held_counts : (null : NullBytes) (l : Layout) (s : Stages) (file : List ℕ) (t : ℕ) (e : L2Entry) → e ≡ new_entry l s file t
    → one_if (is_some (held null l s file t)) ≡ one_unless (e.pos == see_parent)
held_counts null l s file t e is = held_by null l s file t e (e.pos == see_parent) refl is

one_at_most : (b : Bool) → one_unless b ≤ 1
one_at_most true = omega arith
one_at_most false = omega arith

pub at_most : (n : ℕ) (b : Bool) → n ≡ one_unless b → n ≤ 1
at_most n b e = subst (λ (k : ℕ). k ≤ 1) (sym e) (one_at_most b)

needs_by : (t : ℕ) (v : TableView) (o : Option L2Entry) → entry_for t v.stages.entries ≡ o → NeedsTable t v ⊎ NeedsNoTable t v
needs_by t v (Some e) is = inr (inl (ap is_some is))
needs_by t v None is = elim (place_or_not (slice_index v.words (t / 256))) [
  | inl place ↦ inl (ap is_some is, place)
  | inr (inl null) ↦ inr (inr (λ (place : IsPlace (slice_index v.words (t / 256))). place.0 null))
  | inr (inr parent) ↦ inr (inr (λ (place : IsPlace (slice_index v.words (t / 256))). place.1 parent))
]

-- a table is needed for a track, or none is
pub needs : (t : ℕ) (v : TableView) → NeedsTable t v ⊎ NeedsNoTable t v
needs t v = needs_by t v (entry_for t v.stages.entries) refl

-- no call was made yet, or one was made and the group's table is cached
abbrev pub MadeOne : ℕ → TableView → ℕ → ℕ → Type 0
MadeOne g v start calls = (calls ≡ start) ⊎ ((calls ≤ start + 1) × IsCached g v.cached)

-- one more look-up in the group
pub still_one : (t g : ℕ) (old new : TableView) (start before behind : ℕ) → t / 256 ≡ g → LooksUp t old new → (NeedsTable t old → IsCached (t / 256) new.cached)
    → (IsAtHand t old → behind ≡ before) → behind ≤ before + 1 → MadeOne g old start before → MadeOne g new start behind
still_one t g old new start before behind own looks used quiet once made = elim (needs t old) [
  | inr none ↦
      let same = quiet (inl none) in
      subst (λ (v : TableView). MadeOne g v start behind) (sym (looks.bare none)) (subst (λ (n : ℕ). MadeOne g old start n) (sym same) made)
  | inl some ↦ elim made [
    | inl e ↦ inr (omega (arith, e, once), subst (λ (h : ℕ). IsCached h new.cached) own (used some))
    | inr m ↦
        let cached : IsCached (t / 256) old.cached = subst (λ (h : ℕ). IsCached h old.cached) (sym own) m.1 in
        let same = quiet (inr cached) in
        inr (omega (arith, same, m.0), subst (λ (h : ℕ). IsCached h new.cached) own (looks.cached.own cached))
  ]
]

-- the tracks of a group were counted up to one of them, by at most one call
pub record HasCounted (m : List ℕ → Tracks) (slot from : ℕ) (old new : TableView) (before behind : Seen) (number count : ℕ) : Type 0 where
  pub counted : OfFile slot (λ file. count + tracks_in (m file) from ≡ tracks_in (m file) number) before
  pub few : count + from ≤ number
  pub rest : new ≡ with_cached old new.cached
  pub can : OfFile slot (ReadsFrom new) behind
  pub kept : Stays before behind
  pub counts : behind.faults ≡ before.faults
  pub made : MadeOne (from / 256) new before.calls behind.calls

rest_twice : (a b c : TableView) → b ≡ with_cached a b.cached → c ≡ with_cached b c.cached → c ≡ with_cached a c.cached
rest_twice a b c e f = f ∙ ap (λ (v : TableView). with_cached v c.cached) e

-- one more of them
pub counts_more : (m : List ℕ → Tracks) (slot from : ℕ) (old new next : TableView) (before behind after : Seen) (number count more : ℕ)
    → HasCounted m slot from old new before behind number count → (Tells before → Tells behind) → number / 256 ≡ from / 256 → more ≤ 1
    → OfFile slot (λ file. one_if (is_some (m file number)) ≡ more) before
    → LooksUp number new next → (NeedsTable number new → IsCached (number / 256) next.cached) → OfFile slot (ReadsFrom next) after
    → Stays behind after → after.faults ≡ behind.faults → (IsAtHand number new → after.calls ≡ behind.calls) → after.calls ≤ behind.calls + 1
    → HasCounted m slot from old next before after (number + 1) (count + more)
counts_more m slot from old new next before behind after number count more was tells own small is looks used can kept counts quiet once = record {
  counted = λ told sure.
      let file = file_of before.world slot in
      let old_count = was.counted told sure in
      let one = one_more (m file) number in
      let this : one_if (is_some (m file number)) ≡ more = is told sure in
      omega (arith, old_count, one, this);
  few = let few = was.few in omega (arith, few, small);
  rest = rest_twice old new next was.rest looks.rest;
  can = can;
  kept = λ told. kept (tells told) ∙ was.kept told;
  counts = counts ∙ was.counts;
  made = still_one number (from / 256) new next before.calls behind.calls after.calls own looks used quiet once was.made;
}

-- the tracks of the first groups were counted, by at most one call a group
pub record HasSummed (m : List ℕ → Tracks) (slot tracks : ℕ) (old new : TableView) (before behind : Seen) (group count : ℕ) : Type 0 where
  pub counted : OfFile slot (λ file. count ≡ tracks_in (m file) (min (256 * group) tracks)) before
  pub few : count ≤ min (256 * group) tracks
  pub rest : new ≡ with_cached old new.cached
  pub can : OfFile slot (ReadsFrom new) behind
  pub kept : Stays before behind
  pub counts : behind.faults ≡ before.faults
  pub called : behind.calls ≤ before.calls + group

-- The laws of outcomes: one slot, one event more of each kind, at Ok and at a failure.
use Rattle.std.proofs.Common.{◌≡◌, ◌⊎◌, ℕ, ◌+◌, ◌-◌, ◌<◌, ◌≤◌, max, Bool, true, false, cond, List, [], ◌∷◌, ◌++◌, length, take, drop, replicate, get_or, Option, Some, None, unwrap_or, refl, sym, ◌∙◌, ap, subst, inl, inr, arith}
use Rattle.std.specs.Prelude.{MatchBool, MatchOption}
use Rattle.std.proofs.lemmas.Bool.{cases_Bool, cond-true, MatchBool-at_true, MatchBool-at_false}
use Rattle.std.proofs.lemmas.List.{length-append, length-take, length-drop, length-replicate, get_or_append_left, get_or-append_right, get_or-take, get_or-drop, take_at, drop_at}
use Rattle.cckd_shelf.specs.Files.{overlaid}
use Rattle.cckd_shelf.specs.Events.{Event, Written, Torn, Cut, HalfCut, Synced, Put, Bound, Name, goes_by, is_about, begun, held_now, file_now, is_sure}
use Rattle.cckd_shelf.specs.Outcomes.{WriteLeaves, CutLeaves, MayHave, MayBeLeft, MayHold, IsOutcome, EachOutcome, EachHeld}
use Rattle.cckd_shelf.proofs.NameLemmas.{about_own, about_other}

-- a test that came out one way
pub at_true : (P Q : Type 0) (b : Bool) → b ≡ true → P → MatchBool b P Q
at_true P Q b e p = subst (λ (x : Bool). MatchBool x P Q) (sym e) p

pub at_false : (P Q : Type 0) (b : Bool) → b ≡ false → Q → MatchBool b P Q
at_false P Q b e q = subst (λ (x : Bool). MatchBool x P Q) (sym e) q

front_length : (file : List ℕ) (position : ℕ) → length (take position (file ++ replicate (position - length file) 0)) ≡ position
front_length file position =
    omega (arith, length-take position (file ++ replicate (position - length file) 0), length-append file (replicate (position - length file) 0), length-replicate {A = ℕ} (position - length file) 0)

-- the length after a write
pub length_overlaid : (file : List ℕ) (position : ℕ) (bytes : List ℕ) → length (overlaid file position bytes) ≡ max (length file) (position + length bytes)
unfolding overlaid
length_overlaid file position bytes =
    omega (
      arith,
      length-append (take position (file ++ replicate (position - length file) 0)) (bytes ++ drop (position + length bytes) file),
      front_length file position,
      length-append bytes (drop (position + length bytes) file),
      length-drop (position + length bytes) file,
    )

-- what stands before a write stays
pub overlaid_before : (file : List ℕ) (position : ℕ) (bytes : List ℕ) (i : ℕ) → i < length file → i < position
    → get_or (overlaid file position bytes) i 0 ≡ get_or file i 0
unfolding overlaid
overlaid_before file position bytes i h k =
    get_or_append_left (take position (file ++ replicate (position - length file) 0)) (bytes ++ drop (position + length bytes) file) 0 i (omega (arith, front_length file position))
    ∙ (get_or-take position (file ++ replicate (position - length file) 0) i 0 k ∙ get_or_append_left file (replicate (position - length file) 0) 0 i h)

-- what stands behind it, too
pub overlaid_behind : (file : List ℕ) (position : ℕ) (bytes : List ℕ) (i : ℕ) → position + length bytes ≤ i
    → get_or (overlaid file position bytes) i 0 ≡ get_or file i 0
unfolding overlaid
overlaid_behind file position bytes i k =
    let back : position + length bytes + (i - position - length bytes) ≡ i = omega arith in
    get_or-append_right (take position (file ++ replicate (position - length file) 0)) (bytes ++ drop (position + length bytes) file) position i 0 (front_length file position) (omega arith)
    ∙ (get_or-append_right bytes (drop (position + length bytes) file) (length bytes) (i - position) 0 refl (omega arith)
    ∙ (get_or-drop (position + length bytes) file (i - position - length bytes) 0 ∙ ap (λ n. get_or file n 0) back))

-- and in it stand the bytes that were written
pub overlaid_within_range : (file : List ℕ) (position : ℕ) (bytes : List ℕ) → take (length bytes) (drop position (overlaid file position bytes)) ≡ bytes
unfolding overlaid
overlaid_within_range file position bytes =
    ap (take (length bytes)) (drop_at (take position (file ++ replicate (position - length file) 0)) (bytes ++ drop (position + length bytes) file) position (front_length file position))
    ∙ take_at bytes (drop (position + length bytes) file) (length bytes) refl

-- what a write that was made leaves is one of the things that it may leave
pub write_made : (position : ℕ) (bytes old : List ℕ) → WriteLeaves position bytes old (overlaid old position bytes)
write_made position bytes old = record {
  before = λ i h k. overlaid_before old position bytes i h k;
  behind = λ i h k. overlaid_behind old position bytes i k;
  no_shorter = omega (arith, length_overlaid old position bytes);
  no_longer = omega (arith, length_overlaid old position bytes);
  whole = λ _. inr refl;
}

-- one that wasn't made, too
pub write_not_made : (position : ℕ) (bytes old : List ℕ) → WriteLeaves position bytes old old
write_not_made position bytes old = record {
  before = λ i h k. refl;
  behind = λ i h k. refl;
  no_shorter = omega arith;
  no_longer = omega arith;
  whole = λ _. inl refl;
}

-- at a file to which something was done, and at another one

write_by : (b : Bool) (position : ℕ) (bytes old file : List ℕ) → file ≡ cond b (overlaid old position bytes) old
    → MatchBool b (WriteLeaves position bytes old file) (file ≡ old)
write_by true position bytes old file e = subst (WriteLeaves position bytes old) (sym e) (write_made position bytes old)
write_by false position bytes old file e = e

cut_by : (b : Bool) (len : ℕ) (old file : List ℕ) → file ≡ cond b (take len old) old → MatchBool b (CutLeaves len old file) (file ≡ old)
cut_by true len old file e = inr e
cut_by false len old file e = e

bound_by : (begins : Option (List ℕ)) (P Q : List ℕ → Type 0) (file : List ℕ) → (P file → Q file)
    → MatchOption begins (P file) (λ (start : List ℕ). file ≡ start) → MatchOption begins (Q file) (λ (start : List ℕ). file ≡ start)
bound_by None P Q file step h = step h
bound_by (Some start) P Q file step h = h

bound_now : (begins : Option (List ℕ)) (P : List ℕ → Type 0) (now : List ℕ) → P now
    → MatchOption begins (P (unwrap_or begins now)) (λ (start : List ℕ). unwrap_or begins now ≡ start)
bound_now None P now h = h
bound_now (Some start) P now h = refl

bound_is_now : (begins : Option (List ℕ)) (P : List ℕ → Type 0) (now file : List ℕ) → (P file → file ≡ now)
    → MatchOption begins (P file) (λ (start : List ℕ). file ≡ start) → file ≡ unwrap_or begins now
bound_is_now None P now file step h = step h
bound_is_now (Some start) P now file step h = h

-- what a file may have is what may be left of it
pub have_is_left : (es : List Event) (name : Name) (file : List ℕ) → MayHave es name file → MayBeLeft es name file
have_is_left [] name file h = h
have_is_left (Written s p b ∷ es) name file (old, have, e) = (old, have_is_left es name old have, write_by (is_about es s name) p b old file e)
have_is_left (Torn s p b ∷ es) name file (old, have, e) = (old, have_is_left es name old have, e)
have_is_left (Cut s n ∷ es) name file (old, have, e) = (old, have_is_left es name old have, cut_by (is_about es s name) n old file e)
have_is_left (HalfCut s n ∷ es) name file (old, have, e) = (old, have_is_left es name old have, e)
have_is_left (Synced s ∷ es) name file h =
    elim (cases_Bool (is_about es s name)) [
      | inl k ↦ at_true _ _ (is_about es s name) k h
      | inr k ↦ at_false _ _ (is_about es s name) k (have_is_left es name file h)
    ]
have_is_left (Put b ∷ es) name file h = have_is_left es name file h
have_is_left (Bound s other bytes ∷ es) name file h =
    bound_by (begun es other bytes name) (MayHave es name) (MayBeLeft es name) file (have_is_left es name file) h

-- a file that is held is an outcome
pub held_is_outcome : (es : List Event) (slot : ℕ) (file : List ℕ) → MayHold es slot file → IsOutcome es slot file
held_is_outcome es slot file h = have_is_left es (goes_by es slot) file h

-- a file with every operation made is one that it may have
pub now_is_had : (es : List Event) (name : Name) → MayHave es name (held_now es name)
now_is_had [] name = refl
now_is_had (Written s p b ∷ es) name = (held_now es name, now_is_had es name, refl)
now_is_had (Torn s p b ∷ es) name = (held_now es name, now_is_had es name, write_by (is_about es s name) p b (held_now es name) _ refl)
now_is_had (Cut s n ∷ es) name = (held_now es name, now_is_had es name, refl)
now_is_had (HalfCut s n ∷ es) name = (held_now es name, now_is_had es name, cut_by (is_about es s name) n (held_now es name) _ refl)
now_is_had (Synced s ∷ es) name = now_is_had es name
now_is_had (Put b ∷ es) name = now_is_had es name
now_is_had (Bound s other bytes ∷ es) name = bound_now (begun es other bytes name) (MayHave es name) (held_now es name) (now_is_had es name)

pub now_is_held : (es : List Event) (slot : ℕ) → MayHold es slot (file_now es slot)
now_is_held es slot = now_is_had es (goes_by es slot)

pub now_is_outcome : (es : List Event) (slot : ℕ) → IsOutcome es slot (file_now es slot)
now_is_outcome es slot = held_is_outcome es slot (file_now es slot) (now_is_held es slot)

-- where no operation failed half way, a file has one content
pub sure_has_now : (es : List Event) (name : Name) (file : List ℕ) → is_sure es ≡ true → MayHave es name file → file ≡ held_now es name
sure_has_now [] name file sure h = h
sure_has_now (Written s p b ∷ es) name file sure (old, have, e) =
    e ∙ ap (λ (x : List ℕ). cond (is_about es s name) (overlaid x p b) x) (sure_has_now es name old sure have)
sure_has_now (Torn s p b ∷ es) name file sure h = cc
sure_has_now (Cut s n ∷ es) name file sure (old, have, e) =
    e ∙ ap (λ (x : List ℕ). cond (is_about es s name) (take n x) x) (sure_has_now es name old sure have)
sure_has_now (HalfCut s n ∷ es) name file sure h = cc
sure_has_now (Synced s ∷ es) name file sure h = sure_has_now es name file sure h
sure_has_now (Put b ∷ es) name file sure h = sure_has_now es name file sure h
sure_has_now (Bound s other bytes ∷ es) name file sure h =
    bound_is_now (begun es other bytes name) (MayHave es name) (held_now es name) file (sure_has_now es name file sure) h

pub sure_is_now : (es : List Event) (slot : ℕ) (file : List ℕ) → is_sure es ≡ true → MayHold es slot file → file ≡ file_now es slot
sure_is_now es slot file sure h = sure_has_now es (goes_by es slot) file sure h

-- one event more, for the outcomes of one slot

pub write_step : (P Q : List ℕ → Type 0) (slot position : ℕ) (bytes : List ℕ) (es : List Event) → EachOutcome slot P es
    → ((was file : List ℕ) → P was → WriteLeaves position bytes was file → Q file) → EachOutcome slot Q (Written slot position bytes ∷ es)
write_step P Q slot position bytes es each step file (was, outcome, leaves) =
    step was file (each was outcome) (MatchBool-at_true _ _ (about_own es slot) leaves)

pub torn_step : (P Q : List ℕ → Type 0) (slot position : ℕ) (bytes : List ℕ) (es : List Event) → EachOutcome slot P es
    → ((was file : List ℕ) → P was → WriteLeaves position bytes was file → Q file) → EachOutcome slot Q (Torn slot position bytes ∷ es)
torn_step P Q slot position bytes es each step file (was, outcome, leaves) =
    step was file (each was outcome) (MatchBool-at_true _ _ (about_own es slot) leaves)

cut_or_not : (Q : List ℕ → Type 0) (len : ℕ) (was file : List ℕ) → Q was → Q (take len was) → (file ≡ was) ⊎ (file ≡ take len was) → Q file
cut_or_not Q len was file same shorter (inl e) = subst Q (sym e) same
cut_or_not Q len was file same shorter (inr e) = subst Q (sym e) shorter

pub cut_step : (P Q : List ℕ → Type 0) (slot len : ℕ) (es : List Event) → EachOutcome slot P es
    → ((was : List ℕ) → P was → Q was) → ((was : List ℕ) → P was → Q (take len was)) → EachOutcome slot Q (Cut slot len ∷ es)
cut_step P Q slot len es each same shorter file (was, outcome, leaves) =
    cut_or_not Q len was file (same was (each was outcome)) (shorter was (each was outcome)) (MatchBool-at_true _ _ (about_own es slot) leaves)

pub half_cut_step : (P Q : List ℕ → Type 0) (slot len : ℕ) (es : List Event) → EachOutcome slot P es
    → ((was : List ℕ) → P was → Q was) → ((was : List ℕ) → P was → Q (take len was)) → EachOutcome slot Q (HalfCut slot len ∷ es)
half_cut_step P Q slot len es each same shorter file (was, outcome, leaves) =
    cut_or_not Q len was file (same was (each was outcome)) (shorter was (each was outcome)) (MatchBool-at_true _ _ (about_own es slot) leaves)

-- A sync adds no outcome.
pub sync_step : (P : List ℕ → Type 0) (slot s : ℕ) (es : List Event) → EachOutcome slot P es → EachOutcome slot P (Synced s ∷ es)
sync_step P slot s es each file h =
    elim (cases_Bool (is_about es s (goes_by es slot))) [
      | inl k ↦ each file (held_is_outcome es slot file (MatchBool-at_true _ _ k h))
      | inr k ↦ each file (MatchBool-at_false _ _ k h)
    ]

-- It leaves exactly what may be held.
pub sync_settles : (P : List ℕ → Type 0) (slot : ℕ) (es : List Event) → EachHeld slot P es → EachOutcome slot P (Synced slot ∷ es)
sync_settles P slot es each file h = each file (MatchBool-at_true _ _ (about_own es slot) h)

-- Where no operation failed half way, it leaves exactly the file now.
pub sync_leaves_now : (slot : ℕ) (es : List Event) → is_sure es ≡ true → EachOutcome slot (λ file. file ≡ file_now es slot) (Synced slot ∷ es)
sync_leaves_now slot es sure file h = sure_is_now es slot file sure (MatchBool-at_true _ _ (about_own es slot) h)

pub put_step : (P : List ℕ → Type 0) (slot : ℕ) (bytes : List ℕ) (es : List Event) → EachOutcome slot P es → EachOutcome slot P (Put bytes ∷ es)
put_step P slot bytes es each file h = each file h

-- operations of other slots don't matter
unmoved : (P : List ℕ → Type 0) (X : Type 0) (es : List Event) (s slot : ℕ) (was file : List ℕ) → (s ≡ slot → ⊥) → P was
    → MatchBool (is_about es s (goes_by es slot)) X (file ≡ was) → P file
unmoved P X es s slot was file apart held leaves = subst P (sym (MatchBool-at_false _ _ (about_other es s slot apart) leaves)) held

pub other_write_step : (P : List ℕ → Type 0) (slot s position : ℕ) (bytes : List ℕ) (es : List Event) → (s ≡ slot → ⊥)
    → EachOutcome slot P es → EachOutcome slot P (Written s position bytes ∷ es)
other_write_step P slot s position bytes es apart each file (was, outcome, leaves) = unmoved P _ es s slot was file apart (each was outcome) leaves

pub other_torn_step : (P : List ℕ → Type 0) (slot s position : ℕ) (bytes : List ℕ) (es : List Event) → (s ≡ slot → ⊥)
    → EachOutcome slot P es → EachOutcome slot P (Torn s position bytes ∷ es)
other_torn_step P slot s position bytes es apart each file (was, outcome, leaves) = unmoved P _ es s slot was file apart (each was outcome) leaves

pub other_cut_step : (P : List ℕ → Type 0) (slot s len : ℕ) (es : List Event) → (s ≡ slot → ⊥)
    → EachOutcome slot P es → EachOutcome slot P (Cut s len ∷ es)
other_cut_step P slot s len es apart each file (was, outcome, leaves) = unmoved P _ es s slot was file apart (each was outcome) leaves

pub other_half_cut_step : (P : List ℕ → Type 0) (slot s len : ℕ) (es : List Event) → (s ≡ slot → ⊥)
    → EachOutcome slot P es → EachOutcome slot P (HalfCut s len ∷ es)
other_half_cut_step P slot s len es apart each file (was, outcome, leaves) = unmoved P _ es s slot was file apart (each was outcome) leaves

-- the same for what may be held

pub held_from_each : (P : List ℕ → Type 0) (slot : ℕ) (es : List Event) → EachOutcome slot P es → EachHeld slot P es
held_from_each P slot es each file h = each file (held_is_outcome es slot file h)

pub held_write : (P Q : List ℕ → Type 0) (slot position : ℕ) (bytes : List ℕ) (es : List Event) → EachHeld slot P es
    → ((was : List ℕ) → P was → Q (overlaid was position bytes)) → EachHeld slot Q (Written slot position bytes ∷ es)
held_write P Q slot position bytes es each step file (was, held, e) =
    subst Q (sym (e ∙ cond-true (is_about es slot (goes_by es slot)) (overlaid was position bytes) was (about_own es slot))) (step was (each was held))

pub held_cut : (P Q : List ℕ → Type 0) (slot len : ℕ) (es : List Event) → EachHeld slot P es
    → ((was : List ℕ) → P was → Q (take len was)) → EachHeld slot Q (Cut slot len ∷ es)
held_cut P Q slot len es each step file (was, held, e) =
    subst Q (sym (e ∙ cond-true (is_about es slot (goes_by es slot)) (take len was) was (about_own es slot))) (step was (each was held))

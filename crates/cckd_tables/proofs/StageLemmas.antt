-- What is staged for a track and for a group, and how many stages are taken.
use Rattle.std.proofs.Common.{◌≡◌, ◌≢◌, ◌⊎◌, inl, inr, ℕ, suc, ◌<◌, ◌≤◌, nat_lt, ◌==◌, cond, List, [], ◌∷◌, length, get_or, Option, Some, None, IsNone, IsSome, refl, sym, ◌∙◌, ap, arith}
use Rattle.std.specs.List.{prefix_len}
use Rattle.cckd_base.specs.declared.entry.L2Entry.{L2Entry}
use Rattle.cckd_tables.specs.declared.staged.StagedEntry.{StagedEntry}
use Rattle.cckd_tables.specs.declared.staged.StagedWord.{StagedWord}
use Rattle.cckd_tables.specs.Staging.{Stages, entry_for, place_for, IsStaged, IsMoved}
use Rattle.cckd_tables.specs.Stages.{IsOrderedBy, AreStaged, with_placed, with_entry, with_word, staged_count, free_count}
use Rattle.cckd_tables.proofs.PlacedLemmas.{value_for, found_at, none_at, value_here, value_other, length_new, length_again, placed_rises}

abbrev pub track_of : StagedEntry → ℕ
track_of e = e.track

abbrev pub group_of : StagedWord → ℕ
group_of w = w.group

-- the entry of a track is the value of its key
pub entry_is_value : (t : ℕ) (es : List StagedEntry) → value_for track_of (λ e. e.entry) t es ≡ entry_for t es
entry_is_value t [] = refl
entry_is_value t (e ∷ es) = ap (λ o. cond (e.track == t) (Some e.entry) o) (entry_is_value t es)

pub place_is_value : (g : ℕ) (ws : List StagedWord) → value_for group_of (λ w. w.pos) g ws ≡ place_for g ws
place_is_value g [] = refl
place_is_value g (w ∷ ws) = ap (λ o. cond (w.group == g) (Some w.pos) o) (place_is_value g ws)

pub entry_found : (t : ℕ) (es : List StagedEntry) (at : ℕ) (d : StagedEntry) → IsOrderedBy track_of es → at ≡ prefix_len (λ e. nat_lt e.track t) es → at < length es
    → (get_or es at d).track ≡ t → Some (get_or es at d).entry ≡ entry_for t es
entry_found t es at d order is l same = sym (sym (entry_is_value t es) ∙ found_at track_of (λ e. e.entry) t 0 es at d order is l same)

pub entry_none : (t : ℕ) (es : List StagedEntry) (at : ℕ) (d : StagedEntry) → IsOrderedBy track_of es → at ≡ prefix_len (λ e. nat_lt e.track t) es
    → (at < length es → (get_or es at d).track ≢ t) → None ≡ entry_for t es
entry_none t es at d order is other = sym (sym (entry_is_value t es) ∙ none_at track_of (λ e. e.entry) t 0 es at d order is other)

pub place_found : (g : ℕ) (ws : List StagedWord) (at : ℕ) (d : StagedWord) → IsOrderedBy group_of ws → at ≡ prefix_len (λ w. nat_lt w.group g) ws → at < length ws
    → (get_or ws at d).group ≡ g → Some (get_or ws at d).pos ≡ place_for g ws
place_found g ws at d order is l same = sym (sym (place_is_value g ws) ∙ found_at group_of (λ w. w.pos) g 0 ws at d order is l same)

pub place_none : (g : ℕ) (ws : List StagedWord) (at : ℕ) (d : StagedWord) → IsOrderedBy group_of ws → at ≡ prefix_len (λ w. nat_lt w.group g) ws
    → (at < length ws → (get_or ws at d).group ≢ g) → None ≡ place_for g ws
place_none g ws at d order is other = sym (sym (place_is_value g ws) ∙ none_at group_of (λ w. w.pos) g 0 ws at d order is other)

-- the entry that was staged is its track's from then on
pub entry_here : (e : StagedEntry) (s : Stages) → entry_for e.track (with_entry e s).entries ≡ Some e.entry
entry_here e s = sym (entry_is_value e.track (with_placed track_of e s.entries)) ∙ value_here track_of (λ x. x.entry) e s.entries

-- and every other track has the one that it had
pub entry_other : (e : StagedEntry) (s : Stages) (t : ℕ) → t ≢ e.track → entry_for t (with_entry e s).entries ≡ entry_for t s.entries
entry_other e s t ne = sym (entry_is_value t (with_placed track_of e s.entries)) ∙ value_other track_of (λ x. x.entry) e s.entries t ne ∙ entry_is_value t s.entries

-- so for the places of tables
pub place_here : (w : StagedWord) (s : Stages) → place_for w.group (with_word w s).words ≡ Some w.pos
place_here w s = sym (place_is_value w.group (with_placed group_of w s.words)) ∙ value_here group_of (λ x. x.pos) w s.words

pub place_other : (w : StagedWord) (s : Stages) (g : ℕ) → g ≢ w.group → place_for g (with_word w s).words ≡ place_for g s.words
place_other w s g ne = sym (place_is_value g (with_placed group_of w s.words)) ∙ value_other group_of (λ x. x.pos) w s.words g ne ∙ place_is_value g s.words

pub count_word_new : (w : StagedWord) (s : Stages) → AreStaged s → IsNone (place_for w.group s.words) → staged_count (with_word w s) ≡ suc (staged_count s)
count_word_new w s staged none = by (place_for w.group s.words) refl none where
  by : (o : Option ℕ) → place_for w.group s.words ≡ o → IsNone o → staged_count (with_word w s) ≡ suc (staged_count s)
  by None is h = let n = length_new group_of (λ x. x.pos) 0 w s.words staged.words (place_is_value w.group s.words ∙ is) in omega arith
  by (Some v) is h = absurd (cc h)

pub count_word_again : (w : StagedWord) (s : Stages) → AreStaged s → IsMoved w.group s → staged_count (with_word w s) ≡ staged_count s
count_word_again w s staged some = by (place_for w.group s.words) refl some where
  by : (o : Option ℕ) → place_for w.group s.words ≡ o → IsSome o → staged_count (with_word w s) ≡ staged_count s
  by None is h = absurd (cc h)
  by (Some v) is h = let n = length_again group_of (λ x. x.pos) 0 w s.words v staged.words (place_is_value w.group s.words ∙ is) in omega arith

-- what is staged still is in order and few enough
pub entry_staged : (e : StagedEntry) (s : Stages) → AreStaged s → IsStaged e.track s ⊎ (0 < free_count s) → AreStaged (with_entry e s)
entry_staged e s staged room = record {
  entries = placed_rises track_of 0 e s.entries (omega arith) staged.entries;
  words = staged.words;
  few = by (entry_for e.track s.entries) refl room;
} where
  by : (o : Option L2Entry) → entry_for e.track s.entries ≡ o → IsSome o ⊎ (0 < free_count s) → staged_count (with_entry e s) ≤ 256
  by None is (inl h) = absurd (cc h)
  by None is (inr free) = let n = length_new track_of (λ x. x.entry) 0 e s.entries staged.entries (entry_is_value e.track s.entries ∙ is) in omega arith
  by (Some v) is h = let few = staged.few in let n = length_again track_of (λ x. x.entry) 0 e s.entries v staged.entries (entry_is_value e.track s.entries ∙ is) in omega arith

pub word_staged : (w : StagedWord) (s : Stages) → AreStaged s → IsMoved w.group s ⊎ (0 < free_count s) → AreStaged (with_word w s)
word_staged w s staged room = record {
  entries = staged.entries;
  words = placed_rises group_of 0 w s.words (omega arith) staged.words;
  few = by (place_for w.group s.words) refl room;
} where
  by : (o : Option ℕ) → place_for w.group s.words ≡ o → IsSome o ⊎ (0 < free_count s) → staged_count (with_word w s) ≤ 256
  by None is (inl h) = absurd (cc h)
  by None is (inr free) = let n = length_new group_of (λ x. x.pos) 0 w s.words staged.words (place_is_value w.group s.words ∙ is) in omega arith
  by (Some v) is h = let few = staged.few in let n = length_again group_of (λ x. x.pos) 0 w s.words v staged.words (place_is_value w.group s.words ∙ is) in omega arith

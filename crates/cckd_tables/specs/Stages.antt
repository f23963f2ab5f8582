-- How what is staged is kept, and what changes it.
use Rattle.std.specs.Prelude.{ℕ, suc, ◌≡◌, ◌≢◌, ◌<◌, Result, Ok, Err, ◌+◌, ◌-◌, ◌≤◌, ◌==◌, nat_lt, Bool, not, ◌&&◌, if◌then◌else◌, List, [], ◌∷◌, ◌++◌, length, map, filter}
use Rattle.std.specs.List.{HoldsAt, prefix_len}
use Rattle.cckd_base.specs.declared.space.Extent.{Extent}
use Rattle.cckd_base.specs.declared.space.Owner.TheVariants.{Table, Track}
use Rattle.cckd_base.specs.Entry.{see_parent}
use Rattle.cckd_tables.specs.declared.staged.StagedEntry.{StagedEntry}
use Rattle.cckd_tables.specs.declared.staged.StagedWord.{StagedWord}
use Rattle.cckd_tables.specs.Staging.{Stages}

-- numbers that rise, none of them below this one
abbrev pub RiseFrom : ℕ → List ℕ → Type 0
RiseFrom least [] = Unit {0}
RiseFrom least (n ∷ ns) = (least ≤ n) × RiseFrom (suc n) ns

-- in order of a key, each key once
abbrev pub IsOrderedBy : {X : Type 0} → (X → ℕ) → List X → Type 0
IsOrderedBy key xs = RiseFrom 0 (map key xs)

-- where the element with this key stands, or else where it would
abbrev pub IsPlaceOf : {X : Type 0} → (X → ℕ) → ℕ → List X → Result ℕ ℕ → Type 0
IsPlaceOf key k xs (Ok at) = (at ≡ prefix_len (λ x. nat_lt (key x) k) xs) × (at < length xs) × HoldsAt (λ x. key x ≡ k) xs at
IsPlaceOf key k xs (Err at) = (at ≡ prefix_len (λ x. nat_lt (key x) k) xs) × (at ≤ length xs) × (at < length xs → HoldsAt (λ x. key x ≢ k) xs at)

-- a list in order of keys with this one put in; one of the same key goes
abbrev pub with_placed : {X : Type 0} → (X → ℕ) → X → List X → List X
with_placed key x [] = x ∷ []
with_placed key x (y ∷ ys) =
    if nat_lt (key y) (key x) then y ∷ with_placed key x ys else if key y == key x then x ∷ ys else x ∷ y ∷ ys

-- what is staged, with this entry for its track
abbrev pub with_entry : StagedEntry → Stages → Stages
with_entry e s = record s { entries = with_placed (λ x. x.track) e s.entries }

-- what is staged, with this place for the table of its group
abbrev pub with_word : StagedWord → Stages → Stages
with_word w s = record s { words = with_placed (λ x. x.group) w s.words }

-- nothing is staged
abbrev pub none_staged : Stages
none_staged = record { entries = []; words = [] }

-- how many entries and words are staged
abbrev pub staged_count : Stages → ℕ
staged_count s = length s.entries + length s.words

-- how many more can be
abbrev pub free_count : Stages → ℕ
free_count s = 256 - staged_count s

-- entries in order of track, words in order of group, and no more than 256 in all
pub record AreStaged (s : Stages) : Type 0 where
  pub entries : IsOrderedBy (λ e. e.track) s.entries
  pub words : IsOrderedBy (λ w. w.group) s.words
  pub few : staged_count s ≤ 256

-- whether a position names a space
abbrev pub is_place : ℕ → Bool
is_place pos = not (pos == 0) && not (pos == see_parent)

-- the space of a group's new table
abbrev pub word_space : StagedWord → Extent
word_space w = record { pos = w.pos; len = 2048; size = 2048; owner = Table w.group }

-- the space of a track's new bytes
abbrev pub entry_space : StagedEntry → Extent
entry_space e = record { pos = e.entry.pos; len = e.entry.len; size = e.entry.size; owner = Track e.track }

-- the spaces that staged words name
abbrev pub table_spaces : List StagedWord → List Extent
table_spaces words = map word_space (filter (λ w. is_place w.pos) words)

-- the spaces that staged entries name
abbrev pub track_spaces : List StagedEntry → List Extent
track_spaces entries = map entry_space (filter (λ e. is_place e.entry.pos) entries)

-- the spaces that are staged, those of tables first
abbrev pub staged_spaces : Stages → List Extent
staged_spaces s = table_spaces s.words ++ track_spaces s.entries

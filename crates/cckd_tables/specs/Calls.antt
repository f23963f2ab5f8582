-- How many calls of the shelf a commit makes.
use Rattle.std.specs.Prelude.{ℕ, ◌≢◌, ◌⊎◌, ◌≡◌, ◌+◌, ◌*◌, ◌/◌, ◌%◌, ◌<◌, ◌≤◌, ◌==◌, ◌&&◌, Bool, if◌then◌else◌, is_some, List, [], ◌∷◌, length, drop, slice_index, Result, Ok, Err}
use Rattle.cckd_shelf.specs.Seen.{Seen}
use Rattle.cckd_tables.specs.declared.commit.Commit.{Commit}
use Rattle.cckd_tables.specs.declared.staged.StagedWord.{StagedWord}
use Rattle.cckd_tables.specs.Staging.{Stages, place_for}
use Rattle.cckd_tables.specs.Commit.{staged_tracks}
use Rattle.cckd_tables.specs.Cells.{cell}

-- at most n calls were made
abbrev pub CallsAtMost : ℕ → Seen → Seen → Type 0
CallsAtMost n old new = new.calls ≤ old.calls + n

-- at most n calls were made, and where the call was Ok, as many are left of them as its answer leaves
abbrev pub MayCall : {A E : Type 0} → ℕ → (A → ℕ) → Result A E → Seen → Seen → Type 0
MayCall n left (Ok value) old new = new.calls + left value ≤ old.calls + n
MayCall n left (Err e) old new = CallsAtMost n old new

-- the entry of a track stands right behind that of another one of its group, and both lie in one sector of 512 bytes
abbrev pub stands_behind : List ℕ → ℕ → ℕ → Bool
stands_behind words t u = (u == t + 1) && (u / 256 == t / 256) && ((cell words u + 7) / 512 == cell words t / 512)

-- the write of the entry of a track that is staged, none where its group has a new table
abbrev pub own_write : List StagedWord → ℕ → ℕ
own_write moved t = if is_some (place_for (t / 256) moved) then 0 else 1

-- the same where one is staged before it, none where it stands behind that one
abbrev pub write_behind : List ℕ → List StagedWord → ℕ → ℕ → ℕ
write_behind words moved t u = if stands_behind words t u then 0 else own_write moved u

-- the writes of the entries of some tracks, staged behind one
abbrev pub writes_behind : List ℕ → List StagedWord → ℕ → List ℕ → ℕ
writes_behind words moved t [] = 0
writes_behind words moved t (u ∷ us) = write_behind words moved t u + writes_behind words moved u us

-- The writes of the entries of some tracks, which are in order: entries of groups without a new table, where those that stand side by
-- side in one sector go in one.
abbrev pub entry_writes : List ℕ → List StagedWord → List ℕ → ℕ
entry_writes words moved [] = 0
entry_writes words moved (t ∷ ts) = own_write moved t + writes_behind words moved t ts

-- the writes of a commit: one for each new table, one for each word, and those of its entries
abbrev pub commit_writes : List ℕ → Stages → ℕ
commit_writes words stages = 2 * length stages.words + entry_writes words stages.words (staged_tracks stages.entries)

-- the writes of the staged entries of a commit from one of them on
abbrev pub writes_from : Commit → ℕ → ℕ
writes_from c first = entry_writes c.words.now c.moved.now (drop first (staged_tracks c.entries.now))

-- the calls of a commit of tables: at most one read for each new table, these writes, and a sync
abbrev pub commit_calls : List ℕ → Stages → ℕ
commit_calls words stages = length stages.words + commit_writes words stages + 1

-- The n staged entries from one on, which stands at a place, begin in its sector, and the next one doesn't stand behind them there.
pub record IsWhole (tracks : List ℕ) (first n at : ℕ) : Type 0 where
  pub begin : at % 512 + 8 * n < 520
  pub end : first + n < length tracks → (slice_index tracks (first + n) ≢ slice_index tracks first + n)
      ⊎ (((slice_index tracks first + n) % 256 ≡ 0) ⊎ (505 ≤ at % 512 + 8 * n))

-- What tables in memory become once a commit is done.
use Rattle.std.specs.Prelude.{ℕ, ◌≡◌, ◌*◌, ◌%◌, List, [], ◌∷◌, slice_set}
use Rattle.cckd_base.specs.declared.order.Order.{Order}
use Rattle.cckd_base.specs.Entry.{entry_bytes}
use Rattle.cckd_base.specs.Put.{IsPut}
use Rattle.cckd_tables.specs.declared.staged.StagedEntry.{StagedEntry}
use Rattle.cckd_tables.specs.declared.staged.StagedWord.{StagedWord}
use Rattle.cckd_tables.specs.Stages.{none_staged}
use Rattle.cckd_tables.specs.Tables.{CachedTable, TableView}
use Rattle.cckd_tables.specs.Blend.{put_over}
use Rattle.cckd_tables.specs.Cells.{IsEncoded, ArePutOver}

-- level-one words with staged ones in their places
abbrev pub with_words : List StagedWord → List ℕ → List ℕ
with_words [] words = words
with_words (s ∷ ss) words = with_words ss (slice_set words s.group s.pos)

-- a staged entry was put over the one at its place of a table
pub record PutsEntry (order : Order) (s : StagedEntry) (old new : List ℕ) : Type 0 where
  pub end : ℕ
  pub put : IsPut (8 * (s.track % 256)) end (entry_bytes order s.entry) old new
  pub encoded : IsEncoded order s.entry

-- the same groups have cached tables, and in each stand the entries of the older one, with these staged ones put over
abbrev pub AreAllPutOver : Order → List StagedEntry → List CachedTable → List CachedTable → Type 0
AreAllPutOver order entries [] [] = Unit {0}
AreAllPutOver order entries [] (d ∷ ds) = ⊥
AreAllPutOver order entries (c ∷ cs) [] = ⊥
AreAllPutOver order entries (c ∷ cs) (d ∷ ds) =
    (d.group ≡ c.group) × (d.bytes ≡ put_over order c.group entries c.bytes) × ArePutOver order c.group entries c.bytes d.bytes × AreAllPutOver order entries cs ds

-- what is staged stands in the words and in the cached tables, and nothing is staged any more
pub record Settles (old new : TableView) : Type 0 where
  pub rest : new ≡ record { layout = old.layout; words = with_words old.stages.words old.words; stages = none_staged; cached = new.cached }
  pub cached : AreAllPutOver old.layout.order old.stages.entries old.cached new.cached

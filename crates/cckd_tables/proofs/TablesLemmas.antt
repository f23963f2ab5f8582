-- What holds of each `Tables` after a change.
use Rattle.std.proofs.Common.{◌≡◌, ◌<◌, sym, subst}
use Rattle.cckd_base.specs.Geometry.{track_count}
use Rattle.cckd_tables.specs.declared.staged.StagedEntry.{StagedEntry}
use Rattle.cckd_tables.specs.declared.staged.StagedWord.{StagedWord}
use Rattle.cckd_tables.specs.Staging.{Stages}
use Rattle.cckd_tables.specs.Stages.{AreStaged, with_entry, with_word}
use Rattle.cckd_tables.specs.Tables.{TableView}
use Rattle.cckd_tables.specs.Looking.{IsTables, AreThere, with_stages}
use Rattle.cckd_tables.proofs.PlacedLemmas.{all_placed}
use Rattle.cckd_tables.proofs.StageLemmas.{track_of, group_of}

pub entry_tables : (v : TableView) (e : StagedEntry) (s : Stages) → IsTables v → e.track < track_count v.layout.geo → s ≡ with_entry e v.stages → AreStaged s → IsTables (with_stages v s)
entry_tables v e s tables there put staged = record {
  layout = tables.layout;
  words = tables.words;
  staged = staged;
  there = subst (AreThere v.layout) (sym put) (record {
    tracks = all_placed track_of (λ x. x.track < track_count v.layout.geo) e v.stages.entries there tables.there.tracks;
    groups = tables.there.groups;
  });
  few = tables.few;
}

pub word_tables : (v : TableView) (w : StagedWord) (s : Stages) → IsTables v → w.group < v.layout.groups → s ≡ with_word w v.stages → AreStaged s → IsTables (with_stages v s)
word_tables v w s tables there put staged = record {
  layout = tables.layout;
  words = tables.words;
  staged = staged;
  there = subst (AreThere v.layout) (sym put) (record {
    tracks = tables.there.tracks;
    groups = all_placed group_of (λ x. x.group < v.layout.groups) w v.stages.words there tables.there.groups;
  });
  few = tables.few;
}

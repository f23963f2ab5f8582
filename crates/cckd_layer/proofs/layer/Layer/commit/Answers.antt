use Rattle.std.proofs.Common.{List, take, false, refl, ◌∙◌, subst}
use Rattle.cckd_shelf.specs.Seen.{seen}
use Rattle.cckd_tables.specs.declared.staged.StagedEntry.{StagedEntry}
use Rattle.cckd_tables.specs.declared.staged.StagedWord.{StagedWord}
use Rattle.cckd_layer.specs.Mounted.{LayerState}
use Rattle.cckd_layer.specs.Writes.{StopsWithin, KeepsMap, SettlesCommit, IsCommitted}
use Rattle.cckd_layer.proofs.WritesLemmas.{committed_agrees, commit_within, commits_of}
use Rattle.cckd_layer.specs.Calm.{LeavesFile}
use Rattle.cckd_layer.proofs.CalmLemmas.{commit_leaves}
use Rattle.cckd_layer.specs.Headed.{KeepsHeaders}
use Rattle.cckd_layer.proofs.HeadedLemmas.{commit_headers}
use Rattle.cckd_layer.proofs.layer.Layer.commit.Goals as goal

pub returns-in-Ok-clause-map : goal.returns-in-Ok-clause-map
returns-in-Ok-clause-map g c =
    let i = c.self.inside in
    let old = seen g.T.Shows c.args.stage.now in
    let new = seen g.T.Shows c.commit.new.stage in
    let s : LayerState = record { slot = i.slot; header = i.header; tables = i.tables; plan = i.space; marked = i.marked; hardened = i.hardened; broken = i.broken } in
    let next : LayerState = record { slot = i.slot; header = i.header; tables = c.commit.new.self; plan = c.settle_commit.new.space; marked = i.marked; hardened = false; broken = i.broken } in
    let entries = c.copy_entries-tracks.ensures.front ∙ c.staged_entries.ensures in
    let words = c.copy_words-groups.ensures.front ∙ c.staged_words.ensures in
    let pieces : SettlesCommit i.tables.stages i.space c.settle_commit.new.space =
    subst (λ (es : List StagedEntry). SettlesCommit (record { entries = es; words = i.tables.stages.words }) i.space c.settle_commit.new.space) entries
    (subst (λ (ws : List StagedWord). SettlesCommit (record { entries = take c.copy_entries-tracks.result c.copy_entries-tracks.new.into; words = ws }) i.space c.settle_commit.new.space) words c.settle_commit.ensures.settles) in
    let done : IsCommitted s next = record { tables = c.in-Ok.ensures.settled; pieces = pieces; sound = c.settle_commit.ensures.sound; rest = refl } in
    subst (λ (x : LayerState). KeepsMap g.U.Unit.null_bytes x next old new) c.self.view_is
    (λ told a.
    let can = commits_of s old c.layout-layout.ensures.tables told a in
    committed_agrees g.U.Unit.null_bytes s next old new c.layout-layout.ensures.tables a (c.in-Ok.ensures.sure told a.stands.sure) (c.in-Ok.ensures.done can told)
    (c.in-Ok.ensures.now can) (c.in-Ok.ensures.of can) done)

pub returns-in-Ok-clause-stopped : goal.returns-in-Ok-clause-stopped
returns-in-Ok-clause-stopped g c =
    let i = c.self.inside in
    let old = seen g.T.Shows c.args.stage.now in
    let new = seen g.T.Shows c.commit.new.stage in
    let s : LayerState = record { slot = i.slot; header = i.header; tables = i.tables; plan = i.space; marked = i.marked; hardened = i.hardened; broken = i.broken } in
    subst (λ (x : LayerState). StopsWithin g.U.Unit.null_bytes x old new) c.self.view_is
    (commit_within g.U.Unit.null_bytes s old new c.layout-layout.ensures.tables c.commit.ensures.stopped)

pub returns-in-Err-clause-stopped : goal.returns-in-Err-clause-stopped
returns-in-Err-clause-stopped g c =
    let i = c.self.inside in
    let old = seen g.T.Shows c.args.stage.now in
    let new = seen g.T.Shows c.commit.new.stage in
    let s : LayerState = record { slot = i.slot; header = i.header; tables = i.tables; plan = i.space; marked = i.marked; hardened = i.hardened; broken = i.broken } in
    subst (λ (x : LayerState). StopsWithin g.U.Unit.null_bytes x old new) c.self.view_is
    (commit_within g.U.Unit.null_bytes s old new c.layout-layout.ensures.tables c.commit.ensures.stopped)

pub returns-in-Ok-clause-leaves : goal.returns-in-Ok-clause-leaves
returns-in-Ok-clause-leaves g c =
    let i = c.self.inside in
    let old = seen g.T.Shows c.args.stage.now in
    let new = seen g.T.Shows c.commit.new.stage in
    let s : LayerState = record { slot = i.slot; header = i.header; tables = i.tables; plan = i.space; marked = i.marked; hardened = i.hardened; broken = i.broken } in
    subst (λ (x : LayerState). LeavesFile x old new) c.self.view_is
    (commit_leaves s old new c.layout-layout.ensures.tables c.commit.ensures.stopped c.in-Ok.ensures.now)

pub returns-in-Ok-clause-headers : goal.returns-in-Ok-clause-headers
returns-in-Ok-clause-headers g c =
    let i = c.self.inside in
    let old = seen g.T.Shows c.args.stage.now in
    let new = seen g.T.Shows c.commit.new.stage in
    let s : LayerState = record { slot = i.slot; header = i.header; tables = i.tables; plan = i.space; marked = i.marked; hardened = i.hardened; broken = i.broken } in
    subst (λ (x : LayerState). KeepsHeaders x old new) c.self.view_is
    (commit_headers s old new c.layout-layout.ensures.tables c.commit.ensures.stopped)

pub returns-in-Err-clause-headers : goal.returns-in-Err-clause-headers
returns-in-Err-clause-headers g c =
    let i = c.self.inside in
    let old = seen g.T.Shows c.args.stage.now in
    let new = seen g.T.Shows c.commit.new.stage in
    let s : LayerState = record { slot = i.slot; header = i.header; tables = i.tables; plan = i.space; marked = i.marked; hardened = i.hardened; broken = i.broken } in
    subst (λ (x : LayerState). KeepsHeaders x old new) c.self.view_is
    (commit_headers s old new c.layout-layout.ensures.tables c.commit.ensures.stopped)

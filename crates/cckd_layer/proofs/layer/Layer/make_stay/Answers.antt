use Rattle.std.proofs.Common.{◌≡◌, true, refl, subst}
use Rattle.cckd_shelf.specs.Seen.{seen}
use Rattle.cckd_shelf.specs.Frame.{OnlyIn}
use Rattle.cckd_shelf.specs.Outcomes.{IsOutcome}
use Rattle.cckd_shelf.specs.Stops.{StopsLeave}
use Rattle.cckd_shelf.proofs.FrameLemmas.{only_synced}
use Rattle.cckd_layer.specs.Stands.{nothing_staged}
use Rattle.cckd_layer.specs.Mounted.{LayerState}
use Rattle.cckd_layer.specs.Writes.{StopsWithin, KeepsMap, StopHolds, IsReleased}
use Rattle.cckd_layer.proofs.WritesLemmas.{released_agrees, synced_holds, sync_within}
use Rattle.cckd_layer.proofs.HeadedLemmas.{sync_adds}
use Rattle.cckd_layer.proofs.layer.Layer.make_stay.Goals as goal

pub returns-in_default-clause-stopped : goal.returns-in_default-clause-stopped
returns-in_default-clause-stopped g c =
    let i = c.self.inside in
    let old = seen g.T.Shows c.args.stage.now in
    let new = seen g.T.Shows c.sync-synced.new.self in
    let s : LayerState = record { slot = i.slot; header = i.header; tables = i.tables; plan = i.space; marked = i.marked; hardened = i.hardened; broken = i.broken } in
    subst (λ (x : LayerState). StopsWithin g.U.Unit.null_bytes x old new) c.self.view_is
    (sync_within g.U.Unit.null_bytes s old new c.sync-synced.result c.sync-synced.ensures.synced c.sync-synced.ensures.kept)

pub returns-clause-stopped : goal.returns-clause-stopped
returns-clause-stopped g c =
    let i = c.self.inside in
    let old = seen g.T.Shows c.args.stage.now in
    let new = seen g.T.Shows c.sync-synced.new.self in
    let s : LayerState = record { slot = i.slot; header = i.header; tables = i.tables; plan = i.space; marked = i.marked; hardened = i.hardened; broken = i.broken } in
    subst (λ (x : LayerState). StopsWithin g.U.Unit.null_bytes x old new) c.self.view_is
    (sync_within g.U.Unit.null_bytes s old new c.sync-synced.result c.sync-synced.ensures.synced c.sync-synced.ensures.kept)

pub returns-clause-others : goal.returns-clause-others
returns-clause-others g c =
    let i = c.self.inside in
    let old = seen g.T.Shows c.args.stage.now in
    let new = seen g.T.Shows c.sync-synced.new.self in
    subst (λ (x : LayerState). OnlyIn x.slot old new) c.self.view_is
    (only_synced i.slot i.slot old new c.sync-synced.result c.sync-synced.ensures.synced c.sync-synced.ensures.kept)

pub returns-clause-map : goal.returns-clause-map
returns-clause-map g c =
    let i = c.self.inside in
    let old = seen g.T.Shows c.args.stage.now in
    let new = seen g.T.Shows c.sync-synced.new.self in
    let s : LayerState = record { slot = i.slot; header = i.header; tables = i.tables; plan = i.space; marked = i.marked; hardened = i.hardened; broken = i.broken } in
    let next : LayerState = record { slot = i.slot; header = i.header; tables = i.tables; plan = c.release_all.new.self; marked = i.marked; hardened = true; broken = i.broken } in
    let done : IsReleased s next = record { pieces = c.release_all.ensures.becomes; sound = c.release_all.ensures.sound; rest = refl } in
    subst (λ (x : LayerState). x.tables.stages ≡ nothing_staged → KeepsMap g.U.Unit.null_bytes x next old new) c.self.view_is
    (λ empty told a. released_agrees g.U.Unit.null_bytes s next old new empty (c.in-Ok.ensures.synced told) done a)

pub returns-clause-holds : goal.returns-clause-holds
returns-clause-holds g c =
    let i = c.self.inside in
    let old = seen g.T.Shows c.args.stage.now in
    let new = seen g.T.Shows c.sync-synced.new.self in
    let s : LayerState = record { slot = i.slot; header = i.header; tables = i.tables; plan = i.space; marked = i.marked; hardened = i.hardened; broken = i.broken } in
    subst (λ (x : LayerState). x.tables.stages ≡ nothing_staged → StopHolds g.U.Unit.null_bytes x old new) c.self.view_is
    (λ empty told a. synced_holds g.U.Unit.null_bytes s old new empty (c.in-Ok.ensures.synced told) told a)

pub returns-in_default-clause-added : goal.returns-in_default-clause-added
returns-in_default-clause-added g c =
    let i = c.self.inside in
    let old = seen g.T.Shows c.args.stage.now in
    let new = seen g.T.Shows c.sync-synced.new.self in
    let s : LayerState = record { slot = i.slot; header = i.header; tables = i.tables; plan = i.space; marked = i.marked; hardened = i.hardened; broken = i.broken } in
    subst (λ (x : LayerState). StopsLeave x.slot (IsOutcome old.world.events x.slot) old new) c.self.view_is
    (sync_adds s old new c.sync-synced.result c.sync-synced.ensures.synced c.sync-synced.ensures.kept)

pub returns-clause-added : goal.returns-clause-added
returns-clause-added g c =
    let i = c.self.inside in
    let old = seen g.T.Shows c.args.stage.now in
    let new = seen g.T.Shows c.sync-synced.new.self in
    let s : LayerState = record { slot = i.slot; header = i.header; tables = i.tables; plan = i.space; marked = i.marked; hardened = i.hardened; broken = i.broken } in
    subst (λ (x : LayerState). StopsLeave x.slot (IsOutcome old.world.events x.slot) old new) c.self.view_is
    (sync_adds s old new c.sync-synced.result c.sync-synced.ensures.synced c.sync-synced.ensures.kept)

use Rattle.cckd_shelf.specs.Seen.{seen}
use Rattle.std.proofs.Common.{◌≡◌, length, sym, ap, subst}
use Rattle.cckd_shelf.specs.World.{World, file_of}
use Rattle.cckd_tables.specs.Cells.{AreTablesWritten}
use Rattle.cckd_shelf.proofs.MomentLemmas.{then_synced}
use Rattle.cckd_shelf.proofs.FrameLemmas.{only_twice, only_synced}
use Rattle.cckd_tables.specs.Commit.{IsNearOutcome, stages_of}
use Rattle.cckd_tables.proofs.CommitLemmas.{synced_now, disjoint_of}
use Rattle.cckd_tables.proofs.commit.Commit.prepare.Goals as goal

pub returns-clause-stopped : goal.returns-clause-stopped
returns-clause-stopped g c = λ told.
    let old = seen g.S.Shows c.args.shelf.now in
    then_synced (IsNearOutcome (stages_of c.args.self.now) c.args.slot old.world.events) c.args.slot c.args.slot old (seen g.S.Shows c.write_tables.new.shelf) (seen g.S.Shows c.sync-synced.new.self) c.sync-synced.result
    c.sync-synced.ensures.synced c.sync-synced.ensures.kept told (c.write_tables.ensures.stopped told)

pub returns-clause-done : goal.returns-clause-done
returns-clause-done g c = λ may.
    let old = seen g.S.Shows c.args.shelf.now in
    let was = file_of old.world c.args.slot in
    synced_now c.args.self.now c.args.slot old (seen g.S.Shows c.write_tables.new.shelf) (seen g.S.Shows c.sync-synced.new.self) c.requires may may.tells
    (c.in-Ok.ensures.sure may.tells may.sure) (c.in-Ok.ensures.near may.tells)
    (c.in-Ok.ensures.now may.tells (disjoint_of c.args.self.now.layout.now (stages_of c.args.self.now) was c.requires.order.groups may.can)) c.in-Ok-synced.ensures.synced

pub returns-clause-others : goal.returns-clause-others
returns-clause-others g c =
    only_twice c.args.slot (seen g.S.Shows c.args.shelf.now) (seen g.S.Shows c.write_tables.new.shelf) (seen g.S.Shows c.sync-synced.new.self) (λ told. told) c.write_tables.ensures.others
    (only_synced c.args.slot c.args.slot (seen g.S.Shows c.write_tables.new.shelf) (seen g.S.Shows c.sync-synced.new.self) c.sync-synced.result c.sync-synced.ensures.synced c.sync-synced.ensures.kept)

pub returns-clause-tables : goal.returns-clause-tables
returns-clause-tables g c = λ may.
    let was = file_of (seen g.S.Shows c.args.shelf.now).world c.args.slot in
    let mid = seen g.S.Shows c.write_tables.new.shelf in
    let same : file_of (seen g.S.Shows c.sync-synced.new.self).world c.args.slot ≡ file_of mid.world c.args.slot = ap (λ (w : World). file_of w c.args.slot) (c.in-Ok-synced.ensures.synced may.tells) in
    subst (AreTablesWritten c.args.self.now.moved.now c.args.self.now.tables.now (length c.args.self.now.moved.now)) (sym same)
    (c.in-Ok.ensures.now may.tells (disjoint_of c.args.self.now.layout.now (stages_of c.args.self.now) was c.requires.order.groups may.can))

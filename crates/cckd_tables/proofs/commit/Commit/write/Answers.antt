use Rattle.std.proofs.Common.{refl}
use Rattle.cckd_shelf.specs.Seen.{seen}
use Rattle.cckd_shelf.specs.World.{file_of}
use Rattle.cckd_shelf.proofs.FrameLemmas.{only_twice}
use Rattle.cckd_tables.specs.Commit.{stages_of}
use Rattle.cckd_tables.proofs.CommitLemmas.{ready_of, words_of, begun, near_left, all_left, blended_at_end, has_new, tables_stay}
use Rattle.cckd_tables.proofs.PlacesLemmas.{all_places}
use Rattle.cckd_tables.proofs.commit.Commit.write.Goals as goal

pub returns-in_err-prepare-clause-stopped : goal.returns-in_err-prepare-clause-stopped
returns-in_err-prepare-clause-stopped g c = λ may.
    let old = seen g.S.Shows c.args.shelf.now in
    near_left c.args.self.now.layout.now (stages_of c.args.self.now) c.args.slot (file_of old.world c.args.slot) old (seen g.S.Shows c.prepare.new.shelf) c.prepare.ensures.stopped

pub returns-in_default-clause-stopped : goal.returns-in_default-clause-stopped
returns-in_default-clause-stopped g c = λ may.
    let l = c.args.self.now.layout.now in
    let stages = stages_of c.args.self.now in
    let old = seen g.S.Shows c.args.shelf.now in
    let mid = seen g.S.Shows c.prepare.new.shelf in
    let new = seen g.S.Shows c.put_over.new.shelf in
    let was = file_of old.world c.args.slot in
    let synced = c.in_ok-prepare.ensures.done may in
    all_left l stages c.args.slot was old mid new (λ told. told) c.prepare.ensures.stopped synced
    (c.put_over.ensures.stopped (file_of mid.world c.args.slot) (ready_of l stages was (file_of mid.world c.args.slot) c.requires.layout synced.synced)
    (words_of l c.args.self.now.words.now stages was (file_of mid.world c.args.slot) synced.synced may.words) (begun l stages c.args.slot was mid synced))

pub returns-in_default-clause-others : goal.returns-in_default-clause-others
returns-in_default-clause-others g c =
    only_twice c.args.slot (seen g.S.Shows c.args.shelf.now) (seen g.S.Shows c.prepare.new.shelf) (seen g.S.Shows c.put_over.new.shelf) (λ told. told) c.prepare.ensures.others c.put_over.ensures.others

pub returns-clause-stopped : goal.returns-clause-stopped
returns-clause-stopped g c = λ may.
    let l = c.args.self.now.layout.now in
    let stages = stages_of c.args.self.now in
    let old = seen g.S.Shows c.args.shelf.now in
    let mid = seen g.S.Shows c.prepare.new.shelf in
    let new = seen g.S.Shows c.put_over.new.shelf in
    let was = file_of old.world c.args.slot in
    let synced = c.in_ok-prepare.ensures.done may in
    all_left l stages c.args.slot was old mid new (λ told. told) c.prepare.ensures.stopped synced
    (c.put_over.ensures.stopped (file_of mid.world c.args.slot) (ready_of l stages was (file_of mid.world c.args.slot) c.requires.layout synced.synced)
    (words_of l c.args.self.now.words.now stages was (file_of mid.world c.args.slot) synced.synced may.words) (begun l stages c.args.slot was mid synced))

pub returns-clause-done : goal.returns-clause-done
returns-clause-done g c = λ may.
    let l = c.args.self.now.layout.now in
    let stages = stages_of c.args.self.now in
    let mid = seen g.S.Shows c.prepare.new.shelf in
    let new = seen g.S.Shows c.put_over.new.shelf in
    let was = file_of (seen g.S.Shows c.args.shelf.now).world c.args.slot in
    let synced = c.in_ok-prepare.ensures.done may in
    blended_at_end l stages c.args.slot was mid new (λ told. told) synced
    (c.put_over.ensures.stopped (file_of mid.world c.args.slot) (ready_of l stages was (file_of mid.world c.args.slot) c.requires.layout synced.synced)
    (words_of l c.args.self.now.words.now stages was (file_of mid.world c.args.slot) synced.synced may.words) (begun l stages c.args.slot was mid synced))

pub returns-clause-now : goal.returns-clause-now
returns-clause-now g c = λ may.
    let l = c.args.self.now.layout.now in
    let stages = stages_of c.args.self.now in
    let mid = seen g.S.Shows c.prepare.new.shelf in
    let was = file_of (seen g.S.Shows c.args.shelf.now).world c.args.slot in
    let synced = c.in_ok-prepare.ensures.done may in (
      file_of mid.world c.args.slot,
      synced.synced,
      c.in-Ok.ensures.now (file_of mid.world c.args.slot) (ready_of l stages was (file_of mid.world c.args.slot) c.requires.layout synced.synced)
          (words_of l c.args.self.now.words.now stages was (file_of mid.world c.args.slot) synced.synced may.words) may.tells refl,
    )

pub returns-clause-others : goal.returns-clause-others
returns-clause-others g c =
    only_twice c.args.slot (seen g.S.Shows c.args.shelf.now) (seen g.S.Shows c.prepare.new.shelf) (seen g.S.Shows c.put_over.new.shelf) (λ told. told) c.prepare.ensures.others c.put_over.ensures.others

pub returns-clause-tables : goal.returns-clause-tables
returns-clause-tables g c = λ may.
    let l = c.args.self.now.layout.now in
    let stages = stages_of c.args.self.now in
    let mid = seen g.S.Shows c.prepare.new.shelf in
    let new = seen g.S.Shows c.put_over.new.shelf in
    let was = file_of (seen g.S.Shows c.args.shelf.now).world c.args.slot in
    let synced = c.in_ok-prepare.ensures.done may in
    let ready = ready_of l stages was (file_of mid.world c.args.slot) c.requires.layout synced.synced in
    let committed = c.in-Ok.ensures.now (file_of mid.world c.args.slot) ready
    (words_of l c.args.self.now.words.now stages was (file_of mid.world c.args.slot) synced.synced may.words) may.tells refl in
    tables_stay l stages (file_of mid.world c.args.slot) (file_of new.world c.args.slot) c.args.self.now.tables.now ready c.requires.order committed.blend (c.in_ok-prepare.ensures.tables may)

pub returns-clause-spelled : goal.returns-clause-spelled
returns-clause-spelled g c = λ may inside.
    let l = c.args.self.now.layout.now in
    let stages = stages_of c.args.self.now in
    let mid = file_of (seen g.S.Shows c.prepare.new.shelf).world c.args.slot in
    let file = file_of (seen g.S.Shows c.put_over.new.shelf).world c.args.slot in
    let was = file_of (seen g.S.Shows c.args.shelf.now).world c.args.slot in
    let synced = c.in_ok-prepare.ensures.done may in
    let ready = ready_of l stages was mid c.requires.layout synced.synced in
    let committed = c.in-Ok.ensures.now mid ready (words_of l c.args.self.now.words.now stages was mid synced.synced may.words) may.tells refl in
    all_places l stages was mid file c.requires.layout c.requires.order synced.synced committed
    (has_new l stages was file c.args.self.now.tables.now may.spelled (tables_stay l stages mid file c.args.self.now.tables.now ready c.requires.order committed.blend (c.in_ok-prepare.ensures.tables may))) inside

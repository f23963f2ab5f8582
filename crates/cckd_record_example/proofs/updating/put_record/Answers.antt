use Rattle.cckd_shelf.specs.Seen.{seen}
use Rattle.cckd_shelf.proofs.FrameLemmas.{only_wrote, only_synced, only_twice}
use Rattle.cckd_shelf.proofs.MomentLemmas.{wrote, then_synced, held_wrote, sync_done}
use Rattle.cckd_shelf.proofs.OutcomeLemmas.{held_from_each}
use Rattle.cckd_record_example.specs.Records.{Shows, ShowsBeside}
use Rattle.cckd_record_example.proofs.RecordLemmas.{shows_stays, placed_beside}
use Rattle.cckd_record_example.proofs.updating.put_record.Goals as goal

pub returns-in_err-write-clause-stopped : goal.returns-in_err-write-clause-stopped
returns-in_err-write-clause-stopped g c = λ p old apart each told.
    wrote (Shows p old) (Shows p old) c.args.slot c.args.place c.args.value.now (seen g.S.Shows c.args.shelf.now) (seen g.S.Shows c.write.new.self)
    c.write.result c.write.ensures.written c.write.ensures.torn told (each told) (λ was h. h)
    (λ was file h leaves. shows_stays p c.args.place old c.args.value.now was file c.requires.size c.requires.behind apart h leaves)

pub returns-in_err-write-clause-others : goal.returns-in_err-write-clause-others
returns-in_err-write-clause-others g c =
    only_wrote c.args.slot c.args.place c.args.value.now (seen g.S.Shows c.args.shelf.now) (seen g.S.Shows c.write.new.self) c.write.result c.write.ensures.written c.write.ensures.torn

pub returns-clause-stopped : goal.returns-clause-stopped
returns-clause-stopped g c = λ p old apart each told.
    then_synced (Shows p old) c.args.slot c.args.slot (seen g.S.Shows c.args.shelf.now) (seen g.S.Shows c.write.new.self) (seen g.S.Shows c.sync.new.self)
    c.sync.result c.sync.ensures.synced c.sync.ensures.kept told
    (wrote (Shows p old) (Shows p old) c.args.slot c.args.place c.args.value.now (seen g.S.Shows c.args.shelf.now) (seen g.S.Shows c.write.new.self)
    c.write.result c.write.ensures.written c.write.ensures.torn told (each told) (λ was h. h)
    (λ was file h leaves. shows_stays p c.args.place old c.args.value.now was file c.requires.size c.requires.behind apart h leaves))

pub returns-clause-placed : goal.returns-clause-placed
returns-clause-placed g c = λ p old apart each.
    sync_done (ShowsBeside p old c.args.place c.args.value.now) c.args.slot (seen g.S.Shows c.write.new.self) (seen g.S.Shows c.sync.new.self) c.sync.result c.sync.ensures.synced
    (λ told. held_wrote (Shows p old) (ShowsBeside p old c.args.place c.args.value.now) c.args.slot c.args.place c.args.value.now
    (seen g.S.Shows c.args.shelf.now) (seen g.S.Shows c.write.new.self) c.in_ok-write.ensures.written told
    (held_from_each (Shows p old) c.args.slot (seen g.S.Shows c.args.shelf.now).world.events (each told))
    (λ was h. placed_beside p c.args.place old c.args.value.now was c.requires.size c.requires.behind apart h))

pub returns-clause-others : goal.returns-clause-others
returns-clause-others g c =
    only_twice c.args.slot (seen g.S.Shows c.args.shelf.now) (seen g.S.Shows c.write.new.self) (seen g.S.Shows c.sync.new.self) (λ told. told)
    (only_wrote c.args.slot c.args.place c.args.value.now (seen g.S.Shows c.args.shelf.now) (seen g.S.Shows c.write.new.self) c.write.result c.write.ensures.written c.write.ensures.torn)
    (only_synced c.args.slot c.args.slot (seen g.S.Shows c.write.new.self) (seen g.S.Shows c.sync.new.self) c.sync.result c.sync.ensures.synced c.sync.ensures.kept)

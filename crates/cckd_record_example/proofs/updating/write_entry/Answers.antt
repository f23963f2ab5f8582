use Rattle.std.proofs.Common.{◌≡◌, ◌∙◌, ap, length, inl, refl}
use Rattle.cckd_shelf.specs.Seen.{seen}
use Rattle.cckd_shelf.proofs.FrameLemmas.{only_wrote, only_synced, only_twice}
use Rattle.cckd_shelf.proofs.MomentLemmas.{wrote, then_synced, held_wrote, sync_done}
use Rattle.cckd_shelf.proofs.OutcomeLemmas.{held_from_each}
use Rattle.cckd_record_example.specs.Records.{Shows, ShowsBeside, ShowsEither}
use Rattle.cckd_record_example.proofs.RecordLemmas.{pointed, pointed_or_not}
use Rattle.cckd_record_example.proofs.updating.write_entry.Goals as goal

pub returns-in_err-write-clause-stopped : goal.returns-in_err-write-clause-stopped
returns-in_err-write-clause-stopped g c = λ p old value each told.
    let size : length c.args.entry.now ≡ 8 = ap length c.requires ∙ refl in
    wrote (ShowsBeside p old c.args.place value) (ShowsEither p old c.args.place value) c.args.slot 0 c.args.entry.now
    (seen g.S.Shows c.args.shelf.now) (seen g.S.Shows c.write.new.self)
    c.write.result c.write.ensures.written c.write.ensures.torn told (each told) (λ was h. inl h.shows)
    (λ was file h leaves. pointed_or_not p c.args.place old value c.args.entry.now was file c.requires size h leaves)

pub returns-in_err-write-clause-others : goal.returns-in_err-write-clause-others
returns-in_err-write-clause-others g c =
    only_wrote c.args.slot 0 c.args.entry.now (seen g.S.Shows c.args.shelf.now) (seen g.S.Shows c.write.new.self) c.write.result c.write.ensures.written c.write.ensures.torn

pub returns-clause-stopped : goal.returns-clause-stopped
returns-clause-stopped g c = λ p old value each told.
    let size : length c.args.entry.now ≡ 8 = ap length c.requires ∙ refl in
    then_synced (ShowsEither p old c.args.place value) c.args.slot c.args.slot (seen g.S.Shows c.args.shelf.now) (seen g.S.Shows c.write.new.self) (seen g.S.Shows c.sync.new.self)
    c.sync.result c.sync.ensures.synced c.sync.ensures.kept told
    (wrote (ShowsBeside p old c.args.place value) (ShowsEither p old c.args.place value) c.args.slot 0 c.args.entry.now
    (seen g.S.Shows c.args.shelf.now) (seen g.S.Shows c.write.new.self)
    c.write.result c.write.ensures.written c.write.ensures.torn told (each told) (λ was h. inl h.shows)
    (λ was file h leaves. pointed_or_not p c.args.place old value c.args.entry.now was file c.requires size h leaves))

pub returns-clause-done : goal.returns-clause-done
returns-clause-done g c = λ p old value each.
    let size : length c.args.entry.now ≡ 8 = ap length c.requires ∙ refl in
    sync_done (Shows c.args.place value) c.args.slot (seen g.S.Shows c.write.new.self) (seen g.S.Shows c.sync.new.self) c.sync.result c.sync.ensures.synced
    (λ told. held_wrote (ShowsBeside p old c.args.place value) (Shows c.args.place value) c.args.slot 0 c.args.entry.now
    (seen g.S.Shows c.args.shelf.now) (seen g.S.Shows c.write.new.self) c.in_ok-write.ensures.written told
    (held_from_each (ShowsBeside p old c.args.place value) c.args.slot (seen g.S.Shows c.args.shelf.now).world.events (each told))
    (λ was h. pointed p c.args.place old value c.args.entry.now was c.requires size h))

pub returns-clause-others : goal.returns-clause-others
returns-clause-others g c =
    only_twice c.args.slot (seen g.S.Shows c.args.shelf.now) (seen g.S.Shows c.write.new.self) (seen g.S.Shows c.sync.new.self) (λ told. told)
    (only_wrote c.args.slot 0 c.args.entry.now (seen g.S.Shows c.args.shelf.now) (seen g.S.Shows c.write.new.self) c.write.result c.write.ensures.written c.write.ensures.torn)
    (only_synced c.args.slot c.args.slot (seen g.S.Shows c.write.new.self) (seen g.S.Shows c.sync.new.self) c.sync.result c.sync.ensures.synced c.sync.ensures.kept)

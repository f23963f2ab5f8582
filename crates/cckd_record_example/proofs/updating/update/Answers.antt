use Rattle.std.proofs.Common.{inl}
use Rattle.cckd_shelf.specs.Outcomes.{EachOutcome}
use Rattle.cckd_shelf.specs.Seen.{seen}
use Rattle.cckd_shelf.proofs.FrameLemmas.{only_twice}
use Rattle.cckd_shelf.proofs.MomentLemmas.{joins, weaker}
use Rattle.cckd_record_example.specs.Records.{Shows, ShowsEither}
use Rattle.cckd_record_example.proofs.updating.update.Goals as goal

pub returns-in_err-put_record-clause-stopped : goal.returns-in_err-put_record-clause-stopped
returns-in_err-put_record-clause-stopped g c = λ p old apart each told.
    weaker (EachOutcome c.args.slot (Shows p old)) (EachOutcome c.args.slot (ShowsEither p old c.args.place c.args.value.now)) _ _
    (λ es held file outcome. inl (held file outcome)) (c.put_record.ensures.stopped p old apart each told)

pub returns-clause-stopped : goal.returns-clause-stopped
returns-clause-stopped g c = λ p old apart each told.
    joins (EachOutcome c.args.slot (ShowsEither p old c.args.place c.args.value.now)) _ _ _
    (weaker (EachOutcome c.args.slot (Shows p old)) (EachOutcome c.args.slot (ShowsEither p old c.args.place c.args.value.now)) _ _
    (λ es held file outcome. inl (held file outcome)) (c.put_record.ensures.stopped p old apart each told))
    (c.point_to.ensures.stopped p old c.args.value.now (c.in_ok-put_record.ensures.placed p old apart each) told)

pub returns-clause-done : goal.returns-clause-done
returns-clause-done g c = λ p old apart each.
    c.point_to.ensures.done p old c.args.value.now (c.in_ok-put_record.ensures.placed p old apart each)

pub returns-clause-others : goal.returns-clause-others
returns-clause-others g c =
    only_twice c.args.slot (seen g.S.Shows c.args.shelf.now) (seen g.S.Shows c.put_record.new.shelf) (seen g.S.Shows c.point_to.new.shelf) (λ told. told)
    c.put_record.ensures.others c.point_to.ensures.others

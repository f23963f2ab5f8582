use Rattle.std.proofs.Common.{◌≡◌, length, sym, subst}
use Rattle.cckd_shelf.specs.World.{World, IsSure, file_of}
use Rattle.cckd_shelf.specs.Seen.{seen}
use Rattle.cckd_base.specs.Image.{IsHeaded}
use Rattle.cckd_image.specs.Image.{identifiers_of}
use Rattle.cckd_layer.proofs.OpenLemmas.{stays_same, cause_before, survey_cause, err_looks, looks_behind}
use Rattle.cckd_layer.proofs.mounting.examine.Goals as goal

pub survey-requires-clause-length : goal.survey-requires-clause-length
survey-requires-clause-length g c = λ told sure.
    let kept = c.in-Ok.ensures.looks.kept told in
    subst (λ (w : World). c.in-Ok.found.len ≡ length (file_of w c.args.slot)) (sym kept) (c.in-Ok.ensures.headed told (subst IsSure kept sure)).long

pub returns-in-Ok-survey-clause-looks : goal.returns-in-Ok-survey-clause-looks
returns-in-Ok-survey-clause-looks g c =
    looks_behind _ (seen g.T.Shows c.args.stage.now) (seen g.T.Shows c.find.new.stage) (seen g.T.Shows c.survey.new.stage) (λ told. told)
    c.in-Ok.ensures.looks.kept c.in-Ok.ensures.looks.counts
    (record { kept = c.in-Ok-survey.ensures.looks.kept; counts = c.in-Ok-survey.ensures.looks.counts })

pub returns-in-Err-survey-clause-cause : goal.returns-in-Err-survey-clause-cause
returns-in-Err-survey-clause-cause g c =
    let old = seen g.T.Shows c.args.stage.now in
    let mid = seen g.T.Shows c.find.new.stage in
    cause_before c.args.roles c.args.slot old mid c.in-Err-survey.fault (stays_same c.args.slot old mid (λ told. told) c.in-Ok.ensures.looks.kept)
    (survey_cause c.args.roles c.args.slot c.in-Ok.found.layout mid c.in-Err-survey.fault
    (λ told sure.
    let kept = c.in-Ok.ensures.looks.kept told in
    subst (λ (w : World). IsHeaded (identifiers_of c.args.roles) c.in-Ok.found.layout (file_of w c.args.slot)) (sym kept) (c.in-Ok.ensures.headed told (subst IsSure kept sure)).headed)
    c.in-Err-survey.ensures.cause)

pub returns-in-Err-survey-clause-looks : goal.returns-in-Err-survey-clause-looks
returns-in-Err-survey-clause-looks g c =
    err_looks _ _ c.in-Err-survey.fault (seen g.T.Shows c.args.stage.now) (seen g.T.Shows c.find.new.stage) (seen g.T.Shows c.survey.new.stage) (λ told. told)
    c.in-Ok.ensures.looks.kept c.in-Ok.ensures.looks.counts c.in-Err-survey.ensures.looks

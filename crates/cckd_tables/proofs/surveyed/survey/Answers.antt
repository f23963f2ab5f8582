use Rattle.cckd_shelf.specs.World.{file_of}
use Rattle.cckd_tables.proofs.SurveyLemmas.{are_spaces, whole_survey}
use Rattle.cckd_tables.proofs.surveyed.survey.Goals as goal

pub returns-clause-survey : goal.returns-clause-survey
returns-clause-survey g c = λ told sure.
    whole_survey c.args.l.now (file_of (g.T.Shows.world c.args.stage.now) c.args.slot) c.in_ok-survey.survey _
    (c.in_ok-survey.ensures.taken told sure) c.finish-kept.ensures.kept c.finish-kept.ensures.misfits

pub returns-clause-spaces : goal.returns-clause-spaces
returns-clause-spaces g c =
    let headed = c.in_ok-survey.ensures.headed in
    are_spaces c.args.l.now.groups c.args.len c.in_ok-survey.survey headed.rest c.finish-kept.result.0.items c.in_ok-survey.ensures.under_way headed.headed
    c.finish-kept.ensures.kept

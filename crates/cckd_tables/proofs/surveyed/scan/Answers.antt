use Rattle.cckd_shelf.specs.World.{file_of}
use Rattle.cckd_tables.proofs.SurveyLemmas.{answered, answered_spaces, answered_counts}
use Rattle.cckd_tables.proofs.surveyed.scan.Goals as goal

pub returns-in-Ok-clause-survey : goal.returns-in-Ok-clause-survey
returns-in-Ok-clause-survey g c = λ told sure.
    answered c.args.l.now (file_of (g.T.Shows.world c.args.stage.now) c.args.slot) c.in-Ok.survey c.answer.result (c.in-Ok.ensures.taken told sure) c.answer.ensures

pub returns-in-Ok-clause-spaces : goal.returns-in-Ok-clause-spaces
returns-in-Ok-clause-spaces g c =
    answered_spaces c.args.l.now.groups c.args.len c.in-Ok.survey c.answer.result c.in-Ok.ensures.under_way c.in-Ok.ensures.headed c.answer.ensures

pub returns-in-Ok-clause-reads : goal.returns-in-Ok-clause-reads
returns-in-Ok-clause-reads g c = record {
  kept = c.in-Ok.ensures.reads.kept;
  counts = answered_counts c.in-Ok.survey c.answer.result _ _ c.answer.ensures c.in-Ok.ensures.reads.counts;
}

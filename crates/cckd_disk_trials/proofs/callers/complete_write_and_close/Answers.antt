use Rattle.std.proofs.Common.{ap}
use Rattle.cckd_shelf.specs.Seen.{seen}
use Rattle.cckd_disk_trials.specs.Callers.{written}
use Rattle.cckd_layer.specs.Mounted.{LayerState}
use Rattle.cckd_layer.proofs.StepLemmas.{only_then}
use Rattle.cckd_layer.proofs.SureLemmas.{sure_spared}
use Rattle.cckd_layer.proofs.ThenLemmas.{ok_then}
use Rattle.cckd_disk_trials.proofs.TogetherLemmas.{stored_tied}
use Rattle.cckd_disk_trials.proofs.callers.complete_write_and_close.Goals as goal

pub write_and_close-requires-clause-agrees : goal.write_and_close-requires-clause-agrees
write_and_close-requires-clause-agrees g c = λ told sure.
    let was = sure_spared c.args.layer.now.slot (seen g.T.Shows c.args.stage.now).world (seen g.T.Shows c.complete.new.stage).world (c.complete.ensures.others told) sure in
    (c.in_default.ensures.completed told was).agrees

pub returns-clause-stores : goal.returns-clause-stores
returns-clause-stores g c =
    ok_then c.write_and_close.result
    (stored_tied g.U.Unit.null_bytes (written g.U.Unit.value c.args.t.0 c.args.bytes.now) c.args.layer.now c.complete.new.self c.write_and_close.new.layer
    (seen g.T.Shows c.args.stage.now) (seen g.T.Shows c.complete.new.stage) (seen g.T.Shows c.write_and_close.new.stage) (λ told. told)
    c.complete.ensures.same.layout c.in_default.ensures.completed) c.write_and_close.ensures.stores

pub returns-clause-others : goal.returns-clause-others
returns-clause-others g c =
    only_then c.args.layer.now.slot c.complete.new.self.slot (seen g.T.Shows c.args.stage.now) (seen g.T.Shows c.complete.new.stage) (seen g.T.Shows c.write_and_close.new.stage) (λ told. told)
    (ap (λ (s : LayerState). s.slot) c.complete.ensures.same.rest) c.complete.ensures.others c.write_and_close.ensures.others

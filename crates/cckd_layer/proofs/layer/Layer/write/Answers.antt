use Rattle.std.proofs.Common.{refl}
use Rattle.cckd_shelf.specs.Seen.{seen}
use Rattle.cckd_layer.proofs.CalmLemmas.{looked_unharmed}
use Rattle.cckd_layer.proofs.HeadedLemmas.{headers_still, marks_none}
use Rattle.cckd_layer.proofs.layer.Layer.write.Goals as goal

pub returns-in-Err-clause-unharmed : goal.returns-in-Err-clause-unharmed
returns-in-Err-clause-unharmed g c = λ harmless.
    looked_unharmed c.args.self.now c.args.self.now (seen g.T.Shows c.args.stage.now) (seen g.T.Shows c.args.stage.now) refl refl (λ told. refl)

pub returns-in-Err-clause-marks : goal.returns-in-Err-clause-marks
returns-in-Err-clause-marks g c =
    let s = c.args.self.now in
    let w = seen g.T.Shows c.args.stage.now in
    marks_none s w w (headers_still s w w (λ told. refl))

use Rattle.std.proofs.Common.{subst}
use Rattle.cckd_shelf.specs.World.{IsSure}
use Rattle.cckd_disk_trials.proofs.completing.mounted.Goals as goal

pub returns-in-Ok-clause-tied : goal.returns-in-Ok-clause-tied
returns-in-Ok-clause-tied g c = λ told sure. c.in-Ok.ensures.tied told (subst IsSure (c.in-Ok.ensures.syncs told) sure)

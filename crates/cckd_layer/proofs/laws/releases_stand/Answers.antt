use Rattle.cckd_layer.proofs.StandLemmas.{stands_released}
use Rattle.cckd_layer.proofs.laws.releases_stand.Goals as goal

pub returns : goal.returns
returns c = stands_released

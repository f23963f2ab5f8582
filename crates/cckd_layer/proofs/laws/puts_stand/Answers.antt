use Rattle.cckd_layer.proofs.StandLemmas.{stands_put}
use Rattle.cckd_layer.proofs.laws.puts_stand.Goals as goal

pub returns : goal.returns
returns c = stands_put

use Rattle.cckd_layer.proofs.JustifiedLemmas.{justified}
use Rattle.cckd_layer.proofs.laws.fulls_are_justified.Goals as goal

pub returns : goal.returns
returns c = λ s w t need full a lacks low limit is group tried own quiet. justified s w t need full lacks a tried own low limit is group quiet

use Rattle.std.proofs.Common.{[]}
use Rattle.cckd_layer.proofs.layer.Layer.claim_table.Goals as goal

pub returns-in-Ok-clause-map : goal.returns-in-Ok-clause-map
returns-in-Ok-clause-map g c = λ w. c.in-Ok.ensures.map [] w

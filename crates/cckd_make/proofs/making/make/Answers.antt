use Rattle.std.proofs.Common.{◌∙◌, rules}
use Rattle.cckd_make.proofs.ImageLemmas.{halves}
use Rattle.cckd_make.proofs.making.make.Goals as goal

pub make_with-requires-clause-headers : goal.make_with-requires-clause-headers
make_with-requires-clause-headers g c = halves c.headers-both.result (search rules) ∙ c.headers-both.ensures

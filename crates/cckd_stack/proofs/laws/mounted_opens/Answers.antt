use Rattle.cckd_stack.proofs.BridgeLemmas.{mounted_opens}
use Rattle.cckd_stack.proofs.laws.mounted_opens.Goals as goal

pub returns : goal.returns
returns c = λ limit files s is fresh mounted. mounted_opens limit files s is fresh mounted

use Rattle.cckd_stack.proofs.CalledLemmas.{stops_unhardened, stops_hardened}
use Rattle.cckd_stack.proofs.laws.stops_are_kept.Goals as goal

pub returns-clause-unhardened : goal.returns-clause-unhardened
returns-clause-unhardened c = stops_unhardened

pub returns-clause-hardened : goal.returns-clause-hardened
returns-clause-hardened c = stops_hardened

use Rattle.cckd_stack.proofs.BridgeLemmas.{keeps_holds, holds_keeps}
use Rattle.cckd_stack.proofs.laws.bridges.Goals as goal

pub returns-clause-up : goal.returns-clause-up
returns-clause-up c = λ l g identifier hard later file named shape past keeps. keeps_holds l g identifier hard later file named shape past keeps

pub returns-clause-down : goal.returns-clause-down
returns-clause-down c = λ l g identifier hard later file whole holds. holds_keeps l g identifier hard later file whole holds

use Rattle.cckd_stack.proofs.CalledLemmas.{call_breaks, write_stack}
use Rattle.cckd_stack.proofs.laws.writes_are_answered.Goals as goal

pub returns-clause-breaks : goal.returns-clause-breaks
returns-clause-breaks c = call_breaks (Unit {0})

pub returns-clause-layers : goal.returns-clause-layers
returns-clause-layers c = write_stack

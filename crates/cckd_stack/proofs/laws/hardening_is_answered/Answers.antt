use Rattle.cckd_stack.proofs.CalledLemmas.{harden_answers, harden_stack, harden_stops}
use Rattle.cckd_stack.proofs.laws.hardening_is_answered.Goals as goal

pub returns-clause-answer : goal.returns-clause-answer
returns-clause-answer c = harden_answers (Unit {0})

pub returns-clause-layers : goal.returns-clause-layers
returns-clause-layers c = harden_stack (Unit {0})

pub returns-clause-stops : goal.returns-clause-stops
returns-clause-stops c = harden_stops (Unit {0})

use Rattle.cckd_stack.proofs.WritesLemmas.{kept_hardening, settled_hardening, written_hardening}
use Rattle.cckd_stack.proofs.laws.hardenings_go_on.Goals as goal

pub returns-clause-kept : goal.returns-clause-kept
returns-clause-kept c = kept_hardening

pub returns-clause-settled : goal.returns-clause-settled
returns-clause-settled c = settled_hardening

pub returns-clause-written : goal.returns-clause-written
returns-clause-written c = λ null g layers next old new was p has tells stores lie. written_hardening null g layers next old new was has tells p stores lie

use Rattle.cckd_stack.proofs.TiedLemmas.{agree_tied, tied_reads_all, agree_by, agree_put, mounted_agree, mounted_hardening}
use Rattle.cckd_stack.proofs.laws.mounted_layers_agree.Goals as goal

pub returns-clause-reads : goal.returns-clause-reads
returns-clause-reads c = tied_reads_all

pub returns-clause-ties : goal.returns-clause-ties
returns-clause-ties c = agree_tied

pub returns-clause-events : goal.returns-clause-events
returns-clause-events c = agree_by

pub returns-clause-puts : goal.returns-clause-puts
returns-clause-puts c = agree_put

pub returns-clause-agree : goal.returns-clause-agree
returns-clause-agree c = mounted_agree

pub returns-clause-hardened : goal.returns-clause-hardened
returns-clause-hardened c = mounted_hardening

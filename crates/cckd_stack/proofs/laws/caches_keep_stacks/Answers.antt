use Rattle.cckd_stack.proofs.TiedLemmas.{caches_keep, caches_unchanged, unchanged_last, tied_sure}
use Rattle.cckd_stack.proofs.laws.caches_keep_stacks.Goals as goal

pub returns-clause-keeps : goal.returns-clause-keeps
returns-clause-keeps c = caches_keep

pub returns-clause-unchanged : goal.returns-clause-unchanged
returns-clause-unchanged c = caches_unchanged

pub returns-clause-hardened : goal.returns-clause-hardened
returns-clause-hardened c = unchanged_last

pub returns-clause-sure : goal.returns-clause-sure
returns-clause-sure c = tied_sure

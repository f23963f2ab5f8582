use Rattle.cckd_stack.proofs.OpenedLemmas.{opens_once, opens_gapless, opens_caseless, mounted_snug, mounted_absent}
use Rattle.cckd_stack.proofs.laws.files_open_once.Goals as goal

pub returns-clause-once : goal.returns-clause-once
returns-clause-once c = opens_once

pub returns-clause-snug : goal.returns-clause-snug
returns-clause-snug c = mounted_snug

pub returns-clause-absent : goal.returns-clause-absent
returns-clause-absent c = mounted_absent

pub returns-clause-gapless : goal.returns-clause-gapless
returns-clause-gapless c = opens_gapless

pub returns-clause-caseless : goal.returns-clause-caseless
returns-clause-caseless c = opens_caseless

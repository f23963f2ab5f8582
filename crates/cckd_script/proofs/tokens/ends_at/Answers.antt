use Rattle.cckd_script.proofs.ParseLemmas.{one_too_many}
use Rattle.cckd_script.proofs.tokens.ends_at.Goals as goal

pub returns-then-end-line-clause-fault : goal.returns-then-end-line-clause-fault
returns-then-end-line-clause-fault c = one_too_many c.args.line.now c.args.end c.if-end-line.true

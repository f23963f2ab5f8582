use Rattle.std.proofs.Common.{sym, ◌∙◌, arith}
use Rattle.cckd_top.proofs.WordLemmas.{limit_is, limit_not}
use Rattle.cckd_top.proofs.words.limit_in.Goals as goal

pub returns-then-is_limit : goal.returns-then-is_limit
returns-then-is_limit c = limit_is c.in-Some.number c.args.word.now (omega arith) c.in-Some.ensures.spelled (sym c.is_limit.ensures ∙ c.if-is_limit.true)

pub returns-else-is_limit : goal.returns-else-is_limit
returns-else-is_limit c = limit_not c.in-Some.number c.args.word.now (omega arith) c.in-Some.ensures.spelled (sym c.is_limit.ensures ∙ c.if-is_limit.false)

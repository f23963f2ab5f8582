use Rattle.std.proofs.Common.{sym, ◌∙◌}
use Rattle.cckd_script.proofs.TokenLemmas.{rest_is, cut_at_blank, cut_at_end}
use Rattle.cckd_script.proofs.tokens.token_end.Goals as goal

pub returns-in-Some-clause-cut : goal.returns-in-Some-clause-cut
returns-in-Some-clause-cut c =
    cut_at_blank c.args.line.now c.args.from c.in-Some.length _ (rest_is c.args.from c.args.line.now) (sym c.first_blank.ensures ∙ c.in-Some.is)

pub returns-in-None-clause-cut : goal.returns-in-None-clause-cut
returns-in-None-clause-cut c =
    cut_at_end c.args.line.now c.args.from _ (rest_is c.args.from c.args.line.now) c.requires (sym c.first_blank.ensures ∙ c.in-None.is)

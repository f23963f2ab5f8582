use Rattle.std.proofs.Common.{ap, ◌∙◌, arith, List, ℕ}
use Rattle.cckd_script.specs.Grammar.{spelled_number, number_within}
use Rattle.cckd_script.proofs.GrammarLemmas.{value_of_number, out_of_range}
use Rattle.cckd_script.proofs.tokens.number_from.Goals as goal
use Rattle.cckd_script.proofs.tokens.number_from.Goals.{then-number-least-via-then-number-least, then-number-least-via-else-number-least+then-most-number}

pub returns-then-number-least-clause-none : goal.returns-then-number-least-clause-none
returns-then-number-least-clause-none c =
    out_of_range c.args.least c.args.most c.in_ok-number.number c.args.token.now (omega arith) c.in_ok-number.ensures.spelled (λ range.
    elim c.then-number-least.branch [
      | then-number-least-via-then-number-least w ↦ absurd (omega (arith, range.0))
      | then-number-least-via-else-number-least+then-most-number w ↦ absurd (omega (arith, range.1))
    ])

pub returns-clause-read : goal.returns-clause-read
returns-clause-read c =
    ap (λ (t : List ℕ). number_within c.args.least c.args.most (spelled_number t)) c.in_ok-number.ensures.spelled
    ∙ value_of_number c.args.least c.args.most c.in_ok-number.number (omega arith) (omega arith) (omega arith)

use Rattle.std.proofs.Common.{◌∷◌, Err}
use Rattle.std.proofs.lemmas.Result.{err_from_is_err_and}
use Rattle.cckd_script.specs.Grammar.{amount}
use Rattle.cckd_script.specs.Inside.{coordinate}
use Rattle.cckd_script.proofs.ParseLemmas.{then_values}
use Rattle.cckd_script.proofs.tokens.address_behind.Goals as goal

pub returns-in_err-cylinder-clause-fault : goal.returns-in_err-cylinder-clause-fault
returns-in_err-cylinder-clause-fault c =
    let p = err_from_is_err_and c.from_residual.result c.from_residual.ensures.1 in
    rw (p.1, p.2) (λ kinds. c.in_err-cylinder.ensures.fault (coordinate ∷ kinds))

pub returns-in_err-head-clause-fault : goal.returns-in_err-head-clause-fault
returns-in_err-head-clause-fault c =
    let p = err_from_is_err_and c.from_residual-in_err-head.result c.from_residual-in_err-head.ensures.1 in
    let cylinder = c.in_ok-cylinder.cylinder in
    let fault = c.in_err-head.field-0.0 in
    rw (p.1, p.2) (λ kinds.
    then_values c.args.line.now c.args.end cylinder.end coordinate (amount cylinder.value) (coordinate ∷ kinds) (Err fault.column)
    c.in_ok-cylinder.ensures.read.read (c.in_err-head.ensures.fault kinds))

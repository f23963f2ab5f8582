use Rattle.std.proofs.Common.{◌∷◌, [], Ok, Err, refl, ap, ◌∙◌, ◌<◌, length, arith}
use Rattle.std.proofs.lemmas.Result.{err_from_is_err_and}
use Rattle.cckd_base.specs.declared.call.Call.TheVariants.{Check}
use Rattle.cckd_script.specs.declared.parse.Given.TheVariants.{Nothing}
use Rattle.cckd_script.specs.Grammar.{number, amount}
use Rattle.cckd_script.specs.Parse.{check_form}
use Rattle.cckd_script.specs.Inside.{values_behind}
use Rattle.cckd_script.proofs.ParseLemmas.{then_values, asks_none, asks_some, check_kinds}
use Rattle.cckd_script.proofs.parse.check_call.Goals as goal

pub returns-in_err-level-clause-asks : goal.returns-in_err-level-clause-asks
returns-in_err-level-clause-asks c =
    let p = err_from_is_err_and c.from_residual.result c.from_residual.ensures.1 in
    let line = c.args.line.now in
    let fault = c.in_err-level.field-0.0 in
    let inside : c.args.end < length line = omega arith in
    rw (p.1, p.2) (asks_none check_form line c.args.end fault.column
    (ap (values_behind line c.args.end) (check_kinds line c.args.end inside) ∙ c.in_err-level.ensures.fault []))

pub returns-in_err-ends_at-clause-asks : goal.returns-in_err-ends_at-clause-asks
returns-in_err-ends_at-clause-asks c =
    let p = err_from_is_err_and c.from_residual-in_err-ends_at.result c.from_residual-in_err-ends_at.ensures.1 in
    let line = c.args.line.now in
    let level = c.in_ok-level.level in
    let fault = c.in_err-ends_at.field-0.0 in
    let inside : c.args.end < length line = omega arith in
    rw (p.1, p.2) (asks_none check_form line c.args.end fault.column
    (ap (values_behind line c.args.end) (check_kinds line c.args.end inside)
    ∙ then_values line c.args.end level.end (number 0 3) (amount level.value) [] (Err fault.column)
    c.in_ok-level.ensures.read.read c.in_err-ends_at.ensures.fault))

pub returns-clause-asks : goal.returns-clause-asks
returns-clause-asks c =
    let line = c.args.line.now in
    let level = c.in_ok-level.level in
    let inside : c.args.end < length line = omega arith in
    asks_some check_form line c.args.end (record { call = Check level.value; gives = Nothing }) (amount level.value ∷ [])
    (ap (values_behind line c.args.end) (check_kinds line c.args.end inside)
    ∙ then_values line c.args.end level.end (number 0 3) (amount level.value) [] (Ok [])
    c.in_ok-level.ensures.read.read c.in_ok-ends_at.ensures.ends) refl

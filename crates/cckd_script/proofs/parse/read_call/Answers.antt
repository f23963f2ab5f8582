use Rattle.std.proofs.Common.{◌∷◌, [], refl}
use Rattle.std.proofs.lemmas.Result.{err_from_is_err_and}
use Rattle.cckd_base.specs.declared.call.Call.TheVariants.{Read}
use Rattle.cckd_script.specs.declared.parse.Given.TheVariants.{Nothing}
use Rattle.cckd_script.specs.Grammar.{amount}
use Rattle.cckd_script.specs.Parse.{read_form}
use Rattle.cckd_script.proofs.ParseLemmas.{then_address, address_stops, asks_none, asks_some}
use Rattle.cckd_script.proofs.parse.read_call.Goals as goal

pub returns-in_err-place-clause-asks : goal.returns-in_err-place-clause-asks
returns-in_err-place-clause-asks c =
    let p = err_from_is_err_and c.from_residual.result c.from_residual.ensures.1 in
    rw (p.1, p.2) (asks_none read_form c.args.line.now c.args.end _ (c.in_err-place.ensures.fault []))

pub returns-in_err-ends_at-clause-asks : goal.returns-in_err-ends_at-clause-asks
returns-in_err-ends_at-clause-asks c =
    let p = err_from_is_err_and c.from_residual-in_err-ends_at.result c.from_residual-in_err-ends_at.ensures.1 in
    let line = c.args.line.now in
    let place = c.in_ok-place.place in
    let fault = c.in_err-ends_at.field-0.0 in
    rw (p.1, p.2) (asks_none read_form line c.args.end fault.column
    (address_stops line c.args.end fault.column place [] c.in_ok-place.ensures.read c.in_err-ends_at.ensures.fault))

pub returns-clause-asks : goal.returns-clause-asks
returns-clause-asks c =
    let line = c.args.line.now in
    let place = c.in_ok-place.place in
    asks_some read_form line c.args.end (record { call = Read place.at; gives = Nothing }) (amount place.at.cyl ∷ amount place.at.head ∷ [])
    (then_address line c.args.end place [] [] c.in_ok-place.ensures.read c.in_ok-ends_at.ensures.ends) refl

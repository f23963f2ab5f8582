use Rattle.std.proofs.Common.{◌∷◌, [], Ok, Err, refl}
use Rattle.std.proofs.lemmas.Result.{err_from_is_err_and}
use Rattle.cckd_base.specs.declared.call.Call.TheVariants.{Write}
use Rattle.cckd_script.specs.declared.parse.Given.TheVariants.{Digits}
use Rattle.cckd_script.specs.Grammar.{bytes, amount, given}
use Rattle.cckd_script.specs.Parse.{write_form}
use Rattle.cckd_script.specs.Inside.{decoded}
use Rattle.cckd_script.proofs.ParseLemmas.{then_values, then_address, address_stops, asks_none, asks_some}
use Rattle.cckd_script.proofs.parse.write_call.Goals as goal

pub returns-in_err-place-clause-asks : goal.returns-in_err-place-clause-asks
returns-in_err-place-clause-asks c =
    let p = err_from_is_err_and c.from_residual.result c.from_residual.ensures.1 in
    rw (p.1, p.2) (asks_none write_form c.args.line.now c.args.end _ (c.in_err-place.ensures.fault (bytes 1 65535 ∷ [])))

pub returns-in_err-digits-clause-asks : goal.returns-in_err-digits-clause-asks
returns-in_err-digits-clause-asks c =
    let p = err_from_is_err_and c.from_residual-in_err-digits.result c.from_residual-in_err-digits.ensures.1 in
    let line = c.args.line.now in
    let place = c.in_ok-place.place in
    let fault = c.in_err-digits.field-0.0 in
    rw (p.1, p.2) (asks_none write_form line c.args.end fault.column
    (address_stops line c.args.end fault.column place (bytes 1 65535 ∷ []) c.in_ok-place.ensures.read (c.in_err-digits.ensures.fault [])))

pub returns-in_err-ends_at-clause-asks : goal.returns-in_err-ends_at-clause-asks
returns-in_err-ends_at-clause-asks c =
    let p = err_from_is_err_and c.from_residual-in_err-ends_at.result c.from_residual-in_err-ends_at.ensures.1 in
    let line = c.args.line.now in
    let place = c.in_ok-place.place in
    let digits = c.in_ok-digits.digits in
    let fault = c.in_err-ends_at.field-0.0 in
    rw (p.1, p.2) (asks_none write_form line c.args.end fault.column
    (address_stops line c.args.end fault.column place (bytes 1 65535 ∷ []) c.in_ok-place.ensures.read
    (then_values line place.end digits.end (bytes 1 65535) (given (decoded digits.text.now)) [] (Err fault.column)
    c.in_ok-digits.ensures.read.read c.in_err-ends_at.ensures.fault)))

pub returns-clause-asks : goal.returns-clause-asks
returns-clause-asks c =
    let line = c.args.line.now in
    let place = c.in_ok-place.place in
    let digits = c.in_ok-digits.digits in
    let track = given (decoded digits.text.now) in
    asks_some write_form line c.args.end (record { call = Write place.at; gives = Digits digits.text }) (amount place.at.cyl ∷ amount place.at.head ∷ track ∷ [])
    (then_address line c.args.end place (bytes 1 65535 ∷ []) (track ∷ []) c.in_ok-place.ensures.read
    (then_values line place.end digits.end (bytes 1 65535) track [] (Ok [])
    c.in_ok-digits.ensures.read.read c.in_ok-ends_at.ensures.ends)) refl

use Rattle.std.proofs.Common.{◌∷◌, [], Ok, Err, ℕ, List, ap}
use Rattle.std.proofs.lemmas.Result.{err_from_is_err_and}
use Rattle.cckd_base.specs.declared.call.Call.TheVariants.{Write}
use Rattle.cckd_script.specs.declared.parse.Given.TheVariants.{Filled}
use Rattle.cckd_script.specs.Grammar.{number, bytes, amount, given}
use Rattle.cckd_script.specs.Parse.{fill_form, fill_asked}
use Rattle.cckd_script.specs.Inside.{decoded}
use Rattle.cckd_script.proofs.ParseLemmas.{then_values, then_address, address_stops, asks_none, asks_some}
use Rattle.cckd_script.proofs.parse.fill_call.Goals as goal

pub returns-in_err-place-clause-asks : goal.returns-in_err-place-clause-asks
returns-in_err-place-clause-asks c =
    let p = err_from_is_err_and c.from_residual.result c.from_residual.ensures.1 in
    rw (p.1, p.2) (asks_none fill_form c.args.line.now c.args.end _ (c.in_err-place.ensures.fault (number 0 65498 ∷ bytes 1 1 ∷ [])))

pub returns-in_err-count-clause-asks : goal.returns-in_err-count-clause-asks
returns-in_err-count-clause-asks c =
    let p = err_from_is_err_and c.from_residual-in_err-count.result c.from_residual-in_err-count.ensures.1 in
    let line = c.args.line.now in
    let place = c.in_ok-place.place in
    let fault = c.in_err-count.field-0.0 in
    rw (p.1, p.2) (asks_none fill_form line c.args.end fault.column
    (address_stops line c.args.end fault.column place (number 0 65498 ∷ bytes 1 1 ∷ []) c.in_ok-place.ensures.read
    (c.in_err-count.ensures.fault (bytes 1 1 ∷ []))))

pub returns-in_err-digits-clause-asks : goal.returns-in_err-digits-clause-asks
returns-in_err-digits-clause-asks c =
    let p = err_from_is_err_and c.from_residual-in_err-digits.result c.from_residual-in_err-digits.ensures.1 in
    let line = c.args.line.now in
    let place = c.in_ok-place.place in
    let count = c.in_ok-count.count in
    let fault = c.in_err-digits.field-0.0 in
    rw (p.1, p.2) (asks_none fill_form line c.args.end fault.column
    (address_stops line c.args.end fault.column place (number 0 65498 ∷ bytes 1 1 ∷ []) c.in_ok-place.ensures.read
    (then_values line place.end count.end (number 0 65498) (amount count.value) (bytes 1 1 ∷ []) (Err fault.column)
    c.in_ok-count.ensures.read.read (c.in_err-digits.ensures.fault []))))

pub returns-in_err-ends_at-clause-asks : goal.returns-in_err-ends_at-clause-asks
returns-in_err-ends_at-clause-asks c =
    let p = err_from_is_err_and c.from_residual-in_err-ends_at.result c.from_residual-in_err-ends_at.ensures.1 in
    let line = c.args.line.now in
    let place = c.in_ok-place.place in
    let count = c.in_ok-count.count in
    let digits = c.in_ok-digits.digits in
    let fault = c.in_err-ends_at.field-0.0 in
    rw (p.1, p.2) (asks_none fill_form line c.args.end fault.column
    (address_stops line c.args.end fault.column place (number 0 65498 ∷ bytes 1 1 ∷ []) c.in_ok-place.ensures.read
    (then_values line place.end count.end (number 0 65498) (amount count.value) (bytes 1 1 ∷ []) (Err fault.column)
    c.in_ok-count.ensures.read.read
    (then_values line count.end digits.end (bytes 1 1) (given (decoded digits.text.now)) [] (Err fault.column)
    c.in_ok-digits.ensures.read.read c.in_err-ends_at.ensures.fault))))

pub returns-clause-asks : goal.returns-clause-asks
returns-clause-asks c =
    let line = c.args.line.now in
    let place = c.in_ok-place.place in
    let count = c.in_ok-count.count in
    let digits = c.in_ok-digits.digits in
    let byte = given (decoded digits.text.now) in
    asks_some fill_form line c.args.end (record { call = Write place.at; gives = Filled place.at count.value c.byte_in-byte.result }) (amount place.at.cyl ∷ amount place.at.head ∷ amount count.value ∷ byte ∷ [])
    (then_address line c.args.end place (number 0 65498 ∷ bytes 1 1 ∷ []) (amount count.value ∷ byte ∷ []) c.in_ok-place.ensures.read
    (then_values line place.end count.end (number 0 65498) (amount count.value) (bytes 1 1 ∷ []) (Ok (byte ∷ []))
    c.in_ok-count.ensures.read.read
    (then_values line count.end digits.end (bytes 1 1) byte [] (Ok []) c.in_ok-digits.ensures.read.read c.in_ok-ends_at.ensures.ends)))
    (ap (λ (bs : List ℕ). fill_asked (amount place.at.cyl ∷ amount place.at.head ∷ amount count.value ∷ given bs ∷ [])) c.byte_in-byte.ensures)

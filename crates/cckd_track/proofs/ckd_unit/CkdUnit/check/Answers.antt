use Rattle.std.proofs.Common.{◌≡◌, Some, None, arith, rules}
use Rattle.cckd_base.specs.Track.{OkUnless, track_fault, size_fault, home_fault}
use Rattle.cckd_base.proofs.GrammarLemmas.{IsBytes}
use Rattle.cckd_base.proofs.TrackLemmas.{size_found, home_found, records_left}
use Rattle.cckd_track.proofs.AnswerLemmas.{accepts_tracks, stops}
use Rattle.cckd_track.proofs.ckd_unit.CkdUnit.check.Goals as goal

pub returns-in_err-check_size : goal.returns-in_err-check_size
returns-in_err-check_size c =
    let geo = c.args.geo.now in
    let t = c.args.t.0 in
    let bytes = c.args.bytes.now in
    let byte : IsBytes bytes = λ i. omega (arith, c.type_inv.bytes i) in
    let found : track_fault geo t bytes ≡ Some c.in_err-check_size.field-0.0 = size_found geo t bytes _ c.in_err-check_size.ensures in
    let fault : OkUnless c.from_residual.result (track_fault geo t bytes) = search rules in
    record {
      fault = fault;
      accepted = accepts_tracks c.from_residual.result geo t bytes c.requires.geometry byte fault;
      stop = stops c.from_residual.result geo t bytes byte c.requires.length fault;
    }

pub returns-in_err-check_address : goal.returns-in_err-check_address
returns-in_err-check_address c =
    let geo = c.args.geo.now in
    let t = c.args.t.0 in
    let bytes = c.args.bytes.now in
    let byte : IsBytes bytes = λ i. omega (arith, c.type_inv.bytes i) in
    let size : size_fault geo bytes ≡ None = search rules in
    let found : track_fault geo t bytes ≡ Some c.in_err-check_address.field-0.0 = home_found geo t bytes _ size c.in_err-check_address.ensures.fault in
    let fault : OkUnless c.from_residual-in_err-check_address.result (track_fault geo t bytes) = search rules in
    record {
      fault = fault;
      accepted = accepts_tracks c.from_residual-in_err-check_address.result geo t bytes c.requires.geometry byte fault;
      stop = stops c.from_residual-in_err-check_address.result geo t bytes byte c.requires.length fault;
    }

pub returns : goal.returns
returns c =
    let geo = c.args.geo.now in
    let t = c.args.t.0 in
    let bytes = c.args.bytes.now in
    let byte : IsBytes bytes = λ i. omega (arith, c.type_inv.bytes i) in
    let size : size_fault geo bytes ≡ None = search rules in
    let home : home_fault geo t bytes ≡ None = search rules in
    let fault = records_left c.check_records.result geo t bytes size home c.check_records.ensures in
    record {
      fault = fault;
      accepted = accepts_tracks c.check_records.result geo t bytes c.requires.geometry byte fault;
      stop = stops c.check_records.result geo t bytes byte c.requires.length fault;
    }

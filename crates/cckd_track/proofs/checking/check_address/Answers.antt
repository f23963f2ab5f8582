use Rattle.std.proofs.Common.{◌≡◌, ◌/◌, ◌%◌, ◌≤◌, length, true, false, drop, take, Some, sym, ap, ◌∙◌, arith}
use Rattle.std.specs.Str.{bytes_eq}
use Rattle.std.proofs.lemmas.List.{take_rest}
use Rattle.std.proofs.lemmas.Slice.Eq.{bytes_eq-Decides}
use Rattle.cckd_base.specs.declared.geometry.Addr.{Addr}
use Rattle.cckd_base.specs.declared.fault.TrackFault.TheVariants.{WrongTrack}
use Rattle.cckd_base.specs.Track.{address_bytes}
use Rattle.cckd_base.proofs.NumberLemmas.{two_there}
use Rattle.cckd_base.proofs.TrackLemmas.{too_few, compressed, elsewhere, home_stands}
use Rattle.cckd_track.proofs.checking.check_address.Goals as goal

pub returns-then-bytes-lt-RECORD_ZERO-clause-fault : goal.returns-then-bytes-lt-RECORD_ZERO-clause-fault
returns-then-bytes-lt-RECORD_ZERO-clause-fault c = too_few c.args.geo.now c.args.t.0 c.args.bytes.now (omega arith)

pub returns-then-not-plain-clause-fault : goal.returns-then-not-plain-clause-fault
returns-then-not-plain-clause-fault c = compressed c.args.geo.now c.args.t.0 c.args.bytes.now (omega arith) c.if-not-plain.true

pub returns-then-not-here-clause-fault : goal.returns-then-not-here-clause-fault
returns-then-not-here-clause-fault c =
    let geo = c.args.geo.now in
    let t = c.args.t.0 in
    let bytes = c.args.bytes.now in
    let address : c.address_of.result ≡ address_bytes (t / geo.heads) (t % geo.heads) = c.address_of.ensures ∙ ap (λ (a : Addr). address_bytes a.cyl a.head) c.addr.ensures.value in
    let other : bytes_eq (take 4 (drop 1 bytes)) c.address_of.result ≡ false = sym c.eq-here.ensures ∙ c.if-not-here.true in
    let long : 5 ≤ length bytes = omega arith in
    let cylinder = two_there bytes 1 ∙ sym (rw take_rest at c.read_u16.ensures) in
    let head = two_there bytes 3 ∙ sym (rw take_rest at c.read_u16-then-not-here.ensures) in
    elsewhere geo t bytes long c.if-not-plain.false (rw (← address) other) ∙ (λ i. Some (WrongTrack (cylinder i) (head i)))

pub returns-clause-fault : goal.returns-clause-fault
returns-clause-fault c =
    let geo = c.args.geo.now in
    let t = c.args.t.0 in
    let bytes = c.args.bytes.now in
    let address : c.address_of.result ≡ address_bytes (t / geo.heads) (t % geo.heads) = c.address_of.ensures ∙ ap (λ (a : Addr). address_bytes a.cyl a.head) c.addr.ensures.value in
    let same : bytes_eq (take 4 (drop 1 bytes)) c.address_of.result ≡ true = sym c.eq-here.ensures ∙ c.if-not-here.false in
    home_stands geo t bytes (record { long = omega arith; plain = c.if-not-plain.false; here = (bytes_eq-Decides _ _).0 same ∙ address })

use Rattle.std.proofs.Common.{◌≡◌, ℕ, ◌+◌, ◌^◌, ◌<◌, [], ◌∷◌, ◌++◌, length, sym, ap, subst, ◌∙◌, refl, arith, length-append}
use Rattle.cckd_base.specs.declared.geometry.Addr.{Addr}
use Rattle.cckd_base.specs.declared.fault.TrackFault.TheVariants.{TooLong}
use Rattle.cckd_base.specs.Geometry.{address_of}
use Rattle.cckd_base.specs.Put.{IsPut}
use Rattle.cckd_base.specs.Track.{spelling}
use Rattle.cckd_track.specs.Builder.{record_at_address}
use Rattle.cckd_track.proofs.BuilderLemmas.{more_length, builds_more}
use Rattle.cckd_track.proofs.building.Builder.add.Goals as goal

pub returns-then-max-len-clause-added : goal.returns-then-max-len-clause-added
returns-then-max-len-clause-added c = λ geo t records before h.
    let r = record_at_address (address_of geo t) c.args.num c.args.key.now c.args.body.now in
    let long = more_length geo t records r in
    let len : c.args.self.now.at + 8 + length c.args.key.now + length c.args.body.now + 8 ≡ _ =
    ap (λ (n : ℕ). n + 8 + length c.args.key.now + length c.args.body.now + 8) h.end ∙ sym long in
    ((λ i. TooLong (len i) (h.most i)), omega (arith, long, h.end, h.most, c.if-max-len.true), h)

pub returns-clause-added : goal.returns-clause-added
returns-clause-added c = λ geo t records before h.
    let b = c.args.self.now in
    let r = record_at_address (address_of geo t) c.args.num c.args.key.now c.args.body.now in
    let put : IsPut b.at c.put_record-self.result (spelling r) b.out.now c.put_record-self.new.out =
    subst (λ (a : Addr). IsPut b.at c.put_record-self.result (spelling (record_at_address a c.args.num c.args.key.now c.args.body.now)) b.out.now c.put_record-self.new.out)
    h.here c.put_record-self.ensures in
    let cylinder = subst (λ (a : Addr). a.cyl < 2 ^ 16) h.here h.cylinder in
    let head = subst (λ (a : Addr). a.head < 2 ^ 16) h.here h.head in
    builds_more geo t records before r b _ h refl refl put
    (record {
      fits = record { cylinder = cylinder; head = head; number = omega (arith, c.ranges.num.fits); key = omega (arith, c.requires.key); body = omega (arith, c.requires.body) };
      number = c.requires.number;
    })
    (omega (arith, put.ends, length-append c.args.key.now c.args.body.now, c.if-max-len.false))

pub returns-clause-building : goal.returns-clause-building
returns-clause-building c =
    let (geo, t, records, before, h) = c.requires.building in
    let r = record_at_address (address_of geo t) c.args.num c.args.key.now c.args.body.now in
    (geo, t, records ++ r ∷ [], before, returns-clause-added c geo t records before h)

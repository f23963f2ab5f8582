use Rattle.cckd_shelf.specs.Seen.{seen}
use Rattle.cckd_record_example.proofs.StoreLemmas.{has_name, stored}
use Rattle.cckd_record_example.proofs.storing.store.Goals as goal

pub make_stay-requires : goal.make_stay-requires
make_stay-requires g c =
    has_name c.args.slot c.args.name.now c.args.bytes.now (seen g.S.Shows c.args.shelf.now) (seen g.S.Shows c.bind.new.self) (seen g.S.Shows c.write.new.self)
    (λ told. told) (λ told. told) c.in_ok-bind.ensures.bound c.in_ok-write.ensures.written

pub returns-clause-stays : goal.returns-clause-stays
returns-clause-stays g c =
    stored c.args.slot c.args.bytes.now (seen g.S.Shows c.bind.new.self) (seen g.S.Shows c.write.new.self) (seen g.S.Shows c.make_stay.new.shelf) c.make_stay.result
    (λ told. told) (λ told. told) c.in_ok-write.ensures.written c.make_stay.ensures.stays

use Rattle.cckd_shelf.specs.Seen.{seen}
use Rattle.cckd_layer.proofs.StepLemmas.{committed_same, within_twice, only_then, released_settled}
use Rattle.cckd_layer.proofs.CalmLemmas.{synced_leaves}
use Rattle.cckd_layer.proofs.HeadedLemmas.{headers_stay}
use Rattle.cckd_layer.proofs.layer.Layer.harden_anew.Goals as goal

pub returns-in-Ok-clause-stopped : goal.returns-in-Ok-clause-stopped
returns-in-Ok-clause-stopped g c =
    let s = c.args.self.now in
    let m = c.commit.new.self in
    let a = seen g.T.Shows c.args.stage.now in
    let b = seen g.T.Shows c.commit.new.stage in
    let z = seen g.T.Shows c.make_stay.new.stage in
    within_twice g.U.Unit.null_bytes s m a b z (λ told. told) (committed_same s m c.in_default.ensures.committed) c.in_default.ensures.map c.commit.ensures.stopped c.make_stay.ensures.stopped

pub returns-in-Ok-clause-others : goal.returns-in-Ok-clause-others
returns-in-Ok-clause-others g c =
    let s = c.args.self.now in
    let m = c.commit.new.self in
    let a = seen g.T.Shows c.args.stage.now in
    let b = seen g.T.Shows c.commit.new.stage in
    let z = seen g.T.Shows c.make_stay.new.stage in
    only_then s.slot m.slot a b z (λ told. told) (committed_same s m c.in_default.ensures.committed).slot c.commit.ensures.others c.make_stay.ensures.others

pub returns-in-Err-make_stay-clause-stopped : goal.returns-in-Err-make_stay-clause-stopped
returns-in-Err-make_stay-clause-stopped g c =
    let s = c.args.self.now in
    let m = c.commit.new.self in
    let a = seen g.T.Shows c.args.stage.now in
    let b = seen g.T.Shows c.commit.new.stage in
    let z = seen g.T.Shows c.make_stay.new.stage in
    within_twice g.U.Unit.null_bytes s m a b z (λ told. told) (committed_same s m c.in_default.ensures.committed) c.in_default.ensures.map c.commit.ensures.stopped c.make_stay.ensures.stopped

pub returns-in-Err-make_stay-clause-others : goal.returns-in-Err-make_stay-clause-others
returns-in-Err-make_stay-clause-others g c =
    let s = c.args.self.now in
    let m = c.commit.new.self in
    let a = seen g.T.Shows c.args.stage.now in
    let b = seen g.T.Shows c.commit.new.stage in
    let z = seen g.T.Shows c.make_stay.new.stage in
    only_then s.slot m.slot a b z (λ told. told) (committed_same s m c.in_default.ensures.committed).slot c.commit.ensures.others c.make_stay.ensures.others

pub returns-in-Ok-clause-settled : goal.returns-in-Ok-clause-settled
returns-in-Ok-clause-settled g c =
    released_settled c.args.self.now c.commit.new.self c.make_stay.new.self c.in_default.ensures.committed c.in-Ok.ensures.released

pub returns-in-Ok-clause-leaves : goal.returns-in-Ok-clause-leaves
returns-in-Ok-clause-leaves g c =
    synced_leaves c.args.self.now c.commit.new.self.slot (seen g.T.Shows c.args.stage.now) (seen g.T.Shows c.commit.new.stage) (seen g.T.Shows c.make_stay.new.stage) (λ told. told)
    c.in_default.ensures.leaves c.in-Ok.ensures.synced

pub returns-in-Ok-clause-headers : goal.returns-in-Ok-clause-headers
returns-in-Ok-clause-headers g c =
    let s = c.args.self.now in
    let m = c.commit.new.self in
    let a = seen g.T.Shows c.args.stage.now in
    let b = seen g.T.Shows c.commit.new.stage in
    let z = seen g.T.Shows c.make_stay.new.stage in
    headers_stay s m a b z (λ told. told) (committed_same s m c.in_default.ensures.committed).slot c.commit.ensures.headers c.make_stay.ensures.added

pub returns-in-Err-make_stay-clause-headers : goal.returns-in-Err-make_stay-clause-headers
returns-in-Err-make_stay-clause-headers g c =
    let s = c.args.self.now in
    let m = c.commit.new.self in
    let a = seen g.T.Shows c.args.stage.now in
    let b = seen g.T.Shows c.commit.new.stage in
    let z = seen g.T.Shows c.make_stay.new.stage in
    headers_stay s m a b z (λ told. told) (committed_same s m c.in_default.ensures.committed).slot c.commit.ensures.headers c.make_stay.ensures.added

use Rattle.cckd_layer.specs.Justified.{StaysInRoom}
use Rattle.cckd_shelf.specs.Seen.{seen}
use Rattle.std.proofs.Common.{◌∙◌, ap, sym, subst}
use Rattle.cckd_layer.specs.Mounted.{LayerState}
use Rattle.cckd_layer.proofs.StepLemmas.{within_twice, maps_twice, only_then}
use Rattle.cckd_layer.proofs.ClosedLayerLemmas.{hardened_holds}
use Rattle.cckd_layer.proofs.ClosedImageLemmas.{stays_closed}
use Rattle.cckd_layer.proofs.EndedLemmas.{none_closed, closes_behind}
use Rattle.cckd_layer.proofs.layer.Layer.close.Goals as goal

pub returns-in-Ok-clause-stopped : goal.returns-in-Ok-clause-stopped
returns-in-Ok-clause-stopped g c =
    let s = c.args.self.now in
    let m = c.harden_anew.new.self in
    let a = seen g.T.Shows c.args.stage.now in
    let b = seen g.T.Shows c.harden_anew.new.stage in
    let z = seen g.T.Shows c.close_anew.new.stage in
    within_twice g.U.Unit.null_bytes s m a b z (λ told. told) c.harden_anew.ensures.same c.in_ok-harden_anew.ensures.map c.harden_anew.ensures.stopped c.close_anew.ensures.stopped

pub returns-in-Ok-clause-others : goal.returns-in-Ok-clause-others
returns-in-Ok-clause-others g c =
    let s = c.args.self.now in
    let m = c.harden_anew.new.self in
    let a = seen g.T.Shows c.args.stage.now in
    let b = seen g.T.Shows c.harden_anew.new.stage in
    let z = seen g.T.Shows c.close_anew.new.stage in
    only_then s.slot m.slot a b z (λ told. told) c.harden_anew.ensures.same.slot c.harden_anew.ensures.others c.close_anew.ensures.others

pub returns-in-Err-clause-stopped : goal.returns-in-Err-clause-stopped
returns-in-Err-clause-stopped g c =
    let s = c.args.self.now in
    let m = c.harden_anew.new.self in
    let a = seen g.T.Shows c.args.stage.now in
    let b = seen g.T.Shows c.harden_anew.new.stage in
    let z = seen g.T.Shows c.close_anew.new.stage in
    within_twice g.U.Unit.null_bytes s m a b z (λ told. told) c.harden_anew.ensures.same c.in_ok-harden_anew.ensures.map c.harden_anew.ensures.stopped c.close_anew.ensures.stopped

pub returns-in-Err-clause-others : goal.returns-in-Err-clause-others
returns-in-Err-clause-others g c =
    let s = c.args.self.now in
    let m = c.harden_anew.new.self in
    let a = seen g.T.Shows c.args.stage.now in
    let b = seen g.T.Shows c.harden_anew.new.stage in
    let z = seen g.T.Shows c.close_anew.new.stage in
    only_then s.slot m.slot a b z (λ told. told) c.harden_anew.ensures.same.slot c.harden_anew.ensures.others c.close_anew.ensures.others

pub returns-in-Ok-clause-holds : goal.returns-in-Ok-clause-holds
returns-in-Ok-clause-holds g c =
    let s = c.args.self.now in
    let m = c.harden_anew.new.self in
    let a = seen g.T.Shows c.args.stage.now in
    let b = seen g.T.Shows c.harden_anew.new.stage in
    let z = seen g.T.Shows c.close_anew.new.stage in
    let n = c.close_anew.new.self in
    hardened_holds g.U.Unit.null_bytes s n a z (ap (λ (x : LayerState). x.slot) c.in-Ok.ensures.closes ∙ c.harden_anew.ensures.same.slot)
    (ap (λ (x : LayerState). x.tables.layout) c.in-Ok.ensures.closes ∙ c.harden_anew.ensures.same.layout)
    (ap (λ (x : LayerState). x.hardened) c.in-Ok.ensures.closes ∙ c.in_ok-harden_anew.ensures.hardened)
    (maps_twice g.U.Unit.null_bytes s m n a b z (λ told. told) c.harden_anew.ensures.same c.in_ok-harden_anew.ensures.map c.in-Ok.ensures.map)

pub returns-in-Ok-clause-map : goal.returns-in-Ok-clause-map
returns-in-Ok-clause-map g c =
    let s = c.args.self.now in
    let m = c.harden_anew.new.self in
    let a = seen g.T.Shows c.args.stage.now in
    let b = seen g.T.Shows c.harden_anew.new.stage in
    let z = seen g.T.Shows c.close_anew.new.stage in
    maps_twice g.U.Unit.null_bytes s m c.close_anew.new.self a b z (λ told. told) c.harden_anew.ensures.same c.in_ok-harden_anew.ensures.map c.in-Ok.ensures.map

pub returns-in-Ok-clause-closed : goal.returns-in-Ok-clause-closed
returns-in-Ok-clause-closed g c =
    let s = c.args.self.now in
    let m = c.harden_anew.new.self in
    let a = seen g.T.Shows c.args.stage.now in
    let b = seen g.T.Shows c.harden_anew.new.stage in
    let z = seen g.T.Shows c.close_anew.new.stage in
    λ told agrees marked. stays_closed g.U.Unit.null_bytes s m c.close_anew.new.self a b z (λ told. told) c.harden_anew.ensures.same c.in-Ok.ensures.closes c.in_ok-harden_anew.ensures.hardened
    c.in_ok-harden_anew.ensures.map c.in-Ok.ensures.map c.in-Ok.ensures.closed told agrees

pub returns-in-Ok-clause-confined : goal.returns-in-Ok-clause-confined
returns-in-Ok-clause-confined g c = subst (StaysInRoom c.args.self.now) (sym c.in-Ok.ensures.closes) (record { tables = c.harden_anew.ensures.confined.tables; empty = c.harden_anew.ensures.confined.empty; size = c.harden_anew.ensures.confined.size })

pub returns-in-Ok-clause-headers : goal.returns-in-Ok-clause-headers
returns-in-Ok-clause-headers g c =
    let s = c.args.self.now in
    let m = c.harden_anew.new.self in
    let a = seen g.T.Shows c.args.stage.now in
    let b = seen g.T.Shows c.harden_anew.new.stage in
    let z = seen g.T.Shows c.close_anew.new.stage in
    closes_behind s m a b z (λ told. told) c.harden_anew.ensures.same (λ told agrees. (c.in_ok-harden_anew.ensures.map told agrees).agrees) c.harden_anew.ensures.headers c.close_anew.ensures.headers

pub returns-in-Err-clause-headers : goal.returns-in-Err-clause-headers
returns-in-Err-clause-headers g c =
    let s = c.args.self.now in
    let m = c.harden_anew.new.self in
    let a = seen g.T.Shows c.args.stage.now in
    let b = seen g.T.Shows c.harden_anew.new.stage in
    let z = seen g.T.Shows c.close_anew.new.stage in
    closes_behind s m a b z (λ told. told) c.harden_anew.ensures.same (λ told agrees. (c.in_ok-harden_anew.ensures.map told agrees).agrees) c.harden_anew.ensures.headers c.close_anew.ensures.headers

pub returns-then-not-self-clause-headers : goal.returns-then-not-self-clause-headers
returns-then-not-self-clause-headers g c = none_closed c.args.self.now (seen g.T.Shows c.args.stage.now) (seen g.T.Shows c.harden.new.stage) c.harden.ensures.headers

pub returns-in_err-harden_anew-clause-headers : goal.returns-in_err-harden_anew-clause-headers
returns-in_err-harden_anew-clause-headers g c = none_closed c.args.self.now (seen g.T.Shows c.args.stage.now) (seen g.T.Shows c.harden_anew.new.stage) c.harden_anew.ensures.headers

use Rattle.std.proofs.Common.{refl, Result, IfErr, sym, subst}
use Rattle.cckd_shelf.specs.Seen.{seen}
use Rattle.cckd_base.specs.declared.layer_fault.LayerFault.{LayerFault}
use Rattle.cckd_layer.specs.declared.preparing.Room.{Room}
use Rattle.cckd_layer.specs.Mounted.{LayerState}
use Rattle.cckd_layer.specs.Preparing.{IsDeniedFor, IsNoRoomIn, FindsRoom}
use Rattle.cckd_layer.specs.Writes.{Agrees}
use Rattle.cckd_layer.proofs.PrepareLemmas.{denied_lacks, denied_finds}
use Rattle.cckd_layer.proofs.layer.Layer.place_at_once.Goals as goal

pub returns-in-Err-clause-full : goal.returns-in-Err-clause-full
returns-in-Err-clause-full g c =
    let m = c.has_spare.new.self in
    let old = seen g.T.Shows c.args.stage.now in
    let new = seen g.T.Shows c.try_places-tried.new.stage in
    let next = c.try_places-tried.new.self in
    subst (λ (x : LayerState). IsNoRoomIn x next old new c.args.t.0 c.args.need c.in-Err.fault) c.has_spare.ensures.same
    (subst (λ (r : Result Room LayerFault). IfErr r (IsNoRoomIn m next old new c.args.t.0 c.args.need)) c.in-Err.is
    (denied_lacks m next old new c.args.t.0 c.args.need c.try_places-tried.result c.try_places-tried.ensures.rest c.try_places-tried.ensures.limit c.try_places-tried.ensures.reads.kept
    (c.if-not-waits.ensures.none refl) c.try_places-tried.ensures.full c.try_places-tried.ensures.kind))

pub returns-in-Full-clause-finds : goal.returns-in-Full-clause-finds
returns-in-Full-clause-finds g c = λ told a finds enough none.
    let m = c.has_spare.new.self in
    let old = seen g.T.Shows c.args.stage.now in
    let same = sym c.has_spare.ensures.same in
    denied_finds m c.args.t.0 c.args.need c.in-Full.field-0 (subst (λ (x : LayerState). FindsRoom x c.args.t.0 c.args.need) same finds)
    (subst (λ (f : LayerFault). IsDeniedFor m c.args.t.0 c.args.need f) c.in-Full.is
    (subst (λ (r : Result Room LayerFault). IfErr r (IsDeniedFor m c.args.t.0 c.args.need)) c.in-Err-tried.is
    (c.try_places-tried.ensures.full told (subst (λ (x : LayerState). Agrees x old.world) same a))))

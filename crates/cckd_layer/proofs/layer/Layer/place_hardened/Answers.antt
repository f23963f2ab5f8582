use Rattle.std.proofs.Common.{IfErr, sym, subst}
use Rattle.cckd_shelf.specs.Seen.{seen}
use Rattle.cckd_layer.specs.Mounted.{LayerState}
use Rattle.cckd_layer.specs.Preparing.{HasNoneToFree, IsNoRoomIn}
use Rattle.cckd_layer.proofs.PrepareLemmas.{denied_lacks}
use Rattle.cckd_layer.proofs.RoomLemmas.{agrees_roomy}
use Rattle.cckd_layer.proofs.layer.Layer.place_hardened.Goals as goal

pub returns-then-not-has_spare-clause-full : goal.returns-then-not-has_spare-clause-full
returns-then-not-has_spare-clause-full g c = λ settled told a.
    let enough = agrees_roomy c.args.self.now (seen g.T.Shows c.args.stage.now).world a settled.stages settled.pending c.has_spare.ensures.roomy in
    absurd (let spare = c.has_spare.ensures.answer.1 enough in let lacks = c.if-not-has_spare.true in cc)

pub returns-clause-full : goal.returns-clause-full
returns-clause-full g c = λ settled.
    let same = c.has_spare.ensures.same in
    let m = c.has_spare.new.self in
    let old = seen g.T.Shows c.args.stage.now in
    let new = seen g.T.Shows c.try_places.new.stage in
    let none : HasNoneToFree c.args.self.now.plan = record { leaving = settled.leaving; pending = settled.pending } in
    subst (λ (x : LayerState). IfErr c.try_places.result (IsNoRoomIn x c.try_places.new.self old new c.args.t.0 c.args.need)) same
    (denied_lacks m c.try_places.new.self old new c.args.t.0 c.args.need c.try_places.result c.try_places.ensures.rest c.try_places.ensures.limit c.try_places.ensures.reads.kept
    (subst (λ (x : LayerState). HasNoneToFree x.plan) (sym same) none) c.try_places.ensures.full c.try_places.ensures.kind)

use Rattle.std.proofs.Common.{◌∷◌, IfOk, subst, arith}
use Rattle.cckd_layer.specs.Current.{claim}
use Rattle.cckd_layer.specs.Mounted.{LayerState}
use Rattle.cckd_layer.specs.Writes.{KeepsMapWith}
use Rattle.cckd_layer.proofs.ClaimLemmas.{claim_map, place_result}
use Rattle.cckd_layer.proofs.layer.Layer.claim_place.Goals as goal

pub returns-clause-map : goal.returns-clause-map
returns-clause-map g c = λ claims w.
    let i = c.self.inside in
    let s : LayerState = record { slot = i.slot; header = i.header; tables = i.tables; plan = i.space; marked = i.marked; hardened = i.hardened; broken = i.broken } in
    let next : LayerState = record { slot = i.slot; header = i.header; tables = i.tables; plan = c.place.new.self; marked = i.marked; hardened = i.hardened; broken = i.broken } in
    subst (λ (x : LayerState). IfOk c.place.result (λ pos. KeepsMapWith claims (claim pos c.args.need ∷ claims) g.U.Unit.null_bytes x next w w)) c.self.view_is
    (claim_map claims g.U.Unit.null_bytes s c.place.new.self c.args.need w c.place.result (omega (arith, c.requires.need.some)) c.requires.need.multiple c.place.ensures.placed c.place.ensures.reserved c.place.ensures.full c.place.ensures.within c.place.ensures.sound)

pub returns-clause-aligned : goal.returns-clause-aligned
returns-clause-aligned g c = place_result c.args.need c.self.inside.space.pieces c.place.result c.place.ensures.placed

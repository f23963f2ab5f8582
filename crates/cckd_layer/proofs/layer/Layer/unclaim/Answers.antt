use Rattle.std.proofs.Common.{◌≡◌, ◌∷◌, ◌+◌, ℕ, List, length, subst}
use Rattle.cckd_shelf.specs.Seen.{Seen}
use Rattle.cckd_shelf.specs.World.{file_of}
use Rattle.cckd_base.specs.declared.space.Extent.{Extent}
use Rattle.cckd_layer.specs.Acts.{EndsBefore}
use Rattle.cckd_layer.specs.Current.{claim}
use Rattle.cckd_layer.specs.Mounted.{LayerState}
use Rattle.cckd_layer.specs.Writes.{KeepsMapWith}
use Rattle.cckd_layer.proofs.ClaimLemmas.{unclaim_agrees}
use Rattle.cckd_layer.proofs.layer.Layer.unclaim.Goals as goal

pub returns-clause-map : goal.returns-clause-map
returns-clause-map g c =
    let i = c.self.inside in
    let s : LayerState = record { slot = i.slot; header = i.header; tables = i.tables; plan = i.space; marked = i.marked; hardened = i.hardened; broken = i.broken } in
    let next : LayerState = record { slot = i.slot; header = i.header; tables = i.tables; plan = c.give_place_back.new.space; marked = i.marked; hardened = i.hardened; broken = i.broken } in
    subst (λ (x : LayerState). (claims : List Extent) (n : ℕ) (w : Seen) → c.args.len ≡ length (file_of w.world x.slot) → EndsBefore (c.args.pos + n) c.args.len x.plan → KeepsMapWith (claim c.args.pos n ∷ claims) claims g.U.Unit.null_bytes x next w w) c.self.view_is
    (λ claims n w long well told a. unclaim_agrees claims g.U.Unit.null_bytes s c.give_place_back.new.space c.args.pos n c.args.len w well c.give_place_back.ensures.gives c.give_place_back.ensures.sound long a)

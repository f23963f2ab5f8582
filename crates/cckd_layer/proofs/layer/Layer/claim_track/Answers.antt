use Rattle.std.proofs.Common.{ℕ, ◌++◌, Option, Some, sym, subst}
use Rattle.cckd_layer.specs.Writes.{KeepsMapWith, claim_of}
use Rattle.cckd_layer.proofs.layer.Layer.claim_track.Goals as goal

pub returns-in-Ok-clause-map : goal.returns-in-Ok-clause-map
returns-in-Ok-clause-map g c = λ claims w.
    subst (λ (o : Option ℕ). KeepsMapWith claims (claim_of o (Some c.in-Ok.pos) ++ claims) g.U.Unit.null_bytes c.args.self.now c.claim_place.new.self w w) (sym c.in-Some.is)
    (c.in-Ok.ensures.map claims w)

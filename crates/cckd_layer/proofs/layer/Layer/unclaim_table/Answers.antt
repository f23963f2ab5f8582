use Rattle.std.proofs.Common.{◌+◌, ℕ, [], Option, Some, IsSome, IfSome, refl, sym, subst}
use Rattle.cckd_layer.specs.Acts.{EndsBefore}
use Rattle.cckd_layer.specs.Writes.{AgreesWith, claim_of}
use Rattle.cckd_layer.proofs.layer.Layer.unclaim_table.Goals as goal

pub returns-in-Some-clause-map : goal.returns-in-Some-clause-map
returns-in-Some-clause-map g c = λ w long well told a.
    c.unclaim.ensures.map [] 2048 w (long (subst (λ (o : Option ℕ). IsSome o) (sym c.in-Some.is) refl))
    (subst (λ (o : Option ℕ). IfSome o (λ pos. EndsBefore (pos + 2048) c.args.len c.args.self.now.plan)) c.in-Some.is well) told
    (subst (λ (o : Option ℕ). AgreesWith (claim_of (Some 2048) o) c.args.self.now w.world) c.in-Some.is a)

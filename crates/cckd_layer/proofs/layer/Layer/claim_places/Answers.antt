use Rattle.std.proofs.Common.{◌≡◌, ◌+◌, ℕ, Bool, true, [], ◌++◌, length, Option, Some, None, IsSome, IfSome, sym, ap, subst}
use Rattle.std.specs.Option.{is_some}
use Rattle.cckd_shelf.specs.World.{file_of}
use Rattle.cckd_layer.specs.Acts.{EndsBefore}
use Rattle.cckd_layer.specs.Mounted.{LayerState}
use Rattle.cckd_layer.specs.Writes.{KeepsMapWith, claim_of}
use Rattle.cckd_layer.proofs.ClaimLemmas.{table_before}
use Rattle.cckd_layer.proofs.StepLemmas.{plans_twice}
use Rattle.cckd_layer.proofs.layer.Layer.claim_places.Goals as goal

pub returns-in-Ok-claim_track-clause-map : goal.returns-in-Ok-claim_track-clause-map
returns-in-Ok-claim_track-clause-map g c = λ w.
    let claims = claim_of (Some 2048) c.in-Ok.table in
    plans_twice [] claims (claim_of c.args.need c.in-Ok-claim_track.track ++ claims) g.U.Unit.null_bytes c.args.self.now c.claim_table.new.self c.claim_track.new.self w c.claim_table.ensures.rest
    (c.in-Ok.ensures.map w) (c.in-Ok-claim_track.ensures.map claims w)

pub returns-in-Err-claim_track-clause-kept : goal.returns-in-Err-claim_track-clause-kept
returns-in-Err-claim_track-clause-kept g c = λ w long told a.
    let claims = claim_of (Some 2048) c.in-Ok.table in
    let s = c.args.self.now in
    let m = c.claim_table.new.self in
    let n = c.unclaim_table.new.self in
    let before = table_before s m w c.args.wanted c.in-Ok.table c.args.len c.in-Ok.ensures.wanted c.in-Ok.ensures.place c.in-Ok.ensures.granted long a in
    let slot = ap (λ (x : LayerState). x.slot) c.claim_table.ensures.rest in
    let same = sym c.in-Err-claim_track.ensures.same in
    let back : KeepsMapWith claims [] g.U.Unit.null_bytes m n w w = subst (λ (x : LayerState). KeepsMapWith claims [] g.U.Unit.null_bytes x n w w) c.in-Err-claim_track.ensures.same
    (c.unclaim_table.ensures.map w
    (λ some. subst (λ (x : LayerState). c.args.len ≡ length (file_of w.world x.slot)) same (subst (λ (k : ℕ). c.args.len ≡ length (file_of w.world k)) (sym slot) (long (wanted_is c.in-Ok.table c.args.wanted c.in-Ok.ensures.wanted some))))
    (subst (λ (x : LayerState). IfSome c.in-Ok.table (λ pos. EndsBefore (pos + 2048) c.args.len x.plan)) same before)) in
    plans_twice [] claims [] g.U.Unit.null_bytes s m n w c.claim_table.ensures.rest (c.in-Ok.ensures.map w) back told a
  where
    wanted_is : (o : Option ℕ) (b : Bool) → is_some o ≡ b → IsSome o → b ≡ true
    wanted_is (Some pos) b e some = sym e
    wanted_is None b e some = cc

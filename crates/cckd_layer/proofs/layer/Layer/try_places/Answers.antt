use Rattle.std.proofs.Common.{◌≡◌, ◌<◌, ℕ, [], length, inl, ap, subst}
use Rattle.cckd_shelf.specs.World.{file_of}
use Rattle.cckd_layer.specs.Mounted.{LayerState}
use Rattle.cckd_shelf.specs.Seen.{seen}
use Rattle.cckd_layer.specs.Writes.{claims_of}
use Rattle.cckd_layer.proofs.PrepareLemmas.{file_short, seen_as}
use Rattle.cckd_layer.proofs.layer.Layer.try_places.Goals as goal

pub returns-in-Ok-claim_places-clause-map : goal.returns-in-Ok-claim_places-clause-map
returns-in-Ok-claim_places-clause-map g c =
    let old = seen g.T.Shows c.args.stage.now in
    seen_as [] (claims_of c.args.need c.in-Ok-claim_places.places) g.U.Unit.null_bytes c.args.self.now c.claim_places.new.self old (seen g.T.Shows c.len_if.new.stage)
    c.len_if.ensures.reads.kept (c.in-Ok-claim_places.ensures.map old)

pub returns-in-Err-claim_places-clause-kept : goal.returns-in-Err-claim_places-clause-kept
returns-in-Err-claim_places-clause-kept g c = λ told a.
    let old = seen g.T.Shows c.args.stage.now in
    let slot = ap (λ (x : LayerState). x.slot) c.self.view_is in
    let short = file_short [] c.args.self.now old.world a in
    seen_as [] [] g.U.Unit.null_bytes c.args.self.now c.claim_places.new.self old (seen g.T.Shows c.len_if.new.stage)
    c.len_if.ensures.reads.kept (c.in-Err-claim_places.ensures.kept old (λ wanted. subst (λ (n : ℕ). length (file_of old.world n) < 4294967296 → c.in-Ok.len ≡ length (file_of old.world n)) slot (c.in-Ok.ensures.len told a.stands.sure (inl wanted)) short)) told a

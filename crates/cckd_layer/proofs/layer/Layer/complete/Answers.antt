use Rattle.std.proofs.Common.{◌∙◌, sym, subst}
use Rattle.cckd_shelf.specs.Seen.{seen}
use Rattle.cckd_shelf.specs.World.{IsSure}
use Rattle.cckd_shelf.proofs.FrameLemmas.{only_stays}
use Rattle.cckd_layer.specs.Mounted.{LayerState}
use Rattle.cckd_layer.specs.Loose.{IsOnlyLooked}
use Rattle.cckd_layer.proofs.ExcessLemmas.{looked_then}
use Rattle.cckd_layer.proofs.layer.Layer.complete.Goals as goal

pub put_entry-requires-clause-passes : goal.put_entry-requires-clause-passes
put_entry-requires-clause-passes g c = λ told sure.
    let stayed = c.forget.ensures.reads.kept told ∙ c.excess.ensures.looked.kept told in
    let found = rw c.in-Ok-Some.field-0-is at (c.in-Ok-Some.ensures.some told (subst IsSure stayed sure)) in
    c.in-Ok.ensures.words told c.in-Ok-Some.excess.track.0 c.in-Ok-Some.excess.entry found

pub returns-in-Err-forget-clause-read : goal.returns-in-Err-forget-clause-read
returns-in-Err-forget-clause-read g c = λ why.
    let old = seen g.T.Shows c.args.stage.now in
    let mid = seen g.T.Shows c.excess.new.stage in
    let new = seen g.T.Shows c.forget.new.stage in
    subst (λ (x : LayerState). IsOnlyLooked c.args.self.now x old new) (sym c.in-Err-forget.ensures.same.1)
    (looked_then c.args.self.now c.excess.new.self old mid new (λ told. told) (λ told. told) c.excess.ensures.looked c.forget.ensures.reads.kept)

pub returns-in-Err-forget-clause-others : goal.returns-in-Err-forget-clause-others
returns-in-Err-forget-clause-others g c =
    only_stays c.args.self.now.slot (seen g.T.Shows c.args.stage.now) (seen g.T.Shows c.forget.new.stage)
    (λ told. c.forget.ensures.reads.kept told ∙ c.excess.ensures.reads.kept told)

use Rattle.std.proofs.Common.{◌≡◌, take, subst, sym}
use Rattle.cckd_shelf.specs.World.{World, IsSure, file_of}
use Rattle.cckd_tools.proofs.InitLemmas.{there_by_front}
use Rattle.cckd_tools.proofs.presence.find.Goals as goal

pub returns-clause-there : goal.returns-clause-there
returns-clause-there g c = λ told sure.
    let w = g.T.Shows.world c.args.stage.now in
    let kept = c.in-Ok.ensures.kept told in
    there_by_front (file_of w c.args.slot) c.read.new.into c.are_zeros.result c.in-Ok.len (c.in-Ok.ensures.len told sure)
    c.if-len-lt512.false
    (subst (λ (v : World). c.read.new.into ≡ take 512 (file_of v c.args.slot)) kept (c.in-Ok-read.ensures.bytes told (subst IsSure (sym kept) sure)))
    c.are_zeros.ensures

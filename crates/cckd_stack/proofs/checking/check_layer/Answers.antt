use Rattle.cckd_shelf.specs.Seen.{seen}
use Rattle.cckd_stack.proofs.CheckLemmas.{one_sifted}
use Rattle.cckd_stack.proofs.checking.check_layer.Goals as goal

pub loop-number-preserved : goal.loop-number-preserved
loop-number-preserved g c =
    one_sifted c.args.level c.args.geo.now c.args.layer.now c.loop-number.layer (seen g.T.Shows c.args.stage.now) (seen g.T.Shows c.loop-number.stage) c.loop-number.bad c.loop-number.number
    (λ told. told) c.loop-number.invariant c.check_track.new.layer (seen g.T.Shows c.check_track.new.stage) c.in-Ok.ensures.rest c.in-Ok.found c.one_for-bad.result c.one_for-bad.ensures
    c.in-Ok.ensures.can_read c.in-Ok.ensures.reads.kept c.in-Ok.ensures.reads.counts c.in-Ok.ensures.bad

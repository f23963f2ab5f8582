use Rattle.std.proofs.Common.{arith}
use Rattle.cckd_shelf.proofs.PutLemmas.{put_step}
use Rattle.cckd_shelf.proofs.sink.put_all.Goals as goal

pub loop-put-preserved : goal.loop-put-preserved
loop-put-preserved g c =
    put_step c.args.text.now c.loop-put.put c.in_ok-put.field-0 _ _ _ (λ told. told) c.loop-put.invariant (omega (arith, c.in_ok-put.ensures.fits)) c.in_ok-put.ensures.put
    c.in_ok-put.ensures.fails.still

use Rattle.std.proofs.Common.{arith}
use Rattle.cckd_base.proofs.PutLemmas.{put_in_front}
use Rattle.cckd_track.proofs.NullLemmas.{null_put}
use Rattle.cckd_track.proofs.ckd_unit.CkdUnit.null.Goals as goal

pub returns-clause-written : goal.returns-clause-written
returns-clause-written c =
    put_in_front _ _ _ _ (null_put c.args.geo.now c.args.t.0 c.args.fmt _ _ _ _ c.addr.ensures.value c.put_null.ensures.put)

pub returns-clause-length : goal.returns-clause-length
returns-clause-length c =
    let put = null_put c.args.geo.now c.args.t.0 c.args.fmt _ _ _ _ c.addr.ensures.value c.put_null.ensures.put in
    omega (arith, put.ends)

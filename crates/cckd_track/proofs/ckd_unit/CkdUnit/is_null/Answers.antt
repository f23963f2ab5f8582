use Rattle.std.proofs.Common.{◌≡◌, ◌↔◌, subst, sym, Bool, IsTrue}
use Rattle.cckd_base.specs.Track.{null_track}
use Rattle.cckd_track.proofs.NullLemmas.{null_compared}
use Rattle.cckd_track.proofs.ckd_unit.CkdUnit.is_null.Goals as goal

pub returns : goal.returns
returns c =
    let geo = c.args.geo.now in
    let t = c.args.t.0 in
    subst (λ (same : Bool). IsTrue same ↔ (c.args.bytes.now ≡ null_track geo t c.args.fmt)) (sym c.eq.ensures)
    (null_compared geo t c.args.fmt _ _ _ _ c.args.bytes.now c.addr.ensures.value c.put_null-len.ensures.put)

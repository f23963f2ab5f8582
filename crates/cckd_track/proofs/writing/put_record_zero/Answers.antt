use Rattle.cckd_base.proofs.PutLemmas.{puts_join, put_as}
use Rattle.std.proofs.Common.{◌++◌, ap}
use Rattle.std.specs.Prelude.{List, ℕ, replicate}
use Rattle.cckd_track.proofs.writing.put_record_zero.Goals as goal

pub returns : goal.returns
returns c =
    put_as _ _ _ _ _ _ (ap (λ (count : List ℕ). count ++ replicate 8 0) c.count_bytes.ensures)
    (puts_join _ _ _ _ _ _ _ _ c.put_bytes-at.ensures c.put_bytes.ensures)

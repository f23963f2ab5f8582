use Rattle.cckd_base.proofs.PutLemmas.{puts_join, put_as}
use Rattle.cckd_script.proofs.fill.put_count.Goals as goal

pub returns : goal.returns
returns c =
    puts_join _ _ _ _ _ _ _ _ (puts_join _ _ _ _ _ _ _ _ c.put_address-end.ensures c.put_bytes-end.ensures)
    (put_as _ _ _ _ _ _ c.to_be_bytes.ensures c.put_bytes.ensures)

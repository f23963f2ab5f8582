use Rattle.cckd_base.proofs.PutLemmas.{puts_join}
use Rattle.cckd_script.proofs.fill.put_record_zero.Goals as goal

pub returns : goal.returns
returns c = puts_join _ _ _ _ _ _ _ _ c.put_count-end.ensures c.put_bytes.ensures

use Rattle.std.proofs.Common.{rules}
use Rattle.cckd_tools.proofs.LabelLemmas.{label_put}
use Rattle.cckd_tools.proofs.label.label_data.Goals as goal

pub returns : goal.returns
returns c =
    label_put c.args.serial.now c.as_mut_slice-room.result.now _ _ _ _ _ _ _ _ (search rules) (search rules) c.put_bytes-name.ensures c.put_bytes-volume.ensures c.put_bytes-access.ensures c.put_bytes.ensures

use Rattle.std.proofs.Common.{ℕ, List, ◌++◌, ap, ◌∙◌, append_assoc}
use Rattle.cckd_base.proofs.PutLemmas.{puts_join, put_as}
use Rattle.cckd_track.proofs.writing.put_record.Goals as goal

pub returns : goal.returns
returns c =
    let key = c.args.key.now in
    let body = c.args.body.now in
    put_as _ _ _ _ _ _ (append_assoc c.count_bytes-count.result key body ∙ ap (λ (count : List ℕ). count ++ (key ++ body)) c.count_bytes-count.ensures)
    (puts_join _ _ _ _ _ _ _ _ (puts_join _ _ _ _ _ _ _ _ c.put_bytes-key_at.ensures c.put_bytes-body_at.ensures) c.put_bytes.ensures)

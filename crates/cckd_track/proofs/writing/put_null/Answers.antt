use Rattle.cckd_base.proofs.PutLemmas.{puts_join, put_as}
use Rattle.std.proofs.Common.{◌++◌, ap}
use Rattle.std.specs.Prelude.{List, ℕ}
use Rattle.std.specs.List.{flat_map}
use Rattle.cckd_base.specs.Track.{end_mark, spelling, null_records}
use Rattle.cckd_track.proofs.writing.put_null.Goals as goal

pub returns-clause-put : goal.returns-clause-put
returns-clause-put c =
    let records = flat_map spelling (null_records c.args.a c.args.fmt) in
    put_as _ _ _ _ _ _ (ap (λ (home : List ℕ). home ++ records ++ end_mark) c.home_bytes.ensures)
    (puts_join _ _ _ _ _ _ _ _ (puts_join _ _ _ _ _ _ _ _ c.put_bytes-at.ensures c.put_records-at.ensures.put) c.put_bytes.ensures)

use Rattle.std.proofs.Common.{◌≡◌, ℕ, arith, ap}
use Rattle.std.specs.List.{flat_map}
use Rattle.cckd_base.specs.Track.{spelling, null_records}
use Rattle.cckd_base.proofs.PutLemmas.{puts_join, put_as}
use Rattle.cckd_track.proofs.writing.put_records.Goals as goal

pub returns-in-0-clause-put : goal.returns-in-0-clause-put
returns-in-0-clause-put c =
    let zero : 0 ≡ c.args.fmt = omega arith in
    put_as _ _ _ _ _ _ (ap (λ (format : ℕ). flat_map spelling (null_records c.args.a format)) zero)
    (puts_join _ _ _ _ _ _ _ _ c.put_record_zero-at.ensures c.put_record_one.ensures)

use Rattle.std.proofs.Common.{[], ◌∷◌}
use Rattle.cckd_base.specs.Geometry.{address_of}
use Rattle.cckd_base.specs.Track.{null_record_zero}
use Rattle.cckd_track.proofs.building.Builder.new.Goals as goal

pub returns-clause-building : goal.returns-clause-building
returns-clause-building c =
    (c.args.l.now.geo, c.args.t.0, null_record_zero (address_of c.args.l.now.geo c.args.t.0) ∷ [], c.args.out.now, c.begin.ensures.begun)

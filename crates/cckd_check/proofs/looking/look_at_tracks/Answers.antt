use Rattle.cckd_shelf.specs.World.{file_of}
use Rattle.cckd_check.proofs.ReportLemmas.{tracks_passed}
use Rattle.cckd_check.proofs.looking.look_at_tracks.Goals as goal

pub returns-then-level-lt2-clause-added : goal.returns-then-level-lt2-clause-added
returns-then-level-lt2-clause-added g c = λ told sure known.
    tracks_passed c.args.level c.args.x.now.heading.layout (file_of (g.T.Shows.world c.args.stage.now) c.args.slot) c.args.report.now c.if-level-lt2.true

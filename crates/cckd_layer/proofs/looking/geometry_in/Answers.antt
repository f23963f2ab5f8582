use Rattle.cckd_shelf.specs.World.{file_of}
use Rattle.cckd_layer.proofs.GlanceLemmas.{headers_geometry}
use Rattle.cckd_layer.proofs.looking.geometry_in.Goals as goal

pub returns-in-Ok-clause-says : goal.returns-in-Ok-clause-says
returns-in-Ok-clause-says g c = λ told sure.
    headers_geometry c.args.roles c.in-Ok.found.header c.in-Ok.found.layout c.shape_of.result c.in-Ok.found.len (file_of (g.T.Shows.world c.args.stage.now) c.args.slot)
    (c.in-Ok.ensures.headed told sure) c.shape_of.ensures

pub returns-in-Ok-clause-looks : goal.returns-in-Ok-clause-looks
returns-in-Ok-clause-looks g c = record { kept = c.in-Ok.ensures.looks.kept; counts = c.in-Ok.ensures.looks.counts }

use Rattle.cckd_base.specs.Header.{header_fault}
use Rattle.cckd_image.specs.Image.{identifiers_of}
use Rattle.cckd_shelf.specs.World.{file_of}
use Rattle.cckd_shelf.specs.Seen.{seen}
use Rattle.cckd_layer.proofs.FoundLemmas.{found_headed, found_refused, found_looks}
use Rattle.cckd_layer.proofs.GlanceLemmas.{look_cause}
use Rattle.cckd_layer.proofs.mounting.find.Goals as goal

pub returns-in-Ok-clause-headed : goal.returns-in-Ok-clause-headed
returns-in-Ok-clause-headed g c = λ told sure.
    found_headed c.args.roles c.read_headers.new.headers (file_of (g.T.Shows.world c.args.stage.now) c.args.slot) c.in-Ok.len c.read_out.result
    (c.in-Ok.ensures.headers told sure) (c.in-Ok.ensures.length told sure) c.read_out.ensures.sound c.read_out.ensures.header c.read_out.ensures.says c.read_out.ensures.length

pub returns-in-Ok-clause-cause : goal.returns-in-Ok-clause-cause
returns-in-Ok-clause-cause g c =
    found_refused c.args.roles c.args.slot (seen g.T.Shows c.args.stage.now) c.read_headers.new.headers c.in-Ok.len c.read_out.result
    c.in-Ok.ensures.headers c.in-Ok.ensures.length c.read_out.ensures.refusal

pub returns-in-Ok-clause-looks : goal.returns-in-Ok-clause-looks
returns-in-Ok-clause-looks g c =
    found_looks c.args.slot (header_fault (identifiers_of c.args.roles) c.read_headers.new.headers c.in-Ok.len) c.read_out.result
    (seen g.T.Shows c.args.stage.now) (seen g.T.Shows c.read_headers.new.stage)
    c.in-Ok.ensures.looks.kept c.in-Ok.ensures.looks.counts c.read_out.ensures.refusal

pub returns-in-Ok-clause-why : goal.returns-in-Ok-clause-why
returns-in-Ok-clause-why g c =
    look_cause c.args.roles c.args.slot (seen g.T.Shows c.args.stage.now) c.read_headers.new.headers c.in-Ok.len c.read_out.result
    c.in-Ok.ensures.headers c.in-Ok.ensures.length c.read_out.ensures.refusal

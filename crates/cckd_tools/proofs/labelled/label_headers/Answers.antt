use Rattle.std.proofs.Common.{ap, ◌∙◌, arith}
use Rattle.cckd_image.specs.Image.{header_bytes}
use Rattle.cckd_tools.proofs.LabelLemmas.{header_as}
use Rattle.cckd_tools.proofs.labelled.label_headers.Goals as goal

pub returns : goal.returns
returns c =
    c.encode.ensures.value
    ∙ ap header_bytes (header_as c.fresh-header.result c.args.l.now _ _ _ c.fresh-header.ensures.value
    c.label_size-size.ensures
    (omega (arith, c.area.ensures, c.from.ensures))
    (omega (arith, c.label_size-size.ensures, c.area.ensures, c.from.ensures)))

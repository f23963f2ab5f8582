use Rattle.std.proofs.Common.{ap, ◌∙◌}
use Rattle.cckd_image.specs.Image.{header_bytes}
use Rattle.cckd_make.proofs.making.headers.Goals as goal

pub returns : goal.returns
returns c = c.encode.ensures.value ∙ ap header_bytes c.fresh.ensures.value

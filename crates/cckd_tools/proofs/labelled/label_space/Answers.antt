use Rattle.std.proofs.Common.{◌∙◌}
use Rattle.cckd_tools.proofs.labelled.label_space.Goals as goal

pub build-requires-clause-zeros : goal.build-requires-clause-zeros
build-requires-clause-zeros c = c.as_mut_slice.ensures.value ∙ c.in-Ok.ensures.zeros

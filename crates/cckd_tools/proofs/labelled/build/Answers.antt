use Rattle.std.proofs.Common.{rules}
use Rattle.cckd_tools.proofs.LabelLemmas.{space_is, space_long}
use Rattle.cckd_tools.proofs.labelled.build.Goals as goal

pub returns-clause-space : goal.returns-clause-space
returns-clause-space c =
    space_is c.args.l.now.geo c.args.serial.now c.args.out.now _ _ (search rules) c.requires.zeros c.in-Ok.ensures.built

pub returns-clause-length : goal.returns-clause-length
returns-clause-length c =
    space_long c.args.l.now.geo c.args.serial.now c.args.out.now _ _ (search rules) c.requires.zeros c.in-Ok.ensures.built

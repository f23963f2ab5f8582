use Rattle.cckd_script.proofs.TextLemmas.{misreading_is_line}
use Rattle.cckd_script.proofs.print.print_misreading.Goals as goal

pub returns-clause-one_line : goal.returns-clause-one_line
returns-clause-one_line c = misreading_is_line c.args.why c.put_misreading-end.ensures.numbers

use Rattle.std.proofs.Common.{rules}
use Rattle.cckd_record_example.proofs.StoreLemmas.{stays, keeps_name}
use Rattle.cckd_record_example.proofs.storing.make_stay.Goals as goal

pub returns-clause-stays : goal.returns-clause-stays
returns-clause-stays g c = search (rules, stays)

pub returns-clause-named : goal.returns-clause-named
returns-clause-named g c = search (rules, keeps_name)

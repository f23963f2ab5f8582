use Rattle.cckd_top.proofs.HardenedLemmas.{last_opens}
use Rattle.cckd_top.proofs.laws.hardened_files_are_known.Goals as goal

pub returns : goal.returns
returns c = last_opens

use Rattle.cckd_tables.proofs.OrderLemmas.{sorted_order}
use Rattle.cckd_tables.proofs.TakeLemmas.{have_bytes}
use Rattle.cckd_tables.proofs.progress.Progress.finish.Goals as goal

pub returns-clause-kept : goal.returns-clause-kept
returns-clause-kept c =
    sorted_order c.args.self.spaces.items c.sort.new.spaces.items (have_bytes c.args.len c.args.self.spaces.items c.requires.formed) c.requires.apart
    c.sort.ensures.moved c.sort.ensures.sorted

use Rattle.cckd_tables.specs.Inside.{Takes, items_of_words}
use Rattle.cckd_tables.proofs.progress.Progress.take_words.Given as goal

abbrev pub invariant-loop-group : goal.invariant-loop-group
invariant-loop-group l = Takes l.len (items_of_words l.l l.len l.words l.group) l.fn.self l.self

use Rattle.cckd_tables.specs.Inside.{Takes, items_of_table}
use Rattle.cckd_tables.proofs.progress.Progress.take_table.Given as goal

abbrev pub invariant-loop-track : goal.invariant-loop-track
invariant-loop-track l = Takes l.len (items_of_table l.l l.len l.bytes l.first l.track) l.fn.self l.self

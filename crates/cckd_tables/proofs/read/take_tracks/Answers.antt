use Rattle.cckd_shelf.specs.World.{file_of}
use Rattle.cckd_tables.proofs.FileLemmas.{table_of_file}
use Rattle.cckd_tables.proofs.TakeLemmas.{takes_same}
use Rattle.cckd_tables.proofs.read.take_tracks.Goals as goal

pub returns-clause-takes : goal.returns-clause-takes
returns-clause-takes g c = λ told sure.
    takes_same c.args.len _ _ c.args.survey.now c.take_table.new.self
    (table_of_file c.args.l.now c.args.len (file_of (g.T.Shows.world c.args.stage.now) c.args.slot) c.read_at.new.into c.args.table.now c.in-Table.group
    (c.requires.length told sure) (c.in_ok-read_at.ensures.bytes told sure) c.in-Table.is)
    c.in-Ok.ensures

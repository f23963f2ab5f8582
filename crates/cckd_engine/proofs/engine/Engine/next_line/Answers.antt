use Rattle.std.proofs.Common.{refl}
use Rattle.cckd_shelf.specs.Seen.{seen}
use Rattle.cckd_engine.proofs.engine.Engine.next_line.Goals as goal

pub returns-clause-runs : goal.returns-clause-runs
returns-clause-runs g c = λ runs none.
    g.met.D.Disk.tied_at_takes c.args.self.now.disk (seen g.T.Shows c.args.self.now.stage) (seen g.T.Shows c.next_line.new.stage) refl
    c.next_line.ensures.only (runs none)

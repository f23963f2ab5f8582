use Rattle.std.proofs.Common.{refl}
use Rattle.cckd_shelf.specs.Seen.{seen}
use Rattle.cckd_engine.proofs.ClosingLemmas.{tells_since_puts}
use Rattle.cckd_engine.proofs.ServeLemmas.{stands_at_text, tells_at_puts, notes}
use Rattle.cckd_engine.proofs.engine.Engine.print.Goals as goal

pub returns-clause-stands : goal.returns-clause-stands
returns-clause-stands g c = λ s0 h told stands.
    stands_at_text s0 h c.args.text.now (g.T.Shows.world c.args.self.now.stage) (g.T.Shows.world c.put_all.new.stage)
    (g.D.Disk.geometry c.args.self.now.disk) (g.D.Disk.stack c.args.self.now.disk) c.args.self.now.calls c.args.self.now.broken
    c.args.self.now.tally (g.met.D.Disk.stack_at_put c.args.self.now.disk) (c.put_all.ensures.front told) stands

pub returns-clause-stops : goal.returns-clause-stops
returns-clause-stops g c = λ s0 h told one left.
    notes (g.D.Disk.geometry c.args.self.now.disk) s0 h c.args.text.now one (g.T.Shows.world c.args.self.now.stage)
    (g.T.Shows.world c.put_all.new.stage) left (c.put_all.ensures.front told)

pub returns-clause-runs : goal.returns-clause-runs
returns-clause-runs g c = λ runs none.
    g.met.D.Disk.tied_at_puts c.args.self.now.disk c.args.text.now (seen g.T.Shows c.args.self.now.stage) (seen g.T.Shows c.put_all.new.stage) refl
    c.put_all.ensures.front (runs none)

pub returns-clause-agrees : goal.returns-clause-agrees
returns-clause-agrees g c = λ told tells.
    tells_at_puts (g.D.Disk.agrees c.args.self.now.disk) c.args.self.now.broken c.args.text.now (g.T.Shows.world c.args.self.now.stage)
    (g.T.Shows.world c.put_all.new.stage) (g.met.D.Disk.agrees_at_put c.args.self.now.disk) (c.put_all.ensures.front told) tells

pub returns-clause-closes : goal.returns-clause-closes
returns-clause-closes g c = λ base h told was.
    tells_since_puts (g.D.Disk.marks c.args.self.now.disk) c.args.self.now.broken base h h c.args.text.now (g.T.Shows.world c.args.self.now.stage) (g.T.Shows.world c.put_all.new.stage)
    (g.met.D.Disk.marks_at_put c.args.self.now.disk) (c.put_all.ensures.front told) (λ closed. closed) was

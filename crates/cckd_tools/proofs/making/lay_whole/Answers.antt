use Rattle.std.proofs.Common.{List, ℕ, ◌-◌, length, take, drop, subst}
use Rattle.cckd_shelf.specs.Seen.{seen}
use Rattle.cckd_make.specs.Making.{StopsWithout}
use Rattle.cckd_tools.proofs.InitLemmas.{halves, is_made}
use Rattle.cckd_tools.proofs.making.lay_whole.Goals as goal

pub returns-in-Ok-clause-made : goal.returns-in-Ok-clause-made
returns-in-Ok-clause-made g c =
    is_made c.args.slot (take 512 c.args.file.now) (take (length c.args.file.now - 512) (drop 512 c.args.file.now)) c.args.file.now (seen g.T.Shows c.args.stage.now) (seen g.T.Shows c.lay.new.shelf)
    (halves c.args.file.now) c.in-Ok.ensures.only c.in-Ok.ensures.made

pub returns-in-Ok-clause-stopped : goal.returns-in-Ok-clause-stopped
returns-in-Ok-clause-stopped g c = subst (λ (f : List ℕ). StopsWithout c.args.slot f (seen g.T.Shows c.args.stage.now) (seen g.T.Shows c.lay.new.shelf)) (halves c.args.file.now) c.lay.ensures.stopped

pub returns-in-Err-WriteFault-clause-stopped : goal.returns-in-Err-WriteFault-clause-stopped
returns-in-Err-WriteFault-clause-stopped g c = subst (λ (f : List ℕ). StopsWithout c.args.slot f (seen g.T.Shows c.args.stage.now) (seen g.T.Shows c.lay.new.shelf)) (halves c.args.file.now) c.lay.ensures.stopped

pub returns-in-Err-SyncFault-clause-stopped : goal.returns-in-Err-SyncFault-clause-stopped
returns-in-Err-SyncFault-clause-stopped g c = subst (λ (f : List ℕ). StopsWithout c.args.slot f (seen g.T.Shows c.args.stage.now) (seen g.T.Shows c.lay.new.shelf)) (halves c.args.file.now) c.lay.ensures.stopped

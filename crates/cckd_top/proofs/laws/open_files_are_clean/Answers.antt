use Rattle.std.specs.Prelude.{[]}
use Rattle.cckd_shelf.proofs.MomentLemmas.{weaker}
use Rattle.cckd_shelf.specs.Events.{output_of}
use Rattle.cckd_shelf.specs.Outcomes.{EachStop}
use Rattle.cckd_engine.specs.Lines.{LinesAt}
use Rattle.cckd_top.specs.Clean.{AreClean}
use Rattle.cckd_top.specs.Names.{after_binds}
use Rattle.cckd_top.proofs.CleanLemmas.{open_clean}
use Rattle.cckd_top.proofs.laws.open_files_are_clean.Goals as goal

pub returns-clause-opened : goal.returns-clause-opened
returns-clause-opened c = open_clean

pub returns-clause-stopped : goal.returns-clause-stopped
returns-clause-stopped c name g s0 lines old new keeps = weaker (LinesAt g s0 [] lines (output_of old.events)) (EachStop AreClean) (after_binds name 9 old).events new.events
    (λ es at files crash.
    let o = at.stops files crash in
    open_clean g files o.stack o.opens)
    keeps.each

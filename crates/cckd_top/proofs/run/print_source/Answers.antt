use Rattle.cckd_top.proofs.EndLemmas.{source_said}
use Rattle.cckd_top.proofs.run.print_source.Goals as goal

pub returns-in-Ok : goal.returns-in-Ok
returns-in-Ok g c =
    source_said g.T.Shows _ c.args.engine.now c.print.new.self c.print.result c.print.ensures.whole c.print.ensures.front c.print.ensures.fails c.print.ensures.stops c.print.ensures.closes

pub returns-in-Err : goal.returns-in-Err
returns-in-Err g c =
    source_said g.T.Shows _ c.args.engine.now c.print.new.self c.print.result c.print.ensures.whole c.print.ensures.front c.print.ensures.fails c.print.ensures.stops c.print.ensures.closes

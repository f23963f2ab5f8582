use Rattle.cckd_top.proofs.EndLemmas.{closed_ends, unscripted_ends, cut_ends}
use Rattle.cckd_top.proofs.run.serve_to_end.Goals as goal

pub returns-in-Closed : goal.returns-in-Closed
returns-in-Closed g c =
    closed_ends g.T.Shows _ _ c.args.engine c.serve_script.new.engine c.into_stage.result c.in-Closed.status c.into_stage.ensures c.in-Closed.ensures

pub returns-in-Unscripted : goal.returns-in-Unscripted
returns-in-Unscripted g c =
    unscripted_ends g.T.Shows _ _ c.args.engine c.serve_script.new.engine c.print_source.new.engine c.into_stage-in-Unscripted.result
    c.into_stage-in-Unscripted.ensures c.in-Unscripted.ensures c.print_source.ensures

pub returns-in-Cut : goal.returns-in-Cut
returns-in-Cut g c =
    cut_ends g.T.Shows _ _ c.args.engine c.serve_script.new.engine c.into_stage-in-Cut.result c.into_stage-in-Cut.ensures c.in-Cut.ensures

use Rattle.cckd_top.proofs.ExplainedLemmas.{disk_served, disk_fails}
use Rattle.cckd_top.proofs.run.run_disk.Goals as goal

pub serve_to_end-requires-clause-fresh : goal.serve_to_end-requires-clause-fresh
serve_to_end-requires-clause-fresh g c = c.in-Ok.ensures.calls

pub serve_to_end-requires-clause-runs : goal.serve_to_end-requires-clause-runs
serve_to_end-requires-clause-runs g c = c.in-Ok.ensures.runs

pub serve_to_end-requires-clause-heard : goal.serve_to_end-requires-clause-heard
serve_to_end-requires-clause-heard g c = c.in-Ok.ensures.heard

pub returns-in-Ok : goal.returns-in-Ok
returns-in-Ok g c =
    disk_served g.T.Shows _ c.args.stage c.serve_to_end.result.0 c.in-Ok.engine c.args.file.now c.args.limit c.serve_to_end.result.1
    c.in-Ok.ensures c.serve_to_end.ensures

pub returns-in-Err : goal.returns-in-Err
returns-in-Err g c =
    disk_fails g.T.Shows c.args.stage c.in-Err.left c.end_halted-code.new.stage c.args.file.now c.args.limit c.in-Err.why c.end_halted-code.result
    c.in-Err.ensures c.end_halted-code.ensures.said c.end_halted-code.ensures.puts

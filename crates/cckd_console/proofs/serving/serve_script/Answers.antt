use Rattle.std.proofs.Common.{subst, sym, ℕ, arith}
use Rattle.cckd_console.specs.declared.stop.Stop.TheVariants as stop
use Rattle.cckd_console.specs.Serving.{ServesScript}
use Rattle.cckd_console.proofs.ScriptSteps.{is_closed, is_cut_at_the_end}
use Rattle.cckd_console.proofs.serving.serve_script.Goals as goal

pub returns-in-Ok-close : goal.returns-in-Ok-close
returns-in-Ok-close g c =
    subst (λ (n : ℕ). ServesScript g.T.Shows g.D.Disk c.args.limit c.args.engine.now c.close.new.engine (stop.Closed n))
    (sym c.worse.ensures)
    (is_closed g.T.Shows g.D.Disk c.args.limit c.args.engine.now c.serve_lines.new.engine c.close.new.engine _ c.in-Ok.ensures _ c.in-Ok-close.ensures)

pub returns-in-Err-close : goal.returns-in-Err-close
returns-in-Err-close g c =
    is_cut_at_the_end g.T.Shows g.D.Disk c.args.limit c.args.engine.now c.serve_lines.new.engine c.close.new.engine _ c.in-Ok.ensures _ c.in-Err-close.ensures

pub close-requires-clause-runs : goal.close-requires-clause-runs
close-requires-clause-runs g c = c.in-Ok.ensures.does.runs c.requires.runs

pub close-requires-clause-numbered : goal.close-requires-clause-numbered
close-requires-clause-numbered g c = omega (arith, c.requires.numbered, c.in-Ok.ensures.few)

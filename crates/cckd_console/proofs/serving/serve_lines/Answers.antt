use Rattle.std.proofs.Common.{rules, refl, subst, sym, ◌∙◌, arith}
use Rattle.cckd_console.specs.Serving.{ServesWhole}
use Rattle.cckd_console.proofs.ScriptSteps.{KeepsServed, keeps_first, goes_on, is_whole, is_cut, is_unscripted, less_left, runs_between}
use Rattle.cckd_console.proofs.serving.serve_lines.Goals as goal

pub loop-found-init : goal.loop-found-init
loop-found-init g c = keeps_first g.T.Shows g.D.Disk c.args.limit c.args.engine.now c.args.rooms.now.script _ refl c.requires.heard

pub returns-in-Err : goal.returns-in-Err
returns-in-Err g c =
    is_unscripted g.T.Shows g.D.Disk c.args.limit c.args.engine.now c.loop-found.engine c.next_line.new.self _ _ _
    c.loop-found.invariant c.in-Err.ensures.broken c.in-Err.ensures.going_on c.in-Err.ensures.rest c.in-Err.ensures.only c.in-Err.ensures.fails.rose c.in-Err.ensures.runs

pub returns-in_default : goal.returns-in_default
returns-in_default g c =
    is_cut g.T.Shows g.D.Disk c.args.limit c.args.engine.now c.loop-found.engine c.next_line.new.self
    _ _ _ c.in-Ok.found.1 _ c.in-Ok.found.0
    c.loop-found.invariant c.in-Ok.ensures.next c.in-Ok.ensures.advances c.in-Ok.ensures.rest c.in-Ok.ensures.only c.in-Ok.ensures.fails.still c.in-Ok.ensures.runs
    c.in-Ok.ensures.place (search rules) c.serve_next.new.engine _ c.in_default.ensures.serves

pub loop-found-preserved : goal.loop-found-preserved
loop-found-preserved g c =
    subst (KeepsServed g.T.Shows g.D.Disk c.args.limit c.args.engine.now c.serve_next.new.engine _ c.in-Ok.found.1)
    (sym c.worse-worst.ensures)
    (goes_on g.T.Shows g.D.Disk c.args.limit c.args.engine.now c.loop-found.engine c.next_line.new.self
    _ _ _ c.in-Ok.found.1 _ c.in-Ok.found.0
    c.loop-found.invariant c.in-Ok.ensures.next c.in-Ok.ensures.advances c.in-Ok.ensures.rest c.in-Ok.ensures.only c.in-Ok.ensures.fails.still c.in-Ok.ensures.runs
    c.serve_next.new.engine _ c.in-Ok-serve_next.ensures.serves
    (sym c.is_last.ensures ∙ c.if-is_last.false) c.in-Ok.ensures.place c.in-Ok.ensures.ended)

pub returns-then-is_last : goal.returns-then-is_last
returns-then-is_last g c =
    subst (ServesWhole g.T.Shows g.D.Disk c.args.limit c.args.engine.now c.serve_next.new.engine)
    (sym c.worse-worst.ensures)
    (is_whole g.T.Shows g.D.Disk c.args.limit c.args.engine.now c.loop-found.engine c.next_line.new.self
    _ _ _ c.in-Ok.found.1 _ c.in-Ok.found.0
    c.loop-found.invariant c.in-Ok.ensures.next c.in-Ok.ensures.advances c.in-Ok.ensures.rest c.in-Ok.ensures.only c.in-Ok.ensures.fails.still c.in-Ok.ensures.runs
    c.serve_next.new.engine _ c.in-Ok-serve_next.ensures.serves
    (sym c.is_last.ensures ∙ c.if-is_last.true))

pub loop-found-smaller : goal.loop-found-smaller
loop-found-smaller g c = less_left _ _ c.in-Ok.found.0 (sym c.is_last.ensures ∙ c.if-is_last.false) c.in-Ok.ensures.advances

pub serve_next-requires-clause-runs : goal.serve_next-requires-clause-runs
serve_next-requires-clause-runs g c =
    runs_between g.T.Shows g.D.Disk c.args.limit c.args.engine.now c.loop-found.engine c.next_line.new.self
    _ _ _ c.in-Ok.found.1 _ c.in-Ok.found.0
    c.loop-found.invariant c.in-Ok.ensures.next c.in-Ok.ensures.advances c.in-Ok.ensures.rest c.in-Ok.ensures.only c.in-Ok.ensures.fails.still c.in-Ok.ensures.runs
    c.requires.runs

pub serve_next-requires-clause-numbered : goal.serve_next-requires-clause-numbered
serve_next-requires-clause-numbered g c = omega (arith, c.requires.numbered, c.loop-found.invariant.few, c.in-Ok.ensures.rest.calls)

pub serve_next-requires-clause-heard : goal.serve_next-requires-clause-heard
serve_next-requires-clause-heard g c = c.in-Ok.ensures.rest.mute ∙ c.loop-found.invariant.heard

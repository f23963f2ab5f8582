use Rattle.std.proofs.Common.{◌≡◌, arith, length, ap, ◌∙◌}
use Rattle.cckd_turn.proofs.CallerLemmas.{dealt_are_ready, all_are_back, written_back}
use Rattle.bench.proofs.race.by_turn.Goals as goal

pub run-requires-clause-ready : goal.run-requires-clause-ready
run-requires-clause-ready g c κs within =
    let slice = c.as_mut_slice.ensures.value in
    dealt_are_ready c.in-Ok.table c.args.threads c.args.calls c.as_mut_slice.result.now (rw slice c.in-Ok.ensures.dealt)

pub close-requires : goal.close-requires
close-requires g c =
    let slice = c.as_mut_slice.ensures.value in
    let same : length c.run.new.passes ≡ length c.in-Ok.passes.items = c.run.auto.passes ∙ ap length slice in
    rw (written_back c.run.new.passes c.in-Ok.passes.items c.in-Ok.passes.len same (omega arith)) (all_are_back c.in-Ok.table c.args.threads c.args.calls c.in-Ok.passes.items c.run.new.passes c.in-Ok.ensures.dealt same (rw (← slice) c.run.ensures))

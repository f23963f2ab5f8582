use Rattle.cckd_memory.specs.Inside.{without}
use Rattle.cckd_memory.proofs.FileLemmas.{mapped_step}
use Rattle.cckd_memory.proofs.files.free_name.Goals as goal

pub loop-place-preserved : goal.loop-place-preserved
loop-place-preserved c = mapped_step (without c.args.name.now) _ _ _ _ _ c.loop-place-test.true c.loop-place.invariant c.lose.ensures

use Rattle.std.proofs.lemmas.Bool.{ltb-true}
use Rattle.cckd_memory.specs.Memory.{seen_of}
use Rattle.cckd_top.proofs.OnlyLemmas.{run_only}
use Rattle.cckd_trials.proofs.runs.run_free.Goals as goal

pub returns-clause-free : goal.returns-clause-free
returns-clause-free c =
    λ low. run_only _ (seen_of c.args.stage) (seen_of c.run_plain-left.result.0) c.run_plain-left.result.1.code c.requires.tells
    (ltb-true c.run_plain-left.result.1.code 2 low) c.run_plain-left.ensures

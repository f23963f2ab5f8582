use Rattle.cckd_turn.specs.Passes.{number_of}
use Rattle.bench.proofs.counter.count.Given as goal

abbrev pub ghosts-finish : goal.ghosts-finish
ghosts-finish g a = record { number = number_of a.pass.now }

use Rattle.cckd_turn.specs.Passes.{number_of}
use Rattle.cckd_turn.proofs.tests.try_during_turn.Given as goal

abbrev pub ghosts-finish : goal.ghosts-finish
ghosts-finish a = record { number = number_of a.pass.now }

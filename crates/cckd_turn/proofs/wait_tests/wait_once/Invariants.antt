use Rattle.cckd_turn.specs.Passes.{number_of}
use Rattle.cckd_turn.proofs.wait_tests.wait_once.Given as goal

abbrev pub ghosts-finish : goal.ghosts-finish
ghosts-finish g a = record { number = number_of a.pass.now }

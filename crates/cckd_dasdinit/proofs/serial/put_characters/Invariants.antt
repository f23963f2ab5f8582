use Rattle.cckd_dasdinit.proofs.SerialLemmas.{PutSoFar}
use Rattle.cckd_dasdinit.proofs.serial.put_characters.Given as goal

abbrev pub invariant-loop-c : goal.invariant-loop-c
invariant-loop-c l = PutSoFar l.word l.c-index l.end l.fn.room l.room

use Rattle.std.proofs.Common.{sym}
use Rattle.cckd_dasdinit.proofs.SerialLemmas.{none_so_far, one_more, one_bad}
use Rattle.cckd_dasdinit.proofs.serial.put_characters.Goals as goal

pub loop-c-init : goal.loop-c-init
loop-c-init c = none_so_far c.args.word.now c.args.room.now

pub returns-in_default-clause-answer : goal.returns-in_default-clause-answer
returns-in_default-clause-answer c = sym (one_bad c.args.word.now c.loop-c.c-index 0 c.loop-c-test.true c.in_default.ensures.none)

pub loop-c-preserved : goal.loop-c-preserved
loop-c-preserved c =
    one_more c.args.word.now c.loop-c.c-index 0 _ _ _ _ _ _ c.loop-c-test.true c.in-Some.ensures.some.0 c.in-Some.ensures.some.1 c.loop-c.invariant
    c.put_bytes-end.ensures

use Rattle.std.proofs.Common.{sym, refl}
use Rattle.cckd_dasdinit.proofs.SerialLemmas.{serial_is}
use Rattle.cckd_dasdinit.proofs.serial.serial_named.Goals as goal

pub returns-then-put_characters : goal.returns-then-put_characters
returns-then-put_characters c =
    serial_is c.args.word.now c.put_characters.new.room c.if-is_empty.ensures c.if-word-gt6.false (sym c.if-put_characters.ensures.answer)
    (c.if-put_characters.ensures.put refl)

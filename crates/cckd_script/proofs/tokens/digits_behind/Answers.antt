use Rattle.std.proofs.Common.{◌<◌, length, arith}
use Rattle.cckd_script.specs.Grammar.{bytes}
use Rattle.cckd_script.proofs.ParseLemmas.{token_passes, token_stops}
use Rattle.cckd_script.proofs.DigitLemmas.{value_of_digits}
use Rattle.cckd_script.proofs.tokens.digits_behind.Goals as goal

pub returns-then-spells_bytes-clause-read : goal.returns-then-spells_bytes-clause-read
returns-then-spells_bytes-clause-read c =
    let inside : c.args.end < length c.args.line.now = omega arith in
    let digits = c.spells_bytes.ensures.yes c.if-spells_bytes.true in
    record {
      read = token_passes c.args.line.now c.args.end c.token_end-end.result _ _ inside c.token_end-end.ensures.begins c.token_end-end.ensures.within c.token_end-end.ensures.cut (value_of_digits _ c.args.least c.args.most c.requires.some digits);
      digits = digits;
    }

pub returns-else-spells_bytes-clause-fault : goal.returns-else-spells_bytes-clause-fault
returns-else-spells_bytes-clause-fault c =
    let inside : c.args.end < length c.args.line.now = omega arith in
    token_stops c.args.line.now c.args.end c.token_end-end.result (bytes c.args.least c.args.most) inside c.token_end-end.ensures.cut (c.spells_bytes.ensures.no c.if-spells_bytes.false)

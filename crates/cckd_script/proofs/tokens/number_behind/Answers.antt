use Rattle.std.proofs.Common.{◌<◌, length, arith}
use Rattle.cckd_script.specs.Grammar.{number}
use Rattle.cckd_script.proofs.ParseLemmas.{token_passes, token_stops}
use Rattle.cckd_script.proofs.tokens.number_behind.Goals as goal

pub returns-in-Some-clause-read : goal.returns-in-Some-clause-read
returns-in-Some-clause-read c =
    let inside : c.args.end < length c.args.line.now = omega arith in
    record {
      read = token_passes c.args.line.now c.args.end c.token_end-end.result _ _ inside c.token_end-end.ensures.begins c.token_end-end.ensures.within c.token_end-end.ensures.cut c.in-Some.ensures.read;
      least_is = c.in-Some.ensures.least_is;
      most_is = c.in-Some.ensures.most_is;
    }

pub returns-in-None-clause-fault : goal.returns-in-None-clause-fault
returns-in-None-clause-fault c =
    let inside : c.args.end < length c.args.line.now = omega arith in
    token_stops c.args.line.now c.args.end c.token_end-end.result (number c.args.least c.args.most) inside c.token_end-end.ensures.cut c.in-None.ensures.none

use Rattle.std.proofs.Common.{arith}
use Rattle.hex.specs.Hex.{IsBytes}
use Rattle.cckd_script.proofs.TextLemmas.{reply_is_line, call_fits}
use Rattle.cckd_script.proofs.ToldLemmas.{told, is_answer}
use Rattle.cckd_script.proofs.print.print_reply.Goals as goal

pub returns-clause-asked : goal.returns-clause-asked
returns-clause-asked c =
    call_fits c.args.call _ _ c.address_of.ensures c.record_of.ensures (omega arith) (omega arith) (omega arith)

pub returns-clause-answer : goal.returns-clause-answer
returns-clause-answer c =
    let values : IsBytes c.args.out.now = λ i. omega (arith, c.type_inv.out i) in
    is_answer c.args.call c.args.input_len c.args.reply.now c.args.out.now c.requires.fits c.put_reply-end.ensures.numbers
    c.requires.answered values

pub returns-clause-one_line : goal.returns-clause-one_line
returns-clause-one_line c =
    let asked = call_fits c.args.call _ _ c.address_of.ensures c.record_of.ensures (omega arith) (omega arith) (omega arith) in
    reply_is_line c.args.call c.args.reply.now _ asked c.put_reply-end.ensures.numbers

pub returns-clause-told : goal.returns-clause-told
returns-clause-told c = λ other bytes fits text.
    let values : IsBytes c.args.out.now = λ i. omega (arith, c.type_inv.out i) in
    let asked = call_fits c.args.call _ _ c.address_of.ensures c.record_of.ensures (omega arith) (omega arith) (omega arith) in
    let answer = is_answer c.args.call c.args.input_len c.args.reply.now c.args.out.now c.requires.fits c.put_reply-end.ensures.numbers c.requires.answered values in
    told c.args.call c.args.input_len other c.args.reply.now bytes _ asked fits answer text

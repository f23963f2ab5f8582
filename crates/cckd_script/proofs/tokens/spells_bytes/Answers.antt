use Rattle.std.proofs.Common.{◌∙◌, sym, arith}
use Rattle.std.proofs.lemmas.Bool.{false≢true}
use Rattle.std.proofs.lemmas.List.Sums.{AllPass-from_list_all, list_all-from_AllPass}
use Rattle.hex.specs.Hex.{is_hex_digit}
use Rattle.cckd_script.proofs.DigitLemmas.{digits_are, even_of, all_of, no_digits}
use Rattle.cckd_script.proofs.tokens.spells_bytes.Goals as goal

pub returns-then-count-most-clause-yes : goal.returns-then-count-most-clause-yes
returns-then-count-most-clause-yes c = λ all.
    digits_are c.args.token.now c.args.least c.args.most c.if-count-most.true.0 c.if-count-most.true.1 c.if-count-most.true.2
    (AllPass-from_list_all is_hex_digit c.args.token.now (sym c.all_digits.ensures ∙ all))

pub returns-then-count-most-clause-no : goal.returns-then-count-most-clause-no
returns-then-count-most-clause-no c = λ none. no_digits c.args.token.now c.args.least c.args.most c.requires (λ are.
    false≢true (sym none ∙ c.all_digits.ensures ∙ list_all-from_AllPass is_hex_digit c.args.token.now (all_of c.args.token.now c.args.least c.args.most are)))

pub returns-else-count-most-clause-no : goal.returns-else-count-most-clause-no
returns-else-count-most-clause-no c = λ none. no_digits c.args.token.now c.args.least c.args.most c.requires (λ are.
    let even = even_of c.args.token.now c.args.least c.args.most are in
    let len = are.len in
    let low = are.least_is in
    let high = are.most_is in
    let either = c.if-count-most.either in
    grind arith)

use Rattle.cckd_base.specs.Put.{IsPut}
use Rattle.std.proofs.Common.{◌≤◌, [], ◌∷◌, length, subst, arith}
use Rattle.cckd_script.specs.Phrase.{phrase, number, marked}
use Rattle.cckd_script.proofs.PhraseLemmas.{counts_more, counts_room, all_by_places}
use Rattle.cckd_script.proofs.text.put_layers.Goals as goal

pub put_phrase-end-requires-in-loop-count : goal.put_phrase-end-requires-in-loop-count
put_phrase-end-requires-in-loop-count c =
    let counts = c.args.counts.now in
    let index : c.loop-count.count-index ≤ length counts = omega (arith, c.loop-count.auto.count-index-end, c.loop-count-test.true) in
    let room = counts_room (marked (length counts) 58) counts c.loop-count.count-index index in
    omega (arith, room, c.loop-count.invariant.short, c.loop-count.auto.line, c.requires.line, c.requires.layers)

pub loop-count-preserved : goal.loop-count-preserved
loop-count-preserved c =
    counts_more _ _ _ _ c.args.counts.now c.loop-count.count-index _ _ _ _ c.loop-count-test.true c.loop-count.invariant
    (subst (λ n. IsPut c.loop-count.end c.put_phrase-end-in-loop-count.result (phrase [] (number n ∷ [])) c.loop-count.line c.put_phrase-end-in-loop-count.new.line) c.from.ensures c.put_phrase-end-in-loop-count.ensures.put)
    (omega (arith, c.put_phrase-end-in-loop-count.ensures.short))

pub returns-clause-short : goal.returns-clause-short
returns-clause-short c =
    let counts = c.args.counts.now in
    let index : c.loop-count.count-index ≤ length counts = omega (arith, c.loop-count.auto.count-index-end) in
    let room = counts_room (marked (length counts) 58) counts c.loop-count.count-index index in
    omega (arith, room, c.loop-count.invariant.short, c.requires.layers)

pub returns-clause-numbers : goal.returns-clause-numbers
returns-clause-numbers c = all_by_places c.args.counts.now (λ i. omega (arith, c.type_inv.counts i))

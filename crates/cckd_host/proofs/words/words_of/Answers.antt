use Rattle.std.proofs.Common.{string_bytes, vec_items, subst}
use Rattle.std.specs.Option.{option_map}
use Rattle.cckd_host.specs.Words.{IsKeptAt}
use Rattle.cckd_host.proofs.WordLemmas.{pushes}
use Rattle.cckd_host.proofs.words.words_of.Goals as goal

pub loop-number-preserved : goal.loop-number-preserved
loop-number-preserved g c = λ told.
    let given = g.W.WordSource.words c.args.source.now in
    let kept = subst (λ found. IsKeptAt given c.loop-number.number (option_map string_bytes found)) c.in-Some.is (c.in_ok-word.ensures told) in
    pushes given c.loop-number.number (vec_items c.loop-number.words) (vec_items c.push.new.self) c.in-Some.word
    (c.loop-number.invariant told) kept c.in_ok-push-in-Some.ensures.items

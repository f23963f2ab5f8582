use Rattle.std.proofs.Common.{◌≡◌, drop}
use Rattle.cckd_tables.specs.Settling.{with_words}
use Rattle.cckd_tables.proofs.settling.settle_words.Given as goal

abbrev pub invariant-loop-word : goal.invariant-loop-word
invariant-loop-word l = with_words (drop l.word-index l.moved) l.words ≡ with_words l.moved l.fn.words

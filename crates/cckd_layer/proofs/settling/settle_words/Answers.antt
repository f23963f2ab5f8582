use Rattle.std.proofs.Common.{◌∙◌}
use Rattle.cckd_layer.proofs.ActLemmas.{words_next}
use Rattle.cckd_layer.proofs.SpaceLemmas.{blank_word}
use Rattle.cckd_layer.proofs.settling.settle_words.Goals as goal

pub loop-s-preserved : goal.loop-s-preserved
loop-s-preserved c = record {
  becomes = words_next c.args.space.now c.loop-s.space c.settle_space.new.space c.args.words.now c.loop-s.s-index blank_word c.loop-s-test.true c.loop-s.invariant.becomes c.settle_space.ensures.becomes;
  spent = c.settle_space.ensures.spent ∙ c.loop-s.invariant.spent;
}

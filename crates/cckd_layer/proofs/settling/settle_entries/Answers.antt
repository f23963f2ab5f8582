use Rattle.std.proofs.Common.{◌∙◌}
use Rattle.cckd_layer.proofs.ActLemmas.{entries_next}
use Rattle.cckd_layer.proofs.SpaceLemmas.{blank_entry}
use Rattle.cckd_layer.proofs.settling.settle_entries.Goals as goal

pub loop-s-preserved : goal.loop-s-preserved
loop-s-preserved c = record {
  becomes = entries_next c.args.space.now c.loop-s.space c.settle_entry.new.space c.args.entries.now c.loop-s.s-index blank_entry c.loop-s-test.true c.loop-s.invariant.becomes c.settle_entry.ensures.becomes;
  spent = c.settle_entry.ensures.spent ∙ c.loop-s.invariant.spent;
}

use Rattle.cckd_layer.proofs.ActLemmas.{staged_settled}
use Rattle.cckd_layer.proofs.settling.settle_staged.Goals as goal

pub returns-clause-becomes : goal.returns-clause-becomes
returns-clause-becomes c =
    staged_settled c.args.space.now c.settle_entries.new.space c.settle_words.new.space c.retire_all.new.self c.args.entries.now c.args.words.now
    c.settle_entries.ensures.becomes c.settle_words.ensures.becomes c.retire_all.ensures.becomes

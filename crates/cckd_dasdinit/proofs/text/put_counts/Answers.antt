use Rattle.cckd_dasdinit.proofs.TextLemmas.{counts_put}
use Rattle.cckd_dasdinit.proofs.text.put_counts.Goals as goal

pub returns-clause-put : goal.returns-clause-put
returns-clause-put c =
    counts_put c.from.result c.from-2.result c.from-3.result c.from-4.result c.args.geo.now.cyls c.args.geo.now.heads c.args.groups c.args.len c.args.at c.put_phrase.result
    c.args.line.now c.put_phrase.new.line c.from.ensures c.from-2.ensures c.from-3.ensures c.from-4.ensures c.put_phrase.ensures.put

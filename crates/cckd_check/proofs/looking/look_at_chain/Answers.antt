use Rattle.cckd_shelf.specs.Seen.{seen}
use Rattle.cckd_check.proofs.LookLemmas.{memory_looks}
use Rattle.cckd_check.proofs.looking.look_at_chain.Goals as goal

pub returns-in-Ok-clause-looks : goal.returns-in-Ok-clause-looks
returns-in-Ok-clause-looks g c =
    memory_looks c.note_chain.result (seen g.T.Shows c.args.stage.now) (seen g.T.Shows c.check_chain.new.stage) c.note_chain.ensures.cause c.in-Ok.ensures.looks.kept c.in-Ok.ensures.looks.counts

use Rattle.std.proofs.Common.{ℕ, List, subst}
use Rattle.cckd_shelf.specs.Seen.{seen}
use Rattle.cckd_console.specs.Saying.{IsSaid, plain_text}
use Rattle.cckd_dasdinit.proofs.run.end_wrong.Goals as goal

pub returns-clause-said : goal.returns-clause-said
returns-clause-said g c =
    subst (λ (text : List ℕ). IsSaid (plain_text text 2) (seen g.T.Shows c.args.stage.now) (seen g.T.Shows c.end_with.new.stage) c.end_with.result)
    c.put_wrong-end.ensures.put.front c.end_with.ensures.said

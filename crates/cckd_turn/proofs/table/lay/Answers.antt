use Rattle.std.proofs.Common.{ap, ◌∙◌, ◌∷◌, [], ◌++◌, Some}
use Rattle.cckd_turn.proofs.DealLemmas.{opens}
use Rattle.cckd_turn.proofs.table.lay.Goals as goal

pub new-requires : goal.new-requires
new-requires g c =
    let items = c.push_reserved.ensures.items ∙ ap (λ xs. xs ++ Some c.args.value ∷ []) c.in-Ok.ensures.items in
    rw items (opens g.V.Stands.stands g.V.Stands.by c.args.terms.now c.args.value c.requires.empty c.requires.callers c.requires.calls)

use Rattle.std.proofs.Common.{[], ◌∷◌, ◌++◌, ap, ◌∙◌}
use Rattle.cckd_turn.proofs.CallerLemmas.{all_of_two}
use Rattle.cckd_turn.proofs.tests.closed.Goals as goal

pub close-requires : goal.close-requires
close-requires c =
    let first = c.push_reserved.ensures.items ∙ ap (λ xs. xs ++ c.args.first ∷ []) c.in_ok-passes.ensures.items in
    let both = c.push_reserved-2.ensures.items ∙ ap (λ xs. xs ++ c.args.second ∷ []) first in
    all_of_two c.args.table c.args.first c.args.second _ c.requires.passes c.requires.first c.requires.second both

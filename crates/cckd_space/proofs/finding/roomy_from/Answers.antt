use Rattle.std.proofs.Common.{sym, ◌∙◌}
use Rattle.cckd_space.specs.Pieces.{is_roomy_from}
use Rattle.cckd_space.proofs.FirstLemmas.{first_at, is_first, none_passes}
use Rattle.cckd_space.proofs.finding.roomy_from.Goals as goal

pub returns-in_default : goal.returns-in_default
returns-in_default c = sym (none_passes (is_roomy_from c.args.from) c.args.pieces.now (sym c.roomy_index.ensures ∙ c.in_default.is))

pub returns : goal.returns
returns c =
    let test = is_roomy_from c.args.from in
    let xs = c.args.pieces.now in
    sym (first_at test xs c.in-Some.at _ (is_first test xs c.in-Some.at _ (sym c.roomy_index.ensures ∙ c.in-Some.is)))

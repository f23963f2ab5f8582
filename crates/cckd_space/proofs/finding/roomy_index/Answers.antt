use Rattle.std.proofs.Common.{◌-◌, length, sym, ◌∙◌}
use Rattle.cckd_space.specs.Pieces.{is_roomy_from}
use Rattle.cckd_space.proofs.SearchLemmas.{part_some, part_none, where_from}
use Rattle.cckd_space.proofs.finding.roomy_index.Goals as goal

pub returns : goal.returns
returns c =
    let xs = c.args.pieces.now in
    sym (part_some (is_roomy_from c.args.from) xs c.start_index-start.result (length xs - c.start_index-start.result) c.in-Some.at
    (where_from c.args.from xs c.start_index-start.result c.start_index-start.ensures)
    (sym c.first_roomy.ensures ∙ c.in-Some.is))

pub returns-in_default : goal.returns-in_default
returns-in_default c =
    let xs = c.args.pieces.now in
    sym (part_none (is_roomy_from c.args.from) xs c.start_index-start.result (length xs - c.start_index-start.result)
    (where_from c.args.from xs c.start_index-start.result c.start_index-start.ensures)
    (sym c.first_roomy.ensures ∙ c.in_default.is))

use Rattle.std.proofs.Common.{◌≤◌, length, ◌∙◌, sym, arith}
use Rattle.std.proofs.lemmas.Bool.{eqb-false, eqb-true}
use Rattle.cckd_tables.proofs.RunLemmas.{end_at_last, end_of_none}
use Rattle.cckd_tables.proofs.kept.end_of.Goals as goal

pub returns : goal.returns
returns c =
    let some = eqb-false (length c.args.run.now) 0 (sym c.is_empty.ensures ∙ c.if-is_empty.false) in
    let least : 1 ≤ length c.args.run.now = omega arith in
    c.end.ensures ∙ sym (end_at_last c.args.run.now _ least)

pub returns-then-is_empty : goal.returns-then-is_empty
returns-then-is_empty c = sym (end_of_none c.args.run.now (eqb-true (length c.args.run.now) 0 (sym c.is_empty.ensures ∙ c.if-is_empty.true)))

use Rattle.std.proofs.Common.{◌+◌, ◌<◌, sym, arith}
use Rattle.cckd_shelf.specs.World.{file_of}
use Rattle.cckd_check.proofs.LinkLemmas.{no_form}
use Rattle.cckd_check.proofs.chaining.is_foreign.Goals as goal

pub returns-then-not-has_link-clause-foreign : goal.returns-then-not-has_link-clause-foreign
returns-then-not-has_link-clause-foreign g c = λ told sure.
    let file = file_of (g.T.Shows.world c.args.stage.now) c.args.slot in
    let long = c.requires told sure in
    let short : c.args.len < c.args.at + 8 = grind (arith, c.if-not-has_link.ensures) in
    sym (no_form file c.args.at (omega (arith, long, short)))

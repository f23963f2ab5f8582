use Rattle.std.proofs.Common.{sym, ap, arith}
use Rattle.cckd_space.specs.Pieces.{largest}
use Rattle.cckd_space.proofs.NumberLemmas.{no_roomy}
use Rattle.cckd_space.proofs.block.Block.roomy_from.Goals as goal

pub returns-then-self-eq0 : goal.returns-then-self-eq0
returns-then-self-eq0 c =
    let same = ap largest c.self.view_is in
    sym (no_roomy c.args.from c.args.self.now (omega (arith, same, c.self.invariant.offers, c.if-self-eq0.true)))

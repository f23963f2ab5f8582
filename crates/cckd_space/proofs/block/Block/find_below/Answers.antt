use Rattle.std.proofs.Common.{sym, ap, arith}
use Rattle.cckd_space.specs.Pieces.{has_room_below, largest}
use Rattle.cckd_space.proofs.NumberLemmas.{small_none}
use Rattle.cckd_space.proofs.LaidLemmas.{below_room}
use Rattle.cckd_space.proofs.block.Block.find_below.Goals as goal

pub returns-then-self-need : goal.returns-then-self-need
returns-then-self-need c =
    let same = ap largest c.self.view_is in
    sym (small_none (has_room_below c.args.need c.args.before) c.args.need (below_room c.args.need c.args.before) c.args.self.now (omega (arith, same, c.self.invariant.offers, c.if-self-need.true)))

use Rattle.std.proofs.Common.{arith}
use Rattle.cckd_space.proofs.OrderLemmas.{stands_in}
use Rattle.cckd_space.proofs.order.block_index.Goals as goal

pub returns : goal.returns
returns c =
    stands_in c.args.pos c.args.blocks.now c.begun_blocks.result c.saturating_sub.result c.requires.filled c.requires.order c.requires.some c.begun_blocks.ensures.within (omega arith) c.begun_blocks.ensures.before c.begun_blocks.ensures.behind

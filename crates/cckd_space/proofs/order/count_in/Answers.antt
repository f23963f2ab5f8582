use Rattle.std.proofs.Common.{◌+◌, length, drop, [], ap, arith}
use Rattle.std.proofs.lemmas.List.{get_or_read, length-append}
use Rattle.cckd_space.specs.Blocks.{whole}
use Rattle.cckd_space.proofs.OrderLemmas.{rest_more, rest_none}
use Rattle.cckd_space.proofs.order.count_in.Goals as goal

pub overflow_add-count : goal.overflow_add-count
overflow_add-count c =
    let bs = c.args.blocks.now in
    let at = c.loop-block.block-index in
    let here = get_or_read bs at c.block-item.result (omega (arith, c.loop-block-test.true)) c.block-item.is [] in
    let more = rest_more bs at c.block-item.result (omega (arith, c.loop-block-test.true)) here in
    let rest = whole (drop (at + 1) bs) in
    let a = length-append c.block-item.result rest in
    omega (arith, c.loop-block.invariant, ap length more, a, c.count-count.ensures.count, c.requires)

pub loop-block-preserved : goal.loop-block-preserved
loop-block-preserved c =
    let bs = c.args.blocks.now in
    let at = c.loop-block.block-index in
    let here = get_or_read bs at c.block-item.result (omega (arith, c.loop-block-test.true)) c.block-item.is [] in
    let more = rest_more bs at c.block-item.result (omega (arith, c.loop-block-test.true)) here in
    let rest = whole (drop (at + 1) bs) in
    let a = length-append c.block-item.result rest in
    omega (arith, c.loop-block.invariant, ap length more, a, c.count-count.ensures.count)

pub returns : goal.returns
returns c = let n = ap length (rest_none c.args.blocks.now c.loop-block.block-index (omega arith)) in omega (arith, c.loop-block.invariant, n)

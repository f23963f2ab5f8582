use Rattle.std.proofs.Common.{◌+◌, drop, [], ap, arith}
use Rattle.std.proofs.lemmas.List.{get_or_read}
use Rattle.cckd_space.specs.Pieces.{counted, greatest, is_roomy, roomy_len, summed, used_len}
use Rattle.cckd_space.specs.Blocks.{whole}
use Rattle.cckd_space.proofs.NumberLemmas.{greatest_append, summed_append}
use Rattle.cckd_space.proofs.BlockLemmas.{counted_append}
use Rattle.cckd_space.proofs.OrderLemmas.{rest_more, rest_none}
use Rattle.cckd_space.proofs.order.add_up_in.Goals as goal

pub add_up-more-requires-clause-used : goal.add_up-more-requires-clause-used
add_up-more-requires-clause-used c =
    let bs = c.args.blocks.now in
    let at = c.loop-block.block-index in
    let here = get_or_read bs at c.block-item.result (omega (arith, c.loop-block-test.true)) c.block-item.is [] in
    let more = rest_more bs at c.block-item.result (omega (arith, c.loop-block-test.true)) here in
    let rest = whole (drop (at + 1) bs) in
    let a = summed_append used_len c.block-item.result rest in
    omega (arith, c.loop-block.invariant.used, ap (summed used_len) more, a, c.requires.used)

pub add_up-more-requires-clause-total : goal.add_up-more-requires-clause-total
add_up-more-requires-clause-total c =
    let bs = c.args.blocks.now in
    let at = c.loop-block.block-index in
    let here = get_or_read bs at c.block-item.result (omega (arith, c.loop-block-test.true)) c.block-item.is [] in
    let more = rest_more bs at c.block-item.result (omega (arith, c.loop-block-test.true)) here in
    let rest = whole (drop (at + 1) bs) in
    let a = summed_append roomy_len c.block-item.result rest in
    omega (arith, c.loop-block.invariant.total, ap (summed roomy_len) more, a, c.requires.total)

pub add_up-more-requires-clause-number : goal.add_up-more-requires-clause-number
add_up-more-requires-clause-number c =
    let bs = c.args.blocks.now in
    let at = c.loop-block.block-index in
    let here = get_or_read bs at c.block-item.result (omega (arith, c.loop-block-test.true)) c.block-item.is [] in
    let more = rest_more bs at c.block-item.result (omega (arith, c.loop-block-test.true)) here in
    let rest = whole (drop (at + 1) bs) in
    let a = counted_append is_roomy c.block-item.result rest in
    omega (arith, c.loop-block.invariant.number, ap (counted is_roomy) more, a, c.requires.number)

pub overflow_add-sums : goal.overflow_add-sums
overflow_add-sums c =
    let bs = c.args.blocks.now in
    let at = c.loop-block.block-index in
    let here = get_or_read bs at c.block-item.result (omega (arith, c.loop-block-test.true)) c.block-item.is [] in
    let more = rest_more bs at c.block-item.result (omega (arith, c.loop-block-test.true)) here in
    let rest = whole (drop (at + 1) bs) in
    let a = summed_append used_len c.block-item.result rest in
    omega (arith, c.loop-block.invariant.used, ap (summed used_len) more, a, c.requires.used, c.add_up-more.ensures.used)

pub overflow_add-sums-in-loop-block : goal.overflow_add-sums-in-loop-block
overflow_add-sums-in-loop-block c =
    let bs = c.args.blocks.now in
    let at = c.loop-block.block-index in
    let here = get_or_read bs at c.block-item.result (omega (arith, c.loop-block-test.true)) c.block-item.is [] in
    let more = rest_more bs at c.block-item.result (omega (arith, c.loop-block-test.true)) here in
    let rest = whole (drop (at + 1) bs) in
    let a = summed_append roomy_len c.block-item.result rest in
    omega (arith, c.loop-block.invariant.total, ap (summed roomy_len) more, a, c.requires.total, c.add_up-more.ensures.total)

pub overflow_add-sums-in-loop-block-2 : goal.overflow_add-sums-in-loop-block-2
overflow_add-sums-in-loop-block-2 c =
    let bs = c.args.blocks.now in
    let at = c.loop-block.block-index in
    let here = get_or_read bs at c.block-item.result (omega (arith, c.loop-block-test.true)) c.block-item.is [] in
    let more = rest_more bs at c.block-item.result (omega (arith, c.loop-block-test.true)) here in
    let rest = whole (drop (at + 1) bs) in
    let a = counted_append is_roomy c.block-item.result rest in
    omega (arith, c.loop-block.invariant.number, ap (counted is_roomy) more, a, c.requires.number, c.add_up-more.ensures.number)

pub loop-block-preserved : goal.loop-block-preserved
loop-block-preserved c =
    let bs = c.args.blocks.now in
    let at = c.loop-block.block-index in
    let here = get_or_read bs at c.block-item.result (omega (arith, c.loop-block-test.true)) c.block-item.is [] in
    let more = rest_more bs at c.block-item.result (omega (arith, c.loop-block-test.true)) here in
    let rest = whole (drop (at + 1) bs) in
    record {
      used = omega (arith, c.loop-block.invariant.used, ap (summed used_len) more, summed_append used_len c.block-item.result rest, c.add_up-more.ensures.used);
      total = omega (arith, c.loop-block.invariant.total, ap (summed roomy_len) more, summed_append roomy_len c.block-item.result rest, c.add_up-more.ensures.total);
      largest = omega (arith, c.loop-block.invariant.largest, ap (greatest roomy_len) more, greatest_append roomy_len c.block-item.result rest, c.add_up-more.ensures.largest, c.max.ensures);
      number = omega (arith, c.loop-block.invariant.number, ap (counted is_roomy) more, counted_append is_roomy c.block-item.result rest, c.add_up-more.ensures.number);
    }

pub returns-clause-used : goal.returns-clause-used
returns-clause-used c = let n = ap (summed used_len) (rest_none c.args.blocks.now c.loop-block.block-index (omega arith)) in omega (arith, c.loop-block.invariant.used, n)

pub returns-clause-total : goal.returns-clause-total
returns-clause-total c = let n = ap (summed roomy_len) (rest_none c.args.blocks.now c.loop-block.block-index (omega arith)) in omega (arith, c.loop-block.invariant.total, n)

pub returns-clause-largest : goal.returns-clause-largest
returns-clause-largest c = let n = ap (greatest roomy_len) (rest_none c.args.blocks.now c.loop-block.block-index (omega arith)) in omega (arith, c.loop-block.invariant.largest, n)

pub returns-clause-number : goal.returns-clause-number
returns-clause-number c = let n = ap (counted is_roomy) (rest_none c.args.blocks.now c.loop-block.block-index (omega arith)) in omega (arith, c.loop-block.invariant.number, n)

use Rattle.std.proofs.Common.{◌<◌, ◌-◌, [], length, sym, ◌∙◌, ap, subst, arith}
use Rattle.cckd_space.specs.Pieces.{begins_by, last}
use Rattle.cckd_space.specs.Inside.{IsInOrder}
use Rattle.cckd_space.specs.Blocks.{block_at}
use Rattle.std.proofs.lemmas.List.{get_or_read}
use Rattle.cckd_space.proofs.OrderLemmas.{last_stands, none_stands, order_block, order_by_index}
use Rattle.cckd_space.proofs.order.last_in.Goals as goal

pub returns-then-count-eq0 : goal.returns-then-count-eq0
returns-then-count-eq0 c = sym (none_stands c.args.pos c.args.blocks.now c.requires.filled c.requires.order (λ k l. c.begun_blocks-count.ensures.behind k (omega (arith, c.if-count-eq0.true)) l))

pub last_by-requires : goal.last_by-requires
last_by-requires c =
    let bs = c.args.blocks.now in
    let at = c.begun_blocks-count.result - 1 in
    let within : at < length bs = omega (arith, c.begun_blocks-count.ensures.within) in
    let same = get_or_read bs at c.index-blocks-count.result within c.index-blocks-count.is [] in
    subst IsInOrder (sym same) (order_by_index (block_at bs at) (order_block bs at within c.requires.order))

pub returns : goal.returns
returns c =
    let bs = c.args.blocks.now in
    let at = c.begun_blocks-count.result - 1 in
    let within : at < length bs = omega (arith, c.begun_blocks-count.ensures.within) in
    let same = get_or_read bs at c.index-blocks-count.result within c.index-blocks-count.is [] in
    c.last_by.ensures ∙ (ap (last (begins_by c.args.pos)) same
    ∙ sym (last_stands c.args.pos bs c.begun_blocks-count.result c.requires.filled c.requires.order c.begun_blocks-count.ensures.within (omega arith) c.begun_blocks-count.ensures.before c.begun_blocks-count.ensures.behind))

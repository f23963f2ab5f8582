use Rattle.std.proofs.Common.{[], sym, ◌∙◌, ap, subst, arith}
use Rattle.cckd_space.specs.Pieces.{first, is_used_at}
use Rattle.cckd_space.specs.Inside.{IsInOrder}
use Rattle.cckd_space.specs.Blocks.{block_at}
use Rattle.std.proofs.lemmas.List.{get_or_read}
use Rattle.cckd_space.proofs.SearchLemmas.{used_there}
use Rattle.cckd_space.proofs.OrderLemmas.{first_stands, nothing_found, order_block, order_by_index}
use Rattle.cckd_space.proofs.order.used_in.Goals as goal

pub returns-then-blocks-eq0 : goal.returns-then-blocks-eq0
returns-then-blocks-eq0 c = sym (nothing_found (is_used_at c.args.pos) c.args.blocks.now (omega arith))

pub used_at-requires : goal.used_at-requires
used_at-requires c =
    let bs = c.args.blocks.now in
    let at = c.block_index-at.result in
    let same = get_or_read bs at c.index-blocks-at.result c.block_index-at.ensures.within c.index-blocks-at.is [] in
    subst IsInOrder (sym same) (order_by_index (block_at bs at) (order_block bs at c.block_index-at.ensures.within c.requires.order))

pub returns : goal.returns
returns c =
    let bs = c.args.blocks.now in
    let at = c.block_index-at.result in
    let same = get_or_read bs at c.index-blocks-at.result c.block_index-at.ensures.within c.index-blocks-at.is [] in
    c.used_at.ensures ∙ (ap (first (is_used_at c.args.pos)) same ∙ sym (first_stands (is_used_at c.args.pos) c.args.pos (used_there c.args.pos) bs at c.block_index-at.ensures))

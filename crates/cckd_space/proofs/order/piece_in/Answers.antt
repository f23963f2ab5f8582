use Rattle.std.proofs.Common.{◌≡◌, ◌+◌, ◌-◌, ◌≤◌, List, [], length, drop, sym, ◌∙◌, ap, arith}
use Rattle.std.specs.Prelude.{slice_get}
use Rattle.std.proofs.lemmas.List.{get_or_read, length-append}
use Rattle.cckd_space.specs.declared.piece.Piece.{Piece}
use Rattle.cckd_space.specs.Blocks.{whole}
use Rattle.cckd_space.proofs.OrderLemmas.{get_left, get_right, rest_more, rest_none}
use Rattle.cckd_space.proofs.order.piece_in.Goals as goal

pub returns-then-left-count : goal.returns-then-left-count
returns-then-left-count c =
    let bs = c.args.blocks.now in
    let at = c.loop-block.block-index in
    let left = c.loop-block.left in
    let b = c.block-item.result in
    let here = get_or_read bs at b (omega (arith, c.loop-block-test.true)) c.block-item.is [] in
    let more = rest_more bs at b (omega (arith, c.loop-block-test.true)) here in
    let same = c.pieces-pieces.ensures in
    c.loop-block.invariant.same
    ∙ (ap (λ (l : List Piece). slice_get l left) more
    ∙ (get_left b (whole (drop (at + 1) bs)) left (omega (arith, ap length same, c.if-left-count.true)) ∙ (ap (λ (l : List Piece). slice_get l left) (sym same) ∙ c.piece_at.ensures)))

pub loop-block-preserved : goal.loop-block-preserved
loop-block-preserved c =
    let bs = c.args.blocks.now in
    let at = c.loop-block.block-index in
    let left = c.loop-block.left in
    let b = c.block-item.result in
    let rest = whole (drop (at + 1) bs) in
    let here = get_or_read bs at b (omega (arith, c.loop-block-test.true)) c.block-item.is [] in
    let more = rest_more bs at b (omega (arith, c.loop-block-test.true)) here in
    let long = ap length c.pieces-pieces.ensures in
    let few : length b ≤ left = omega (arith, long, c.if-left-count.false) in
    let n = length-append b rest in
    record {
      within = omega (arith, c.loop-block.invariant.within, ap length more, n, few, long);
      same = c.loop-block.invariant.same ∙ (ap (λ (l : List Piece). slice_get l left) more ∙ (get_right b rest left few ∙ ap (slice_get rest) (let e : left - length b ≡ left - length c.pieces-pieces.result.now = omega (arith, long) in e)));
    }

pub unreachable-requires : goal.unreachable-requires
unreachable-requires c = let n = ap length (rest_none c.args.blocks.now c.loop-block.block-index (omega arith)) in omega (arith, n, c.loop-block.invariant.within)

use Rattle.std.proofs.Common.{◌≡◌, ◌+◌, ◌<◌, false, Option, Some, None, IsSome, length, drop, [], sym, ◌∙◌, ap, subst, refl, arith}
use Rattle.std.specs.Option.{is_some}
use Rattle.std.proofs.lemmas.List.{get_or_read}
use Rattle.cckd_space.specs.declared.piece.Piece.{Piece}
use Rattle.cckd_space.specs.Pieces.{first, is_roomy_from}
use Rattle.cckd_space.specs.Inside.{IsInOrder}
use Rattle.cckd_space.specs.Blocks.{block_at, whole}
use Rattle.cckd_space.proofs.BlockLemmas.{first_before, first_behind, some_is}
use Rattle.cckd_space.proofs.OrderLemmas.{order_block, order_by_index, rest_more, rest_none}
use Rattle.cckd_space.proofs.order.first_roomy.Goals as goal

pub roomy_from-found-requires : goal.roomy_from-found-requires
roomy_from-found-requires c =
    let bs = c.args.blocks.now in
    let at = c.loop-block.block-index in
    let within : at < length bs = omega (arith, c.loop-block-test.true) in
    let here = get_or_read bs at c.block-item.result within c.block-item.is [] in
    subst IsInOrder (sym here) (order_by_index (block_at bs at) (order_block bs at within c.requires.order))

pub returns-then-is_some : goal.returns-then-is_some
returns-then-is_some c =
    let bs = c.args.blocks.now in
    let at = c.loop-block.block-index in
    let here = get_or_read bs at c.block-item.result (omega (arith, c.loop-block-test.true)) c.block-item.is [] in
    let more = rest_more bs at c.block-item.result (omega (arith, c.loop-block-test.true)) here in
    let rest = whole (drop (at + 1) bs) in
    let test = is_roomy_from c.args.from in
    let there : IsSome (first test c.block-item.result) = subst (λ (o : Option Piece). IsSome o) c.roomy_from-found.ensures (some_is c.roomy_from-found.result (sym c.is_some.ensures ∙ c.if-is_some.true)) in
    c.roomy_from-found.ensures ∙ (sym (ap (first test) more ∙ first_before test c.block-item.result rest there) ∙ c.loop-block.invariant)

pub loop-block-preserved : goal.loop-block-preserved
loop-block-preserved c =
    let bs = c.args.blocks.now in
    let at = c.loop-block.block-index in
    let here = get_or_read bs at c.block-item.result (omega (arith, c.loop-block-test.true)) c.block-item.is [] in
    let more = rest_more bs at c.block-item.result (omega (arith, c.loop-block-test.true)) here in
    let rest = whole (drop (at + 1) bs) in
    let test = is_roomy_from c.args.from in
    let none : first test c.block-item.result ≡ None = none_of (first test c.block-item.result) (ap is_some (sym c.roomy_from-found.ensures) ∙ (sym c.is_some.ensures ∙ c.if-is_some.false)) in
    sym (ap (first test) more ∙ first_behind test c.block-item.result rest none) ∙ c.loop-block.invariant
  where
    none_of : (o : Option Piece) → is_some o ≡ false → o ≡ None
    none_of None e = refl
    none_of (Some p) e = absurd cc

pub returns : goal.returns
returns c = sym (ap (first (is_roomy_from c.args.from)) (rest_none c.args.blocks.now c.loop-block.block-index (omega arith))) ∙ c.loop-block.invariant

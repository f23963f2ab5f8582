use Rattle.std.proofs.Common.{◌≡◌, ◌-◌, ℕ, length, take, drop, List, sym, ◌∙◌, ap, subst, arith}
use Rattle.std.proofs.lemmas.List.{length-drop, take_all}
use Rattle.cckd_space.specs.declared.piece.Piece.{Piece}
use Rattle.cckd_space.specs.Pieces.{first, is_roomy_from}
use Rattle.cckd_space.specs.Blocks.{AreInOrder, whole}
use Rattle.cckd_space.proofs.OrderLemmas.{nothing_found, order_rest, roomy_rest, split_whole}
use Rattle.cckd_space.proofs.order.roomy_in.Goals as goal

rest_is : (bs : List (List Piece)) (at : ℕ) → take (length bs - at) (drop at bs) ≡ drop at bs
rest_is bs at = take_all (length bs - at) (drop at bs) (let d = length-drop at bs in omega (arith, d))

pub returns-then-blocks-eq0 : goal.returns-then-blocks-eq0
returns-then-blocks-eq0 c = sym (nothing_found (is_roomy_from c.args.from) c.args.blocks.now (omega arith))

pub first_roomy-requires : goal.first_roomy-requires
first_roomy-requires c =
    let bs = c.args.blocks.now in
    let at = c.block_index-start.result in
    record {
      order = subst (λ (l : List (List Piece)). AreInOrder (whole l)) (sym (rest_is bs at)) (order_rest (whole (take at bs)) (whole (drop at bs)) (subst AreInOrder (split_whole bs at) c.requires.order));
    }

pub returns : goal.returns
returns c =
    let bs = c.args.blocks.now in
    let at = c.block_index-start.result in
    c.first_roomy.ensures ∙ (ap (λ (l : List (List Piece)). first (is_roomy_from c.args.from) (whole l)) (rest_is bs at) ∙ roomy_rest c.args.from bs at c.block_index-start.ensures)

use Rattle.std.proofs.Common.{◌≡◌, [], None, List, sym, ◌∙◌, ap, subst, arith}
use Rattle.std.specs.Option.{is_some}
use Rattle.std.proofs.lemmas.List.{get_or_read, take_all}
use Rattle.cckd_space.specs.declared.piece.Piece.{Piece}
use Rattle.cckd_space.specs.Pieces.{first, has_room}
use Rattle.cckd_space.specs.Blocks.{whole, block_at}
use Rattle.cckd_space.proofs.BlockLemmas.{none_more, some_is}
use Rattle.cckd_space.proofs.order.block_with_room.Goals as goal

pub returns-then-has_room-clause-found : goal.returns-then-has_room-clause-found
returns-then-has_room-clause-found c =
    let same = get_or_read c.args.blocks.now c.loop-at.at c.index-blocks-at.result c.loop-at-test.true c.index-blocks-at.is [] in
    record {
      within = c.loop-at-test.true;
      before = c.loop-at.invariant;
      here = some_is (first (has_room c.args.need) (block_at c.args.blocks.now c.loop-at.at)) (ap (λ (b : List Piece). is_some (first (has_room c.args.need) b)) (sym same) ∙ (sym c.has_room.ensures ∙ c.if-has_room.true));
    }

pub loop-at-preserved : goal.loop-at-preserved
loop-at-preserved c =
    let same = get_or_read c.args.blocks.now c.loop-at.at c.index-blocks-at.result c.loop-at-test.true c.index-blocks-at.is [] in
    none_more (has_room c.args.need) c.args.blocks.now c.loop-at.at c.loop-at-test.true c.loop-at.invariant (ap (λ (b : List Piece). is_some (first (has_room c.args.need) b)) (sym same) ∙ (sym c.has_room.ensures ∙ c.if-has_room.false))

pub returns-clause-none : goal.returns-clause-none
returns-clause-none c = subst (λ (bs : List (List Piece)). first (has_room c.args.need) (whole bs) ≡ None) (take_all c.loop-at.at c.args.blocks.now (omega arith)) c.loop-at.invariant

use Rattle.std.proofs.Common.{◌+◌, [], ℕ, suc, List, take, sym, ◌∙◌, ap, subst, arith, add-one}
use Rattle.std.proofs.lemmas.List.{get_or_read}
use Rattle.cckd_space.specs.declared.piece.Piece.{Piece}
use Rattle.cckd_space.specs.Pieces.{largest}
use Rattle.cckd_space.specs.Blocks.{AreFitBut, block_at, whole}
use Rattle.cckd_space.proofs.BlockLemmas.{closed_is}
use Rattle.cckd_space.proofs.KnitLemmas.{fit_closed, join_offers}
use Rattle.cckd_space.proofs.BackLemmas.{joined_closed, joined_front, joined_none, joined_open}
use Rattle.cckd_space.proofs.border.join_border.Goals as goal

pub returns-then-len-at-clause-items : goal.returns-then-len-at-clause-items
returns-then-len-at-clause-items c = joined_none c.args.blocks.now.items c.args.at (omega (arith, c.requires.within)) (omega arith)

pub returns-then-not-close_border-clause-items : goal.returns-then-not-close_border-clause-items
returns-then-not-close_border-clause-items c =
    let bs = c.args.blocks.now.items in
    ap whole (c.close_border.ensures.kept c.if-not-close_border.true) ∙ joined_open bs c.args.at (omega (arith, c.requires.within)) c.requires.filled (c.close_border.ensures.closed c.if-not-close_border.true)

pub returns-clause-items : goal.returns-clause-items
returns-clause-items c =
    let bs = c.args.blocks.now.items in
    let both = c.close_border.ensures.both c.if-not-close_border.false in
    let now = c.close_border.ensures.items c.if-not-close_border.false ∙ closed_is bs c.args.at in
    c.drop_if_empty.ensures.same ∙ (ap whole now ∙ joined_closed bs c.args.at (omega arith) c.requires.filled both.0 both.1)

pub returns-clause-front : goal.returns-clause-front
returns-clause-front c =
    let bs = c.args.blocks.now.items in
    let now = c.close_border.ensures.items c.if-not-close_border.false ∙ closed_is bs c.args.at in
    joined_front bs c.drop_if_empty.new.blocks.items c.args.at (omega arith) (c.drop_if_empty.ensures.front ∙ ap (take (c.args.at + 1)) now)

pub returns-clause-fit : goal.returns-clause-fit
returns-clause-fit c = λ full f.
    let bs = c.args.blocks.now.items in
    let now = c.close_border.ensures.items c.if-not-close_border.false ∙ closed_is bs c.args.at in
    let next = add-one c.args.at in
    let but : AreFitBut full 0 full (c.args.at + 1) c.close_border.new.blocks.items =
    subst (λ (k : ℕ). AreFitBut full 0 full k c.close_border.new.blocks.items) (sym next) (subst (AreFitBut full 0 full (suc c.args.at)) (sym now) (fit_closed full bs c.args.at (omega arith) f)) in
    c.drop_if_empty.ensures.fit full but

pub returns-clause-offers : goal.returns-clause-offers
returns-clause-offers c =
    let bs = c.args.blocks.now.items in
    let one = c.close_border.new.blocks.items in
    let now = c.close_border.ensures.items c.if-not-close_border.false ∙ closed_is bs c.args.at in
    let here = ap largest (get_or_read one c.args.at c.index.result.now (omega (arith, c.requires.within, c.close_border.ensures.len)) c.index.ensures []) in
    let there = ap (λ (l : List (List Piece)). largest (block_at l c.args.at)) now in
    let a = ap largest (c.drop_if_empty.ensures.same ∙ ap whole now) in
    let b = join_offers bs c.args.at (omega arith) in
    omega (arith, a, b, here, there, c.bound-offered.ensures)

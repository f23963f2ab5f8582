use Rattle.std.proofs.Common.{◌≡◌, ◌+◌, ◌<◌, ◌++◌, ◌∷◌, [], List, length, slice_set, sym, ◌∙◌, ap, subst, arith}
use Rattle.std.proofs.lemmas.List.{get_or_read, length-append}
use Rattle.cckd_space.specs.declared.piece.Piece.{Piece}
use Rattle.cckd_space.specs.Blocks.{AreFit, block_at, whole}
use Rattle.cckd_space.proofs.BlockLemmas.{whole_append}
use Rattle.cckd_space.proofs.OrderLemmas.{whole_grown}
use Rattle.cckd_space.proofs.FitLemmas.{fit_pushed, fit_set}
use Rattle.cckd_space.proofs.store.push_in.Goals as goal

pub returns-in-Some-clause-items : goal.returns-in-Some-clause-items
returns-in-Some-clause-items c =
    let bs = c.args.blocks.now.items in
    let at = c.in-Some.at in
    let last : at + 1 ≡ length bs = omega (arith, c.in-Some.ensures.0) in
    let w : at < length bs = omega (arith, last) in
    let same = get_or_read bs at c.index_mut.result.now w c.index_mut.ensures.value [] in
    let now = c.push.ensures ∙ ap (λ (b : List Piece). b ++ c.args.piece ∷ []) same in
    ap (λ (b : List Piece). whole (slice_set bs at b)) now ∙ whole_grown bs at (c.args.piece ∷ []) last

pub returns-in-Some-clause-fit : goal.returns-in-Some-clause-fit
returns-in-Some-clause-fit c =
    let bs = c.args.blocks.now.items in
    let at = c.in-Some.at in
    let w : at < length bs = omega (arith, c.in-Some.ensures.0) in
    let same = get_or_read bs at c.index_mut.result.now w c.index_mut.ensures.value [] in
    let now = c.push.ensures ∙ ap (λ (b : List Piece). b ++ c.args.piece ∷ []) same in
    let n = ap length now in
    let m = length-append (block_at bs at) (c.args.piece ∷ []) in
    let few : length (block_at bs at) < c.args.full = subst (λ (l : List (List Piece)). length (block_at l at) < c.args.full) c.deref.ensures.value c.in-Some.ensures.1 in
    fit_set c.args.full bs at c.push.new.self (omega (arith, n, m)) (omega (arith, n, m, few)) c.requires.fit

pub returns-clause-items : goal.returns-clause-items
returns-clause-items c =
    ap whole c.push_block.ensures.items ∙ (whole_append c.make_ready.new.blocks.items ((c.args.piece ∷ []) ∷ []) ∙ ap (λ (l : List Piece). l ++ c.args.piece ∷ []) c.make_ready.ensures.same)

pub returns-clause-fit : goal.returns-clause-fit
returns-clause-fit c = subst (AreFit c.args.full) (sym c.push_block.ensures.items) (fit_pushed c.args.full c.make_ready.new.blocks.items c.args.piece (omega (arith, c.requires.full)) c.make_ready.ensures.fit)

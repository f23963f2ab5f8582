use Rattle.std.proofs.Common.{◌+◌, [], List, take, drop, slice_set, ◌∙◌, ap, arith}
use Rattle.std.specs.List.{insert}
use Rattle.std.proofs.lemmas.List.{get_or_read}
use Rattle.cckd_space.specs.declared.piece.Piece.{Piece}
use Rattle.cckd_space.specs.Blocks.{block_at}
use Rattle.cckd_space.proofs.store.split.Goals as goal

pub returns-clause-items : goal.returns-clause-items
returns-clause-items c =
    let bs = c.args.blocks.now.items in
    let at = c.args.at in
    let half = c.args.half in
    let same = get_or_read bs at c.index_mut.result.now (omega (arith, c.requires.within)) c.index_mut.ensures.value [] in
    let a = c.halve.ensures.front ∙ ap (take half) same in
    let b = c.halve.ensures.rest ∙ ap (drop half) same in
    c.in-Ok.ensures.items
    ∙ (ap (λ (l : List Piece). insert (slice_set bs at l) (at + 1) c.halve.new.other) a ∙ ap (λ (l : List Piece). insert (slice_set bs at (take half (block_at bs at))) (at + 1) l) b)

use Rattle.std.proofs.Common.{◌-◌, ◌<◌, length, take, List, [], sym, ◌∙◌, ap, subst, arith}
use Rattle.std.proofs.lemmas.List.{get_or_read}
use Rattle.cckd_space.specs.declared.piece.Piece.{Piece}
use Rattle.cckd_space.specs.Pieces.{used_end}
use Rattle.cckd_space.specs.Inside.{EndsAt}
use Rattle.cckd_space.specs.Blocks.{block_at, whole}
use Rattle.cckd_space.proofs.OrderLemmas.{ends_at_last, filled_at, none_filled, used_end_last, whole_last}
use Rattle.cckd_space.proofs.order.end_in.Goals as goal

pub free_end-requires : goal.free_end-requires
free_end-requires c =
    let bs = c.args.blocks.now in
    let at = length bs - 1 in
    let within : at < length bs = omega arith in
    let here = get_or_read bs at _ within c.index-blocks-count.is [] in
    let some = filled_at bs at [] c.requires.filled within in
    subst (λ (b : List Piece). EndsAt b c.args.size) (sym here)
    (ends_at_last (whole (take at bs)) (block_at bs at) c.args.size some (subst (λ (l : List Piece). EndsAt l c.args.size) (whole_last bs at (omega arith)) c.requires.ends))

pub returns-then-count-eq0 : goal.returns-then-count-eq0
returns-then-count-eq0 c = sym (ap used_end (none_filled c.args.blocks.now (omega arith)))

pub returns : goal.returns
returns c =
    let bs = c.args.blocks.now in
    let at = length bs - 1 in
    let within : at < length bs = omega arith in
    let here = get_or_read bs at _ within c.index-blocks-count.is [] in
    let some = filled_at bs at [] c.requires.filled within in
    c.free_end.ensures ∙ (ap used_end here ∙ sym (ap used_end (whole_last bs at (omega arith)) ∙ used_end_last (whole (take at bs)) (block_at bs at) some))

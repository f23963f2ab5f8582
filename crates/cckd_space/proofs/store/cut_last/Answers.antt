use Rattle.std.proofs.Common.{◌≡◌, ◌+◌, ◌-◌, ◌<◌, ◌++◌, [], List, length, take, sym, ◌∙◌, ap, subst, arith}
use Rattle.std.proofs.lemmas.List.{get_or_read}
use Rattle.cckd_space.specs.declared.piece.Piece.{Piece}
use Rattle.cckd_space.specs.Pieces.{cut}
use Rattle.cckd_space.specs.Inside.{EndsAt}
use Rattle.cckd_space.specs.Blocks.{block_at, whole}
use Rattle.cckd_space.proofs.OrderLemmas.{cut_last, edited, whole_set_last, ends_at_last, filled_at, none_filled, whole_last}
use Rattle.cckd_space.proofs.FitLemmas.{fit_at, fit_but}
use Rattle.cckd_space.proofs.EndLemmas.{cut_none}
use Rattle.cckd_space.proofs.store.cut_last.Goals as goal

pub cut_end-requires : goal.cut_end-requires
cut_end-requires c =
    let bs = c.args.blocks.now.items in
    let at = c.len-count.result - 1 in
    let last : at + 1 ≡ length bs = omega arith in
    let w : at < length bs = omega arith in
    let here = get_or_read bs at c.index_mut.result.now w c.index_mut.ensures.value [] in
    subst (λ (b : List Piece). EndsAt b c.args.size) (sym here)
    (ends_at_last (whole (take at bs)) (block_at bs at) c.args.size (filled_at bs at [] c.requires.filled w) (subst (λ (l : List Piece). EndsAt l c.args.size) (whole_last bs at last) c.requires.ends))

pub returns-then-count-eq0-clause-items : goal.returns-then-count-eq0-clause-items
returns-then-count-eq0-clause-items c =
    let none = none_filled c.args.blocks.now.items (omega arith) in
    let size = c.requires.ends.none none in
    none ∙ sym (ap (cut c.args.len c.args.size) none ∙ cut_none c.args.len c.args.size size)

pub returns-clause-items : goal.returns-clause-items
returns-clause-items c =
    let bs = c.args.blocks.now.items in
    let at = c.len-count.result - 1 in
    let last : at + 1 ≡ length bs = omega arith in
    let w : at < length bs = omega arith in
    let cuts = cut c.args.len c.args.size in
    let now = edited cuts bs at c.index_mut.result.now c.cut_end.new.self w c.index_mut.ensures.value c.cut_end.ensures.items in
    c.drop_if_empty.ensures.same
    ∙ (whole_set_last bs at c.cut_end.new.self last
    ∙ (ap (λ (b : List Piece). whole (take at bs) ++ b) now
    ∙ (sym (cut_last (whole (take at bs)) (block_at bs at) c.args.len c.args.size (filled_at bs at [] c.requires.filled w)) ∙ ap cuts (sym (whole_last bs at last)))))

pub returns-clause-fit : goal.returns-clause-fit
returns-clause-fit c = λ full f.
    let bs = c.args.blocks.now.items in
    let at = c.len-count.result - 1 in
    let w : at < length bs = omega arith in
    let here = ap length (get_or_read bs at c.index_mut.result.now w c.index_mut.ensures.value []) in
    let few = (fit_at full bs at w f).1 in
    c.drop_if_empty.ensures.fit full (fit_but full 0 full bs at c.cut_end.new.self (omega arith) (omega (arith, here, few, c.cut_end.ensures.len)) f)

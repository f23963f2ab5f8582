use Rattle.std.proofs.Common.{◌<◌, [], length, take, sym, ◌∙◌, ap, subst, arith}
use Rattle.std.proofs.lemmas.List.{get_or_read}
use Rattle.cckd_space.specs.Blocks.{AreFit, block_at, whole}
use Rattle.cckd_space.proofs.BlockLemmas.{nil_of, whole_without}
use Rattle.cckd_space.proofs.FitLemmas.{but_at, fit_dropped, fit_of_but, take_remove}
use Rattle.cckd_space.proofs.store.drop_if_empty.Goals as goal

pub returns-then-count-eq0-clause-same : goal.returns-then-count-eq0-clause-same
returns-then-count-eq0-clause-same c =
    let bs = c.args.blocks.now.items in
    let w : c.args.at < length bs = omega (arith, c.requires.within) in
    let b = get_or_read bs c.args.at c.index.result.now w c.index.ensures [] in
    let n = c.count.ensures.count in
    ap whole c.drop_empty.ensures.items ∙ whole_without bs c.args.at w (nil_of (block_at bs c.args.at) (omega (arith, n, ap length b, c.if-count-eq0.true)))

pub returns-then-count-eq0-clause-fit : goal.returns-then-count-eq0-clause-fit
returns-then-count-eq0-clause-fit c = λ full f. subst (AreFit full) (sym c.drop_empty.ensures.items) (fit_dropped full 0 full c.args.blocks.now.items c.args.at f)

pub returns-then-count-eq0-clause-front : goal.returns-then-count-eq0-clause-front
returns-then-count-eq0-clause-front c = ap (take c.args.at) c.drop_empty.ensures.items ∙ take_remove c.args.blocks.now.items c.args.at

pub returns-else-count-eq0-clause-fit : goal.returns-else-count-eq0-clause-fit
returns-else-count-eq0-clause-fit c = λ full f.
    let bs = c.args.blocks.now.items in
    let w : c.args.at < length bs = omega (arith, c.requires.within) in
    let b = get_or_read bs c.args.at c.index.result.now w c.index.ensures [] in
    let n = c.count.ensures.count in
    fit_of_but full 0 full bs c.args.at (omega (arith, n, ap length b, c.if-count-eq0.false)) (but_at full 0 full bs c.args.at w f).1 f

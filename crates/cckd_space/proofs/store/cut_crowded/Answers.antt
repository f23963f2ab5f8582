use Rattle.std.proofs.Common.{◌+◌, ◌/◌, ◌<◌, [], ℕ, length, take, drop, slice_set, sym, ◌∙◌, ap, subst, arith, add-one}
use Rattle.std.specs.List.{insert}
use Rattle.std.proofs.lemmas.List.{get_or_read, length-drop, length-take, take-append-drop}
use Rattle.cckd_space.specs.Blocks.{AreFit, block_at, whole}
use Rattle.cckd_space.proofs.BlockLemmas.{whole_inserted}
use Rattle.cckd_space.proofs.FitLemmas.{but_at, fit_cut, fit_of_but}
use Rattle.cckd_space.proofs.store.cut_crowded.Goals as goal

pub returns-then-full-count-clause-same : goal.returns-then-full-count-clause-same
returns-then-full-count-clause-same c =
    let bs = c.args.blocks.now.items in
    let b = block_at bs c.args.at in
    let half = c.args.full / 2 in
    ap whole c.split.ensures.items ∙ whole_inserted bs c.args.at (take half b) (drop half b) (omega (arith, c.requires.within)) (sym (take-append-drop half b))

pub returns-then-full-count-clause-fit : goal.returns-then-full-count-clause-fit
returns-then-full-count-clause-fit c =
    let bs = c.args.blocks.now.items in
    let at = c.args.at in
    let b = block_at bs at in
    let half = c.args.full / 2 in
    let w : at < length bs = omega (arith, c.requires.within) in
    let here = get_or_read bs at c.index.result.now w c.index.ensures [] in
    let n = c.count.ensures.count in
    let m = ap length here in
    let few = (but_at c.args.full 1 (c.args.full + 2) bs at w c.requires.fit).1 in
    let t = length-take half b in
    let d = length-drop half b in
    let fit = fit_cut c.args.full 1 (c.args.full + 2) bs at (take half b) (drop half b) w
    (omega (arith, t, n, m, few, c.if-full-count.true, c.requires.full)) (omega (arith, t, n, m, few, c.if-full-count.true, c.requires.full))
    (omega (arith, d, n, m, few, c.if-full-count.true, c.requires.full)) (omega (arith, d, n, m, few, c.if-full-count.true, c.requires.full)) c.requires.fit in
    subst (AreFit c.args.full) (sym (c.split.ensures.items ∙ ap (λ (k : ℕ). insert (slice_set bs at (take half b)) k (drop half b)) (add-one at))) fit

pub returns-else-full-count-clause-fit : goal.returns-else-full-count-clause-fit
returns-else-full-count-clause-fit c =
    let bs = c.args.blocks.now.items in
    let at = c.args.at in
    let w : at < length bs = omega (arith, c.requires.within) in
    let here = get_or_read bs at c.index.result.now w c.index.ensures [] in
    let n = c.count.ensures.count in
    let m = ap length here in
    let some = (but_at c.args.full 1 (c.args.full + 2) bs at w c.requires.fit).0 in
    fit_of_but c.args.full 1 (c.args.full + 2) bs at (omega (arith, some)) (omega (arith, n, m, c.if-full-count.false)) c.requires.fit

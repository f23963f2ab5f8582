use Rattle.std.proofs.Common.{◌≡◌, ◌∙◌, subst, arith}
use Rattle.cckd_frames.specs.Placed.{AreNumbered}
use Rattle.cckd_frames.proofs.Numbering.{words_numbered}
use Rattle.cckd_frames.proofs.nodes.Nodes.new.Goals as goal

pub returns-clause-words : goal.returns-clause-words
returns-clause-words c =
    let l = c.loop-number in let past = c.loop-number-test.false in let end = l.auto.number-end in
    let all : l.number ≡ c.args.size = omega arith in
    words_numbered c.args.first l.row.items c.args.size (l.invariant.count ∙ all) (subst (λ n. AreNumbered c.args.first n l.row.items) all l.invariant.numbered)

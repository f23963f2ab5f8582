use Rattle.std.proofs.Common.{map, sym, ◌∙◌, ap, subst, arith}
use Rattle.std.proofs.lemmas.List.{length-map}
use Rattle.cckd_space.specs.Pieces.{retired}
use Rattle.cckd_space.specs.Blocks.{StayFit, whole}
use Rattle.cckd_space.proofs.BlockLemmas.{whole_map}
use Rattle.cckd_space.proofs.FitLemmas.{fit_mapped}
use Rattle.cckd_space.proofs.release.retire_blocks.Goals as goal

pub returns-clause-items : goal.returns-clause-items
returns-clause-items c = ap whole c.retire_every.ensures.items ∙ whole_map retired c.args.blocks.now.items

pub returns-clause-fit : goal.returns-clause-fit
returns-clause-fit c =
    subst (StayFit c.args.blocks.now.items) (sym c.retire_every.ensures.items)
    (fit_mapped (map retired) (λ b l. let n = length-map b retired in omega (arith, n, l)) (λ b. let n = length-map b retired in omega (arith, n)) c.args.blocks.now.items)

use Rattle.std.proofs.Common.{length, ap, arith}
use Rattle.cckd_space.specs.Pieces.{free_run}
use Rattle.cckd_space.proofs.HeldLemmas.{appended_held}
use Rattle.std.proofs.lemmas.List.{length-append}
use Rattle.cckd_space.proofs.EndLemmas.{cut_fewer, run_one}
use Rattle.cckd_space.proofs.blocks.Blocks.reserve_end.Goals as goal

pub push_run-requires : goal.push_run-requires
push_run-requires c =
    let a = cut_fewer 0 c.args.self.now.pieces c.args.size c.requires.ends in
    let b = run_one c.args.end c.align-place.result in
    omega (arith, a, b, c.cut_end.ensures.spare, c.requires.spare)

pub push-requires : goal.push-requires
push-requires c =
    let a = cut_fewer 0 c.args.self.now.pieces c.args.size c.requires.ends in
    let b = run_one c.args.end c.align-place.result in
    let d = length-append c.cut_end.new.self.pieces (free_run c.args.end c.align-place.result) in
    let e = ap length c.cut_end.ensures.now in
    omega (arith, a, b, d, e, c.cut_end.ensures.spare, c.push_run.ensures.spare, c.requires.spare)

pub returns : goal.returns
returns c =
    appended_held c.args.self.now c.cut_end.new.self c.push_run.new.self c.push.new.self c.args.need c.args.size c.args.end c.align-place.result c.reserved.result
    c.cut_end.ensures c.push_run.ensures c.push.ensures c.requires.end c.align-place.ensures c.reserved.ensures

use Rattle.std.proofs.Common.{arith}
use Rattle.cckd_space.proofs.LaidLemmas.{used_end_within}
use Rattle.cckd_layer.proofs.staging.give_place_back.Goals as goal

pub returns-then-is_some-clause-size : goal.returns-then-is_some-clause-size
returns-then-is_some-clause-size c =
    let mid = c.give_back.new.self in
    let within = used_end_within mid.pieces mid.size c.give_back.ensures.sound.laid in
    let given = c.give_back.ensures.becomes.sized in
    let back = c.cut_back.ensures.becomes.sized in
    omega (arith, within, given, back)

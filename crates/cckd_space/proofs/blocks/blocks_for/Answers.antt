use Rattle.std.proofs.Common.{◌≡◌, ◌+◌, ◌*◌, ◌/◌, arith}
use Rattle.std.proofs.Math.Nat.{div-le_self}
use Rattle.std.proofs.lemmas.Nat.{div-add-mod', mod_below}
use Rattle.cckd_space.proofs.blocks.blocks_for.Goals as goal

pub returns-clause-enough : goal.returns-clause-enough
returns-clause-enough c =
    let m = c.args.full + 1 in
    let n = 2 * c.args.slots in
    let d = div-add-mod' n m in
    let r = mod_below n m (omega arith) in
    let e : m * (n / m + 2) ≡ n / m * m + 2 * m = grind arith in
    omega (arith, d, r, e)

pub returns-clause-fits : goal.returns-clause-fits
returns-clause-fits c = let l = div-le_self (2 * c.args.slots) (c.args.full + 1) in omega (arith, l, c.requires.slots)

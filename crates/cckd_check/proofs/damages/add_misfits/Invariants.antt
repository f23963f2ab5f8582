use Rattle.std.proofs.Common.{◌≡◌, ◌++◌, map, take}
use Rattle.cckd_base.specs.declared.damage.Damage.TheVariants as amiss
use Rattle.cckd_check.proofs.damages.add_misfits.Given as goal

abbrev pub invariant-loop-misfit : goal.invariant-loop-misfit
invariant-loop-misfit l = l.damages ≡ l.fn.damages ++ map amiss.Misfit (take l.misfit-index l.misfits)

-- What a look does to the outside.
use Rattle.std.proofs.Common.{◌≡◌, Result, Ok, Err, IfErr}
use Rattle.cckd_shelf.specs.Seen.{Seen, Stays}
use Rattle.cckd_check.specs.declared.report.LookFault.{LookFault}
use Rattle.cckd_check.specs.declared.report.LookFault.TheVariants.{Header, ReadFault, Memory}
use Rattle.cckd_check.specs.Look.{OnlyLooks}

-- want of memory is counted nowhere
pub memory_looks : {A : Type 0} (r : Result A LookFault) (old new : Seen) → IfErr r (λ why. why ≡ Memory) → Stays old new → new.faults ≡ old.faults → OnlyLooks r old new
memory_looks (Ok x) old new h kept e = record { kept = kept; counts = e }
memory_looks (Err (Header why)) old new h kept e = absurd (cc h)
memory_looks (Err ReadFault) old new h kept e = absurd (cc h)
memory_looks (Err Memory) old new h kept e = record { kept = kept; counts = e }

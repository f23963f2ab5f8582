use Rattle.std.proofs.Common.{◌≡◌, replicate}
use Rattle.cckd_memory.specs.Inside.{no_place}
use Rattle.cckd_memory.proofs.copies.nine_places.Given as goal

abbrev pub invariant-loop-slot : goal.invariant-loop-slot
invariant-loop-slot l = l.places.items ≡ replicate l._slot no_place

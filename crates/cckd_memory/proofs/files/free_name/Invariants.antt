use Rattle.std.proofs.Common.{◌≡◌, map, ◌++◌, take, drop}
use Rattle.cckd_memory.specs.Inside.{without}
use Rattle.cckd_memory.proofs.files.free_name.Given as goal

abbrev pub invariant-loop-place : goal.invariant-loop-place
invariant-loop-place l = l.places ≡ map (without l.name) (take l.place-index l.initial.places) ++ drop l.place-index l.initial.places

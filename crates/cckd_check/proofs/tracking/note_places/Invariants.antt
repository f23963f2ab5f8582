use Rattle.std.proofs.Common.{take}
use Rattle.cckd_check.specs.Inside.{AreNoted}
use Rattle.cckd_check.proofs.tracking.note_places.Given as goal

abbrev pub invariant-loop-index : goal.invariant-loop-index
invariant-loop-index l = AreNoted l.spaces (take l.index l.spaces) l.places

use Rattle.std.proofs.Common.{take}
use Rattle.cckd_memory.proofs.ImageLemmas.{ChosenSoFar}
use Rattle.cckd_memory.proofs.image.image_of.Given as goal

abbrev pub invariant-loop-op : goal.invariant-loop-op
invariant-loop-op l = ChosenSoFar l.choices l.at l.fn.start (take l.op-index l.ops) l.held l.left l.rest

use Rattle.std.proofs.Common.{◌≡◌, take}
use Rattle.cckd_space.specs.Plan.{Becomes}
use Rattle.cckd_layer.specs.Acts.{settled_all, entry_spaces}
use Rattle.cckd_layer.proofs.settling.settle_entries.Given as goal

abbrev pub invariant-loop-s : goal.invariant-loop-s
invariant-loop-s l = record {
  becomes : Becomes l.fn.space l.space (settled_all (entry_spaces (take l.s-index l.entries)) l.fn.space.pieces) l.fn.space.size;
  spent : l.space.spare ≡ l.fn.space.spare;
}

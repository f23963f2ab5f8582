use denote.RattleType.{RattleType}
use denote.Param.Send.{IsSync}
use Rattle.std.specs.declared.alloc.Allocator.{Ghosts}
use Rattle.cckd_frames.proofs.Crossing.{Deed-sync}
use Rattle.cckd_frames.specs.contracts.block.Deed.{the_row}

pub sync : (T A : RattleType) (g : Ghosts A.Denot) → IsSync (the_row T A g)
sync = Deed-sync

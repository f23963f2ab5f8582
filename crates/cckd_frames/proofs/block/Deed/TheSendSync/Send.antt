use denote.RattleType.{RattleType}
use denote.Param.Send.{IsSend, Frees}
use Rattle.std.specs.declared.alloc.Allocator.{Ghosts}
use Rattle.cckd_frames.proofs.Crossing.{Deed-send}
use Rattle.cckd_frames.specs.contracts.block.Deed.{the_row}

pub send : (T A : RattleType) (g : Ghosts A.Denot) → IsSend A → Frees g g.dealloc_token → IsSend (the_row T A g)
send T A g s = Deed-send T A g

use denote.RattleType.{RattleType}
use denote.Param.Send.{IsSync}
use Rattle.cckd_frames.proofs.Crossing.{Row-sync}
use Rattle.cckd_frames.specs.contracts.block.Row.{the_row}

pub sync : (R : RattleType) → IsSync R → IsSync (the_row R)
sync = Row-sync

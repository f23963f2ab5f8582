use denote.RattleType.{RattleType}
use denote.Param.Send.{IsSend}
use Rattle.cckd_frames.proofs.Crossing.{Row-send}
use Rattle.cckd_frames.specs.contracts.block.Row.{the_row}

pub send : (R : RattleType) → IsSend R → IsSend (the_row R)
send = Row-send

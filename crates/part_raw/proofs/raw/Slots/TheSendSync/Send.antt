use denote.RattleType.{RattleType}
use denote.Param.Send.{IsSend}
use Rattle.part_raw.proofs.Crosses.{Slots-send}
use Rattle.part_raw.specs.contracts.raw.Slots.{the_row}

pub send : (R : RattleType) → IsSend R → IsSend (the_row R)
send = Slots-send

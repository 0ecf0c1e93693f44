use denote.RattleType.{RattleType}
use denote.Param.Send.{IsSend}
use Rattle.raw_handle.proofs.Crosses.{RawHandle-send}
use Rattle.raw_handle.specs.contracts.RawHandle.{the_row}

pub send : (R : RattleType) → IsSend R → IsSend (the_row R)
send = RawHandle-send

use denote.RattleType.{RattleType}
use denote.Param.Send.{IsSync}
use Rattle.part_raw.proofs.Crosses.{Slots-sync}
use Rattle.part_raw.specs.contracts.raw.Slots.{the_row}

pub sync : (R : RattleType) → IsSync R → IsSync (the_row R)
sync = Slots-sync

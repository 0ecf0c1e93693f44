use denote.RattleType.{RattleType}
use denote.Param.Send.{IsSync}
use Rattle.ttree_node.proofs.Crosses.{Nodes-sync}
use Rattle.ttree_node.specs.contracts.nodes.Nodes.{the_row}

pub sync : (R : RattleType) → IsSync R → IsSync (the_row R)
sync = Nodes-sync

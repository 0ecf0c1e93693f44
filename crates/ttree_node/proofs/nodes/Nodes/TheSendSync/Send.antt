use denote.RattleType.{RattleType}
use denote.Param.Send.{IsSend}
use Rattle.ttree_node.proofs.Crosses.{Nodes-send}
use Rattle.ttree_node.specs.contracts.nodes.Nodes.{the_row}

pub send : (R : RattleType) → IsSend R → IsSend (the_row R)
send = Nodes-send

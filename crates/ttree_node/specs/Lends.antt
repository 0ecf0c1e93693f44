-- What a set of nodes ends as, once a `&mut` to a node has ended.
use Rattle.std.specs.Borrow.{Fml, RattleType, MutBor, Lends}
use denote.RawPtr.{Ptr}
use Rattle.ttree_node.specs.Held.{set_node}
use Rattle.ttree_node.specs.declared.nodes.Nodes.{Nodes}
use Rattle.ttree_node.specs.contracts.nodes.Nodes.{the_row}

-- the same set with w as the node at p
abbrev pub with_node : {T : Type 0} → Nodes T → Ptr → T → Nodes T
with_node n p w = record { mark = n.mark; held = set_node p w n.held }

abbrev pub lends_node : (T : RattleType) → MutBor (Nodes T.Denot) → Ptr → MutBor T.Denot → Fml
lends_node T n p r = Lends (the_row T) T n r (with_node n.now p)

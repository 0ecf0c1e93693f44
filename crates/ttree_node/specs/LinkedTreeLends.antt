-- What a `LinkedTree` ends as, once a `&mut` to its nodes has ended.
use Rattle.std.specs.Borrow.{Fml, RattleType, MutBor, Lends}
use Rattle.ttree_node.specs.TreeWithSpares.{TreeWithSpares}
use Rattle.ttree_node.specs.Seen.{shown}
use Rattle.ttree_node.specs.contracts.linked_tree.LinkedTree.{the_row as links_row}
use Rattle.ttree_node.specs.contracts.linked_nodes.LinkedNodes.{the_row as nodes_row}

-- the tree and the spare nodes that the nodes are last
abbrev pub LendsNodes : (MAX : RattleType) → MutBor TreeWithSpares → MutBor (nodes_row MAX).Denot → Fml
LendsNodes MAX links nodes = Lends (links_row MAX) (nodes_row MAX) links nodes (λ w. shown w)

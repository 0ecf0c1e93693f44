use Rattle.std.proofs.Common.{◌≡◌, ◌-◌, ◌*◌, length}
use Rattle.ttree_node.specs.Tree.{size, whole}
use Rattle.ttree_node.specs.Linked.{located, IsPlaceIn}
use Rattle.ttree_node.specs.Seen.{tree_of, position_at}
use Rattle.ttree_node.proofs.linked_nodes.LinkedNodes.clear.Given as goal

abbrev pub invariant-loop-place : goal.invariant-loop-place
invariant-loop-place g l = (IsPlaceIn (located l.self) l.place) × (tree_of l.self ≡ whole (position_at l.self l.place))

-- each step goes down, or a node goes
abbrev pub decreases-loop-place : goal.decreases-loop-place
decreases-loop-place g l = 2 * size (tree_of l.self) - length (position_at l.self l.place).above

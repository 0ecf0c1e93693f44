use Rattle.std.proofs.Common.{◌≡◌, length}
use Rattle.ttree_node.specs.Tree.{list_after}
use Rattle.ttree_node.specs.Linked.{located, IsPlaceIn}
use Rattle.ttree_node.specs.Seen.{position_at}
use Rattle.ttree_node.specs.Order.{nodes_after}
use Rattle.ttree_node.proofs.linked_nodes.LinkedNodes.first_above.Given as goal

abbrev pub invariant-loop-below : goal.invariant-loop-below
invariant-loop-below g l = record {
  placed : IsPlaceIn (located l.self) l.below;
  list : list_after (position_at l.self l.below).above ≡ list_after (position_at l.fn.self l.fn.place).above;
  count : nodes_after (position_at l.self l.below).above ≡ nodes_after (position_at l.fn.self l.fn.place).above;
}

abbrev pub decreases-loop-below : goal.decreases-loop-below
decreases-loop-below g l = length (position_at l.self l.below).above

use Rattle.std.proofs.Common.{◌≡◌}
use Rattle.ttree_node.specs.Tree.{size}
use Rattle.ttree_node.specs.Linked.{located, IsPlaceIn}
use Rattle.ttree_node.specs.Seen.{position_at}
use Rattle.ttree_node.specs.Order.{list_onward, nodes_onward}
use Rattle.ttree_node.proofs.linked_nodes.LinkedNodes.first_below.Given as goal

abbrev pub invariant-loop-first : goal.invariant-loop-first
invariant-loop-first g l = record {
  placed : IsPlaceIn (located l.self) l.first;
  list : list_onward (position_at l.self l.first) ≡ list_onward (position_at l.fn.self l.fn.place);
  count : nodes_onward (position_at l.self l.first) ≡ nodes_onward (position_at l.fn.self l.fn.place);
}

abbrev pub decreases-loop-first : goal.decreases-loop-first
decreases-loop-first g l = size (position_at l.self l.first).here

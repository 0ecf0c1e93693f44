use Rattle.std.proofs.Common.{◌≡◌, IfSome}
use Rattle.ttree_node.specs.Tree.{list_behind, list_from}
use Rattle.ttree_node.specs.Linked.{located, IsPlaceIn, there}
use Rattle.ttree_node.specs.Seen.{position_at}
use Rattle.ttree_node.specs.Order.{nodes_from}
use Rattle.ttree_node.proofs.linked_nodes.LinkedNodes.next_with_items.Given as goal

abbrev pub invariant-loop-next : goal.invariant-loop-next
invariant-loop-next g l = record {
  placed : IfSome l.next (λ found. IsPlaceIn (located l.self) (there found.at));
  list : list_from 0 (position_at l.self l.next) ≡ list_behind (position_at l.fn.self l.fn.place);
}

abbrev pub decreases-loop-next : goal.decreases-loop-next
decreases-loop-next g l = nodes_from (position_at l.self l.next)

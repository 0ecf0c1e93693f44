use Rattle.std.proofs.Common.{◌≡◌, ◌≤◌}
use Rattle.ttree_node.specs.Seen.{tree_of, spares_of}
use Rattle.ttree_node.proofs.linked_nodes.LinkedNodes.shed_to.Given as goal

abbrev pub invariant-loop-self : goal.invariant-loop-self
invariant-loop-self g l = (tree_of l.self ≡ tree_of l.initial.self) × (l.count ≤ spares_of l.self)

abbrev pub decreases-loop-self : goal.decreases-loop-self
decreases-loop-self g l = spares_of l.self

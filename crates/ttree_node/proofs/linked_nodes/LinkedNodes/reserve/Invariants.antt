use Rattle.std.proofs.Common.{◌≡◌, ◌≤◌, ◌-◌, max}
use Rattle.ttree_node.specs.Seen.{tree_of, spares_of}
use Rattle.ttree_node.proofs.linked_nodes.LinkedNodes.reserve.Given as goal

abbrev pub invariant-loop-self : goal.invariant-loop-self
invariant-loop-self g l = (tree_of l.self ≡ tree_of l.fn.self) × (l.before ≡ spares_of l.fn.self) × (l.before ≤ spares_of l.self) × (spares_of l.self ≤ max l.before l.n)

abbrev pub decreases-loop-self : goal.decreases-loop-self
decreases-loop-self g l = l.n - spares_of l.self

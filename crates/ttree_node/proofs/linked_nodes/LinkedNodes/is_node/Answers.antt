use Rattle.std.proofs.Common.{◌∙◌, subst}
use Rattle.ttree_node.specs.Linked.{Sound}
use Rattle.ttree_node.proofs.Standing.{node_seen}
use Rattle.ttree_node.proofs.linked_nodes.LinkedNodes.is_node.Goals as goal

pub returns-clause-node : goal.returns-clause-node
returns-clause-node g c = c.is_some.ensures ∙ node_seen c.args.self.now (subst Sound c.self.view_is c.self.invariant) c.args.place c.requires

use Rattle.std.proofs.Common.{subst}
use Rattle.ttree_node.specs.Linked.{Sound}
use Rattle.ttree_node.proofs.Standing.{root_placed, root_position, whole_is}
use Rattle.ttree_node.proofs.linked_nodes.LinkedNodes.root.Goals as goal

pub returns-clause-placed : goal.returns-clause-placed
returns-clause-placed g c = rw c.self.view_is (root_placed c.args.self.now (subst Sound c.self.view_is c.self.invariant))

pub returns-clause-moved : goal.returns-clause-moved
returns-clause-moved g c = rw c.self.view_is (root_position c.args.self.now (subst Sound c.self.view_is c.self.invariant))

pub returns-clause-whole : goal.returns-clause-whole
returns-clause-whole g c = whole_is c.args.self.now (subst Sound c.self.view_is c.self.invariant)

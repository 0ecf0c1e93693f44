use Rattle.ttree_node.proofs.Visit.{Visit, visit, right_placed, right_moved}
use Rattle.ttree_node.proofs.linked_nodes.LinkedNodes.right_of.Given.{Over}
use Rattle.ttree_node.proofs.linked_nodes.LinkedNodes.right_of.Goals as goal

visited : (g : Over) (c : goal.After-right g) → Visit c.args.self.now c.args.place c.get.result.now
visited g c = visit c.args.self.now c.self.inside.parts c.self.view_is c.self.invariant c.args.place c.unwrap.result c.unwrap.ensures c.requires.placed c.get.result.now c.get.ensures

pub returns-clause-placed : goal.returns-clause-placed
returns-clause-placed g c = rw c.right.ensures (right_placed c.args.self.now c.args.place c.get.result.now (visited g c) c.requires.child)

pub returns-clause-moved : goal.returns-clause-moved
returns-clause-moved g c = rw c.right.ensures (right_moved c.args.self.now c.args.place c.get.result.now (visited g c) c.requires.child)

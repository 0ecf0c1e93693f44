use Rattle.ttree.proofs.Ends.{items_in_each}
use Rattle.ttree.proofs.Heights.{list_bound, balanced, true_heights, occupied}
use Rattle.ttree.proofs.Occupancy.{few_nodes}
use Rattle.ttree.proofs.tree.TTree.height.Goals as goal

pub returns-clause-balanced : goal.returns-clause-balanced
returns-clause-balanced g c = rw (← c.self.view_is) (balanced g.row.MIN g.row.MAX c.self.inside.tree.tree c.self.invariant.fit)

pub returns-clause-true_heights : goal.returns-clause-true_heights
returns-clause-true_heights g c = rw (← c.self.view_is) (true_heights g.row.MIN g.row.MAX c.self.inside.tree.tree c.self.invariant.fit)

pub returns-clause-no_empty_node : goal.returns-clause-no_empty_node
returns-clause-no_empty_node g c = rw (← c.self.view_is) (items_in_each g.row.MIN g.row.MAX c.self.inside.tree.tree c.self.invariant.fit)

pub returns-clause-occupied : goal.returns-clause-occupied
returns-clause-occupied g c = rw (← c.self.view_is) (occupied g.row.MIN g.row.MAX c.self.inside.tree.tree c.self.invariant.fit)

pub returns-clause-bound : goal.returns-clause-bound
returns-clause-bound g c = rw (← c.self.view_is) (list_bound g.row.MIN g.row.MAX c.self.inside.tree.tree c.self.invariant.fit)

pub returns-then-not-has_node-clause-bound : goal.returns-then-not-has_node-clause-bound
returns-then-not-has_node-clause-bound g c = rw (← c.self.view_is) (list_bound g.row.MIN g.row.MAX c.self.inside.tree.tree c.self.invariant.fit)

pub returns-clause-few_nodes : goal.returns-clause-few_nodes
returns-clause-few_nodes g c = rw (← c.self.view_is) (few_nodes g.row.MIN g.row.MAX c.self.inside.tree.tree c.self.invariant.fit)

pub returns-then-not-has_node-clause-few_nodes : goal.returns-then-not-has_node-clause-few_nodes
returns-then-not-has_node-clause-few_nodes g c = rw (← c.self.view_is) (few_nodes g.row.MIN g.row.MAX c.self.inside.tree.tree c.self.invariant.fit)

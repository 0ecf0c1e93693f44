use Rattle.std.proofs.Common.{◌<◌, ◌+◌, arith, subst, lit<}
use Rattle.ttree_node.specs.Tree.{size}
use Rattle.ttree_node.specs.Linked.{Spot, located, Sound, node_limit}
use Rattle.ttree_node.proofs.Shape.{size_relabel}
use Rattle.ttree_node.proofs.linked_nodes.LinkedNodes.add_spare.Goals as goal

pub add_spare-requires : goal.add_spare-requires
add_spare-requires g c =
    let room : size (located c.args.self.now) + c.args.self.now.spares + 1 < node_limit = omega (arith, c.requires, size_relabel (λ (x : Spot). x.label) (located c.args.self.now)) in
    rw c.self.view_is (lit< tt, (subst Sound c.self.view_is c.self.invariant, room))

use Rattle.std.proofs.Common.{◌≡◌, ap, arith, subst}
use Rattle.ttree_node.specs.Tree.{Tree, size}
use Rattle.ttree_node.specs.Linked.{Spot, Sound, located}
use Rattle.ttree_node.proofs.Shape.{size_relabel}
use Rattle.ttree_node.proofs.Spares.{located_is}
use Rattle.ttree_node.proofs.linked_nodes.LinkedNodes.nodes_are_few.Goals as goal

pub returns : goal.returns
returns g c =
    let p = c.args.self.now in
    let sound = subst Sound c.self.view_is c.self.invariant in
    let is : size (located p) ≡ size sound.0 = ap (λ (t : Tree Spot). size t) (located_is p sound.0 sound.1 sound.2) in
    omega (arith, is, size_relabel (λ (x : Spot). x.label) (located p), sound.2.spares, sound.2.total, sound.2.small)

use Rattle.std.proofs.Common.{◌∙◌, sym}
use Rattle.ttree_node.specs.Held.{set_node}
use Rattle.ttree_node.specs.Linked.{with_link, linked_down}
use Rattle.ttree_node.proofs.Maps.{set_by}
use Rattle.ttree_node.proofs.parts.Parts.set_child.Goals as goal

pub returns-in-Some-clause-held : goal.returns-in-Some-clause-held
returns-in-Some-clause-held g c =
    (λ i. set_node c.in-Some.above.at (record c.get_mut-node.result.now { head = c.set_child.ensures i }) c.args.self.now.nodes.held)
    ∙ set_by c.in-Some.above.at (with_link c.args.side c.args.child) c.get_mut-node.result.now c.args.self.now.nodes.held c.get_mut-node.ensures.value
    ∙ (λ i. linked_down (sym c.in-Some.is i) c.args.side c.args.child c.args.self.now.nodes.held)

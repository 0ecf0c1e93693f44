use Rattle.std.proofs.Common.{◌≡◌, ◌∙◌, arith}
use Rattle.ttree_node.specs.Held.{set_node}
use Rattle.ttree_node.specs.Lends.{with_node}
use Rattle.ttree_node.specs.Tree.{with_height, height_over}
use Rattle.ttree_node.specs.Seen.{position_at}
use Rattle.ttree_node.proofs.Relabels.{Now, now_whole, reheighted}
use Rattle.ttree_node.proofs.Visit.{visit}
use Rattle.ttree_node.proofs.linked_nodes.LinkedNodes.reheight.Given.{Over}
use Rattle.ttree_node.proofs.linked_nodes.LinkedNodes.reheight.Goals as goal

now : (g : Over) (c : goal.After-self-1 g)
    → Now (record c.self.inside.parts { nodes = with_node c.self.inside.parts.nodes c.unwrap.result.at (record c.get_mut-node.result.now { head = c.set_height.new.self }) }) c.args.place
    (with_height c.saturating_add.result (position_at c.args.self.now c.args.place))
now g c =
    let n = c.get_mut-node.result.now in let q = c.unwrap.result.at in
    let v = visit c.args.self.now c.self.inside.parts c.self.view_is c.self.invariant c.args.place c.unwrap.result c.unwrap.ensures c.requires.placed n c.get_mut-node.ensures.value in
    reheighted c.args.self.now _ c.args.place n v (λ i. (c.self.view_is i).root) (λ i. (c.self.view_is i).free) (λ i. (c.self.view_is i).spares) q c.unwrap.ensures c.saturating_add.result
    ((λ i. set_node q (record n { head = c.set_height.ensures i }) c.self.inside.parts.nodes.held)
    ∙ (λ i. set_node q (record n { head = record n.head { height = c.saturating_add.result } }) (c.self.view_is i).nodes.held))

pub invariant_of-self : goal.invariant_of-self
invariant_of-self g c = (now g c).sound

pub returns-clause-placed : goal.returns-clause-placed
returns-clause-placed g c = (now g c).placed

pub returns-clause-height : goal.returns-clause-height
returns-clause-height g c =
    let is : c.saturating_add.result ≡ height_over (position_at c.args.self.now c.args.place).here = omega (arith, c.saturating_add.ensures, c.max-higher.ensures, c.heights-left.ensures.left, c.heights-left.ensures.right) in
    (now g c).position ∙ (λ i. with_height (is i) (position_at c.args.self.now c.args.place))

pub returns-clause-tree : goal.returns-clause-tree
returns-clause-tree g c = now_whole _ _ _ (now g c)

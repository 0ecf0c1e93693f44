use Rattle.std.proofs.Common.{◌∙◌, ◌+◌, sym, subst, lit<}
use Rattle.std.specs.Prelude.{None}
use Rattle.ttree_node.specs.Held.{set_node}
use Rattle.ttree_node.specs.Tree.{without_leaf}
use Rattle.ttree_node.specs.Linked.{Present, linked_down, rooted}
use Rattle.ttree_node.specs.Seen.{position_at}
use Rattle.ttree_node.specs.declared.parts.Parts.{Parts}
use Rattle.ttree_node.proofs.LeafSteps.{set_present, leaf_gone, parent_present}
use Rattle.ttree_node.proofs.Relabels.{Now, now_whole}
use Rattle.ttree_node.proofs.Visit.{visit, with_head}
use Rattle.ttree_node.proofs.Spares.{blank}
use Rattle.ttree_node.proofs.linked_nodes.LinkedNodes.drop_leaf.Given.{Over}
use Rattle.ttree_node.proofs.linked_nodes.LinkedNodes.drop_leaf.Goals as goal

pub set_child-requires : goal.set_child-requires
set_child-requires g c =
    let n = record c.get-node.result.now { head = c.read-head.result } in
    let v = visit c.args.self.now c.self.inside.parts c.self.view_is c.self.invariant c.args.place c.unwrap-leaf.result c.unwrap-leaf.ensures c.requires.placed n (with_head c.get-node.ensures c.read-head.ensures) in (
      lit< tt,
      subst (λ m. Present m n.head.parent) (sym c.retire.ensures.held) (set_present c.self.inside.parts.nodes.held c.unwrap-leaf.result.at (blank c.self.inside.parts.free) n.head.parent
          (subst (λ (p : Parts g.row.MAX). Present p.nodes.held n.head.parent) (sym c.self.view_is) (parent_present c.args.self.now c.args.place n v))),
    )

now : (g : Over) (c : goal.After-set_child g) → Now c.set_child.new.self c.read-head.result.parent (without_leaf (position_at c.args.self.now c.args.place))
now g c =
    let n = record c.get-node.result.now { head = c.read-head.result } in let e = c.self.view_is in let q = c.unwrap-leaf.result in
    let v = visit c.args.self.now c.self.inside.parts c.self.view_is c.self.invariant c.args.place c.unwrap-leaf.result c.unwrap-leaf.ensures c.requires.placed n (with_head c.get-node.ensures c.read-head.ensures) in
    let blanked = c.retire.ensures in let hung = c.set_child.ensures in
    leaf_gone c.args.self.now c.set_child.new.self c.args.place n v q c.unwrap-leaf.ensures c.requires.leaf.1 c.requires.leaf.2
    (hung.held ∙ (λ i. linked_down n.head.parent n.head.side None (blanked.held i)) ∙ (λ i. linked_down n.head.parent n.head.side None (set_node q.at (blank (e i).free) (e i).nodes.held)))
    (hung.root ∙ (λ i. rooted n.head.parent None (blanked.root i)) ∙ (λ i. rooted n.head.parent None (e i).root)) (hung.rest.0 ∙ blanked.free) (hung.rest.1 ∙ blanked.spares ∙ (λ i. (e i).spares + 1))

pub invariant_of-self : goal.invariant_of-self
invariant_of-self g c = (now g c).sound

pub returns-clause-placed : goal.returns-clause-placed
returns-clause-placed g c = (now g c).placed

pub returns-clause-gone : goal.returns-clause-gone
returns-clause-gone g c = (now g c).position

pub returns-clause-tree : goal.returns-clause-tree
returns-clause-tree g c = now_whole _ _ _ (now g c)

use Rattle.std.proofs.Common.{◌∙◌, ◌<◌, [], ◌∷◌, sym, subst, arith, lit<}
use Rattle.std.specs.Prelude.{Some, None}
use Rattle.ttree_node.specs.Tree.{is_node, with_leaf}
use Rattle.ttree_node.specs.Linked.{located, is_place_in, Present, linked_down, node_for, rooted}
use Rattle.ttree_node.specs.Seen.{position_at, on_side, child}
use Rattle.ttree_node.specs.declared.parts.Parts.{Parts}
use Rattle.ttree_node.proofs.LeafSteps.{opened, open_present, set_present, leaf_made}
use Rattle.ttree_node.proofs.Relabels.{Now, now_whole}
use Rattle.ttree_node.proofs.linked_nodes.LinkedNodes.new_leaf.Given.{Over}
use Rattle.ttree_node.proofs.linked_nodes.LinkedNodes.new_leaf.Goals as goal

pub set_child-requires : goal.set_child-requires
set_child-requires g c =
    let e = c.self.view_is in
    let o = opened c.self.inside.parts c.self.invariant c.args.place ((λ k. is_place_in (located (e k)) c.args.place) ∙ c.requires.placed) c.args.side
    ((λ k. is_node (position_at (e k) c.args.place).here) ∙ c.requires.fits) ((λ k. is_node (child c.args.side (position_at (e k) c.args.place).here)) ∙ c.requires.open) in (
      lit< tt,
      subst (λ m. Present m c.args.place) (sym c.take_spare-leaf.ensures.held) (set_present c.self.inside.parts.nodes.held c.take_spare-leaf.result.at (node_for (record { items = c.args.item ∷ []; height = 1 }) c.args.place c.args.side None None) c.args.place
          (open_present c.self.inside.parts c.args.place c.args.side o)),
    )

now : (g : Over) (c : goal.After-set_child g) → Now c.set_child.new.self (Some c.take_spare-leaf.result) (with_leaf c.args.item (on_side c.args.side (position_at c.self.inside.parts c.args.place)))
now g c =
    let e = c.self.view_is in
    let o = opened c.self.inside.parts c.self.invariant c.args.place ((λ k. is_place_in (located (e k)) c.args.place) ∙ c.requires.placed) c.args.side
    ((λ k. is_node (position_at (e k) c.args.place).here) ∙ c.requires.fits) ((λ k. is_node (child c.args.side (position_at (e k) c.args.place).here)) ∙ c.requires.open) in
    let taken = c.take_spare-leaf.ensures in let hung = c.set_child.ensures in
    leaf_made c.self.inside.parts c.set_child.new.self c.args.place c.args.side o c.args.item c.take_spare-leaf.result (subst (λ (p : Parts g.row.MAX). 0 < p.spares) (sym e) c.requires.spare) taken.first
    (hung.held ∙ (λ i. linked_down c.args.place c.args.side (Some c.take_spare-leaf.result) (taken.held i)))
    (hung.root ∙ (λ i. rooted c.args.place (Some c.take_spare-leaf.result) (taken.root i))) (λ t ps k. hung.rest.0 ∙ taken.next t ps k) (omega (arith, hung.rest.1, taken.spares))

pub invariant_of-self : goal.invariant_of-self
invariant_of-self g c = (now g c).sound

pub returns-clause-placed : goal.returns-clause-placed
returns-clause-placed g c = (now g c).placed

pub returns-clause-leaf : goal.returns-clause-leaf
returns-clause-leaf g c = (now g c).position ∙ (λ k. with_leaf c.args.item (on_side c.args.side (position_at (c.self.view_is k) c.args.place)))

pub returns-clause-tree : goal.returns-clause-tree
returns-clause-tree g c = now_whole _ _ _ (now g c)

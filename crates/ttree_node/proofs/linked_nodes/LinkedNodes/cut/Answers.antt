use Rattle.std.proofs.Common.{◌∙◌, ◌<◌, sym, subst, length, List}
use Rattle.std.specs.Prelude.{remove, slice_index_or}
use Rattle.part_raw.specs.declared.tuple_ref.TupleRef.{TupleRef}
use Rattle.ttree_node.specs.Held.{set_node}
use Rattle.ttree_node.specs.Lends.{with_node}
use Rattle.ttree_node.specs.Tree.{with_items}
use Rattle.ttree_node.specs.Seen.{position_at}
use Rattle.ttree_node.proofs.Relabels.{Now, now_whole, reitemed}
use Rattle.ttree_node.proofs.Sizes.{node_fits}
use Rattle.ttree_node.proofs.Visit.{Visit, visit, items_seen, narrow_here}
use Rattle.ttree_node.proofs.linked_nodes.LinkedNodes.cut.Given.{Over}
use Rattle.ttree_node.proofs.linked_nodes.LinkedNodes.cut.Goals as goal

visited : (g : Over) (c : goal.After-remove-arg-1 g) → Visit c.args.self.now c.args.place c.get_mut-node.result.now
visited g c = visit c.args.self.now c.self.inside.parts c.self.view_is c.self.invariant c.args.place c.unwrap.result c.unwrap.ensures c.requires.placed c.get_mut-node.result.now c.get_mut-node.ensures.value

pub remove-requires : goal.remove-requires
remove-requires g c =
    let v = visited g c in let seen = items_seen c.args.self.now c.args.place c.get_mut-node.result.now v in (
      node_fits g.row.MAX (narrow_here c.args.self.now c.args.place c.get_mut-node.result.now v),
      subst (λ (xs : List TupleRef). c.args.index < length xs) (sym seen) c.requires.index,
    )

now : (g : Over) (c : goal.After-self-1 g)
    → Now (record c.self.inside.parts { nodes = with_node c.self.inside.parts.nodes c.unwrap.result.at (record c.get_mut-node.result.now { items = c.remove.new.self }) }) c.args.place
    (with_items (remove c.get_mut-node.result.now.items.items c.args.index) (position_at c.args.self.now c.args.place))
now g c =
    let n = c.get_mut-node.result.now in let q = c.unwrap.result.at in
    let v = visit c.args.self.now c.self.inside.parts c.self.view_is c.self.invariant c.args.place c.unwrap.result c.unwrap.ensures c.requires.placed n c.get_mut-node.ensures.value in
    reitemed c.args.self.now _ c.args.place n v (λ i. (c.self.view_is i).root) (λ i. (c.self.view_is i).free) (λ i. (c.self.view_is i).spares) q c.unwrap.ensures (remove n.items.items c.args.index)
    (λ i. set_node q (record n { items = record { items = c.remove.ensures.items i } }) (c.self.view_is i).nodes.held)

pub invariant_of-self : goal.invariant_of-self
invariant_of-self g c = (now g c).sound

pub returns-clause-placed : goal.returns-clause-placed
returns-clause-placed g c = (now g c).placed

pub returns-clause-items : goal.returns-clause-items
returns-clause-items g c =
    let n = c.get_mut-node.result.now in
    let v = visit c.args.self.now c.self.inside.parts c.self.view_is c.self.invariant c.args.place c.unwrap.result c.unwrap.ensures c.requires.placed n c.get_mut-node.ensures.value in
    (now g c).position ∙ (λ i. with_items (remove (items_seen c.args.self.now c.args.place n v i) c.args.index) (position_at c.args.self.now c.args.place))

pub returns-clause-item : goal.returns-clause-item
returns-clause-item g c =
    let n = c.get_mut-node.result.now in
    let v = visit c.args.self.now c.self.inside.parts c.self.view_is c.self.invariant c.args.place c.unwrap.result c.unwrap.ensures c.requires.placed n c.get_mut-node.ensures.value in
    c.remove.ensures.value ∙ (λ i. slice_index_or (items_seen c.args.self.now c.args.place n v i) c.args.index c.remove.result)

pub returns-clause-tree : goal.returns-clause-tree
returns-clause-tree g c = now_whole _ _ _ (now g c)

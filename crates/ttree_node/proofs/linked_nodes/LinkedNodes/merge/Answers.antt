use Rattle.std.proofs.Common.{◌≡◌, ◌∙◌, ◌≤◌, length, lit<, arith, sym, subst}
use Rattle.ttree_node.specs.Tree.{items_of, is_node, is_leaf, with_items, without_leaf}
use Rattle.ttree_node.specs.Seen.{position_at, child, on_side, beside}
use Rattle.ttree_node.proofs.Handover.{parent_node, side_here, child_kept, is_merged}
use Rattle.ttree_node.proofs.Sizes.{node_fits}
use Rattle.ttree_node.proofs.linked_nodes.LinkedNodes.merge.Goals as goal
use Rattle.ttree_node.specs.declared.parts.TheConstants.{MOST_ITEMS}

pub joined_beside-items-requires : goal.joined_beside-items-requires
joined_beside-items-requires g c =
    let z = position_at c.args.self.now c.args.place in let s = c.args.side in
    let narrow : _ ≤ MOST_ITEMS = c.items-2.ensures.narrow (parent_node s z.here c.requires.leaf.0) in
    let below : c.items.result.now ≡ items_of (child s z.here) = c.items.ensures.items ∙ (λ i. items_of (c.child_of.ensures.moved i).here) ∙ (λ i. items_of (side_here z.above s z.here c.requires.leaf.0 i)) in
    let own : length c.items-2.result.now ≡ length (items_of z.here) = λ i. length (c.items-2.ensures.items i) in
    let lower : length c.items.result.now ≡ length (items_of (child s z.here)) = λ i. length (below i) in
    (node_fits g.row.MAX narrow, (narrow, omega (arith, own, lower, c.requires.room)))

pub set_items-requires : goal.set_items-requires
set_items-requires g c =
    let z = position_at c.args.self.now c.args.place in let here = parent_node c.args.side z.here c.requires.leaf.0 in
    (lit< tt, (node_fits g.row.MAX (c.items-2.ensures.narrow here), (c.requires.placed, here)))

pub child_of-requires-2 : goal.child_of-requires-2
child_of-requires-2 g c =
    let z = position_at c.args.self.now c.args.place in let s = c.args.side in
    (lit< tt, (c.set_items.ensures.placed, (λ i. is_node (child s (c.set_items.ensures.items i).here)) ∙ (λ i. is_node (child_kept z.above s c.joined_beside-items.result.items z.here i)) ∙ c.requires.leaf.0))

pub drop_leaf-requires : goal.drop_leaf-requires
drop_leaf-requires g c =
    let z = position_at c.args.self.now c.args.place in let s = c.args.side in let w = with_items c.joined_beside-items.result.items z in let kept = child_kept z.above s c.joined_beside-items.result.items z.here in
    let below = (λ i. (c.child_of-2.ensures.moved i).here) ∙ (λ i. (on_side s (c.set_items.ensures.items i)).here) ∙ side_here z.above s w.here ((λ i. is_node (kept i)) ∙ c.requires.leaf.0) ∙ kept in
    (lit< tt, (c.child_of-2.ensures.placed, subst (λ t. is_leaf t) (sym below) c.requires.leaf))

pub returns-clause-merged : goal.returns-clause-merged
returns-clause-merged g c =
    let z = position_at c.args.self.now c.args.place in let s = c.args.side in
    let below : c.items.result.now ≡ items_of (child s z.here) = c.items.ensures.items ∙ (λ i. items_of (c.child_of.ensures.moved i).here) ∙ (λ i. items_of (side_here z.above s z.here c.requires.leaf.0 i)) in
    let items = c.joined_beside-items.ensures ∙ (λ i. beside s (below i) (c.items-2.ensures.items i)) in
    c.drop_leaf.ensures.gone ∙ (λ i. without_leaf (c.child_of-2.ensures.moved i)) ∙ (λ i. without_leaf (on_side s (c.set_items.ensures.items i))) ∙ (λ i. without_leaf (on_side s (with_items (items i) z)))
    ∙ is_merged z.above s z.here c.requires.leaf.0

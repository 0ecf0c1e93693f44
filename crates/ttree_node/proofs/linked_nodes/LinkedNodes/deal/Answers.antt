use Rattle.std.proofs.Common.{◌∙◌, lit<}
use Rattle.ttree_node.specs.Tree.{is_node, is_root, up, with_items}
use Rattle.ttree_node.specs.Seen.{position_at, child, on_side}
use Rattle.ttree_node.proofs.Handover.{child_kept, is_below, is_dealt}
use Rattle.ttree_node.proofs.linked_nodes.LinkedNodes.deal.Goals as goal

pub child_of-below-requires : goal.child_of-below-requires
child_of-below-requires g c =
    let z = position_at c.args.self.now c.args.place in let s = c.args.side in
    (lit< tt, (c.set_items.ensures.placed, (λ i. is_node (child s (c.set_items.ensures.items i).here)) ∙ (λ i. is_node (child_kept z.above s c.args.upper.items z.here i)) ∙ c.requires.child))

pub parent_of-requires : goal.parent_of-requires
parent_of-requires g c =
    let z = position_at c.args.self.now c.args.place in let s = c.args.side in let lower = c.args.lower.items in (
      lit< tt,
      (
        c.set_items-2.ensures.placed,
        (λ i. is_root (c.set_items-2.ensures.items i).above) ∙ (λ i. is_root (with_items lower (c.child_of-below.ensures.moved i)).above)
            ∙ (λ i. is_root (with_items lower (on_side s (c.set_items.ensures.items i))).above) ∙ is_below z.above s c.args.upper.items lower z.here c.requires.child,
      ),
    )

pub returns-clause-dealt : goal.returns-clause-dealt
returns-clause-dealt g c =
    let z = position_at c.args.self.now c.args.place in let s = c.args.side in let lower = c.args.lower.items in
    c.parent_of.ensures.moved ∙ (λ i. up (c.set_items-2.ensures.items i)) ∙ (λ i. up (with_items lower (c.child_of-below.ensures.moved i)))
    ∙ (λ i. up (with_items lower (on_side s (c.set_items.ensures.items i)))) ∙ is_dealt z.above s c.args.upper.items lower z.here c.requires.child

use Rattle.std.proofs.Common.{◌∙◌, ◌<◌, length, sym, subst, lit<}
use Rattle.part_raw.specs.declared.tuple_ref.TupleRef.{TupleRef}
use Rattle.ttree_node.specs.Tree.{Zipper, Label, list_after, list_from}
use Rattle.ttree_node.specs.Seen.{position_at}
use Rattle.ttree_node.specs.Order.{nodes_after, nodes_from}
use Rattle.ttree_node.proofs.Successors.{top_list, top_count, up_left_list, up_left_count, up_right_list, up_right_count, up_shorter, below_left, below_right}
use Rattle.ttree_node.proofs.linked_nodes.LinkedNodes.first_above.Goals as goal

pub returns-in-Root-clause-list : goal.returns-in-Root-clause-list
returns-in-Root-clause-list g c = top_list (position_at c.args.self.now c.loop-below.below) (sym c.side_at.ensures ∙ c.in-Root.is) ∙ c.loop-below.invariant.list

pub returns-in-Root-clause-count : goal.returns-in-Root-clause-count
returns-in-Root-clause-count g c = top_count (position_at c.args.self.now c.loop-below.below) (sym c.side_at.ensures ∙ c.in-Root.is) ∙ c.loop-below.invariant.count

pub parent_of-requires : goal.parent_of-requires
parent_of-requires g c = (lit< tt, (c.loop-below.invariant.placed, below_left (position_at c.args.self.now c.loop-below.below) (sym c.side_at.ensures ∙ c.in-Left.is)))

pub returns-in-Left-clause-list : goal.returns-in-Left-clause-list
returns-in-Left-clause-list g c =
    (λ i. list_from 0 (c.parent_of.ensures.moved i)) ∙ up_left_list (position_at c.args.self.now c.loop-below.below) (sym c.side_at.ensures ∙ c.in-Left.is) ∙ c.loop-below.invariant.list

pub returns-in-Left-clause-count : goal.returns-in-Left-clause-count
returns-in-Left-clause-count g c =
    (λ i. nodes_from (c.parent_of.ensures.moved i)) ∙ up_left_count (position_at c.args.self.now c.loop-below.below) (sym c.side_at.ensures ∙ c.in-Left.is) ∙ c.loop-below.invariant.count

pub parent_of-below-requires : goal.parent_of-below-requires
parent_of-below-requires g c = (lit< tt, (c.loop-below.invariant.placed, below_right (position_at c.args.self.now c.loop-below.below) (sym c.side_at.ensures ∙ c.in-Right.is)))

pub loop-below-smaller : goal.loop-below-smaller
loop-below-smaller g c =
    let z = position_at c.args.self.now c.loop-below.below in
    subst (λ (y : Zipper (Label TupleRef)). length y.above < length z.above) (sym c.parent_of-below.ensures.moved) (up_shorter z (below_right z (sym c.side_at.ensures ∙ c.in-Right.is)))

pub loop-below-preserved : goal.loop-below-preserved
loop-below-preserved g c =
    let z = position_at c.args.self.now c.loop-below.below in let side = sym c.side_at.ensures ∙ c.in-Right.is in
    record {
      placed = c.parent_of-below.ensures.placed;
      list = (λ i. list_after (c.parent_of-below.ensures.moved i).above) ∙ up_right_list z side ∙ c.loop-below.invariant.list;
      count = (λ i. nodes_after (c.parent_of-below.ensures.moved i).above) ∙ up_right_count z side ∙ c.loop-below.invariant.count;
    }

use Rattle.std.proofs.Common.{◌∙◌, ◌<◌, sym, subst}
use Rattle.part_raw.specs.declared.tuple_ref.TupleRef.{TupleRef}
use Rattle.ttree_node.specs.Tree.{Zipper, Label, size}
use Rattle.ttree_node.specs.Seen.{position_at}
use Rattle.ttree_node.specs.Order.{list_onward, nodes_onward}
use Rattle.ttree_node.proofs.Successors.{left_list, left_count, left_smaller, first_list, first_count}
use Rattle.ttree_node.proofs.linked_nodes.LinkedNodes.first_below.Goals as goal

pub loop-first-smaller : goal.loop-first-smaller
loop-first-smaller g c =
    let z = position_at c.args.self.now c.loop-first.first in
    subst (λ (y : Zipper (Label TupleRef)). size y.here < size z.here) (sym c.left_of-first.ensures.moved) (left_smaller z (sym c.has_left.ensures ∙ c.loop-first-test.true))

pub loop-first-preserved : goal.loop-first-preserved
loop-first-preserved g c =
    let z = position_at c.args.self.now c.loop-first.first in let has = sym c.has_left.ensures ∙ c.loop-first-test.true in
    record {
      placed = c.left_of-first.ensures.placed;
      list = (λ i. list_onward (c.left_of-first.ensures.moved i)) ∙ left_list z has ∙ c.loop-first.invariant.list;
      count = (λ i. nodes_onward (c.left_of-first.ensures.moved i)) ∙ left_count z has ∙ c.loop-first.invariant.count;
    }

pub returns-clause-list : goal.returns-clause-list
returns-clause-list g c = first_list (position_at c.args.self.now c.loop-first.first) (sym c.has_left.ensures ∙ c.loop-first-test.false) ∙ c.loop-first.invariant.list

pub returns-clause-count : goal.returns-clause-count
returns-clause-count g c = first_count (position_at c.args.self.now c.loop-first.first) (sym c.has_left.ensures ∙ c.loop-first-test.false) ∙ c.loop-first.invariant.count

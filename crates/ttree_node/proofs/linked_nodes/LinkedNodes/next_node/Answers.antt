use Rattle.std.proofs.Common.{◌∙◌, sym}
use Rattle.ttree_node.specs.Seen.{position_at}
use Rattle.ttree_node.specs.Order.{list_onward, nodes_onward}
use Rattle.ttree_node.proofs.Successors.{right_list, right_count, above_list, above_count}
use Rattle.ttree_node.proofs.linked_nodes.LinkedNodes.next_node.Goals as goal

pub returns-then-has_right-clause-list : goal.returns-then-has_right-clause-list
returns-then-has_right-clause-list g c =
    c.first_below.ensures.list ∙ (λ i. list_onward (c.right_of.ensures.moved i)) ∙ right_list (position_at c.args.self.now c.args.place) (sym c.has_right.ensures ∙ c.if-has_right.true)

pub returns-then-has_right-clause-count : goal.returns-then-has_right-clause-count
returns-then-has_right-clause-count g c =
    c.first_below.ensures.count ∙ (λ i. nodes_onward (c.right_of.ensures.moved i)) ∙ right_count (position_at c.args.self.now c.args.place) (sym c.has_right.ensures ∙ c.if-has_right.true)

pub returns-else-has_right-clause-list : goal.returns-else-has_right-clause-list
returns-else-has_right-clause-list g c = c.first_above.ensures.list ∙ above_list (position_at c.args.self.now c.args.place) (sym c.has_right.ensures ∙ c.if-has_right.false)

pub returns-else-has_right-clause-count : goal.returns-else-has_right-clause-count
returns-else-has_right-clause-count g c = c.first_above.ensures.count ∙ above_count (position_at c.args.self.now c.args.place) (sym c.has_right.ensures ∙ c.if-has_right.false)

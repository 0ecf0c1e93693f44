use Rattle.std.proofs.Common.{◌∙◌}
use Rattle.ttree_node.specs.Tree.{stated}
use Rattle.ttree_node.specs.Seen.{position_at}
use Rattle.ttree_node.proofs.Handover.{right_here}
use Rattle.ttree_node.proofs.linked_nodes.LinkedNodes.heights.Goals as goal

pub returns-then-has_right-clause-right : goal.returns-then-has_right-clause-right
returns-then-has_right-clause-right g c =
    let z = position_at c.args.self.now c.args.place in c.height_at-right.ensures ∙ (λ i. stated (c.right_of.ensures.moved i).here) ∙ (λ i. stated (right_here z.above z.here i))

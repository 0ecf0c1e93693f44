use Rattle.std.proofs.Common.{◌∙◌}
use Rattle.ttree_node.specs.Seen.{tree_of}
use Rattle.ttree_node.proofs.LeafSteps.{nothing_held}
use Rattle.ttree_node.proofs.linked_nodes.LinkedNodes.drop.Goals as goal

pub finish-requires : goal.finish-requires
finish-requires g c = nothing_held c.self.inside.parts c.self.invariant ((λ i. tree_of (c.self.view_is i)) ∙ c.release_spares.ensures.tree ∙ c.clear.ensures.tree) ((λ i. (c.self.view_is i).spares) ∙ c.release_spares.ensures.spares)

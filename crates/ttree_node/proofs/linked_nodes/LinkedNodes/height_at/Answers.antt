use Rattle.std.proofs.Common.{◌∙◌}
use Rattle.ttree_node.proofs.Visit.{present, visit, height_seen}
use Rattle.ttree_node.proofs.linked_nodes.LinkedNodes.height_at.Goals as goal

pub get-requires : goal.get-requires
get-requires g c = present c.args.self.now c.self.inside.parts c.self.view_is c.self.invariant c.args.place c.in-Some.found c.in-Some.is c.requires

pub returns-in-Some : goal.returns-in-Some
returns-in-Some g c = c.height.ensures ∙ height_seen c.args.self.now c.args.place c.get.result.now (visit c.args.self.now c.self.inside.parts c.self.view_is c.self.invariant c.args.place c.in-Some.found c.in-Some.is c.requires c.get.result.now c.get.ensures)

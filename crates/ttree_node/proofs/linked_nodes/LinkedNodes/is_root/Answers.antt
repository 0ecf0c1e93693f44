use Rattle.std.proofs.Common.{◌∙◌, ap, not}
use Rattle.std.specs.Option.{is_some}
use Rattle.ttree_node.proofs.Visit.{present, visit, root_seen}
use Rattle.ttree_node.proofs.linked_nodes.LinkedNodes.is_root.Goals as goal

pub get-requires : goal.get-requires
get-requires g c = present c.args.self.now c.self.inside.parts c.self.view_is c.self.invariant c.args.place c.in-Some.found c.in-Some.is c.requires

pub returns-in-Some : goal.returns-in-Some
returns-in-Some g c = ap not c.is_some.ensures ∙ (λ i. not (is_some (c.parent.ensures i))) ∙ root_seen c.args.self.now c.args.place c.get.result.now (visit c.args.self.now c.self.inside.parts c.self.view_is c.self.invariant c.args.place c.in-Some.found c.in-Some.is c.requires c.get.result.now c.get.ensures)

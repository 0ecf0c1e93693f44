use Rattle.std.proofs.Common.{◌∙◌, subst}
use Rattle.ttree_node.specs.Linked.{Sound}
use Rattle.ttree_node.proofs.Standing.{node_seen}
use Rattle.ttree_node.proofs.Visit.{present, visit, items_seen, narrow_here}
use Rattle.ttree_node.proofs.Sizes.{node_fits}
use Rattle.ttree_node.proofs.linked_nodes.LinkedNodes.items.Goals as goal

pub get-requires : goal.get-requires
get-requires g c = present c.args.self.now c.self.inside.parts c.self.view_is c.self.invariant c.args.place c.in-Some.found c.in-Some.is c.requires

pub returns-in-Some-clause-items : goal.returns-in-Some-clause-items
returns-in-Some-clause-items g c = c.as_slice.ensures.value ∙ items_seen c.args.self.now c.args.place c.get.result.now (visit c.args.self.now c.self.inside.parts c.self.view_is c.self.invariant c.args.place c.in-Some.found c.in-Some.is c.requires c.get.result.now c.get.ensures)

pub as_slice-requires : goal.as_slice-requires
as_slice-requires g c = node_fits g.row.MAX (narrow_here c.args.self.now c.args.place c.get.result.now (visit c.args.self.now c.self.inside.parts c.self.view_is c.self.invariant c.args.place c.in-Some.found c.in-Some.is c.requires c.get.result.now c.get.ensures))

pub returns-in-Some-clause-narrow : goal.returns-in-Some-clause-narrow
returns-in-Some-clause-narrow g c = λ h. narrow_here c.args.self.now c.args.place c.get.result.now (visit c.args.self.now c.self.inside.parts c.self.view_is c.self.invariant c.args.place c.in-Some.found c.in-Some.is c.requires c.get.result.now c.get.ensures)

pub returns-in-Some-clause-some : goal.returns-in-Some-clause-some
returns-in-Some-clause-some g c = node_seen c.args.self.now (subst Sound c.self.view_is c.self.invariant) c.args.place c.requires

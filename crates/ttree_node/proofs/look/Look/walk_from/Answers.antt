use Rattle.ttree_node.specs.Look.{position}
use Rattle.ttree_node.proofs.Splits.{list_until-from}
use Rattle.ttree_node.proofs.look.Look.walk_from.Goals as goal

pub returns-clause-parts : goal.returns-clause-parts
returns-clause-parts g c = list_until-from c.args.index (position c.args.self)

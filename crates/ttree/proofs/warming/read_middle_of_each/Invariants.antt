use Rattle.std.proofs.Common.{All}
use Rattle.ttree_node.specs.Tree.{whole}
use Rattle.ttree_node.specs.Look.{position}
use Rattle.ttree.specs.Warming.{IsWay}
use Rattle.ttree.proofs.warming.read_middle_of_each.Given as goal

abbrev pub invariant-loop-way : goal.invariant-loop-way
invariant-loop-way g l = All (IsWay (whole (position l.root))) l.ways

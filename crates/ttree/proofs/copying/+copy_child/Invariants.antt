use Rattle.ttree_node.specs.Tree.{size}
use Rattle.ttree_node.specs.Seen.{child}
use Rattle.ttree_node.specs.Look.{position}
use Rattle.ttree.proofs.copying.+copy_child.Given as goal

abbrev pub decreases-copy_child : goal.decreases-copy_child
decreases-copy_child g l = size (child l.side (position l.from.now).here)

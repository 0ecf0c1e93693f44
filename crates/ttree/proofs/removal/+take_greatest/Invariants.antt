use Rattle.ttree_node.specs.Tree.{size}
use Rattle.ttree_node.specs.Editor.{position}
use Rattle.ttree.proofs.removal.+take_greatest.Given as goal

abbrev pub decreases-take_greatest : goal.decreases-take_greatest
decreases-take_greatest g l = size (position l.editor.now).here

use Rattle.std.proofs.Common.{◌∙◌, ap}
use Rattle.ttree_node.specs.Laws.{list-whole-slid}
use Rattle.ttree_node.specs.Tree.{list, whole}
use Rattle.ttree_node.specs.Seen.{position_at}
use Rattle.ttree_node.proofs.editor.Editor.slide.Goals as goal

pub returns-clause-list : goal.returns-clause-list
returns-clause-list g c =
    ap (λ t. list t) c.slide-self.ensures.tree ∙ (λ i. list (whole (c.slide-self.ensures.slid i))) ∙ list-whole-slid c.args.side c.args.way c.args.count (position_at c.args.self.now.nodes.now c.args.self.now.at) c.requires.child c.requires.open

use Rattle.std.proofs.Common.{◌∙◌, ap}
use Rattle.ttree_node.specs.Laws.{list-whole-merged}
use Rattle.ttree_node.specs.Tree.{list, whole}
use Rattle.ttree_node.specs.Seen.{position_at}
use Rattle.ttree_node.proofs.editor.Editor.merge.Goals as goal

pub returns-clause-list : goal.returns-clause-list
returns-clause-list g c =
    ap (λ t. list t) c.merge-self.ensures.tree ∙ (λ i. list (whole (c.merge-self.ensures.merged i))) ∙ list-whole-merged c.args.side (position_at c.args.self.now.nodes.now c.args.self.now.at) c.requires.leaf

use Rattle.std.proofs.Common.{◌∙◌, ap}
use Rattle.ttree_node.specs.Laws.{list-whole-raised}
use Rattle.ttree_node.specs.Tree.{list, whole}
use Rattle.ttree_node.specs.Seen.{position_at}
use Rattle.ttree_node.proofs.editor.Editor.raise.Goals as goal

pub returns-clause-list : goal.returns-clause-list
returns-clause-list g c =
    ap (λ t. list t) c.raise-self.ensures.tree ∙ (λ i. list (whole (c.raise-self.ensures.turned i))) ∙ list-whole-raised c.args.side (position_at c.args.self.now.nodes.now c.args.self.now.at)

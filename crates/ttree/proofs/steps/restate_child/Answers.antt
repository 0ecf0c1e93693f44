use Rattle.std.proofs.Common.{◌∙◌}
use Rattle.ttree_node.specs.Tree.{with_tree, up}
use Rattle.ttree_node.specs.Editor.{position}
use Rattle.ttree.specs.Rising.{restated}
use Rattle.ttree.proofs.Places.{changed_below}
use Rattle.ttree.proofs.steps.restate_child.Goals as goal

pub returns-clause-height : goal.returns-clause-height
returns-clause-height g c =
    c.up.ensures.moved ∙ (λ i. up (c.restate.ensures.height i)) ∙ (λ i. up (with_tree restated (c.enter.ensures.moved i))) ∙ changed_below restated c.args.side (position c.args.editor.now) c.requires.child
